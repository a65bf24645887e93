use Rattle.std.proofs.Common.{◌≡◌, ℕ, ◌+◌, ◌<◌, List, length, take, refl, subst, ◌∙◌, arith}
use Rattle.std.proofs.lemmas.List.{take_all}
use Rattle.desk_units.specs.declared.numbers.Leg.{Leg}
use Rattle.desk_units.specs.declared.numbers.Cabin.{Cabin}
use Rattle.desk_data.specs.declared.row.Group.{Group}
use Rattle.desk_rules.specs.Passengers.{aboard_of, seats_in}
use Rattle.board_seats.specs.Kept.{seen, summary_in}
use Rattle.board_seats.proofs.EditLaws.{led_same, led_both, led_legs}
use Rattle.board_seats.proofs.AboardLaws.{Entered, enter_more, aboard_none}
use Rattle.board_seats.proofs.aboard.seat_groups.Goals as goal

pub loop-group-init : goal.loop-group-init
loop-group-init c = record {
  led = led_same (seen c.args.log.now);
  legs = refl;
  faults = refl;
  broken = refl;
  taken = λ x a few. aboard_none (seats_in ((summary_in c.args.log.now).taken x) a);
  users = refl;
}

pub returns-in_err-enter_path-clause-led : goal.returns-in_err-enter_path-clause-led
returns-in_err-enter_path-clause-led c = led_both (seen c.args.log.now) (seen c.loop-group.log) (seen c.enter_path.new.log) c.loop-group.invariant.led c.enter_path.ensures.led

pub loop-group-preserved : goal.loop-group-preserved
loop-group-preserved c =
    let groups = c.args.groups.now in
    let i = c.loop-group.group-index in
    let group = c.group-item.result in
    let lt : i < length groups = omega arith in
    let path : c.as_slice.result.now ≡ group.path = c.as_slice.ensures in
    record {
      led = led_both (seen c.args.log.now) (seen c.loop-group.log) (seen c.enter_path.new.log) c.loop-group.invariant.led c.in_ok-enter_path.ensures.led;
      legs = led_legs (seen c.loop-group.log) (seen c.enter_path.new.log) c.in_ok-enter_path.ensures.led ∙ c.loop-group.invariant.legs;
      faults = c.in_ok-enter_path.ensures.faults ∙ c.loop-group.invariant.faults;
      broken = c.in_ok-enter_path.ensures.broken ∙ c.loop-group.invariant.broken;
      taken =
          enter_more (summary_in c.args.log.now).taken (summary_in c.loop-group.log).taken (summary_in c.enter_path.new.log).taken groups i group lt c.loop-group.invariant.taken
          (subst (λ (g : Group). Entered (summary_in c.loop-group.log).taken (summary_in c.enter_path.new.log).taken g.path g.count) c.group-item.is
          (subst (λ (p : List (Leg × Cabin)). Entered (summary_in c.loop-group.log).taken (summary_in c.enter_path.new.log).taken p group.count) path c.in_ok-enter_path.ensures.taken));
      users = c.in_ok-enter_path.ensures.users ∙ c.loop-group.invariant.users;
    }

pub returns-clause-taken : goal.returns-clause-taken
returns-clause-taken c =
    let all : take c.loop-group.group-index c.args.groups.now ≡ c.args.groups.now = take_all c.loop-group.group-index c.args.groups.now (omega arith) in
    subst (λ (gs : List Group). (x : ℕ) (a : Cabin) → seats_in ((summary_in c.args.log.now).taken x) a + aboard_of x a gs < 4294967296 → seats_in ((summary_in c.loop-group.log).taken x) a ≡ seats_in ((summary_in c.args.log.now).taken x) a + aboard_of x a gs) all c.loop-group.invariant.taken
