use Rattle.std.proofs.Common.{◌≡◌, ℕ, ◌<◌, ◌||◌, ◌&&◌, eqb, List, length, take, refl, ap, subst, ◌∙◌, arith}
use Rattle.std.specs.List.{list_any}
use Rattle.std.proofs.lemmas.List.{take_all}
use Rattle.desk_units.specs.declared.numbers.Leg.{Leg}
use Rattle.desk_units.specs.declared.numbers.Cabin.{Cabin}
use Rattle.desk_data.specs.declared.row.Group.{Group}
use Rattle.board_kit.specs.Users.{has_leg, has_user}
use Rattle.board_kit.proofs.UserLaws.{groups_more}
use Rattle.board_seats.specs.Kept.{seen, summary_in}
use Rattle.board_seats.proofs.EditLaws.{led_same, led_both}
use Rattle.board_seats.proofs.ListLaws.{used_none}
use Rattle.board_seats.proofs.aboard.use_legs.Goals as goal

pub loop-group-init : goal.loop-group-init
loop-group-init c = record {
  led = led_same (seen c.args.log.now);
  taken = refl;
  faults = refl;
  broken = refl;
  users = λ x r. used_none ((summary_in c.args.log.now).users x r) (eqb r c.args.res.0);
}

pub returns-in_err-use_path-clause-led : goal.returns-in_err-use_path-clause-led
returns-in_err-use_path-clause-led c = led_both (seen c.args.log.now) (seen c.loop-group.log) (seen c.use_path.new.log) c.loop-group.invariant.led c.use_path.ensures.led

pub loop-group-preserved : goal.loop-group-preserved
loop-group-preserved c =
    let groups = c.args.groups.now in
    let i = c.loop-group.group-index in
    let group = c.group-item.result in
    let lt : i < length groups = omega arith in
    let path : c.as_slice.result.now ≡ group.path = c.as_slice.ensures in
    record {
      led = led_both (seen c.args.log.now) (seen c.loop-group.log) (seen c.use_path.new.log) c.loop-group.invariant.led c.in_ok-use_path.ensures.led;
      taken = c.in_ok-use_path.ensures.taken ∙ c.loop-group.invariant.taken;
      faults = c.in_ok-use_path.ensures.faults ∙ c.loop-group.invariant.faults;
      broken = c.in_ok-use_path.ensures.broken ∙ c.loop-group.invariant.broken;
      users = groups_more (has_user c.use_path.new.log.users) (has_user c.loop-group.log.users) (has_user c.args.log.now.users) groups i c.args.res.0 group lt c.loop-group.invariant.users
          (subst (λ (g : Group). (x r : ℕ) → has_user c.use_path.new.log.users x r ≡ (has_user c.loop-group.log.users x r || (eqb r c.args.res.0 && has_leg x g))) c.group-item.is
          (subst (λ (p : List (Leg × Cabin)). (x r : ℕ) → has_user c.use_path.new.log.users x r ≡ (has_user c.loop-group.log.users x r || (eqb r c.args.res.0 && list_any (λ pair. eqb pair.0.0 x) p))) path
          (λ x r. c.in_ok-use_path.ensures.users x r)));
    }

pub returns-clause-users : goal.returns-clause-users
returns-clause-users c x r =
    let all : take c.loop-group.group-index c.args.groups.now ≡ c.args.groups.now = take_all c.loop-group.group-index c.args.groups.now (omega arith) in
    c.loop-group.invariant.users x r
    ∙ ap (λ (gs : List Group). (summary_in c.args.log.now).users x r || (eqb r c.args.res.0 && list_any (has_leg x) gs)) all
