use Rattle.std.proofs.Common.{◌≡◌, ℕ, Bool, ◌<◌, ◌||◌, ◌&&◌, eqb, List, length, take, refl, ap, ◌∙◌, arith}
use Rattle.std.specs.List.{list_any}
use Rattle.std.proofs.lemmas.List.{take_all}
use Rattle.desk_units.specs.declared.numbers.Leg.{Leg}
use Rattle.desk_units.specs.declared.numbers.Cabin.{Cabin}
use Rattle.desk_data.specs.Paths.{no_pair}
use Rattle.board_kit.specs.Users.{has_user}
use Rattle.board_kit.proofs.UserLaws.{path_more}
use Rattle.board_seats.specs.Kept.{seen, summary_in}
use Rattle.board_seats.proofs.EditLaws.{led_same, led_both}
use Rattle.board_seats.proofs.ListLaws.{used_none}
use Rattle.board_seats.proofs.aboard.use_path.Goals as goal

pub loop-pair-init : goal.loop-pair-init
loop-pair-init c = record {
  led = led_same (seen c.args.log.now);
  taken = refl;
  faults = refl;
  broken = refl;
  users = λ x r. used_none ((summary_in c.args.log.now).users x r) (eqb r c.args.res.0);
}

pub returns-in_err-add_user-clause-led : goal.returns-in_err-add_user-clause-led
returns-in_err-add_user-clause-led c = led_both (seen c.args.log.now) (seen c.loop-pair.log) (seen c.add_user.new.self) c.loop-pair.invariant.led c.add_user.ensures.led

pub loop-pair-preserved : goal.loop-pair-preserved
unfolding no_pair
loop-pair-preserved c =
    let path = c.args.path.now in
    let k = c.loop-pair.pair-index in
    let lt : k < length path = omega arith in
    record {
      led = led_both (seen c.args.log.now) (seen c.loop-pair.log) (seen c.add_user.new.self) c.loop-pair.invariant.led c.in_ok-add_user.ensures.led;
      taken = c.in_ok-add_user.ensures.taken ∙ c.loop-pair.invariant.taken;
      faults = c.in_ok-add_user.ensures.faults ∙ c.loop-pair.invariant.faults;
      broken = c.in_ok-add_user.ensures.broken ∙ c.loop-pair.invariant.broken;
      users = λ x r.
          ap (λ (kept : ℕ → ℕ → Bool). kept x r) c.in_ok-add_user.ensures.users
          ∙ path_more (has_user c.loop-pair.log.users) (has_user c.args.log.now.users) path k c.args.res.0 no_pair lt c.loop-pair.invariant.users x r;
    }

pub returns-clause-users : goal.returns-clause-users
returns-clause-users c x r =
    let all : take c.loop-pair.pair-index c.args.path.now ≡ c.args.path.now = take_all c.loop-pair.pair-index c.args.path.now (omega arith) in
    c.loop-pair.invariant.users x r
    ∙ ap (λ (p : List (Leg × Cabin)). (summary_in c.args.log.now).users x r || (eqb r c.args.res.0 && list_any (λ pair. eqb pair.0.0 x) p)) all
