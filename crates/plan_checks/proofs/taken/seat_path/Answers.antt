use Rattle.std.proofs.Common.{◌≡◌, ◌<◌, ◌+◌, ℕ, length, get_or, take, cond, List, sym, subst, ◌∙◌, arith}
use Rattle.desk_units.specs.declared.numbers.Cabin.{Cabin}
use Rattle.desk_units.specs.declared.numbers.Seats.{Seats}
use Rattle.desk_data.specs.Paths.{no_pair}
use Rattle.desk_rules.specs.Passengers.{takes}
use Rattle.plan_checks.specs.TakenSeats.{seats_at}
use Rattle.plan_checks.proofs.SeatLaws.{known_pair, new_pair}
use Rattle.plan_checks.proofs.taken.seat_path.Goals as goal
use Rattle.plan_checks.proofs.taken.seat_path.Goals.{then-not-has_leg, else-not-has_leg}

pub loop-k-preserved : goal.loop-k-preserved
unfolding no_pair
loop-k-preserved c =
    let path = c.args.path.now in
    let k = c.loop-k.k in
    let lt : k < length path = omega arith in
    let IsSeated : List Seats → Type 0 = λ taken. (x : ℕ) (a : Cabin) → seats_at taken x a ≡ seats_at c.args.taken.now x a + cond (takes x a (take (k + 1) path)) c.args.count 0 in
    elim c.if-not-has_leg.branch [
      | then-not-has_leg w ↦
          let within : (get_or path k no_pair).0.0 < length c.loop-k.taken = omega (arith, c.requires.legs k no_pair lt) in
          subst IsSeated (sym w.taken-is)
          (new_pair c.loop-k.taken c.args.taken.now path k c.args.count no_pair w.with_seated.result lt within (sym c.has_leg.ensures ∙ w.if-not-has_leg.true) w.with_seated.ensures c.loop-k.invariant)
      | else-not-has_leg w ↦
          subst IsSeated (sym w.taken-is)
          (known_pair c.loop-k.taken c.args.taken.now path k c.args.count no_pair lt (sym c.has_leg.ensures ∙ w.if-not-has_leg.false) c.loop-k.invariant)
    ]
