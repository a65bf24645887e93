use Rattle.std.proofs.Common.{◌≡◌, ◌+◌, ◌∙◌, arith, sym, ap, subst, take, List, min, ◌-◌, get_or}
use Rattle.std.proofs.lemmas.List.{take_all}
use Rattle.desk_units.specs.declared.numbers.Leg.{Leg}
use Rattle.desk_units.specs.declared.numbers.Cabin.{Cabin}
use Rattle.desk_data.specs.Paths.{no_pair}
use Rattle.desk_data.specs.declared.row.Row.{Row}
use Rattle.desk_data.specs.PlanRows.{row_at}
use Rattle.desk_rules.specs.Passengers.{aboard}
use Rattle.desk_model.specs.Choices.{IsGreatestWithin}
use Rattle.desk_model.specs.Refill.{has_seats_for, seats_of}
use Rattle.desk_model.proofs.ChoiceLaws.{greatest_within-is}
use Rattle.plan_reads.proofs.SeatLaws.{all_fit-none, fit-more}
use Rattle.plan_reads.proofs.free_seats.fitting.Goals as goal

pub loop-k-init : goal.loop-k-init
loop-k-init g c = all_fit-none c.args.inst.now (g.P.ReadPlan.plan_of c.args.plan.now) c.args.waiting

pub loop-k-preserved : goal.loop-k-preserved
unfolding no_pair
loop-k-preserved g c =
    let I = c.args.inst.now in
    let P = g.P.ReadPlan.plan_of c.args.plan.now in
    let path = c.args.path.now in
    let k = c.loop-k.k in
    let pair = get_or path k no_pair in
    let all : c.seats_of-all.result ≡ seats_of I pair.1 (row_at P pair.0.0) = subst (λ (row : Row). c.seats_of-all.result ≡ seats_of I pair.1 row) c.read_row.ensures.row c.seats_of-all.ensures in
    let there : c.aboard.result ≡ aboard P pair.0.0 pair.1 = c.aboard.ensures P (omega (arith, c.requires.plan.legs, c.requires.path k pair c.loop-k-test.true)) c.requires.seats in
    let most : c.min-most.result ≡ min c.loop-k.most (c.seats_of-all.result - c.aboard.result) = c.min-most.ensures ∙ ap (min c.loop-k.most) c.saturating_sub.ensures in
    subst (IsGreatestWithin c.args.waiting (has_seats_for I P (take (k + 1) path))) (sym most)
    (fit-more I P path c.args.waiting k c.loop-k.most c.seats_of-all.result c.aboard.result no_pair c.loop-k-test.true all there c.loop-k.invariant)

pub returns : goal.returns
returns g c =
    let P = g.P.ReadPlan.plan_of c.args.plan.now in
    let path = c.args.path.now in
    sym (greatest_within-is c.args.waiting (has_seats_for c.args.inst.now P path) c.loop-k.most
    (subst (λ (pairs : List (Leg × Cabin)). IsGreatestWithin c.args.waiting (has_seats_for c.args.inst.now P pairs) c.loop-k.most) (take_all c.loop-k.k path (omega arith)) c.loop-k.invariant))
