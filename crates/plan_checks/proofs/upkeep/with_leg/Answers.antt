use Rattle.std.proofs.Common.{refl, ◌≡◌, ◌+◌, ◌*◌, ◌≤◌, not, ◌&&◌, leb, ltb, ap, arith}
use Rattle.std.specs.Prelude.{if◌then◌else◌}
use Rattle.std.proofs.lemmas.Bool.Decides.{nat_tests}
use Rattle.desk_data.specs.Situation.{leg_at}
use Rattle.desk_rules.specs.Rotations.{dep, arr}
use Rattle.desk_rules.specs.Rules.{meets_span}
use Rattle.plan_checks.proofs.UpkeepLaws.{flown}
use Rattle.plan_checks.proofs.upkeep.with_leg.Goals as goal

pub overflow_add-result : goal.overflow_add-result
overflow_add-result c = omega (arith, c.requires.so_far.few, c.leg.ensures.ranges.block)

pub returns-then-is_before : goal.returns-then-is_before
returns-then-is_before c =
    let I = c.args.inst.now in
    let P = c.args.plan.now in
    let n = c.args.leg.0 in
    let maint = c.args.maint in
    let at : c.departure-departs.result ≡ dep P n = c.departure-departs.ensures.departure in
    let block : c.leg.result.now.block ≡ (leg_at I n).block = ap (λ info. info.block) c.leg.ensures.row in
    let stops : c.if-so_far.result ≡ (c.args.so_far.stops && not (leb maint.from.0 (dep P n))) = grind (arith, nat_tests) in
    let free : c.if-so_far-2.result ≡ (c.args.so_far.free && not (meets_span (dep P n) (arr I P n) maint.from maint.to)) = rw (← at, ← block) (grind (arith, nat_tests)) in
    let minutes : c.args.so_far.minutes + c.leg.result.now.block ≡ c.args.so_far.minutes + (if ltb (dep P n) maint.from.0 then (leg_at I n).block else 0) = grind (arith, nat_tests) in
    let few : c.args.so_far.minutes + c.leg.result.now.block ≤ 2880 * (n + 1) = omega (arith, c.requires.so_far.few, c.leg.ensures.ranges.block) in
    flown I P c.args.plane.0 maint n c.args.so_far _ c.requires.flies c.requires.so_far stops free refl minutes few

pub returns-else-is_before : goal.returns-else-is_before
returns-else-is_before c =
    let I = c.args.inst.now in
    let P = c.args.plan.now in
    let n = c.args.leg.0 in
    let maint = c.args.maint in
    let at : c.departure-departs.result ≡ dep P n = c.departure-departs.ensures.departure in
    let block : c.leg.result.now.block ≡ (leg_at I n).block = ap (λ info. info.block) c.leg.ensures.row in
    let stops : c.if-so_far.result ≡ (c.args.so_far.stops && not (leb maint.from.0 (dep P n))) = grind (arith, nat_tests) in
    let free : c.if-so_far-2.result ≡ (c.args.so_far.free && not (meets_span (dep P n) (arr I P n) maint.from maint.to)) = rw (← at, ← block) (grind (arith, nat_tests)) in
    let minutes : c.args.so_far.minutes ≡ c.args.so_far.minutes + (if ltb (dep P n) maint.from.0 then (leg_at I n).block else 0) = grind (arith, nat_tests) in
    let few : c.args.so_far.minutes ≤ 2880 * (n + 1) = omega (arith, c.requires.so_far.few) in
    flown I P c.args.plane.0 maint n c.args.so_far _ c.requires.flies c.requires.so_far stops free refl minutes few
