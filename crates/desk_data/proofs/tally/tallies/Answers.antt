use Rattle.std.proofs.Common.{◌≡◌, ℕ, map, ap, ◌∙◌, arith}
use Rattle.std.specs.List.{range_with_len}
use Rattle.desk_data.specs.Insides.{entries_in}
use Rattle.desk_data.specs.Progress.{tally_by, tally_then}
use Rattle.desk_data.specs.Situation.{reservations_of}
use Rattle.desk_data.proofs.TallySteps.{tallies_more}
use Rattle.desk_data.proofs.tally.tallies.Goals as goal

pub loop-r-preserved : goal.loop-r-preserved
loop-r-preserved c =
    ap (map entries_in) c.in_ok-push.ensures.items
    ∙ tallies_more entries_in (tally_then c.args.inst.now c.args.plan.now c.args.frozen.now) c.loop-r.tally.items c.of.result c.loop-r.r c.loop-r.invariant (c.of.ensures ∙ c.in_ok-entries.ensures)

pub returns : goal.returns
unfolding tally_by
returns c =
    let all : c.loop-r.r ≡ reservations_of c.args.inst.now = omega (arith, c.loop-r-test.false, c.loop-r.auto.r-end, c.reservations-count.ensures.count) in
    c.loop-r.invariant ∙ ap (λ (n : ℕ). map (tally_then c.args.inst.now c.args.plan.now c.args.frozen.now) (range_with_len 0 n)) all
