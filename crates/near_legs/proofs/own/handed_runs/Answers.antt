use Rattle.std.proofs.Common.{◌≡◌, ◌++◌, List, map, get_or, sym, ap, ◌∙◌, arith}
use Rattle.desk_units.specs.declared.numbers.Plane.{Plane}
use Rattle.near_moves.specs.MoveParts.{family_of, is_run}
use Rattle.near_moves.specs.LegMoves.{run_lengths}
use Rattle.near_legs.specs.declared.unit.LegUnit.{LegUnit}
use Rattle.near_legs.proofs.ListsLaws.{families-within}
use Rattle.near_legs.proofs.OwnLaws.{others_with, runs_yes, runs_no, runs-are, runs-sound}
use Rattle.near_legs.proofs.own.handed_runs.Goals as goal
use Rattle.near_legs.proofs.own.handed_runs.Goals.{then-is_run+in_ok-add_others, else-is_run}

pub loop-count-preserved : goal.loop-count-preserved
loop-count-preserved c =
    let runs = is_run c.args.inst.now c.args.plan.now c.args.leg.0 in
    let others = others_with c.args.leg c.flier-plane.result.0 c.family-family.result.now in
    let i = c.loop-count.count-index in
    record {
      all = elim c.if-is_run.branch [
        | then-is_run+in_ok-add_others w ↦
            ap (λ v. v.items) w.units-is
            ∙ w.in_ok-add_others.ensures
            ∙ ap (λ (us : List LegUnit). us ++ others (get_or run_lengths i 0)) c.loop-count.invariant.all
            ∙ sym (runs_yes others runs run_lengths i c.loop-count-test.true (sym c.is_run.ensures ∙ w.if-is_run.true))
        | else-is_run w ↦
            ap (λ v. v.items) w.units-is
            ∙ c.loop-count.invariant.all
            ∙ sym (runs_no others runs run_lengths i c.loop-count-test.true (sym c.is_run.ensures ∙ w.if-is_run.false))
      ];
      items = c.loop-count.invariant.items;
    }

pub returns-clause-units : goal.returns-clause-units
returns-clause-units c =
    let I = c.args.inst.now in
    let family : map (λ (q : Plane). q.0) c.family-family.result.now ≡ family_of I c.flier-plane.result.0 = ap (map (λ (q : Plane). q.0)) c.family-family.ensures ∙ c.requires.lists.families.each c.flier-plane.result.0 c.flier-plane.ensures.limit in
    runs-are I c.args.plan.now c.args.leg c.flier-plane.result.0 c.family-family.result.now c.loop-count.units.items _ c.loop-count.count-index c.flier-plane.ensures.plane family c.loop-count.invariant.all c.loop-count.invariant.items (omega arith)

pub returns-clause-sound : goal.returns-clause-sound
returns-clause-sound c =
    let I = c.args.inst.now in
    let family : map (λ (q : Plane). q.0) c.family-family.result.now ≡ family_of I c.flier-plane.result.0 = ap (map (λ (q : Plane). q.0)) c.family-family.ensures ∙ c.requires.lists.families.each c.flier-plane.result.0 c.flier-plane.ensures.limit in
    runs-sound I c.args.leg c.flier-plane.result.0 c.family-family.result.now c.loop-count.units.items _ (families-within I c.flier-plane.result.0 c.family-family.result.now family) c.loop-count.invariant.all
