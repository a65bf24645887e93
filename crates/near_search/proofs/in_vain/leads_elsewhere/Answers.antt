use Rattle.std.proofs.Common.{inl, inr, eqb, refl, sym, ap, ◌∙◌}
use Rattle.std.proofs.lemmas.Bool.{true≢false, eq-eqb, not-true}
use Rattle.desk_data.specs.declared.info.LegInfo.{LegInfo}
use Rattle.near_search.proofs.VainLaws.{handed-vain}
use Rattle.near_search.proofs.in_vain.leads_elsewhere.Goals as goal

pub returns-then-to-stand : goal.returns-then-to-stand
returns-then-to-stand c = λ yes.
    let I = c.args.eval.now.inst in
    let P = c.args.eval.now.rows in
    let feasible = sym c.requires.rotations.feasible ∙ c.if-not-rotations.false in
    let air = rw c.instance.ensures at (c.if-not-are_two.ensures.other_air refl) in
    let other_air = rw c.instance.ensures at (c.if-not-are_two.ensures.air refl) in
    let begins = ap (λ (info : LegInfo). info.origin.0) (rw c.instance-2.ensures at c.leg.ensures.row) in
    handed-vain I P c.args.leg.0 c.args.count c.args.own.0 c.args.other.0 c.leg.result.now.origin.0 c.run_leads_to-to.result.0 feasible c.requires.leg c.requires.flown
    (c.if-not-are_two.ensures.other refl) air other_air begins c.run_leads_to-to.ensures c.if-to-from.true
    (inl (λ same. c.if-to-stand.true (same ∙ sym c.stand.ensures)))

pub returns-else-to-stand : goal.returns-else-to-stand
returns-else-to-stand c = λ yes.
    let I = c.args.eval.now.inst in
    let P = c.args.eval.now.rows in
    let feasible = sym c.requires.rotations.feasible ∙ c.if-not-rotations.false in
    let air = rw c.instance.ensures at (c.if-not-are_two.ensures.other_air refl) in
    let other_air = rw c.instance.ensures at (c.if-not-are_two.ensures.air refl) in
    let begins = ap (λ (info : LegInfo). info.origin.0) (rw c.instance-2.ensures at c.leg.ensures.row) in
    let from = c.leg.result.now.origin.0 in
    let end = c.stand-else-to-stand.result.0 in
    handed-vain I P c.args.leg.0 c.args.count c.args.own.0 c.args.other.0 from c.run_leads_to-to.result.0 feasible c.requires.leg c.requires.flown
    (c.if-not-are_two.ensures.other refl) air other_air begins c.run_leads_to-to.ensures c.if-to-from.true
    (inr (λ same. true≢false (sym (eq-eqb from end (same ∙ sym c.stand-else-to-stand.ensures)) ∙ not-true (eqb from end) yes)))
