use Rattle.std.proofs.Common.{◌≡◌, true, sym, ◌∙◌}
use Rattle.std.proofs.lemmas.Bool.{leb-false}
use Rattle.near_moves.specs.MoveParts.{is_restorable}
use Rattle.near_untouched.proofs.AgainLaws.{again-from, restorable-few}
use Rattle.near_untouched.proofs.again.is_touched.Goals as goal

pub backs_of-requires-clause-few : goal.backs_of-requires-clause-few
backs_of-requires-clause-few c =
    restorable-few c.args.plans.now.inst.now c.args.plans.now.earlier.now c.args.restorable.now c.parts-rows.ensures.valid c.requires.restorable

pub returns-in-Some : goal.returns-in-Some
returns-in-Some c = λ is.
    (let I = c.args.plans.now.inst.now in
    let P = c.args.plans.now.earlier.now in
    let Q = c.args.plans.now.later.now in
    let on : is_restorable I P c.args.leg.0 ≡ true = sym c.is_restorable.ensures ∙ c.if-not-is_restorable.false in
    λ p.
    again-from I P Q c.args.legs.now c.args.changed.now c.args.restorable.now c.args.leg.0 c.in-Some.count c.parts-rows.ensures.valid c.requires.leg on c.if-legs-leg.false c.requires.legs c.requires.changed
    (c.lead_nowhere.ensures c.if-not-lead_nowhere.false) c.requires.restorable c.in-Some.ensures (leb-false 8 c.in-Some.count is) p)
