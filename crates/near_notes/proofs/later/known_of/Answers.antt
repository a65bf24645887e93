use Rattle.std.proofs.Common.{arith}
use Rattle.std.proofs.lemmas.List.{get_or_read}
use Rattle.near_notes.proofs.KnownLaws.{still-vain}
use Rattle.near_notes.proofs.later.known_of.Goals as goal

pub returns : goal.returns
returns c = λ k none few there.
    (let notes = c.args.notes.now in
    let r = c.args.res.0 in
    let within = c.requires.res in
    let all = c.requires.notes.reservations in
    let read = get_or_read notes.known.items r c.index-before.result.now (omega (arith, within, all)) c.index-before.ensures 0 in
    still-vain c.args.plans.now.inst.now c.args.plans.now.was.now c.args.plans.now.plan.now notes r k none c.parts-rows.ensures.valid c.requires.plan c.requires.notes c.requires.was within
    (c.is_untouched.ensures c.if-not-is_untouched.false) (omega (arith, few, read)) there)
