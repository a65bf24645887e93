use Rattle.std.proofs.Common.{◌≡◌, refl, sym, subst}
use Rattle.std.specs.Prelude.{true, false}
use Rattle.desk_journal.specs.Spelling.{HasSpelling, payload}
use Rattle.desk_journal.specs.Payloads.{MayCome}
use Rattle.desk_journal.proofs.NextLaws.{at_some, comes_may, may_comes}
use Rattle.desk_journal.proofs.next.next_stored.Goals as goal

pub returns-then-not-comes_next : goal.returns-then-not-comes_next
returns-then-not-comes_next c =
    let s = c.in-Some.stored in
    let p = c.args.payload.now in
    let spelled = at_some c.in_ok-stored.field-0 s (λ t. (p ≡ payload t) × HasSpelling t) c.in-Some.is c.in_ok-stored.ensures.found in
    λ m.
    let both : false ≡ true = c.if-not-comes_next.ensures.1 (may_comes c.args.inst.now c.args.batches.now c.args.due s p c.parts-parts.ensures.valid.parts.few spelled.1 spelled.0 m) in
    absurd cc

pub returns : goal.returns
returns c =
    let s = c.in-Some.stored in
    let p = c.args.payload.now in
    let spelled = at_some c.in_ok-stored.field-0 s (λ t. (p ≡ payload t) × HasSpelling t) c.in-Some.is c.in_ok-stored.ensures.found in
    let next = c.if-not-comes_next.ensures.0 refl in
    (subst (MayCome c.args.inst.now c.args.batches.now c.args.due) (sym spelled.0) (comes_may c.args.inst.now c.args.batches.now c.args.due s spelled.1 next), spelled.0, spelled.1, next)
