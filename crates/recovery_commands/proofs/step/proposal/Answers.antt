use Rattle.std.proofs.Common.{◌≡◌, sym, ◌∙◌, false}
use Rattle.std.specs.Prelude.{Option, None}
use Rattle.std.specs.Option.{ForSome}
use Rattle.plan_moves.specs.declared.moves.Move.{Move}
use Rattle.plan_moves.specs.Fits.{Fits}
use Rattle.desk_core.specs.Recorded.{state_of}
use Rattle.near_moves.specs.Descent.{is_spent}
use Rattle.near_moves.proofs.DescentLaws.{next-spent}
use Rattle.desk_model.specs.States.{opening}
use Rattle.recovery_commands.specs.Steps.{IsFirstBetter, next_of}
use Rattle.recovery_commands.proofs.DescendLaws.{first-next, found-fits, unplanned, planned, if-ok}
use Rattle.recovery_commands.proofs.step.proposal.Goals as goal
use Rattle.recovery_commands.proofs.step.proposal.Goals.{then-is_some-via-then-is_some, then-is_some-via-else-is_some+then-is_spent}

pub returns-then-is_some-clause-ok : goal.returns-then-is_some-clause-ok
returns-then-is_some-clause-ok g c =
    let B = c.args.book.now in
    elim c.then-is_some.branch [
      | then-is_some-via-then-is_some w ↦ unplanned c.args.most B c.broken.result c.broken.ensures (sym c.is_some.ensures ∙ w.if-is_some.true)
      | then-is_some-via-else-is_some+then-is_spent w ↦ sym (next-spent c.args.most (opening B.opening) B.journal (sym w.is_spent.ensures ∙ w.if-is_spent.true))
    ]

pub returns-clause-ok : goal.returns-clause-ok
returns-clause-ok g c =
    let B = c.args.book.now in
    let had : (state_of B).broken ≡ None = planned B c.broken.result c.broken.ensures (sym c.is_some.ensures ∙ c.if-is_some.false) in
    let unspent : is_spent c.args.most B.journal ≡ false = sym c.is_spent.ensures ∙ c.if-is_spent.false in
    if-ok c.search.result (IsFirstBetter (state_of B).inst (state_of B).plan) (λ (found : Option Move). found ≡ next_of c.args.most B)
    (λ found is. is.first ∙ first-next c.args.most B had unspent) c.search.ensures.found

pub returns-clause-fits : goal.returns-clause-fits
returns-clause-fits g c =
    let B = c.args.book.now in
    if-ok c.search.result (IsFirstBetter (state_of B).inst (state_of B).plan) (λ (found : Option Move). ForSome found (Fits B.opening))
    (λ found is. found-fits B found is.fits) c.search.ensures.found
