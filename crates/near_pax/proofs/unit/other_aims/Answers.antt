use Rattle.std.proofs.Common.{◌≡◌, Bool, not, List, [], ◌∷◌, ◌++◌, ap, ◌∙◌, subst}
use Rattle.std.specs.Prelude.{filter, IfOk}
use Rattle.desk_units.specs.declared.numbers.Leg.{Leg}
use Rattle.desk_units.specs.declared.numbers.Cabin.{Cabin}
use Rattle.desk_data.specs.PlanRows.{same_path}
use Rattle.near_moves.specs.PassengerMoves.{aims}
use Rattle.near_pax.proofs.unit.other_aims.Goals as goal

pub returns : goal.returns
unfolding aims
returns c =
    let path = c.args.path.now in
    let test : List (Leg × Cabin) → Bool = λ aim. not (same_path path aim) in
    subst (λ (paths : List (List (Leg × Cabin))). IfOk c.others.result (λ v. v.items ≡ filter test paths))
    (c.in_ok-push.ensures.items ∙ ap (λ (last : List (Leg × Cabin)). c.in_ok-aims.aims.items ++ last ∷ []) c.new.ensures.items ∙ ap (λ (paths : List (List (Leg × Cabin))). paths ++ [] ∷ []) c.in_ok-aims.ensures)
    c.others.ensures
