-- The first departure, from the leg before and the plan as it stands.
use Rattle.std.proofs.Common.{◌≡◌, ℕ, ap, ◌∙◌, max}
use Rattle.std.specs.Prelude.{Option}
use Rattle.desk_data.specs.Situation.{Situation, earliest, latest}
use Rattle.desk_data.specs.PlanRows.{PlanRows}
use Rattle.desk_model.specs.Choices.{first_within}
use Rattle.desk_model.specs.Push.{can_depart, first_departure, leg_before, ready_moment}

pub first_departure-from : (I : Situation) (P Q : PlanRows) (p x low : ℕ) (before found : Option ℕ) → found ≡ first_within low (latest I x) (can_depart I Q p x) → before ≡ leg_before I P x → low ≡ max (ready_moment I Q p x before) (earliest I x) → found ≡ first_departure I P Q p x
unfolding first_departure
first_departure-from I P Q p x low before found first is from =
    first
    ∙ ap (λ (n : ℕ). first_within n (latest I x) (can_depart I Q p x)) (from ∙ ap (λ (o : Option ℕ). max (ready_moment I Q p x o) (earliest I x)) is)

pub found-from : (I : Situation) (Q : PlanRows) (p x low from : ℕ) (found : Option ℕ) → found ≡ first_within low (latest I x) (can_depart I Q p x) → low ≡ from → found ≡ first_within from (latest I x) (can_depart I Q p x)
found-from I Q p x low from found is same = is ∙ ap (λ (n : ℕ). first_within n (latest I x) (can_depart I Q p x)) same
