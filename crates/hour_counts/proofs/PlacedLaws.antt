-- Legs that are placed, one at a time.
use Rattle.std.proofs.Common.{◌≡◌, ℕ, ◌+◌, ◌<◌, List, length, get_or, take, sym, ap, ◌∙◌}
use Rattle.std.specs.Prelude.{Option, fold, map}
use Rattle.std.proofs.lemmas.List.Folds.{fold-map}
use Rattle.std.proofs.lemmas.List.Sums.{fold_more}
use Rattle.desk_units.specs.declared.numbers.Leg.{Leg}
use Rattle.desk_data.specs.Situation.{Situation}
use Rattle.desk_data.specs.PlanRows.{PlanRows}
use Rattle.desk_model.specs.Push.{pushed_legs, after_placing, after_push}
use Rattle.hour_counts.specs.declared.pushed.Placing.{Placing}

-- the plan once some legs are placed
abbrev pub placed_all : Situation → PlanRows → ℕ → List Placing → PlanRows
placed_all I P p all = fold (λ Q placing. after_placing I P p Q placing.leg.0) P all

-- one leg more of a list
pub placed_all-more : (I : Situation) (P : PlanRows) (p : ℕ) (all : List Placing) (i : ℕ) (d : Placing) → i < length all → after_placing I P p (placed_all I P p (take i all)) (get_or all i d).leg.0 ≡ placed_all I P p (take (i + 1) all)
placed_all-more I P p all i d within = sym (fold_more (λ Q placing. after_placing I P p Q placing.leg.0) P all i d within)

pub placed_all-is : (I : Situation) (P : PlanRows) (p : ℕ) (after : Option Leg) (all : List Placing) → map (λ placing. placing.leg.0) all ≡ pushed_legs I P p after → placed_all I P p all ≡ after_push I P p after
unfolding after_push
placed_all-is I P p after all is =
    sym (fold-map (after_placing I P p) (λ (placing : Placing). placing.leg.0) P all) ∙ ap (fold (after_placing I P p) P) is
