-- Moves that fit have a spelling.
use Rattle.std.proofs.Common.{ℕ, ◌<◌, ◌≤◌, List, refl, arith}
use Rattle.std.specs.Prelude.{Option, Some, None, IfSome, All}
use Rattle.std.specs.Option.{ForSome}
use Rattle.std.proofs.lemmas.List.Elements.{recursion_from_All, All-weaker}
use Rattle.desk_units.specs.declared.numbers.Leg.{Leg}
use Rattle.desk_units.specs.declared.numbers.Cabin.{Cabin}
use Rattle.desk_data.specs.declared.row.Row.{Row}
use Rattle.desk_data.specs.declared.row.Row.TheVariants as row
use Rattle.desk_data.specs.Situation.{Situation, legs_of, planes_of}
use Rattle.desk_data.specs.Valid.{AreWithinLimits, IsRowOf}
use Rattle.plan_moves.specs.declared.moves.Move.{Move}
use Rattle.plan_moves.specs.declared.moves.Step.{Step}
use Rattle.plan_moves.specs.declared.moves.Step.TheVariants as step
use Rattle.plan_moves.specs.Fits.{Fits, IsPathIn, StepFits}
use Rattle.desk_journal.specs.Spelling.{AreSteps, HasShortPaths, IsNumber, IsPath, IsRow, IsStep}

pub short_paths : (I : Situation) (s : Step) → StepFits I s → HasShortPaths s
short_paths I (step.Set leg was new) fits = tt
short_paths I (step.Push plane after) fits = tt
short_paths I (step.Swap first second at) fits = tt
short_paths I (step.Rebook res path to count) fits = (omega (arith, fits.1.short), omega (arith, fits.2.short))
short_paths I step.Tidy fits = tt
short_paths I (step.Refill leg) fits = tt

row_spelled : (planes : ℕ) (r : Row) → planes ≤ 1000 → IsRowOf planes r → IsRow r
row_spelled planes row.Cancelled few fits = tt
row_spelled planes (row.Flown plane dep) few fits = (omega (arith, few, fits.0), omega (arith, fits.1))

after_spelled : (legs : ℕ) (after : Option Leg) → legs ≤ 20000 → ForSome after (λ leg. leg.0 < legs) → IfSome after (λ leg. IsNumber leg.0)
after_spelled legs None few fits = tt
after_spelled legs (Some leg) few fits = omega (arith, few, fits leg refl)

path_spelled : (legs : ℕ) (path : List (Leg × Cabin)) → legs ≤ 20000 → IsPathIn legs path → IsPath path
path_spelled legs path few fits =
    let each : All (λ (pair : Leg × Cabin). IsNumber pair.0.0) path = All-weaker (λ (pair : Leg × Cabin). pair.0.0 < legs) (λ pair. IsNumber pair.0.0) (λ pair lt. omega (arith, few, lt)) path fits.among in
    (omega (arith, fits.short), recursion_from_All (λ (pair : Leg × Cabin). IsNumber pair.0.0) path each)

step_spelled : (I : Situation) (s : Step) → AreWithinLimits I.parts → StepFits I s → IsStep s
step_spelled I (step.Set leg was new) few fits = (omega (arith, few.legs, fits.0), (row_spelled (planes_of I) was few.planes fits.1, row_spelled (planes_of I) new few.planes fits.2))
step_spelled I (step.Push plane after) few fits = (omega (arith, few.planes, fits.0), after_spelled (legs_of I) after few.legs fits.1)
step_spelled I (step.Swap first second at) few fits = (omega (arith, few.planes, fits.0), (omega (arith, few.planes, fits.1), omega (arith, fits.2)))
step_spelled I (step.Rebook res path to count) few fits = (omega (arith, few.res, fits.0), (omega (arith, fits.4), (path_spelled (legs_of I) path few.legs fits.1, path_spelled (legs_of I) to few.legs fits.2)))
step_spelled I step.Tidy few fits = tt
step_spelled I (step.Refill leg) few fits = omega (arith, few.legs, fits)

pub steps_spelled : (I : Situation) (m : Move) → AreWithinLimits I.parts → Fits I m → AreSteps m.steps
steps_spelled I m few fits = (omega (arith, fits.most), recursion_from_All IsStep m.steps (All-weaker (StepFits I) IsStep (λ s h. step_spelled I s few h) m.steps fits.each))
