-- The legs that each aircraft flies.
use Rattle.std.specs.Prelude.{◌≡◌, ℕ, ◌<◌, List, [], length, map, filter, slice_index_or}
use Rattle.desk_units.specs.declared.numbers.Leg.{Leg}
use Rattle.desk_data.specs.Situation.{Situation, legs_of, planes_of}
use Rattle.desk_data.specs.PlanRows.{PlanRows}
use Rattle.desk_rules.specs.Numbers.{numbers}
use Rattle.desk_rules.specs.Maintenance.{flies}

-- the legs that aircraft p flies, by leg
abbrev pub flown_legs : Situation → PlanRows → ℕ → List ℕ
flown_legs I Q p = filter (flies Q p) (numbers (legs_of I))

-- for each aircraft those of the first n legs that it flies, by leg
pub record AreFlownOfFirst (n : ℕ) (I : Situation) (Q : PlanRows) (flown : List (List Leg)) : Type 0 where
  pub planes : length flown ≡ planes_of I
  pub each : (p : ℕ) → p < planes_of I → map (λ (leg : Leg). leg.0) (slice_index_or flown p []) ≡ filter (flies Q p) (numbers n)

-- for each aircraft the legs that it flies, by leg
abbrev pub AreFlown : Situation → PlanRows → List (List Leg) → Type 0
AreFlown I Q flown = AreFlownOfFirst (legs_of I) I Q flown
