-- The legs of an aircraft, in whatever order.
use Rattle.std.specs.Prelude.{◌≡◌, ℕ, ◌<◌, true, List, map}
use Rattle.desk_units.specs.declared.numbers.Leg.{Leg}
use Rattle.std.specs.List.{All, Contains}
use Rattle.desk_data.specs.Situation.{Situation, legs_of}
use Rattle.desk_data.specs.PlanRows.{PlanRows}
use Rattle.desk_rules.specs.Maintenance.{flies}

-- aircraft p flies each of these legs, and no others
pub record AreLegsOf (I : Situation) (P : PlanRows) (p : ℕ) (legs : List ℕ) : Type 0 where
  pub flown : All (λ x. (x < legs_of I) × (flies P p x ≡ true)) legs
  pub each : (x : ℕ) → x < legs_of I → flies P p x ≡ true → Contains legs x

-- the numbers of some legs
abbrev pub numbers_of : List Leg → List ℕ
numbers_of legs = map (λ (leg : Leg). leg.0) legs

-- leg x of aircraft p is put among some legs, if the aircraft flies it: no leg that it does not fly comes in, and none goes
pub record IsAdded (I : Situation) (P : PlanRows) (p x : ℕ) (old new : List ℕ) : Type 0 where
  pub flown : All (λ z. (z < legs_of I) × (flies P p z ≡ true)) old → All (λ z. (z < legs_of I) × (flies P p z ≡ true)) new
  pub kept : (z : ℕ) → Contains old z → Contains new z
  pub there : flies P p x ≡ true → Contains new x
