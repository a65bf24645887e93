-- Which legs changed from one plan to a later one.
use Rattle.std.specs.Prelude.{◌≡◌, ℕ, ◌<◌, Bool, true, false, List, length, All, Contains, slice_index_or}
use Rattle.desk_units.specs.declared.numbers.Leg.{Leg}
use Rattle.desk_units.specs.declared.numbers.Cabin.{Cabin}
use Rattle.desk_data.specs.Situation.{Situation, legs_of}
use Rattle.desk_data.specs.PlanRows.{PlanRows}
use Rattle.near_memory.specs.Untouched.{IsStill}
use Rattle.near_notes.specs.declared.changes.Changes.{Changes}

-- whether leg x was touched, by a table of all legs
abbrev pub is_touched : List Bool → ℕ → Bool
is_touched touched x = slice_index_or touched x false

-- none of the legs of a path was
abbrev pub AreAllStill : List Bool → List (Leg × Cabin) → Type 0
AreAllStill touched path = All (λ pair. is_touched touched pair.0.0 ≡ false) path

-- a leg that was not touched is still from plan P to plan Q, and those that were are listed
pub record AreChanges (I : Situation) (P Q : PlanRows) (changes : Changes) : Type 0 where
  pub all : length changes.touched.items ≡ legs_of I
  pub still : (x : ℕ) → x < legs_of I → is_touched changes.touched.items x ≡ false → IsStill P Q x
  pub listed : (x : ℕ) → x < legs_of I → is_touched changes.touched.items x ≡ true → let leg : Leg = record { 0 = x } in Contains changes.legs.items leg
  pub within : All (λ leg. leg.0 < legs_of I) changes.legs.items
