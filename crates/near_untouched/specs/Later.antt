-- What was touched after a search.
use Rattle.std.specs.Prelude.{◌≡◌, ℕ, ◌<◌, Bool, false, ◌⊎◌, List, length, slice_index_or}
use Rattle.desk_data.specs.Situation.{Situation, legs_of, planes_of}
use Rattle.near_untouched.specs.Marks.{is_marked}
use Rattle.near_untouched.specs.declared.untouched.Untouched.{Untouched}
use Rattle.near_notes.specs.declared.findings.Findings.{Findings}

-- each number below n has the number of the search, or it is not marked and has what it had
abbrev pub AreTouchedAt : ℕ → List Bool → ℕ → List ℕ → List ℕ → Type 0
AreTouchedAt n marks search old new =
    (k : ℕ) → k < n → (slice_index_or new k 0 ≡ search) ⊎ ((is_marked marks k ≡ false) × (slice_index_or new k 0 ≡ slice_index_or old k 0))

-- the lists of findings are as long as they have to be, and what was found is as it was
pub record AreMoved (I : Situation) (old new : Findings) : Type 0 where
  pub planes : length new.planes.items ≡ planes_of I
  pub flown : length new.flown.items ≡ planes_of I
  pub again : length new.again.items ≡ legs_of I
  pub found : new.found ≡ old.found

-- findings in which all marked aircraft and legs were touched
pub record AreAllTouched (I : Situation) (known : Untouched) (search : ℕ) (old new : Findings) : Type 0 where
  pub planes : AreTouchedAt (planes_of I) known.planes.items search old.planes.items new.planes.items
  pub flown : AreTouchedAt (planes_of I) known.planes.items search old.flown.items new.flown.items
  pub again : AreTouchedAt (legs_of I) known.again.items search old.again.items new.again.items
