-- The fields from a place on.
use Rattle.std.proofs.Common.{◌≡◌, ℕ, zero, suc, ◌+◌, List, [], ◌∷◌, drop, Some, None, add-one, refl}
use Rattle.csv.specs.Records.{field_at}

there : (fields : List (List ℕ)) (place : ℕ) (field : List ℕ) → Some field ≡ field_at fields place → drop place fields ≡ field ∷ drop (suc place) fields
unfolding field_at
there [] place field e = cc
there (first ∷ others) zero field e = cc
there (first ∷ others) (suc place) field e = there others place field e

-- the field at a place is the first of those from there on
pub field_there : (fields : List (List ℕ)) (place : ℕ) (field : List ℕ) → Some field ≡ field_at fields place → drop place fields ≡ field ∷ drop (place + 1) fields
field_there fields place field e = rw add-one (there fields place field e)

-- where there is none, there are no fields from there on
pub no_field : (fields : List (List ℕ)) (place : ℕ) → None ≡ field_at fields place → drop place fields ≡ []
unfolding field_at
no_field [] zero e = refl
no_field [] (suc place) e = refl
no_field (first ∷ others) zero e = cc
no_field (first ∷ others) (suc place) e = no_field others place e
