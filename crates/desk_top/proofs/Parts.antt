-- What was given, taken apart.
use Rattle.std.proofs.Common.{◌≡◌, ℕ, ◌≤◌, Bool, true, false, List, refl, ap, subst}
use Rattle.std.specs.Prelude.{◌&&◌, nat_le, Option, Some, None, ok_or, Result, Ok, Err}
use Rattle.std.proofs.lemmas.Bool.{and_parts, leb-true}
use Rattle.file_rows.specs.declared.cause.Cause.{Cause}
use Rattle.file_rows.specs.declared.cause.Cause.TheVariants as cause
use Rattle.desk_text.specs.Rows.{◌>>=◌, at_line}
use Rattle.desk_text.specs.Fields as fields
use Rattle.desk_text.specs.Fields.{digits_of, number_from, number_of, only_if}
use Rattle.desk_tasks.specs.Story.{or_refused}

-- what comes after something that was given
pub bound : {A B E : Type 0} (r : Result A E) (f : A → Result B E) (y : B) → (r >>= f) ≡ Ok y → (x : A) × (r ≡ Ok x) × (f x ≡ Ok y)
bound (Ok x) f y h = (x, refl, h)
bound (Err e) f y h = absurd cc

pub same_Ok : {A E : Type 0} (x y : A) → (let r : Result A E = Ok x in r) ≡ Ok y → x ≡ y
same_Ok x y h = cc

pub known : {X : Type 0} (o : Option X) (e : Cause) (x : X) → ok_or o e ≡ Ok x → o ≡ Some x
known None e x h = absurd cc
known (Some y) e x h = ap Some (same_Ok y x h)

pub at_line-Ok : {X : Type 0} (line : ℕ) (r : Result X Cause) (x : X) → at_line line r ≡ Ok x → r ≡ Ok x
at_line-Ok line (Ok y) x h = ap Ok (same_Ok y x h)
at_line-Ok line (Err why) x h = absurd cc

pub or_refused-Ok : {A Why Given : Type 0} (given : Why → Given) (r : Result A Why) (x : A) → or_refused given r ≡ Ok x → r ≡ Ok x
or_refused-Ok given (Ok y) x h = ap Ok (same_Ok y x h)
or_refused-Ok given (Err why) x h = absurd cc

-- ---- numbers

within : (b : Bool) (m n : ℕ) → only_if b m ≡ Some n → (b ≡ true) × (m ≡ n)
within true m n h = (refl, cc)
within false m n h = absurd cc

range : (low high m n : ℕ) → (nat_le low m && nat_le m high) ≡ true → m ≡ n → (low ≤ n) × (n ≤ high)
range low high m n both same =
    let parts = and_parts (nat_le low m) (nat_le m high) both in
    subst (λ (k : ℕ). (low ≤ k) × (k ≤ high)) same (leb-true low m parts.0, leb-true m high parts.1)

from_digits : (low high : ℕ) (o : Option ℕ) (n : ℕ) → (fields.◌>>=◌ o (λ m. only_if (nat_le low m && nat_le m high) m)) ≡ Some n → (low ≤ n) × (n ≤ high)
from_digits low high None n h = absurd cc
from_digits low high (Some m) n h = (let at = within (nat_le low m && nat_le m high) m n h in range low high m n at.0 at.1)

number_within : (low high : ℕ) (bytes : List ℕ) (n : ℕ) → number_from low high bytes ≡ Some n → (low ≤ n) × (n ≤ high)
unfolding number_from
number_within low high bytes n h = from_digits low high (digits_of 9 bytes) n h

pub number_of-within : (low high : ℕ) (field : List ℕ) (n : ℕ) → number_of low high field ≡ Ok n → (low ≤ n) × (n ≤ high)
number_of-within low high field n h = number_within low high field n (known (number_from low high field) cause.Number n h)
