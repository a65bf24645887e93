-- What holds of all that a reading may give.
use Rattle.std.proofs.Common.{◌≡◌, refl, subst}
use Rattle.std.specs.Prelude.{Option, Some, None, ok_or, Result, Ok, Err}
use Rattle.file_rows.specs.declared.cause.Cause.{Cause}
use Rattle.desk_text.specs.Rows.{◌>>=◌}

-- this holds of what is given, where something is
abbrev pub Gives : {A E : Type 0} → Result A E → (A → Type 0) → Type 0
Gives (Ok x) P = P x
Gives (Err why) P = Unit {0}

-- of what comes after something that was given
pub each : {A B E : Type 0} (r : Result A E) (f : A → Result B E) (P : B → Type 0) → ((x : A) → r ≡ Ok x → Gives (f x) P) → Gives (r >>= f) P
each (Ok x) f P h = h x refl
each (Err why) f P h = tt

pub at_ok : {A E : Type 0} (P : A → Type 0) (r : Result A E) (x : A) → r ≡ Ok x → Gives r P → P x
at_ok P (Ok y) x is h = (let same : y ≡ x = cc in subst P same h)
at_ok P (Err why) x is h = absurd cc

pub weaker : {A E : Type 0} (P Q : A → Type 0) (r : Result A E) → ((x : A) → P x → Q x) → Gives r P → Gives r Q
weaker P Q (Ok x) less h = less x h
weaker P Q (Err why) less h = tt

pub ok_there : {X : Type 0} (o : Option X) (e : Cause) (P : X → Type 0) → ((x : X) → o ≡ Some x → P x) → Gives (ok_or o e) P
ok_there (Some x) e P h = h x refl
ok_there None e P h = tt
