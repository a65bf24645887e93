-- Chains of readings, taken apart.
use Rattle.std.proofs.Common.{◌≡◌, Bool, true, false, cond, Option, Some, None, Result, Ok, Err, refl}
use Rattle.std.specs.Prelude.{ok_or, IfOk}
use Rattle.desk_text.specs.Rows.{◌>>=◌}

-- a chain that gives something: what its first step gives, and the rest
pub bind_ok : {A B E : Type 0} (r : Result A E) (f : A → Result B E) (y : B) → (r >>= f) ≡ Ok y → (x : A) × (r ≡ Ok x) × (f x ≡ Ok y)
bind_ok (Ok x) f y e = (x, refl, e)
bind_ok (Err why) f y e = absurd cc

-- a test that gives something
pub if_ok : {A E : Type 0} (test : Bool) (x y : A) (why : E) → cond test (Ok x) (Err why) ≡ Ok y → (test ≡ true) × (x ≡ y)
if_ok true x y why e = (refl, cc)
if_ok false x y why e = absurd cc

-- something that is there
pub ok_or_some : {A E : Type 0} (o : Option A) (why : E) (x : A) → ok_or o why ≡ Ok x → o ≡ Some x
ok_or_some (Some y) why x e = cc
ok_or_some None why x e = absurd cc

-- what follows from what is given holds where something is given
pub if_is_ok : {A E : Type 0} (r : Result A E) (P : A → Type 0) → ((x : A) → r ≡ Ok x → P x) → IfOk r P
if_is_ok (Ok x) P holds = holds x refl
if_is_ok (Err why) P holds = tt
