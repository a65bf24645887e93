-- What is read is spelled so, and what is spelled so is read: readers, and how they are put together.
use Rattle.std.proofs.Common.{◌≡◌, ℕ, zero, suc, ◌+◌, ◌^◌, ◌<◌, ◌≤◌, Bool, true, false, cond, ltb, List, [], ◌∷◌, ◌++◌, length, get_or, take, drop, refl, sym, ap, subst, ◌∙◌, append_assoc, arith, inl, inr}
use Rattle.std.specs.Prelude.{Option, Some, None}
use Rattle.std.specs.List.{flat_map, AllByRecursion}
use Rattle.std.specs.Int.{w32, from_be_bytes}
use Rattle.std.proofs.lemmas.Bool.{cases_lt, ltb-false, le-ltb}
use Rattle.std.proofs.lemmas.List.{take-append-drop, length-append, length-take, get_or-drop, get_or-take, get_or_past}
use Rattle.std.proofs.lemmas.List.Concat.{flat_map-cons}
use Rattle.std.proofs.lemmas.Nat.{be_bytes_4, from_be_bytes-to_be_bytes_4}
use Rattle.desk_text.specs.Fields.{◌>>=◌}
use Rattle.desk_journal.specs.Spelling.{number_bytes, IsNumber}
use Rattle.desk_journal.specs.Reading.{Reads, both, made, many, number_at}

abbrev pub AreBytes : List ℕ → Type 0
AreBytes bytes = (i : ℕ) → get_or bytes i 0 < 256

bytes-drop : (n : ℕ) (bytes : List ℕ) → AreBytes bytes → AreBytes (drop n bytes)
bytes-drop n bytes h i = rw get_or-drop (h (n + i))

bytes-take : (n : ℕ) (bytes : List ℕ) → AreBytes bytes → AreBytes (take n bytes)
bytes-take n bytes h i =
    elim (cases_lt i n) [
      | inl lt ↦ rw (get_or-take n bytes i 0 lt) (h i)
      | inr le ↦ rw (get_or_past (take n bytes) i 0 (omega (arith, length-take n bytes))) (omega arith)
    ]

pub bytes-rest : (b : ℕ) (bytes : List ℕ) → AreBytes (b ∷ bytes) → AreBytes bytes
bytes-rest b bytes h i = h (suc i)

-- the value of a step that gave one
pub bind_some : {A B : Type 0} (o : Option A) (f : A → Option B) (y : B) → (o >>= f) ≡ Some y → (x : A) × (o ≡ Some x) × (f x ≡ Some y)
bind_some (Some x) f y e = (x, refl, e)
bind_some None f y e = absurd cc

pub some_is : {A : Type 0} (x y : A) → Some x ≡ Some y → x ≡ y
some_is x y e = cc

-- a value is written and read so
pub record Spells {X : Type 0} (write : X → List ℕ) (read : Reads X) (Fits : X → Type 0) : Type 0 where
  pub again : (x : X) (rest : List ℕ) → Fits x → read (write x ++ rest) ≡ Some (x, rest)
  pub takes : (bytes : List ℕ) (x : X) (rest : List ℕ) → AreBytes bytes → read bytes ≡ Some (x, rest) → (bytes ≡ write x ++ rest) × AreBytes rest × Fits x

number_is : (bytes : List ℕ) → 4 ≤ length bytes → number_at bytes ≡ Some (from_be_bytes w32 (take 4 bytes), drop 4 bytes)
number_is bytes le =
    let long : ltb (length bytes) 4 ≡ false = le-ltb _ _ le in
    rw long refl

number_again : (n : ℕ) (rest : List ℕ) → n < 2 ^ 32 → number_at (number_bytes n ++ rest) ≡ Some (n, rest)
number_again n rest lt =
    let with_rest : ℕ → Option (ℕ × List ℕ) = λ k. Some (k, rest) in
    number_is (number_bytes n ++ rest) (omega (arith, length-append (number_bytes n) rest)) ∙ ap with_rest (from_be_bytes-to_be_bytes_4 n lt)

guard_some : {A : Type 0} (b : Bool) (x y : A) → cond b None (Some x) ≡ Some y → (b ≡ false) × (x ≡ y)
guard_some true x y e = absurd cc
guard_some false x y e = (refl, cc)

number_takes : (bytes : List ℕ) (n : ℕ) (rest : List ℕ) → AreBytes bytes → number_at bytes ≡ Some (n, rest) → (bytes ≡ number_bytes n ++ rest) × AreBytes rest × (n < 2 ^ 32)
number_takes bytes n rest fits e =
    let g = guard_some (ltb (length bytes) 4) (from_be_bytes w32 (take 4 bytes), drop 4 bytes) (n, rest) e in
    let long : 4 ≤ length bytes = ltb-false _ _ g.0 in
    let n-is : from_be_bytes w32 (take 4 bytes) ≡ n = ap (λ (p : ℕ × List ℕ). p.0) g.1 in
    let rest-is : drop 4 bytes ≡ rest = ap (λ (p : ℕ × List ℕ). p.1) g.1 in
    let front_fits = bytes-take 4 bytes fits in
    let below : from_be_bytes w32 (take 4 bytes) < 2 ^ 32 = omega (arith, front_fits 0, front_fits 1, front_fits 2, front_fits 3) in
    let front : number_bytes (from_be_bytes w32 (take 4 bytes)) ≡ take 4 bytes = be_bytes_4 (take 4 bytes) (from_be_bytes w32 (take 4 bytes)) (omega (arith, length-take 4 bytes)) front_fits refl in (
      sym (take-append-drop 4 bytes) ∙ ap (λ (l : List ℕ). l ++ drop 4 bytes) (sym front) ∙ ap (λ (k : ℕ). number_bytes k ++ drop 4 bytes) n-is ∙ ap (λ (l : List ℕ). number_bytes n ++ l) rest-is,
      subst AreBytes rest-is (bytes-drop 4 bytes fits),
      subst (λ (k : ℕ). k < 2 ^ 32) n-is below,
    )

pub numbers : Spells number_bytes number_at IsNumber
numbers = record { again = number_again; takes = number_takes }

-- one behind another
pub pairs : {X Y : Type 0} (w : X → List ℕ) (v : Y → List ℕ) (r : Reads X) (s : Reads Y) (F : X → Type 0) (G : Y → Type 0) → Spells w r F → Spells v s G → Spells (λ p. w p.0 ++ v p.1) (both r s) (λ p. F p.0 × G p.1)
pairs {X} {Y} w v r s F G first second = record {
  again = λ p rest fits.
      ap (both r s) (append_assoc (w p.0) (v p.1) rest)
      ∙ ap (λ (o : Option (X × List ℕ)). o >>= λ x. s x.1 >>= λ y. Some ((x.0, y.0), y.1)) (first.again p.0 (v p.1 ++ rest) fits.0)
      ∙ ap (λ (o : Option (Y × List ℕ)). o >>= λ y. Some ((p.0, y.0), y.1)) (second.again p.1 rest fits.1);
  takes = λ bytes p rest fits e.
      let a = bind_some (r bytes) (λ x. s x.1 >>= λ y. Some ((x.0, y.0), y.1)) (p, rest) e in
      let b = bind_some (s a.0.1) (λ y. Some ((a.0.0, y.0), y.1)) (p, rest) a.2 in
      let one = first.takes bytes a.0.0 a.0.1 fits a.1 in
      let two = second.takes a.0.1 b.0.0 b.0.1 one.1 b.1 in
      let whole : bytes ≡ (w a.0.0 ++ v b.0.0) ++ b.0.1 = one.0 ∙ ap (λ (l : List ℕ). w a.0.0 ++ l) two.0 ∙ sym (append_assoc (w a.0.0) (v b.0.0) b.0.1) in
      let made_of : (X × Y) × List ℕ = ((a.0.0, b.0.0), b.0.1) in
      subst (λ (q : (X × Y) × List ℕ). (bytes ≡ (w q.0.0 ++ v q.0.1) ++ q.1) × AreBytes q.1 × (F q.0.0 × G q.0.1)) (some_is made_of (p, rest) b.2) (whole, two.1, (one.2, two.2));
}

-- in another form
pub record MadeOf {X Y : Type 0} (con : X → Y) (w : X → List ℕ) (F : X → Type 0) (bytes : List ℕ) (y : Y) (rest : List ℕ) : Type 0 where
  pub from : X
  pub is : con from ≡ y
  pub parts : bytes ≡ w from ++ rest
  pub rest_fits : AreBytes rest
  pub fits : F from

pub made_again : {X Y : Type 0} (con : X → Y) (w : X → List ℕ) (r : Reads X) (F : X → Type 0) → Spells w r F → (x : X) (rest : List ℕ) → F x → made con r (w x ++ rest) ≡ Some (con x, rest)
made_again {X} {Y} con w r F spells x rest fits = ap (λ (o : Option (X × List ℕ)). o >>= λ p. Some (con p.0, p.1)) (spells.again x rest fits)

pub made_takes : {X Y : Type 0} (con : X → Y) (w : X → List ℕ) (r : Reads X) (F : X → Type 0) → Spells w r F → (bytes : List ℕ) (y : Y) (rest : List ℕ) → AreBytes bytes → made con r bytes ≡ Some (y, rest) → MadeOf con w F bytes y rest
made_takes {X} {Y} con w r F spells bytes y rest fits e =
    let a = bind_some (r bytes) (λ p. Some (con p.0, p.1)) (y, rest) e in
    let t = spells.takes bytes a.0.0 a.0.1 fits a.1 in
    let given : Y × List ℕ = (con a.0.0, a.0.1) in
    let same : given ≡ (y, rest) = some_is given (y, rest) a.2 in
    let rest_is : a.0.1 ≡ rest = ap (λ (q : Y × List ℕ). q.1) same in
    record {
      from = a.0.0;
      is = ap (λ (q : Y × List ℕ). q.0) same;
      parts = t.0 ∙ ap (λ (l : List ℕ). w a.0.0 ++ l) rest_is;
      rest_fits = subst AreBytes rest_is t.1;
      fits = t.2;
    }

-- so many, one behind another
pub many_again : {X : Type 0} (w : X → List ℕ) (r : Reads X) (F : X → Type 0) → Spells w r F → (xs : List X) (rest : List ℕ) → AllByRecursion F xs → many r (length xs) (flat_map w xs ++ rest) ≡ Some (xs, rest)
unfolding many
many_again w r F spells [] rest fits = refl
many_again {X} w r F spells (x ∷ xs) rest fits =
    ap (many r (suc (length xs))) (ap (λ (l : List ℕ). l ++ rest) (flat_map-cons w x xs) ∙ append_assoc (w x) (flat_map w xs) rest)
    ∙ ap (λ (o : Option (X × List ℕ)). o >>= λ a. many r (length xs) a.1 >>= λ b. Some (a.0 ∷ b.0, b.1)) (spells.again x (flat_map w xs ++ rest) fits.0)
    ∙ ap (λ (o : Option (List X × List ℕ)). o >>= λ b. Some (x ∷ b.0, b.1)) (many_again w r F spells xs rest fits.1)

pub many_takes : {X : Type 0} (w : X → List ℕ) (r : Reads X) (F : X → Type 0) → Spells w r F → (n : ℕ) (bytes : List ℕ) (xs : List X) (rest : List ℕ) → AreBytes bytes → many r n bytes ≡ Some (xs, rest)
    → (bytes ≡ flat_map w xs ++ rest) × AreBytes rest × (length xs ≡ n) × AllByRecursion F xs
unfolding many
many_takes {X} w r F spells zero bytes xs rest fits e =
    let given : List X × List ℕ = ([], bytes) in
    subst (λ (q : List X × List ℕ). (bytes ≡ flat_map w q.0 ++ q.1) × AreBytes q.1 × (length q.0 ≡ 0) × AllByRecursion F q.0) (some_is given (xs, rest) e) (refl, fits, refl, tt)
many_takes {X} w r F spells (suc n) bytes xs rest fits e =
    let a = bind_some (r bytes) (λ a. many r n a.1 >>= λ b. Some (a.0 ∷ b.0, b.1)) (xs, rest) e in
    let b = bind_some (many r n a.0.1) (λ b. Some (a.0.0 ∷ b.0, b.1)) (xs, rest) a.2 in
    let one = spells.takes bytes a.0.0 a.0.1 fits a.1 in
    let more = many_takes w r F spells n a.0.1 b.0.0 b.0.1 one.1 b.1 in
    let whole : bytes ≡ flat_map w (a.0.0 ∷ b.0.0) ++ b.0.1 =
    one.0 ∙ ap (λ (l : List ℕ). w a.0.0 ++ l) more.0 ∙ sym (append_assoc (w a.0.0) (flat_map w b.0.0) b.0.1) ∙ ap (λ (l : List ℕ). l ++ b.0.1) (sym (flat_map-cons w a.0.0 b.0.0)) in
    let given : List X × List ℕ = (a.0.0 ∷ b.0.0, b.0.1) in
    subst (λ (q : List X × List ℕ). (bytes ≡ flat_map w q.0 ++ q.1) × AreBytes q.1 × (length q.0 ≡ suc n) × AllByRecursion F q.0) (some_is given (xs, rest) b.2) (whole, more.1, ap suc more.2, (one.2, more.3))
