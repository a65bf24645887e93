-- Beginnings of lists.
use Rattle.std.proofs.Common.{◌≡◌, ◌+◌, ◌≤◌, List, [], ◌∷◌, ◌++◌, length, refl, sym, ap, ◌∙◌, arith, length-append, append_assoc}
use Rattle.std.proofs.lemmas.List.{append-nil}
use mathlib.Core.List.{IsPrefix}

pub prefix_self : {A : Type 0} (xs : List A) → IsPrefix xs xs
prefix_self xs = ([], append-nil xs)

pub prefix_trans : {A : Type 0} (xs ys zs : List A) → IsPrefix xs ys → IsPrefix ys zs → IsPrefix xs zs
prefix_trans xs ys zs p q = (p.0 ++ q.0, sym (append_assoc xs p.0 q.0) ∙ ap (λ l. l ++ q.0) p.1 ∙ q.1)

pub prefix_length : {A : Type 0} (xs ys : List A) → IsPrefix xs ys → length xs ≤ length ys
prefix_length xs ys p = let e : length xs + length p.0 ≡ length ys = sym (length-append xs p.0) ∙ ap length p.1 in omega (arith, e)

pub prefix_whole : {A : Type 0} (xs ys : List A) → IsPrefix xs ys → length ys ≤ length xs → xs ≡ ys
prefix_whole xs ys p le =
    let e : length xs + length p.0 ≡ length ys = sym (length-append xs p.0) ∙ ap length p.1 in
    none p.0 (omega (arith, e, le)) p.1
  where
    none : (rest : List _) → length rest ≡ 0 → xs ++ rest ≡ ys → xs ≡ ys
    none [] z e = sym (append-nil xs) ∙ e
    none (x ∷ rest) z e = absurd (omega arith)

-- of two beginnings of one list the shorter begins the longer
pub prefix_shorter : {A : Type 0} (xs ys zs : List A) → IsPrefix xs zs → IsPrefix ys zs → length xs ≤ length ys → IsPrefix xs ys
prefix_shorter [] ys zs p q le = (ys, refl)
prefix_shorter (x ∷ xs) [] zs p q le = absurd (omega arith)
prefix_shorter (x ∷ xs) (y ∷ ys) [] p q le = absurd (cc (p.1))
prefix_shorter (x ∷ xs) (y ∷ ys) (z ∷ zs) p q le =
    let a : xs ++ p.0 ≡ zs = cc (p.1) in
    let b : ys ++ q.0 ≡ zs = cc (q.1) in
    let e : x ≡ z = cc (p.1) in
    let f : y ≡ z = cc (q.1) in
    let r : IsPrefix xs ys = prefix_shorter xs ys zs (p.0, a) (q.0, b) (omega arith) in
    (r.0, λ i. (e ∙ sym f) i ∷ r.1 i)
