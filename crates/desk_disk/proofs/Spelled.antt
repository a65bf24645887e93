-- Records, one behind another.
use Rattle.std.proofs.Common.{◌≡◌, ℕ, ◌+◌, ◌^◌, ◌<◌, List, [], ◌∷◌, ◌++◌, length, take, drop, refl, sym, ◌∙◌, ap, append_assoc, arith}
use Rattle.std.specs.Int.{w32, to_be_bytes, from_be_bytes}
use Rattle.std.proofs.lemmas.List.{take_at, drop_at, length-append}
use Rattle.std.proofs.lemmas.List.Concat.{flat_map-cons}
use Rattle.std.proofs.lemmas.Nat.{from_be_bytes-to_be_bytes_4}
use Rattle.desk_disk.specs.Records.{framed, record_of, records, AreShort}

pub length-spelled : (n : ℕ) → length (to_be_bytes w32 n) ≡ 4
length-spelled n = refl

pub length-framed : (p : List ℕ) → length (framed p) ≡ 4 + length p
length-framed p = length-append (to_be_bytes w32 (length p)) p

-- a record and what follows it
pub records-cons : (p : List ℕ) (ps : List (List ℕ)) (rest : List ℕ) → records (p ∷ ps) ++ rest ≡ 1 ∷ (framed p ++ (records ps ++ rest))
records-cons p ps rest = ap (λ (l : List ℕ). l ++ rest) (flat_map-cons record_of p ps) ∙ append_assoc (record_of p) (records ps) rest

-- a record more at the end
pub records-push : (ps : List (List ℕ)) (p rest : List ℕ) → records (ps ++ p ∷ []) ++ rest ≡ records ps ++ (1 ∷ (framed p ++ rest))
records-push [] p rest = records-cons p [] rest
records-push (q ∷ ps) p rest =
    records-cons q (ps ++ p ∷ []) rest ∙ ap (λ (l : List ℕ). 1 ∷ (framed q ++ l)) (records-push ps p rest) ∙ sym (records-cons q ps (1 ∷ (framed p ++ rest)))

pub length-records-push : (ps : List (List ℕ)) (p : List ℕ) → length (records (ps ++ p ∷ [])) ≡ length (records ps) + (5 + length p)
length-records-push ps p =
    let whole = ap length (records-push ps p []) in
    omega (arith, whole, length-append (records (ps ++ p ∷ [])) [], length-append (records ps) (1 ∷ (framed p ++ [])), length-append (framed p) [], length-framed p)

pub short-push : (ps : List (List ℕ)) (p : List ℕ) → AreShort ps → length p < 2 ^ 32 → AreShort (ps ++ p ∷ [])
short-push [] p all short = (short, tt)
short-push (q ∷ ps) p all short = (all.0, short-push ps p all.1 short)

-- a payload with its length before it and what follows it are known from both together
pub framed_front : (p q a b : List ℕ) → length p < 2 ^ 32 → length q < 2 ^ 32 → framed p ++ a ≡ framed q ++ b → (p ≡ q) × (a ≡ b)
framed_front p q a b p-short q-short same =
    let sizes : List ℕ → List ℕ = λ l. to_be_bytes w32 (length l) in
    let apart : sizes p ++ (p ++ a) ≡ sizes q ++ (q ++ b) = sym (append_assoc (sizes p) p a) ∙ same ∙ append_assoc (sizes q) q b in
    let fronts : sizes p ≡ sizes q = sym (take_at (sizes p) (p ++ a) 4 refl) ∙ ap (λ (l : List ℕ). take 4 l) apart ∙ take_at (sizes q) (q ++ b) 4 refl in
    let behind : p ++ a ≡ q ++ b = sym (drop_at (sizes p) (p ++ a) 4 refl) ∙ ap (λ (l : List ℕ). drop 4 l) apart ∙ drop_at (sizes q) (q ++ b) 4 refl in
    let lengths : length p ≡ length q = sym (from_be_bytes-to_be_bytes_4 (length p) p-short) ∙ ap (from_be_bytes w32) fronts ∙ from_be_bytes-to_be_bytes_4 (length q) q-short in (
      sym (take_at p a (length q) lengths) ∙ ap (λ (l : List ℕ). take (length q) l) behind ∙ take_at q b (length q) refl,
      sym (drop_at p a (length q) lengths) ∙ ap (λ (l : List ℕ). drop (length q) l) behind ∙ drop_at q b (length q) refl,
    )
