-- The records of a file that is read.
use Rattle.std.proofs.Common.{◌≡◌, inl, inr, ℕ, ◌^◌, ◌<◌, ◌≤◌, List, [], ◌∷◌, ◌++◌, length, get_or, take, drop, refl, sym, ◌∙◌, ap, subst, arith, append_assoc}
use Rattle.std.specs.Int.{w32, to_be_bytes, from_be_bytes}
use Rattle.std.proofs.lemmas.List.{take_at, drop_at, take-append-drop, length-take, get_or-take, get_or_past, append-nil}
use Rattle.std.proofs.lemmas.Bool.{cases_lt}
use Rattle.std.proofs.lemmas.Nat.{be_bytes_4, from_be_bytes-to_be_bytes_4}
use Rattle.desk_disk.specs.Records.{framed, records, AreShort, AreAccepted, EndsAt}
use Rattle.desk_disk.proofs.Spelled.{records-push}

-- a length in four bytes, and so many bytes behind it
pub spells : (bytes : List ℕ) (size : ℕ) → ((k : ℕ) → get_or bytes k 0 < 256) → 4 ≤ length bytes → size ≡ from_be_bytes w32 (take 4 bytes) → size ≤ length (drop 4 bytes) → bytes ≡ framed (take size (drop 4 bytes)) ++ drop size (drop 4 bytes)
spells bytes size fits long is within =
    let rest = drop 4 bytes in
    let payload = take size rest in
    let size_is : length payload ≡ size = omega (arith, length-take size rest) in
    let front : to_be_bytes w32 (length payload) ≡ take 4 bytes =
    ap (to_be_bytes w32) (size_is ∙ is) ∙ be_bytes_4 (take 4 bytes) (from_be_bytes w32 (take 4 bytes)) (omega (arith, length-take 4 bytes)) (front_fits bytes fits) refl in
    sym (take-append-drop 4 bytes) ∙ ap (λ (l : List ℕ). l ++ rest) (sym front) ∙ ap (λ (l : List ℕ). to_be_bytes w32 (length payload) ++ l) (sym (take-append-drop size rest)) ∙ sym (append_assoc (to_be_bytes w32 (length payload)) payload (drop size rest))
  where
    front_fits : (bytes : List ℕ) → ((k : ℕ) → get_or bytes k 0 < 256) → (k : ℕ) → get_or (take 4 bytes) k 0 < 256
    front_fits bytes fits k =
        elim (cases_lt k 4) [
          | inl lt ↦ rw (get_or-take 4 bytes k 0 lt) (fits k)
          | inr le ↦ rw (get_or_past (take 4 bytes) k 0 (omega (arith, length-take 4 bytes))) (omega arith)
        ]

-- what spells a payload shows its length so
pub spelled_size : (payload more bytes : List ℕ) → length payload < 2 ^ 32 → bytes ≡ framed payload ++ more → (from_be_bytes w32 (take 4 bytes) ≡ length payload) × (drop 4 bytes ≡ payload ++ more)
spelled_size payload more bytes short is =
    let front = to_be_bytes w32 (length payload) in
    let apart : bytes ≡ front ++ (payload ++ more) = is ∙ append_assoc front payload more in (
      ap (λ (l : List ℕ). from_be_bytes w32 (take 4 l)) apart ∙ ap (from_be_bytes w32) (take_at front (payload ++ more) 4 refl) ∙ from_be_bytes-to_be_bytes_4 (length payload) short,
      ap (λ (l : List ℕ). drop 4 l) apart ∙ drop_at front (payload ++ more) 4 refl,
    )

-- one record more is taken
pub accepted-push : (accepts : List (List ℕ) → List ℕ → Type 0) (before ps : List (List ℕ)) (p : List ℕ) → AreAccepted accepts before ps → accepts (before ++ ps) p → AreAccepted accepts before (ps ++ p ∷ [])
accepted-push accepts before [] p all fine = (subst (λ (xs : List (List ℕ)). accepts xs p) (append-nil before) fine, tt)
accepted-push accepts before (q ∷ ps) p all fine =
    let moved : before ++ (q ∷ ps) ≡ (before ++ q ∷ []) ++ ps = sym (append_assoc before (q ∷ []) ps) in
    (all.0, accepted-push accepts (before ++ q ∷ []) ps p all.1 (subst (λ (xs : List (List ℕ)). accepts xs p) moved fine))

pub walks : (ps : List (List ℕ)) (p bytes after behind : List ℕ) → bytes ≡ records ps ++ (1 ∷ after) → after ≡ framed p ++ behind → bytes ≡ records (ps ++ p ∷ []) ++ behind
walks ps p bytes after behind so_far is = so_far ∙ ap (λ (l : List ℕ). records ps ++ (1 ∷ l)) is ∙ sym (records-push ps p behind)

-- a byte that isn't 1, and what stands behind it
pub shut_front : (ps : List (List ℕ)) (place : ℕ) (bytes rest : List ℕ) → bytes ≡ records ps ++ rest → 0 < length rest → ((after : List ℕ) → rest ≡ 1 ∷ after → ⊥) → place ≡ length (records ps) → AreShort ps → EndsAt ps place bytes
shut_front ps place bytes [] parts some ended is short = absurd (omega arith)
shut_front ps place bytes (b ∷ rest) parts some ended is short =
    record { mark = b; rest = rest; bytes = parts; ended = λ e. ended rest (ap (λ (k : ℕ). k ∷ rest) e); place_is = is; short = short }
