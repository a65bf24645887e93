-- A file opens in one way.
use Rattle.std.proofs.Common.{◌≡◌, ◌≢◌, inl, inr, ℕ, ◌^◌, ◌<◌, ◌≤◌, List, [], ◌∷◌, ◌++◌, length, refl, sym, ◌∙◌, ap, subst, arith, append_assoc}
use Rattle.std.specs.Prelude.{Option, Some, None}
use Rattle.std.proofs.lemmas.Bool.{cases_eq}
use Rattle.std.proofs.lemmas.List.{length-append}
use Rattle.desk_disk.specs.Records.{framed, records, AreShort, AreAccepted, EndsAt, HasNoRecords, Opens, IsDamagedAt}
use Rattle.desk_disk.specs.Files.{HasEndMark, IsStaged, IsWhole, OpensAs}
use Rattle.desk_disk.proofs.Spelled.{records-cons, records-push, framed_front, length-framed, short-push}

abbrev head_of : List ℕ → ℕ
head_of [] = 0
head_of (b ∷ bytes) = b

abbrev tail_of : List ℕ → List ℕ
tail_of [] = []
tail_of (b ∷ bytes) = bytes

same_records : (ps qs : List (List ℕ)) (g h : ℕ) (r s : List ℕ) → AreShort ps → AreShort qs → g ≢ 1 → h ≢ 1 → records ps ++ (g ∷ r) ≡ records qs ++ (h ∷ s) → ps ≡ qs
same_records [] [] g h r s p-short q-short p-ended q-ended same = refl
same_records [] (q ∷ qs) g h r s p-short q-short p-ended q-ended same = absurd (p-ended (ap head_of (same ∙ records-cons q qs (h ∷ s))))
same_records (p ∷ ps) [] g h r s p-short q-short p-ended q-ended same = absurd (q-ended (ap head_of (sym same ∙ records-cons p ps (g ∷ r))))
same_records (p ∷ ps) (q ∷ qs) g h r s p-short q-short p-ended q-ended same =
    let behind : framed p ++ (records ps ++ (g ∷ r)) ≡ framed q ++ (records qs ++ (h ∷ s)) = ap tail_of (sym (records-cons p ps (g ∷ r)) ∙ same ∙ records-cons q qs (h ∷ s)) in
    let parts = framed_front p q (records ps ++ (g ∷ r)) (records qs ++ (h ∷ s)) p-short.0 q-short.0 behind in
    let rest : ps ≡ qs = same_records ps qs g h r s p-short.1 q-short.1 p-ended q-ended parts.1 in
    ap (λ (x : List ℕ). x ∷ ps) parts.0 ∙ ap (λ (xs : List (List ℕ)). q ∷ xs) rest

-- a file of at most one byte has no record
few_records : (ps : List (List ℕ)) (g : ℕ) (r : List ℕ) → length (records ps ++ (g ∷ r)) ≤ 1 → ps ≡ []
few_records [] g r few = refl
few_records (p ∷ ps) g r few =
    let long = ap length (records-cons p ps (g ∷ r)) in
    absurd (omega (arith, long, few, length-append (framed p) (records ps ++ (g ∷ r)), length-framed p))

no_records : (ps : List (List ℕ)) → ps ≡ [] → length (records ps) ≡ 0
no_records ps none = ap (λ (xs : List (List ℕ)). length (records xs)) none

bare_ends : (ps qs : List (List ℕ)) (k : ℕ) (c : List ℕ) → EndsAt ps k c → HasNoRecords qs c → (ps ≡ qs) × (k ≡ 0)
bare_ends ps qs k c ends bare =
    let none : ps ≡ [] = few_records ps ends.mark ends.rest (subst (λ (l : List ℕ). length l ≤ 1) ends.bytes bare.few) in
    (none ∙ sym bare.none, ends.place_is ∙ no_records ps none)

pub opens_one_way : (ps qs : List (List ℕ)) (k l : ℕ) (c : List ℕ) → Opens ps k c → Opens qs l c → (ps ≡ qs) × (k ≡ l)
opens_one_way ps qs k l c (inl p) (inl q) =
    let same : ps ≡ qs = same_records ps qs p.mark q.mark p.rest q.rest p.short q.short p.ended q.ended (sym p.bytes ∙ q.bytes) in
    (same, p.place_is ∙ ap (λ (xs : List (List ℕ)). length (records xs)) same ∙ sym q.place_is)
opens_one_way ps qs k l c (inl p) (inr q) = let e = bare_ends ps qs k c p q.0 in (e.0, e.1 ∙ sym q.1)
opens_one_way ps qs k l c (inr p) (inl q) = let e = bare_ends qs ps l c q p.0 in (sym e.0, p.1 ∙ sym e.1)
opens_one_way ps qs k l c (inr p) (inr q) = (p.0.none ∙ sym q.0.none, p.1 ∙ sym q.1)

-- where records of accepted payloads end with another byte than 1, no record among them is refused
not_refused : (accepts : List (List ℕ) → List ℕ → Type 0) (before ps qs : List (List ℕ)) (g : ℕ) (r s : List ℕ) → AreShort ps → AreShort qs → AreAccepted accepts before ps → g ≢ 1
    → ((payload more : List ℕ) → s ≡ framed payload ++ more → length payload < 2 ^ 32 → 0 < length more → accepts (before ++ qs) payload → ⊥)
    → records ps ++ (g ∷ r) ≡ records qs ++ (1 ∷ s) → ⊥
not_refused accepts before [] [] g r s p-short q-short all ended none same = ended (ap head_of same)
not_refused accepts before [] (q ∷ qs) g r s p-short q-short all ended none same = ended (ap head_of (same ∙ records-cons q qs (1 ∷ s)))
not_refused accepts before (p ∷ ps) [] g r s p-short q-short all ended none same =
    let behind : framed p ++ (records ps ++ (g ∷ r)) ≡ s = ap tail_of (sym (records-cons p ps (g ∷ r)) ∙ same) in
    none p (records ps ++ (g ∷ r)) (sym behind) p-short.0 (omega (arith, length-append (records ps) (g ∷ r))) (subst (λ (xs : List (List ℕ)). accepts xs p) (sym (append_nil before)) all.0)
  where
    append_nil : (xs : List (List ℕ)) → xs ++ [] ≡ xs
    append_nil [] = refl
    append_nil (x ∷ xs) = ap (λ (ys : List (List ℕ)). x ∷ ys) (append_nil xs)
not_refused accepts before (p ∷ ps) (q ∷ qs) g r s p-short q-short all ended none same =
    let behind : framed p ++ (records ps ++ (g ∷ r)) ≡ framed q ++ (records qs ++ (1 ∷ s)) = ap tail_of (sym (records-cons p ps (g ∷ r)) ∙ same ∙ records-cons q qs (1 ∷ s)) in
    let parts = framed_front p q (records ps ++ (g ∷ r)) (records qs ++ (1 ∷ s)) p-short.0 q-short.0 behind in
    let moved : before ++ (q ∷ qs) ≡ (before ++ p ∷ []) ++ qs = sym (append_assoc before (q ∷ []) qs) ∙ ap (λ (x : List ℕ). (before ++ x ∷ []) ++ qs) (sym parts.0) in
    not_refused accepts (before ++ p ∷ []) ps qs g r s p-short.1 q-short.1 all.1 ended
    (λ payload more is short some fine. none payload more is short some (subst (λ (xs : List (List ℕ)). accepts xs payload) (sym moved) fine)) parts.1

pub opened_undamaged : (accepts : List (List ℕ) → List ℕ → Type 0) (ps qs : List (List ℕ)) (k l : ℕ) (c : List ℕ) → Opens ps k c → AreAccepted accepts [] ps → IsDamagedAt accepts qs l c → ⊥
opened_undamaged accepts ps qs k l c (inl p) all d = not_refused accepts [] ps qs p.mark p.rest d.rest p.short d.short all p.ended d.none (sym p.bytes ∙ d.bytes)
opened_undamaged accepts ps qs k l c (inr p) all d = omega (arith, p.0.few, d.long)

-- a file with an end mark opens as its payloads
pub ended_opens : (ps : List (List ℕ)) (c : List ℕ) → HasEndMark ps c → Opens ps (length (records ps)) c
ended_opens ps c ends = inl (record { mark = 0; rest = ends.rest; bytes = ends.bytes; ended = omega arith; place_is = refl; short = ends.short })

-- the mark is a 1: then an end mark stands behind the next payload
pub staged_open : (ps : List (List ℕ)) (p c : List ℕ) (s : IsStaged ps p c) → s.mark ≡ 1 → HasEndMark (ps ++ p ∷ []) c
staged_open ps p c s is = record {
  rest = s.rest;
  bytes = s.bytes ∙ ap (λ (g : ℕ). records ps ++ (g ∷ (framed p ++ (0 ∷ s.rest)))) is ∙ sym (records-push ps p (0 ∷ s.rest));
  short = short-push ps p s.short s.next_short;
}

pub staged_ended : (ps : List (List ℕ)) (p c : List ℕ) (s : IsStaged ps p c) → s.mark ≢ 1 → EndsAt ps (length (records ps)) c
staged_ended ps p c s ended = record { mark = s.mark; rest = framed p ++ (0 ∷ s.rest); bytes = s.bytes; ended = ended; place_is = refl; short = s.short }

pub whole_opens : (ps : List (List ℕ)) (next : Option (List ℕ)) (c : List ℕ) → IsWhole ps next c → OpensAs ps next c
whole_opens ps None c (inl ends) = record { found = ps; place = length (records ps); opens = ended_opens ps c ends; which = inl refl }
whole_opens ps None c (inr bare) = record { found = ps; place = 0; opens = inr (bare, refl); which = inl refl }
whole_opens ps (Some p) c s = elim (cases_eq s.mark 1) [
  | inl is ↦ record {
    found = ps ++ p ∷ [];
    place = length (records (ps ++ p ∷ []));
    opens = ended_opens (ps ++ p ∷ []) c (staged_open ps p c s is);
    which = inr (p, refl, refl);
  }
  | inr ended ↦ record { found = ps; place = length (records ps); opens = inl (staged_ended ps p c s ended); which = inl refl }
]
