-- What a stopped append leaves.
use Rattle.std.proofs.Common.{◌≡◌, ◌⊎◌, inl, inr, ℕ, List, [], ◌∷◌, ◌++◌, length, sym, ◌∙◌, ap, subst, append_assoc}
use Rattle.std.specs.Prelude.{Option, Some, None}
use Rattle.std.proofs.lemmas.List.{append-nil}
use Rattle.desk_disk.specs.FileStates.{FileState, MayLeave}
use Rattle.desk_disk.proofs.Torn.{nothing_pending_is}
use Rattle.desk_disk.specs.Records.{records, AreAccepted, IsDamagedAt, Opens}
use Rattle.desk_disk.specs.Files.{HasEndMark, IsWithOrWithout, IsAtRest, OpensAs}
use Rattle.desk_disk.proofs.Unique.{whole_opens, ended_opens, opened_undamaged, opens_one_way}

without_is : (ps qs : List (List ℕ)) (p c : List ℕ) (a : OpensAs ps None c) → qs ≡ a.found → (a.found ≡ ps) ⊎ ((payload : List ℕ) × (None ≡ Some payload) × (a.found ≡ ps ++ payload ∷ [])) → (qs ≡ ps) ⊎ (qs ≡ ps ++ p ∷ [])
without_is ps qs p c a same (inl is) = inl (same ∙ is)
without_is ps qs p c a same (inr more) = let never : None ≡ Some more.0 = more.1 in absurd cc

with_is : (ps qs : List (List ℕ)) (p c : List ℕ) (a : OpensAs ps (Some p) c) → qs ≡ a.found → (a.found ≡ ps) ⊎ ((payload : List ℕ) × (Some p ≡ Some payload) × (a.found ≡ ps ++ payload ∷ [])) → (qs ≡ ps) ⊎ (qs ≡ ps ++ p ∷ [])
with_is ps qs p c a same (inl is) = inl (same ∙ is)
with_is ps qs p c a same (inr more) =
    let given : Some p ≡ Some more.0 = more.1 in
    let one : p ≡ more.0 = cc in
    inr (same ∙ more.2 ∙ ap (λ (q : List ℕ). ps ++ q ∷ []) (sym one))

pub stopped_is : (ps qs : List (List ℕ)) (p c : List ℕ) (k : ℕ) → IsWithOrWithout ps p c → Opens qs k c → (qs ≡ ps) ⊎ (qs ≡ ps ++ p ∷ [])
stopped_is ps qs p c k (inl whole) opens = let a = whole_opens ps None c whole in without_is ps qs p c a (opens_one_way qs a.found k a.place c opens a.opens).0 a.which
stopped_is ps qs p c k (inr whole) opens = let a = whole_opens ps (Some p) c whole in with_is ps qs p c a (opens_one_way qs a.found k a.place c opens a.opens).0 a.which

pub acknowledged_is : (ps qs : List (List ℕ)) (place k : ℕ) (h : FileState) (c : List ℕ) → IsAtRest ps place h → MayLeave h c → Opens qs k c → qs ≡ ps
acknowledged_is ps qs place k h c rest left opens =
    let ends = subst (HasEndMark ps) (sym (nothing_pending_is h c rest.nothing_pending left)) rest.ends in
    (opens_one_way qs ps k (length (records ps)) c opens (ended_opens ps c ends)).0

-- ---- and never damage

-- some payloads, and a place, as which it opens
abbrev Found : List ℕ → Type 0
Found c = (found : List (List ℕ)) × (place : ℕ) × Opens found place c

either_opens : (ps : List (List ℕ)) (p c : List ℕ) → IsWithOrWithout ps p c → Found c
either_opens ps p c (inl whole) = let a = whole_opens ps None c whole in (a.found, a.place, a.opens)
either_opens ps p c (inr whole) = let a = whole_opens ps (Some p) c whole in (a.found, a.place, a.opens)

pub accepted_front : (accepts : List (List ℕ) → List ℕ → Type 0) (before xs ys : List (List ℕ)) → AreAccepted accepts before (xs ++ ys) → AreAccepted accepts before xs
accepted_front accepts before [] ys all = tt
accepted_front accepts before (x ∷ xs) ys all = (all.0, accepted_front accepts (before ++ x ∷ []) xs ys all.1)

-- and those behind them behind these
pub accepted_behind : (accepts : List (List ℕ) → List ℕ → Type 0) (before xs ys : List (List ℕ)) → AreAccepted accepts before (xs ++ ys) → AreAccepted accepts (before ++ xs) ys
accepted_behind accepts before [] ys all = subst (λ (front : List (List ℕ)). AreAccepted accepts front ys) (sym (append-nil before)) all
accepted_behind accepts before (x ∷ xs) ys all = subst (λ (front : List (List ℕ)). AreAccepted accepts front ys) (append_assoc before (x ∷ []) xs) (accepted_behind accepts (before ++ x ∷ []) xs ys all.1)

pub accepted_joins : (accepts : List (List ℕ) → List ℕ → Type 0) (before xs ys : List (List ℕ)) → AreAccepted accepts before xs → AreAccepted accepts (before ++ xs) ys → AreAccepted accepts before (xs ++ ys)
accepted_joins accepts before [] ys first others = subst (λ (front : List (List ℕ)). AreAccepted accepts front ys) (append-nil before) others
accepted_joins accepts before (x ∷ xs) ys first others = (first.0, accepted_joins accepts (before ++ x ∷ []) xs ys first.1 (subst (λ (front : List (List ℕ)). AreAccepted accepts front ys) (sym (append_assoc before (x ∷ []) xs)) others))

-- what is accepted is accepted by any that accepts as much
pub accepted_by : (accepts other : List (List ℕ) → List ℕ → Type 0) (before ps : List (List ℕ)) → ((front : List (List ℕ)) (p : List ℕ) → accepts front p → other front p) → AreAccepted accepts before ps → AreAccepted other before ps
accepted_by accepts other before [] more all = tt
accepted_by accepts other before (p ∷ ps) more all = (more before p all.0, accepted_by accepts other (before ++ p ∷ []) ps more all.1)

found_accepted : (accepts : List (List ℕ) → List ℕ → Type 0) (ps found : List (List ℕ)) (p : List ℕ) → AreAccepted accepts [] (ps ++ p ∷ []) → (found ≡ ps) ⊎ (found ≡ ps ++ p ∷ []) → AreAccepted accepts [] found
found_accepted accepts ps found p all (inl is) = subst (AreAccepted accepts []) (sym is) (accepted_front accepts [] ps (p ∷ []) all)
found_accepted accepts ps found p all (inr is) = subst (AreAccepted accepts []) (sym is) all

pub stopped_undamaged : (accepts : List (List ℕ) → List ℕ → Type 0) (ps qs : List (List ℕ)) (p c : List ℕ) (l : ℕ) → IsWithOrWithout ps p c → AreAccepted accepts [] (ps ++ p ∷ []) → IsDamagedAt accepts qs l c → ⊥
stopped_undamaged accepts ps qs p c l whole all damage =
    let a = either_opens ps p c whole in
    opened_undamaged accepts a.0 qs a.1 l c a.2 (found_accepted accepts ps a.0 p all (stopped_is ps a.0 p c a.1 whole a.2)) damage
