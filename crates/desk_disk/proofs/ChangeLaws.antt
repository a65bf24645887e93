-- The file in memory after one call more.
use Rattle.std.proofs.Common.{◌≡◌, ◌⊎◌, inl, inr, ℕ, ◌+◌, ◌-◌, ◌<◌, ◌≤◌, List, [], ◌∷◌, ◌++◌, length, take, drop, refl, sym, ◌∙◌, ap, arith}
use Rattle.std.specs.Prelude.{min}
use Rattle.std.proofs.lemmas.Bool.{cases_lt}
use Rattle.std.proofs.lemmas.List.{append-nil, drop_all, drop_at, length-take-le, take-append-drop, take-append-le, take_all}
use Rattle.desk_disk.specs.FileStates.{FileState, DiskSide, changed, put_at}
use Rattle.desk_disk.specs.declared.changes.Change.{Change}
use Rattle.desk_disk.specs.Memory.{after_change, state_after, states_before, side_after}

pub state_pushed : (h : FileState) (changes : List Change) (change : Change) → state_after h (changes ++ change ∷ []) ≡ after_change (state_after h changes) change
state_pushed h [] change = refl
state_pushed h (c ∷ changes) change = state_pushed (after_change h c) changes change

states_pushed : (h : FileState) (changes : List Change) (change : Change) → states_before h (changes ++ change ∷ []) ≡ states_before h changes ++ state_after h changes ∷ []
states_pushed h [] change = refl
states_pushed h (c ∷ changes) change = ap (λ (l : List FileState). h ∷ l) (states_pushed (after_change h c) changes change)

-- the disk is changed by that call
pub side_pushed : (h : FileState) (changes : List Change) (change : Change) → side_after h (changes ++ change ∷ []) ≡ changed (after_change (state_after h changes) change) (side_after h changes)
side_pushed h changes change = cc (state_pushed h changes change, states_pushed h changes change)

-- ---- bytes put over those that stand, and past the end, in two steps

put_within : (at : ℕ) (new old : List ℕ) (k : ℕ) → length new ≤ k → put_at at (take k new) (old ++ drop k new) ≡ put_at at new old
put_within at new old k le =
    let back : old ++ drop k new ≡ old = ap (λ (l : List ℕ). old ++ l) (drop_all k new le) ∙ append-nil old in
    ap (λ (l : List ℕ). put_at at l (old ++ drop k new)) (take_all k new le) ∙ ap (put_at at new) back

put_past : (at : ℕ) (new old : List ℕ) (k : ℕ) → at ≤ length old → k ≡ length old - at → k ≤ length new → put_at at (take k new) (old ++ drop k new) ≡ put_at at new old
put_past at new old k le is fits =
    let over = take k new in
    let past = drop k new in
    let size : at + length over ≡ length old = omega (arith, is, length-take-le k new fits) in
    let front : take at (old ++ past) ≡ take at old = take-append-le at old past le in
    let back : drop (at + length over) (old ++ past) ≡ past = ap (λ (n : ℕ). drop n (old ++ past)) size ∙ drop_at old past (length old) refl in
    let none : drop (at + length new) old ≡ [] = drop_all (at + length new) old (omega (arith, is, fits)) in
    ap (λ (l : List ℕ). l ++ (over ++ drop (at + length over) (old ++ past))) front
    ∙ ap (λ (l : List ℕ). take at old ++ (over ++ l)) back
    ∙ ap (λ (l : List ℕ). take at old ++ l) (take-append-drop k new ∙ sym (append-nil new) ∙ ap (λ (l : List ℕ). new ++ l) (sym none))

pub put_in_parts : (at : ℕ) (new old : List ℕ) (k : ℕ) → at ≤ length old → k ≡ min (length new) (length old - at) → put_at at (take k new) (old ++ drop k new) ≡ put_at at new old
put_in_parts at new old k le is = elim (cases_lt k (length new)) [
  | inl lt ↦ put_past at new old k le (omega (arith, is, lt)) (omega (arith, lt))
  | inr ge ↦ put_within at new old k (omega (arith, ge))
]
