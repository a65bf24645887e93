-- What a crash may leave behind a write and behind a sync.
use Rattle.std.proofs.Common.{◌≡◌, ◌⊎◌, inl, inr, ℕ, ◌+◌, ◌-◌, ◌<◌, ◌≤◌, List, [], ◌∷◌, ◌++◌, length, get_or, take, drop, refl, sym, ◌∙◌, ap, subst, arith}
use Rattle.std.specs.Prelude.{max}
use Rattle.std.proofs.lemmas.Grind.{same_number_lists}
use Rattle.std.proofs.lemmas.List.{length-take, length-take-le, length-drop, length-append, get_or_append_left, get_or-append_right, get_or-take, get_or-drop}
use Rattle.desk_disk.specs.FileStates.{FileState, MayLeave, HasNothingPending, IsOutside, put_at, after_write, after_sync}
use Rattle.desk_disk.specs.Crashes.{IsTorn}

put-below : (at : ℕ) (new old : List ℕ) (k : ℕ) → at ≤ length old → k < at → get_or (put_at at new old) k 0 ≡ get_or old k 0
put-below at new old k le lt =
    let in_front : k < length (take at old) = omega (arith, length-take at old) in
    get_or_append_left (take at old) (new ++ drop (at + length new) old) 0 k in_front ∙ get_or-take at old k 0 lt

put-above : (at : ℕ) (new old : List ℕ) (k : ℕ) → at ≤ length old → at + length new ≤ k → get_or (put_at at new old) k 0 ≡ get_or old k 0
put-above at new old k le ge =
    let place : (at + length new) + ((k - at) - length new) ≡ k = omega arith in
    get_or-append_right (take at old) (new ++ drop (at + length new) old) at k 0 (length-take-le at old le) (omega arith)
    ∙ get_or-append_right new (drop (at + length new) old) (length new) (k - at) 0 refl (omega arith)
    ∙ get_or-drop (at + length new) old ((k - at) - length new) 0
    ∙ ap (λ (i : ℕ). get_or old i 0) place

pub length-put : (at : ℕ) (new old : List ℕ) → at ≤ length old → length (put_at at new old) ≡ max (length old) (at + length new)
length-put at new old le =
    omega (arith, length-append (take at old) (new ++ drop (at + length new) old), length-append new (drop (at + length new) old), length-take at old, length-drop (at + length new) old)

-- a crash leaves what a read gives where nothing is pending
pub nothing_pending_is : (h : FileState) (c : List ℕ) → HasNothingPending h → MayLeave h c → c ≡ h.bytes
nothing_pending_is h c nothing_pending left =
    same_number_lists c h.bytes (omega (arith, nothing_pending.whole, left.no_shorter, left.no_longer)) (λ k lt. left.outside k lt (subst (IsOutside k) (sym nothing_pending.nothing) tt))

pub nothing_pending_synced : (h : FileState) → HasNothingPending (after_sync h)
nothing_pending_synced h = record { nothing = refl; whole = refl }

-- of a file with nothing pending, a write leaves this
pub torn : (h : FileState) (at room : ℕ) (new c : List ℕ) → HasNothingPending h → at ≤ length h.bytes → length new ≤ room → MayLeave (after_write at room new h) c → IsTorn at room h.bytes c
torn h at room new c nothing_pending le fits left =
    let size = length-put at new h.bytes le in
    let out : (i : ℕ) → (i < at) ⊎ (at + room ≤ i) → IsOutside i ((at, room) ∷ h.pending) = λ i o. (o, subst (IsOutside i) (sym nothing_pending.nothing) tt) in
    let long : length h.bytes ≤ length c = omega (arith, nothing_pending.whole, left.no_shorter) in
    let short : length c ≤ max (length h.bytes) (at + length new) = omega (arith, left.no_longer, size) in
    record {
      before = same_number_lists (take at c) (take at h.bytes) (omega (arith, length-take at c, length-take at h.bytes)) (λ k lt.
          let below : k < at = omega (arith, length-take at c) in
          let within : k < length c = omega (arith, length-take at c) in
          get_or-take at c k 0 below ∙ left.outside k within (out k (inl below)) ∙ put-below at new h.bytes k le below ∙ sym (get_or-take at h.bytes k 0 below));
      after = same_number_lists (drop (at + room) c) (drop (at + room) h.bytes) (omega (arith, length-drop (at + room) c, length-drop (at + room) h.bytes)) (λ k lt.
          let within : (at + room) + k < length c = omega (arith, length-drop (at + room) c) in
          let above : at + room ≤ (at + room) + k = omega arith in
          get_or-drop (at + room) c k 0 ∙ left.outside ((at + room) + k) within (out ((at + room) + k) (inr above)) ∙ put-above at new h.bytes ((at + room) + k) le (omega arith) ∙ sym (get_or-drop (at + room) h.bytes k 0));
      no_shorter = long;
      no_longer = omega arith;
    }

-- what is written itself, and what stood before
pub torn_whole : (at : ℕ) (new old : List ℕ) → at ≤ length old → IsTorn at (length new) old (put_at at new old)
torn_whole at new old le =
    let h : FileState = record { bytes = old; pending = []; synced = length old } in
    torn h at (length new) new (put_at at new old) (record { nothing = refl; whole = refl }) le (omega arith)
    (record { no_shorter = omega (arith, length-put at new old le); no_longer = omega arith; outside = λ i lt out. refl })

pub torn_none : (at n : ℕ) (old : List ℕ) → IsTorn at n old old
torn_none at n old = record { before = refl; after = refl; no_shorter = omega arith; no_longer = omega arith }
