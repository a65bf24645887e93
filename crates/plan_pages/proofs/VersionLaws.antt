-- A version that is left alone stays as it was.
use Rattle.std.proofs.Common.{◌≡◌, ◌≢◌, ℕ, suc, ◌+◌, ◌-◌, ◌<◌, Bool, true, false, cond, List, [], ◌∷◌, length, take, drop, refl, ap, ◌∙◌, arith, length-append}
use Rattle.std.specs.Prelude.{nat_lt}
use Rattle.std.proofs.lemmas.Bool.{ltb-true, ltb-false}
use Rattle.std.proofs.lemmas.List.{get_or_append_left, get_or-set_other, get_or-take, length-set, length-take}
use Rattle.std.proofs.lemmas.List.Edits.{get_or-remove_above, length-remove}
use Rattle.std.specs.List.{remove}
use Rattle.desk_data.specs.PlanRows.{PlanRows}
use Rattle.plan_pages.specs.Versions.{VersionChange, shared, dropped, replaced, no_plan, version_at, after_version_change, after_version_changes, place_after, place_after_all, LeavesAlone, AllLeaveAlone}

-- before the one that is dropped each stands where it stood
stands_before : (versions : List PlanRows) (which k : ℕ) → k < length versions → k < which → version_at (remove versions which) k ≡ version_at versions k
stands_before versions which k lt before =
    let long = length-take which versions in
    get_or_append_left (take which versions) (drop (suc which) versions) no_plan k (omega (arith, long, lt, before)) ∙ get_or-take which versions k no_plan before

stands_within : (versions : List PlanRows) (which k : ℕ) → k < length versions → k < which → k < length (remove versions which)
stands_within versions which k lt before =
    let long = length-take which versions in
    omega (arith, long, lt, before, length-append (take which versions) (drop (suc which) versions))

apart_before : (which k : ℕ) → k ≢ which → nat_lt which k ≡ false → k < which
apart_before which k apart not_after = (let le = ltb-false which k not_after in omega (arith, le, apart))

dropped_stays : (versions : List PlanRows) (which k : ℕ) (after : Bool) → k < length versions → k ≢ which → nat_lt which k ≡ after → version_at (remove versions which) (cond after (k - 1) k) ≡ version_at versions k
dropped_stays versions which k true lt apart is =
    let above = ltb-true which k is in
    let back : k - 1 + 1 ≡ k = omega (arith, above) in
    get_or-remove_above versions which no_plan (k - 1) (omega (arith, above)) (omega (arith, above, lt)) ∙ ap (λ n. version_at versions n) back
dropped_stays versions which k false lt apart is = stands_before versions which k lt (apart_before which k apart is)

dropped_within : (versions : List PlanRows) (which k : ℕ) (after : Bool) → k < length versions → k ≢ which → nat_lt which k ≡ after → cond after (k - 1) k < length (remove versions which)
dropped_within versions which k true lt apart is =
    let above = ltb-true which k is in
    let long = length-remove versions which (omega (arith, above, lt)) in
    omega (arith, above, lt, long)
dropped_within versions which k false lt apart is = stands_within versions which k lt (apart_before which k apart is)

within_after : (versions : List PlanRows) (change : VersionChange) (k : ℕ) → k < length versions → LeavesAlone k change → place_after k change < length (after_version_change versions change)
within_after versions (shared which) k lt alone = omega (arith, lt, length-append versions (version_at versions which ∷ []))
within_after versions (dropped which) k lt apart = dropped_within versions which k (nat_lt which k) lt apart refl
within_after versions (replaced which P) k lt apart = omega (arith, lt, length-set versions which P)

one_stays : (versions : List PlanRows) (change : VersionChange) (k : ℕ) → k < length versions → LeavesAlone k change → version_at (after_version_change versions change) (place_after k change) ≡ version_at versions k
one_stays versions (shared which) k lt alone = get_or_append_left versions (version_at versions which ∷ []) no_plan k lt
one_stays versions (dropped which) k lt apart = dropped_stays versions which k (nat_lt which k) lt apart refl
one_stays versions (replaced which P) k lt apart = get_or-set_other versions which k P no_plan apart

pub all_stay : (versions : List PlanRows) (changes : List VersionChange) (k : ℕ) → k < length versions → AllLeaveAlone k changes → version_at (after_version_changes versions changes) (place_after_all k changes) ≡ version_at versions k
all_stay versions [] k lt alone = refl
all_stay versions (change ∷ later) k lt alone =
    all_stay (after_version_change versions change) later (place_after k change) (within_after versions change k lt alone.0) alone.1
    ∙ one_stays versions change k lt alone.0
