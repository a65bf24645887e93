-- Nothing was touched that a rebooking of a reservation hangs on.
use Rattle.std.proofs.Common.{◌≡◌, ℕ, ◌<◌, inl, inr, Bool, true, false, ◌&&◌, ◌||◌, eqb, leb, ltb, List, [], ◌∷◌, ◌++◌, ◌+◌, length, get_or, map, take, sym, ap, subst, ◌∙◌}
use Rattle.std.specs.Prelude.{filter}
use Rattle.std.specs.List.{All, list_any}
use Rattle.std.proofs.lemmas.Bool.{cases_Bool, and_cases, and_left, and_right, or_from, true≢false}
use Rattle.std.proofs.lemmas.List.{map-append, take_more}
use Rattle.std.proofs.lemmas.List.Elements.{All-nil, All-cons, All-head, All-tail, All-append, All-contains, filter-append}
use Rattle.std.proofs.lemmas.List.Folds.{list_any_none}
use Rattle.desk_units.specs.declared.numbers.Leg.{Leg}
use Rattle.desk_units.specs.declared.numbers.Cabin.{Cabin}
use Rattle.desk_data.specs.declared.row.Group.{Group}
use Rattle.desk_data.specs.Situation.{Situation, legs_of, reservations_of, leg_at}
use Rattle.desk_data.specs.Booked.{booked_path}
use Rattle.desk_data.specs.PlanRows.{PlanRows, groups_at, row_at}
use Rattle.desk_data.specs.Valid.{IsPlanFor}
use Rattle.desk_rules.specs.Rotations.{dep, arr}
use Rattle.desk_rules.specs.Passengers.{is_flown}
use Rattle.near_moves.specs.Routes.{stems}
use Rattle.near_pax.specs.Start.{place_after, ready_after}
use Rattle.near_memory.specs.Untouched.{IsUntouched, is_on, goes_between, may_begin, may_end, is_in_time, may_use_after, may_use}
use Rattle.near_notes.specs.declared.changes.Changes.{Changes}
use Rattle.near_notes.specs.declared.onward.Outset.{Outset}
use Rattle.near_notes.specs.Changes.{AreAllStill, AreChanges, is_touched}
use Rattle.near_notes.specs.Onward.{IsClear, IsOutsetOf, is_linked, is_soon, may_follow}
use Rattle.near_notes.proofs.StillLaws.{still-off, still-rows}

linked-is : (I : Situation) (Q : PlanRows) (r : ℕ) (stem : List (Leg × Cabin)) (outset : Outset) (x : ℕ) → IsOutsetOf I Q r stem outset → is_linked I outset x ≡ (may_begin I r stem x || may_end I r stem x)
unfolding is_linked
linked-is I Q r stem outset x is =
    ap (λ (from : ℕ). (eqb (leg_at I x).origin.0 from && (eqb (leg_at I x).dest.0 outset.to.0 || goes_between I (leg_at I x).dest.0 outset.to.0)) || (eqb (leg_at I x).dest.0 outset.to.0 && goes_between I from (leg_at I x).origin.0)) is.from
    ∙ ap (λ (to : ℕ). (eqb (leg_at I x).origin.0 (place_after I r stem) && (eqb (leg_at I x).dest.0 to || goes_between I (leg_at I x).dest.0 to)) || (eqb (leg_at I x).dest.0 to && goes_between I (place_after I r stem) (leg_at I x).origin.0)) is.to

soon-is : (I : Situation) (Q : PlanRows) (r : ℕ) (stem : List (Leg × Cabin)) (outset : Outset) (x : ℕ) → IsOutsetOf I Q r stem outset → is_soon I Q outset x ≡ is_in_time I Q r stem x
unfolding is_soon
soon-is I Q r stem outset x is =
    ap (λ (earliest : ℕ). is_flown (row_at Q x) && (leb earliest (dep Q x) && ltb (arr I Q x) outset.until)) is.earliest
    ∙ ap (λ (until : ℕ). is_flown (row_at Q x) && (leb (ready_after I Q r stem) (dep Q x) && ltb (arr I Q x) until)) is.until

-- a leg that was touched is not used after a stem that is clear
unused-after : (I : Situation) (P Q : PlanRows) (changes : Changes) (r x : ℕ) → AreChanges I P Q changes → x < legs_of I → is_touched changes.touched.items x ≡ true → (stem : List (Leg × Cabin)) → IsClear I Q changes r stem → may_use_after I Q r x stem ≡ false
unused-after I P Q changes r x are lt on stem clear =
    let leg : Leg = record { 0 = x } in
    let begins = may_begin I r stem x || may_end I r stem x in
    let none : may_follow I Q clear.outset x ≡ false = All-contains (λ (l : Leg). may_follow I Q clear.outset l.0 ≡ false) changes.legs.items leg clear.unused (are.listed x lt on) in
    let rest : (is_in_time I Q r stem x && begins) ≡ false = elim (and_cases (is_linked I clear.outset x) (is_soon I Q clear.outset x) none) [
      | inl apart ↦ and_right (is_in_time I Q r stem x) begins (sym (linked-is I Q r stem clear.outset x clear.is) ∙ apart)
      | inr late ↦ and_left (is_in_time I Q r stem x) begins (sym (soon-is I Q r stem clear.outset x clear.is) ∙ late)
    ] in
    or_from (is_on stem x) (is_in_time I Q r stem x && begins) (still-off changes.touched.items stem x clear.still on) rest

unused : (I : Situation) (P Q : PlanRows) (changes : Changes) (r x : ℕ) → AreChanges I P Q changes → x < legs_of I → is_touched changes.touched.items x ≡ true → AreAllStill changes.touched.items (booked_path I r) → All (IsClear I Q changes r) (stems I r) → may_use I Q r x ≡ false
unfolding may_use
unused I P Q changes r x are lt on scheduled clear =
    or_from (is_on (booked_path I r) x) (list_any (may_use_after I Q r x) (stems I r))
    (still-off changes.touched.items (booked_path I r) x scheduled on)
    (list_any_none (may_use_after I Q r x) (stems I r) (λ k d within. unused-after I P Q changes r x are lt on (get_or (stems I r) k d) (clear k d within)))

-- the groups are the same, no leg on their paths was touched, none on the scheduled path, and each stem is clear
pub untouched-from : (I : Situation) (P Q : PlanRows) (changes : Changes) (r : ℕ) → AreChanges I P Q changes → IsPlanFor I P → r < reservations_of I → groups_at Q r ≡ groups_at P r → All (λ (group : Group). AreAllStill changes.touched.items group.path) (groups_at P r) → AreAllStill changes.touched.items (booked_path I r) → All (IsClear I Q changes r) (stems I r) → IsUntouched I P Q r
untouched-from I P Q changes r are valid within same paths scheduled clear = record {
  groups = same;
  paths = λ k d lt. still-rows I P Q changes (get_or (groups_at P r) k d).path are ((valid.groups r within).paths k d lt) (paths k d lt);
  legs = λ x lt used. elim (cases_Bool (is_touched changes.touched.items x)) [
    | inl on ↦ absurd (true≢false (sym used ∙ unused I P Q changes r x are lt on scheduled clear))
    | inr off ↦ are.still x lt off
  ];
}

-- ---- the stems that a tally tells, one after another

pub stems-more : {X : Type 0} (Q : List (Leg × Cabin) → Type 0) (p : List (Leg × Cabin) → Bool) (f : X → List (Leg × Cabin)) (first : List (Leg × Cabin)) (items : List X) (i : ℕ) (d : X) → i < length items → (p (f (get_or items i d)) ≡ true → Q (f (get_or items i d))) → All Q (first ∷ filter p (map f (take i items))) → All Q (first ∷ filter p (map f (take (i + 1) items)))
stems-more Q p f first items i d lt own all =
    let x = get_or items i d in
    let before = filter p (map f (take i items)) in
    let is : filter p (map f (take (i + 1) items)) ≡ before ++ filter p (f x ∷ []) =
    ap (λ (xs : List _). filter p (map f xs)) (take_more items i d lt)
    ∙ ap (filter p) (map-append f (take i items) (x ∷ []))
    ∙ filter-append p (map f (take i items)) (f x ∷ []) in
    let last : All Q (filter p (f x ∷ [])) = elim (cases_Bool (p (f x))) [
      | inl on ↦ rw on (All-cons Q (f x) [] (own on) (All-nil Q))
      | inr off ↦ rw off (All-nil Q)
    ] in
    All-cons Q first (filter p (map f (take (i + 1) items))) (All-head Q first before all)
    (subst (All Q) (sym is) (All-append Q before (filter p (f x ∷ [])) (All-tail Q first before all) last))
