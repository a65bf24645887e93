-- The rules that speak of one leg's row: C1, C2, C3, C4 and C7.
use Rattle.std.proofs.Common.{◌≡◌, ℕ, ◌+◌, ◌≤◌, inl, inr, Bool, true, false, ◌&&◌, ◌||◌, not, ltb, eqb, leb, List, [], ◌∷◌, refl, sym, ap, subst, ◌∙◌}
use Rattle.std.specs.Prelude.{Option, None, Some, bytes_eq}
use Rattle.std.specs.List.{AllByRecursion, list_any}
use Rattle.std.proofs.lemmas.Bool.{and_parts, and_from, not-true, not_from_false, cases_Bool, or_cases, or_parts, or_from, or_left, or_right, true≢false, false_from_ne_true, ltb-true, eqb-true, leb-true, lt-ltb, eq-eqb, le-leb}
use Rattle.std.proofs.lemmas.List.Elements.{All-from_recursion, recursion_from_All}
use Rattle.std.proofs.lemmas.Slice.Eq.{bytes_eq-Decides}
use Rattle.desk_units.specs.declared.numbers.Minute.{Minute}
use Rattle.desk_units.specs.declared.numbers.Plane.{Plane}
use Rattle.desk_data.specs.declared.row.Row.{Row}
use Rattle.desk_data.specs.declared.row.Row.TheVariants.{Flown, Cancelled}
use Rattle.desk_data.specs.Situation.{Situation, leg_at, plane_at, fixed, called_off, earliest, latest, due, spans}
use Rattle.desk_data.specs.PlanRows.{PlanRows, row_at}
use Rattle.desk_rules.specs.Rows.{is_row}
use Rattle.desk_rules.specs.Rules.{c1_due, departs_in_time, c3_family, c4_range, c7_service, meets_span, keeps_c1, keeps_c2, keeps_c3, keeps_c4, keeps_c7}
use Rattle.desk_rules.specs.Words.{Flies, MeetsSpan, MeetsC1, MeetsC2, MeetsC3, MeetsC4, MeetsC7}

-- ---- C1

pub is_row-holds : (r s : Row) → is_row r s ≡ true → s ≡ r
is_row-holds (Flown p d) (Flown q e) h =
    let parts = and_parts (eqb p.0 q.0) (eqb d.0 e.0) h in
    ap (λ (k : ℕ). let plane : Plane = record { 0 = k } in Flown plane e) (sym (eqb-true p.0 q.0 parts.0))
    ∙ ap (λ (k : ℕ). let at : Minute = record { 0 = k } in Flown p at) (sym (eqb-true d.0 e.0 parts.1))
is_row-holds (Flown p d) Cancelled h = absurd (true≢false (sym h))
is_row-holds Cancelled (Flown q e) h = absurd (true≢false (sym h))
is_row-holds Cancelled Cancelled h = refl

pub is_row-from : (r : Row) → is_row r r ≡ true
is_row-from (Flown p d) = and_from (eqb p.0 p.0) (eqb d.0 d.0) (eq-eqb p.0 p.0 refl) (eq-eqb d.0 d.0 refl)
is_row-from Cancelled = refl

c1_due-holds : (asked : Option Row) (row other : Row) → c1_due asked row ≡ true → asked ≡ Some other → row ≡ other
c1_due-holds None row other h is = absurd cc
c1_due-holds (Some r) row other h is = is_row-holds r row h ∙ (let same : r ≡ other = cc in same)

c1_due-from : (asked : Option Row) (row : Row) → ((other : Row) → asked ≡ Some other → row ≡ other) → c1_due asked row ≡ true
c1_due-from None row h = refl
c1_due-from (Some r) row h = subst (λ (s : Row). is_row r s ≡ true) (sym (h r refl)) (is_row-from r)

pub keeps_c1-holds : (I : Situation) (P : PlanRows) (x : ℕ) → keeps_c1 I P x ≡ true → MeetsC1 I P x
unfolding keeps_c1
keeps_c1-holds I P x h row is = c1_due-holds (due I x) (row_at P x) row h is

pub keeps_c1-from : (I : Situation) (P : PlanRows) (x : ℕ) → MeetsC1 I P x → keeps_c1 I P x ≡ true
unfolding keeps_c1
keeps_c1-from I P x h = c1_due-from (due I x) (row_at P x) h

-- ---- C2

departs_in_time-holds : (I : Situation) (P : PlanRows) (x p d : ℕ) → Flies P x p d → departs_in_time I x (row_at P x) ≡ true → (called_off I x ≡ false) × (earliest I x ≤ d) × (d ≤ latest I x)
departs_in_time-holds I P x p d flown h =
    let here : (not (called_off I x) && leb (earliest I x) d && leb d (latest I x)) ≡ true = rw flown at h in
    let outer = and_parts (not (called_off I x) && leb (earliest I x) d) (leb d (latest I x)) here in
    let inner = and_parts (not (called_off I x)) (leb (earliest I x) d) outer.0 in
    (not-true (called_off I x) inner.0, leb-true (earliest I x) d inner.1, leb-true d (latest I x) outer.1)

departs_in_time-from : (I : Situation) (x : ℕ) (r : Row) → ((p d : ℕ) → r ≡ Flown (record { 0 = p }) (record { 0 = d }) → (called_off I x ≡ false) × (earliest I x ≤ d) × (d ≤ latest I x)) → departs_in_time I x r ≡ true
departs_in_time-from I x (Flown p d) h =
    let facts = h p.0 d.0 refl in
    and_from (not (called_off I x) && leb (earliest I x) d.0) (leb d.0 (latest I x))
    (and_from (not (called_off I x)) (leb (earliest I x) d.0) (not_from_false (called_off I x) facts.0) (le-leb (earliest I x) d.0 facts.1))
    (le-leb d.0 (latest I x) facts.2)
departs_in_time-from I x Cancelled h = refl

pub keeps_c2-holds : (I : Situation) (P : PlanRows) (x : ℕ) → keeps_c2 I P x ≡ true → MeetsC2 I P x
unfolding keeps_c2
keeps_c2-holds I P x h movable p d flown =
    elim (or_cases (fixed I x) (departs_in_time I x (row_at P x)) h) [
      | inl stays ↦ absurd (true≢false (sym stays ∙ movable))
      | inr in_time ↦ departs_in_time-holds I P x p d flown in_time
    ]

pub keeps_c2-from : (I : Situation) (P : PlanRows) (x : ℕ) → MeetsC2 I P x → keeps_c2 I P x ≡ true
unfolding keeps_c2
keeps_c2-from I P x h =
    elim (cases_Bool (fixed I x)) [
      | inl stays ↦ or_left (fixed I x) (departs_in_time I x (row_at P x)) stays
      | inr movable ↦ or_right (fixed I x) (departs_in_time I x (row_at P x)) (departs_in_time-from I x (row_at P x) (h movable))
    ]

-- ---- C3

c3_family-from : (I : Situation) (x : ℕ) (r : Row) → ((p d : ℕ) → r ≡ Flown (record { 0 = p }) (record { 0 = d }) → (plane_at I p).family ≡ (plane_at I (leg_at I x).plane.0).family) → c3_family I x r ≡ true
c3_family-from I x (Flown p d) h = (bytes_eq-Decides (plane_at I p.0).family (plane_at I (leg_at I x).plane.0).family).1 (h p.0 d.0 refl)
c3_family-from I x Cancelled h = refl

pub keeps_c3-holds : (I : Situation) (P : PlanRows) (x : ℕ) → keeps_c3 I P x ≡ true → MeetsC3 I P x
unfolding keeps_c3
keeps_c3-holds I P x h p d flown =
    let here : bytes_eq (plane_at I p).family (plane_at I (leg_at I x).plane.0).family ≡ true = rw flown at h in
    (bytes_eq-Decides (plane_at I p).family (plane_at I (leg_at I x).plane.0).family).0 here

pub keeps_c3-from : (I : Situation) (P : PlanRows) (x : ℕ) → MeetsC3 I P x → keeps_c3 I P x ≡ true
unfolding keeps_c3
keeps_c3-from I P x h = c3_family-from I x (row_at P x) h

-- ---- C4

c4_range-from : (I : Situation) (x : ℕ) (r : Row) → ((p d : ℕ) → r ≡ Flown (record { 0 = p }) (record { 0 = d }) → (leg_at I x).distance ≤ (plane_at I p).range) → c4_range I x r ≡ true
c4_range-from I x (Flown p d) h = le-leb (leg_at I x).distance (plane_at I p.0).range (h p.0 d.0 refl)
c4_range-from I x Cancelled h = refl

pub keeps_c4-holds : (I : Situation) (P : PlanRows) (x : ℕ) → keeps_c4 I P x ≡ true → MeetsC4 I P x
unfolding keeps_c4
keeps_c4-holds I P x h p d flown =
    let here : leb (leg_at I x).distance (plane_at I p).range ≡ true = rw flown at h in
    leb-true (leg_at I x).distance (plane_at I p).range here

pub keeps_c4-from : (I : Situation) (P : PlanRows) (x : ℕ) → MeetsC4 I P x → keeps_c4 I P x ≡ true
unfolding keeps_c4
keeps_c4-from I P x h = c4_range-from I x (row_at P x) h

-- ---- spans, and C7

pub meets_span-holds : (I : Situation) (x d : ℕ) (from to : Minute) → meets_span d (d + (leg_at I x).block) from to ≡ true → MeetsSpan I x d from to
meets_span-holds I x d from to h =
    let parts = and_parts (ltb d to.0) (ltb from.0 (d + (leg_at I x).block)) h in
    record { before_end = ltb-true d to.0 parts.0; after_start = ltb-true from.0 (d + (leg_at I x).block) parts.1 }

pub meets_span-from : (I : Situation) (x d : ℕ) (from to : Minute) → MeetsSpan I x d from to → meets_span d (d + (leg_at I x).block) from to ≡ true
meets_span-from I x d from to h =
    and_from (ltb d to.0) (ltb from.0 (d + (leg_at I x).block)) (lt-ltb d to.0 h.before_end) (lt-ltb from.0 (d + (leg_at I x).block) h.after_start)

-- whether leg x, departing at d, meets a span
abbrev meets : Situation → ℕ → ℕ → Minute × Minute → Bool
meets I x d span = meets_span d (d + (leg_at I x).block) span.0 span.1

abbrev IsFree : Situation → ℕ → ℕ → Minute × Minute → Type 0
IsFree I x d span = MeetsSpan I x d span.0 span.1 → ⊥

none_met : (I : Situation) (x d : ℕ) (all : List (Minute × Minute)) → list_any (meets I x d) all ≡ false → AllByRecursion (IsFree I x d) all
none_met I x d [] h = tt
none_met I x d (span ∷ all) h =
    let parts = or_parts (meets I x d span) (list_any (meets I x d) all) h in
    (λ met. true≢false (sym (meets_span-from I x d span.0 span.1 met) ∙ parts.0), none_met I x d all parts.1)

all_free : (I : Situation) (x d : ℕ) (all : List (Minute × Minute)) → AllByRecursion (IsFree I x d) all → list_any (meets I x d) all ≡ false
all_free I x d [] h = refl
all_free I x d (span ∷ all) h =
    or_from (meets I x d span) (list_any (meets I x d) all)
    (false_from_ne_true (meets I x d span) (λ met. h.0 (meets_span-holds I x d span.0 span.1 met)))
    (all_free I x d all h.1)

c7_service-from : (I : Situation) (x : ℕ) (r : Row) → ((p d : ℕ) → r ≡ Flown (record { 0 = p }) (record { 0 = d }) → (plane_at I p).surface ≡ false → AllByRecursion (IsFree I x d) (spans I p)) → c7_service I x r ≡ true
c7_service-from I x (Flown p d) h =
    elim (cases_Bool (plane_at I p.0).surface) [
      | inl ground ↦ or_left (plane_at I p.0).surface (not (list_any (meets I x d.0) (spans I p.0))) ground
      | inr air ↦ or_right (plane_at I p.0).surface (not (list_any (meets I x d.0) (spans I p.0)))
          (not_from_false (list_any (meets I x d.0) (spans I p.0)) (all_free I x d.0 (spans I p.0) (h p.0 d.0 refl air)))
    ]
c7_service-from I x Cancelled h = refl

pub keeps_c7-holds : (I : Situation) (P : PlanRows) (x : ℕ) → keeps_c7 I P x ≡ true → MeetsC7 I P x
unfolding keeps_c7
keeps_c7-holds I P x h p d flown air =
    let here : ((plane_at I p).surface || not (list_any (meets I x d) (spans I p))) ≡ true = rw flown at h in
    elim (or_cases (plane_at I p).surface (not (list_any (meets I x d) (spans I p))) here) [
      | inl ground ↦ absurd (true≢false (sym ground ∙ air))
      | inr free ↦ All-from_recursion (IsFree I x d) (spans I p) (none_met I x d (spans I p) (not-true (list_any (meets I x d) (spans I p)) free))
    ]

pub keeps_c7-from : (I : Situation) (P : PlanRows) (x : ℕ) → MeetsC7 I P x → keeps_c7 I P x ≡ true
unfolding keeps_c7
keeps_c7-from I P x h = c7_service-from I x (row_at P x) (λ p d flown air. recursion_from_All (IsFree I x d) (spans I p) (h p d flown air))
