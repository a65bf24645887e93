-- Where aircraft end, and how many are at hand then.
use Rattle.std.proofs.Common.{◌≡◌, ◌≢◌, ℕ, zero, suc, ◌+◌, ◌<◌, ◌≤◌, inl, inr, Bool, true, false, ◌&&◌, ◌||◌, not, cond, eqb, ltb, List, [], ◌∷◌, ◌++◌, length, get_or, take, refl, sym, ap, subst, ◌∙◌, arith}
use Rattle.std.specs.Prelude.{Option, None, Some, if◌then◌else◌}
use Rattle.std.specs.List.{All, Contains, list_all}
use Rattle.std.proofs.lemmas.Bool.{true≢false, cases_eq, eq-eqb, ne_eqb, eqb-true, and_parts, and_from, and_right, le-ltb, lt-ltb, false_from_ne_true}
use Rattle.std.proofs.lemmas.List.{take_more, map-append, length-map, get_or-map}
use Rattle.std.proofs.lemmas.List.Elements.{All-append, All-nil, All-cons, All-weaker, All-contains}
use Rattle.desk_units.specs.declared.numbers.Leg.{Leg}
use Rattle.desk_data.specs.declared.info.PositionInfo.{PositionInfo}
use Rattle.desk_data.specs.declared.row.Row.{Row}
use Rattle.desk_data.specs.declared.row.Row.TheVariants.{Flown, Cancelled}
use Rattle.desk_data.specs.Situation.{Situation, legs_of, planes_of, plane_at}
use Rattle.desk_data.specs.PlanRows.{PlanRows, row_at}
use Rattle.desk_data.specs.Valid.{IsPlanFor, IsValid}
use Rattle.desk_rules.specs.Cost.{is_wanted, ends_at, at_hand}
use Rattle.desk_rules.specs.Rotations.{comes_before, dep, departure, is_earlier, precedes}
use Rattle.desk_rules.specs.Maintenance.{flies, departs_before, is_flown_by}
use Rattle.desk_rules.proofs.RotationLaws.{precedes-holds, precedes-from}
use Rattle.desk_model.proofs.ValidLaws.{with_row-valid}
use Rattle.desk_model.proofs.RotationOrder.{Contains-head, Contains-tail, precedes-trans, precedes-itself}
use Rattle.plan_reads.specs.Last.{IsLastOf, stand}
use Rattle.plan_reads.specs.declared.rotation_leg.RotationLeg.{RotationLeg}
use Rattle.plan_checks.specs.Stands.{end_of, is_there}
use Rattle.step_laws.proofs.RowLaws.{row_here, row_there}
use Rattle.step_laws.proofs.SumLaws.{one_if, filter_change}
use Rattle.board_cost.proofs.HandLaws.{hand_few}
use Rattle.near_moves.specs.Same.{FliesSame}
use Rattle.near_moves.proofs.RuleLaws.{left_at-same}
use Rattle.near_priced.specs.Unpaid.{is_either}
use Rattle.near_priced.proofs.PayerLaws.{ends-is}
use Rattle.near_draft.specs.declared.change.Change.{Change}
use Rattle.near_draft.specs.Drafts.{AreChanges, Drafted, changed, drafted, plan_of}
use Rattle.near_draft.specs.Legs.{AreLegsOf, numbers_of}
use Rattle.near_priced.proofs.FlyingLaws.{changes-for}
use Rattle.near_priced.specs.declared.ends.PlaneEnd.{PlaneEnd}
use Rattle.near_priced.specs.declared.ends.PlaneEnds.{PlaneEnds}
use Rattle.near_priced.specs.Tables.{is_hand}
use Rattle.near_priced.specs.Ends.{IsLastIn, IsLastAmong, IsPlaneEnd, IsOther, IsPlaneEndOf, ArePlaneEnds, is_change_of, is_of}
use Rattle.near_priced.specs.Balances.{counted}

-- ---- the last leg of some

abbrev NotBefore : PlanRows → ℕ → ℕ → ℕ → Type 0
NotBefore P p at x = departs_before P p at x ≡ false

abbrev NotAfter : PlanRows → ℕ → ℕ → ℕ → ℕ → Type 0
NotAfter P p at leg z = departs_before P p at z ≡ true → precedes P leg z ≡ false

push-all : (S : ℕ → Type 0) (legs : List ℕ) (x : ℕ) → All S legs → S x → All S (legs ++ x ∷ [])
push-all S legs x all one = All-append S legs (x ∷ []) all (All-cons S x [] one (All-nil S))

contains-more : (legs : List ℕ) (x z : ℕ) → Contains legs z → Contains (legs ++ x ∷ []) z
contains-more legs x z has = push-has legs x z has
  where
    push-has : (xs : List ℕ) (y w : ℕ) → Contains xs w → Contains (xs ++ y ∷ []) w
    push-has [] y w has_w = absurd (let lt = has_w.1 in omega (arith, lt))
    push-has (first ∷ xs) y w (zero, within, is) = subst (Contains (first ∷ xs ++ y ∷ [])) is (Contains-head first (xs ++ y ∷ []))
    push-has (first ∷ xs) y w (suc k, within, is) = Contains-tail first w (xs ++ y ∷ []) (push-has xs y w (k, (let lt : k < length xs = omega (arith, within) in lt), is))

contains-last : (legs : List ℕ) (x : ℕ) → Contains (legs ++ x ∷ []) x
contains-last [] x = Contains-head x []
contains-last (first ∷ legs) x = Contains-tail first x (legs ++ x ∷ []) (contains-last legs x)

not-itself : (P : PlanRows) (x : ℕ) → precedes P x x ≡ false
not-itself P x = false_from_ne_true (precedes P x x) (λ is. precedes-itself P x (precedes-holds P x x is))

module _ (P : PlanRows) (p at : ℕ) (legs : List ℕ) (x : ℕ) where
  -- a leg more that departs too late
  pub last-stays-late : (last : Option Leg) → NotBefore P p at x → IsLastAmong P p at legs last → IsLastAmong P p at (legs ++ x ∷ []) last
  last-stays-late None late none = push-all (NotBefore P p at) legs x none late
  last-stays-late (Some leg) late is = record {
    has = contains-more legs x leg.0 is.has;
    before = is.before;
    last = push-all (NotAfter P p at leg.0) legs x is.last (λ before. absurd (true≢false (sym before ∙ late)));
  }

  -- one that comes no later than the last
  pub last-stays : (leg : Leg) → precedes P leg.0 x ≡ false → IsLastAmong P p at legs (Some leg) → IsLastAmong P p at (legs ++ x ∷ []) (Some leg)
  last-stays leg no_later is = record {
    has = contains-more legs x leg.0 is.has;
    before = is.before;
    last = push-all (NotAfter P p at leg.0) legs x is.last (λ before. no_later);
  }

  -- the first one
  pub last-first : (leg : Leg) → leg.0 ≡ x → departs_before P p at x ≡ true → IsLastAmong P p at legs None → IsLastAmong P p at (legs ++ x ∷ []) (Some leg)
  last-first leg is before none = subst (IsLastIn P p at (legs ++ x ∷ [])) (sym is) (record {
    has = contains-last legs x;
    before = before;
    last = push-all (NotAfter P p at x) legs x
        (All-weaker (NotBefore P p at) (NotAfter P p at x) (λ z off on. absurd (true≢false (sym on ∙ off))) legs none)
        (λ on. not-itself P x);
  })

  -- a later one
  pub last-comes : (other leg : Leg) → leg.0 ≡ x → departs_before P p at x ≡ true → precedes P other.0 x ≡ true → IsLastAmong P p at legs (Some other) → IsLastAmong P p at (legs ++ x ∷ []) (Some leg)
  last-comes other leg is before later was = subst (IsLastIn P p at (legs ++ x ∷ [])) (sym is) (record {
    has = contains-last legs x;
    before = before;
    last = push-all (NotAfter P p at x) legs x
        (All-weaker (NotAfter P p at other.0) (NotAfter P p at x)
        (λ z no_later on. false_from_ne_true (precedes P x z) (λ after.
        true≢false (sym (precedes-from P other.0 z (precedes-trans P other.0 x z (precedes-holds P other.0 x later) (precedes-holds P x z after))) ∙ no_later on)))
        legs was.last)
        (λ on. not-itself P x);
  })

-- of two legs of an aircraft the rows are told by the departures
ordered : (p x y : ℕ) (row next : Row) → is_flown_by p row ≡ true → is_flown_by p next ≡ true → comes_before x row y next ≡ is_earlier x (departure row) y (departure next)
ordered p x y (Flown plane dep) (Flown other later) one two = ap (λ (b : Bool). b && is_earlier x dep.0 y later.0) (eq-eqb plane.0 other.0 (eqb-true plane.0 p one ∙ sym (eqb-true other.0 p two)))
ordered p x y (Flown plane dep) Cancelled one two = absurd (true≢false (sym two))
ordered p x y Cancelled row one two = absurd (true≢false (sym one))

pub precedes-is : (P : PlanRows) (p at : ℕ) (legs : List ℕ) (last : RotationLeg) (x : ℕ) {d : ℕ} → IsLastAmong P p at legs (Some last.leg) → flies P p x ≡ true → last.dep.0 ≡ dep P last.leg.0 → d ≡ dep P x → precedes P last.leg.0 x ≡ is_earlier last.leg.0 last.dep.0 x d
precedes-is P p at legs last x {d} was flown one two =
    let leg = last.leg.0 in
    let first = (and_parts (flies P p leg) (ltb (dep P leg) at) was.before).0 in
    ordered p leg x (row_at P leg) (row_at P x) first flown
    ∙ ap (λ (n : ℕ). is_earlier leg n x (dep P x)) (sym one)
    ∙ ap (λ (n : ℕ). is_earlier leg last.dep.0 x n) (sym two)

-- the last of all that an aircraft flies
pub last-of-all : (I : Situation) (P : PlanRows) (p at : ℕ) (legs : List ℕ) (last : Option Leg) → AreLegsOf I P p legs → IsLastAmong P p at legs last → IsLastOf P p at (legs_of I) last
last-of-all I P p at legs None are none = λ x lt.
    false_from_ne_true (departs_before P p at x) (λ before.
    let flown = (and_parts (flies P p x) (ltb (dep P x) at) before).0 in
    true≢false (sym before ∙ All-contains (NotBefore P p at) legs x none (are.each x lt flown)))
last-of-all I P p at legs (Some leg) are is = record {
  within = (All-contains (λ x. (x < legs_of I) × (flies P p x ≡ true)) legs leg.0 are.flown is.has).0;
  before = is.before;
  last = λ z lt before.
      let flown = (and_parts (flies P p z) (ltb (dep P z) at) before).0 in
      All-contains (NotAfter P p at leg.0) legs z is.last (are.each z lt flown) before;
}

-- ---- the others end where they did

not-flown : (a b p : ℕ) (row : Row) → is_either a b p ≡ false → is_of a b row ≡ true → is_flown_by p row ≡ false
not-flown a b p (Flown plane dep) off is = false_from_ne_true (eqb plane.0 p) (λ same. true≢false (sym (subst (λ (n : ℕ). (eqb n a || eqb n b) ≡ true) (eqb-true plane.0 p same) is) ∙ off))
not-flown a b p Cancelled off is = refl

others-same : (I : Situation) (P : PlanRows) (changes : List Change) (a b p : ℕ) → AreChanges I P changes → IsPlanFor I P → list_all (is_change_of a b) changes ≡ true → is_either a b p ≡ false → FliesSame (drafted P changes) P p
others-same I P [] a b p are plan all off x = inl refl
others-same I P (change ∷ changes) a b p are plan all off x =
    let y = change.leg.0 in
    let parts = and_parts (is_change_of a b change) (list_all (is_change_of a b) changes) all in
    let both = and_parts (is_of a b change.was) (is_of a b change.row) parts.0 in
    let rest = others-same I (changed P change) changes a b p are.1 (with_row-valid I P y change.row are.0.row plan) parts.1 off x in
    let within : y < length P.rows = (let leg = are.0.leg in let rows = plan.legs in omega (arith, leg, rows)) in
    elim (cases_eq x y) [
      | inl same ↦
          let was : row_at P x ≡ change.was = ap (row_at P) same ∙ sym are.0.was in
          let row : row_at (changed P change) x ≡ change.row = ap (row_at (changed P change)) same ∙ row_here P y change.row within in
          inr (
            elim rest [
              | inl is ↦ ap (is_flown_by p) (is ∙ row) ∙ not-flown a b p change.row off both.1
              | inr none ↦ none.0
            ],
            ap (is_flown_by p) was ∙ not-flown a b p change.was off both.0,
          )
      | inr other ↦
          let there : row_at (changed P change) x ≡ row_at P x = row_there P y change.row x other in
          elim rest [
            | inl is ↦ inl (is ∙ there)
            | inr none ↦ inr (none.0, ap (is_flown_by p) (sym there) ∙ none.1)
          ]
    ]

-- those of a draft over a plan
pub draft-same : (I : Situation) (P : PlanRows) (D : Drafted) (changes : List Change) (a b : ℕ) → D.inst ≡ I → D.rows ≡ P → changes ≡ D.changes → AreChanges D.inst D.rows changes → IsPlanFor I P → list_all (is_change_of a b) changes ≡ true → (p : ℕ) → is_either a b p ≡ false → FliesSame (plan_of D) P p
draft-same I P D changes a b day over all are plan tests p off =
    let tested : list_all (is_change_of a b) D.changes ≡ true = subst (λ (cs : List Change). list_all (is_change_of a b) cs ≡ true) all tests in
    subst (λ (R : PlanRows). FliesSame (drafted R D.changes) P p) (sym over)
    (others-same I P D.changes a b p (changes-for I P D changes day over all are) plan tested off)

pub ends-same : (I : Situation) (P Q : PlanRows) (p airport : ℕ) → FliesSame Q P p → ends_at I Q p airport ≡ ends_at I P p airport
ends-same I P Q p airport same = ap (λ (c : Bool). not (plane_at I p).surface && c) (left_at-same I Q P p same I.parts.to.0 airport)

apart-either : (a b p : ℕ) → p ≢ a → p ≢ b → is_either a b p ≡ false
apart-either a b p one two = rw (ne_eqb p a one, ne_eqb p b two) refl

-- two aircraft, or one
pub one-end : (I : Situation) (P Q : PlanRows) (one : PlaneEnd) (a b : ℕ) → b ≡ a → one.plane.0 ≡ a → IsPlaneEnd I P Q one → ((p : ℕ) → is_either a b p ≡ false → FliesSame Q P p) → ArePlaneEnds I P Q (record { one = one; other = None })
one-end I P Q one a b same is plane_end others = record {
  one = plane_end;
  other = tt;
  stay = λ p airport apart none.
      let first : p ≢ a = λ e. apart (e ∙ sym is) in
      ends-same I P Q p airport (others p (apart-either a b p first (λ e. first (e ∙ same))));
}

pub two-ends : (I : Situation) (P Q : PlanRows) (one other : PlaneEnd) (a b : ℕ) → b ≢ a → one.plane.0 ≡ a → other.plane.0 ≡ b → IsPlaneEnd I P Q one → IsPlaneEnd I P Q other → ((p : ℕ) → is_either a b p ≡ false → FliesSame Q P p) → ArePlaneEnds I P Q (record { one = one; other = Some other })
two-ends I P Q one other a b differ is other_is plane_end other_end others = record {
  one = plane_end;
  other = (other_end, λ e. differ (sym other_is ∙ e ∙ is));
  stay = λ p airport apart second.
      ends-same I P Q p airport (others p (apart-either a b p (λ e. apart (e ∙ sym is)) (λ e. second (e ∙ sym other_is))));
}

-- ---- how many are at hand

pub and-last : (a b : Bool) → b ≡ true → a ≡ (a && b)
and-last true b is = sym is
and-last false b is = refl

counted-is : (I : Situation) (P : PlanRows) (p : ℕ) (last : Option Leg) (position : PositionInfo) → IsLastOf P p I.parts.to.0 (legs_of I) last → one_if (is_hand I P position p) ≡ counted I p last position
counted-is I P p last position h = ap (λ (e : Bool). one_if (is_wanted position (plane_at I p) && e)) (sym (ends-is I P p position.airport.0 last h))

counted-few : (I : Situation) (p : ℕ) (last : Option Leg) (position : PositionInfo) → counted I p last position ≤ 1
counted-few I p last position = one-few (is_wanted position (plane_at I p) && is_there (end_of I p last) position.airport.0)
  where
    one-few : (b : Bool) → one_if b ≤ 1
    one-few true = omega arith
    one-few false = omega arith

-- there are no more at hand than aircraft
pub hands-few : (I : Situation) (P : PlanRows) (position : PositionInfo) → IsValid I → at_hand I P position ≤ 1000
hands-few I P position valid = omega (arith, hand_few (planes_of I) I P position, valid.parts.few.planes)

module _ (I : Situation) (P Q : PlanRows) (position : PositionInfo) (ends : PlaneEnds) (are : ArePlaneEnds I P Q ends) where
  abbrev f : ℕ → Bool
  f = is_hand I Q position

  abbrev g : ℕ → Bool
  g = is_hand I P position

  abbrev a : ℕ
  a = ends.one.plane.0

  stays : (p : ℕ) → ends_at I Q p position.airport.0 ≡ ends_at I P p position.airport.0 → f p ≡ g p
  stays p same = ap (λ (e : Bool). is_wanted position (plane_at I p) && e) same

  pub few-one : counted I a ends.one.is position ≤ 1
  few-one = counted-few I a ends.one.is position

  pub few-other : (other : PlaneEnd) → counted I other.plane.0 other.is position ≤ 1
  few-other other = counted-few I other.plane.0 other.is position

  pub hands-one : ends.other ≡ None → at_hand I Q position + counted I a ends.one.was position ≡ at_hand I P position + counted I a ends.one.is position
  hands-one none =
      omega (
        arith,
        filter_change f g (planes_of I) a are.one.plane (λ p apart. stays p (are.stay p position.airport.0 apart (subst (IsOther p) (sym none) tt))),
        counted-is I P a ends.one.was position are.one.was,
        counted-is I Q a ends.one.is position are.one.is,
      )

  -- the test of the plan after, at one aircraft alone
  abbrev mid : ℕ → Bool
  mid y = cond (eqb y a) (f y) (g y)

  mid-at : mid a ≡ f a
  mid-at = rw (eq-eqb a a refl) refl

  mid-off : (y : ℕ) → y ≢ a → mid y ≡ g y
  mid-off y apart = rw (ne_eqb y a apart) refl

  pub hands-two : (other : PlaneEnd) → ends.other ≡ Some other → at_hand I Q position + (counted I a ends.one.was position + counted I other.plane.0 other.was position) ≡ at_hand I P position + (counted I a ends.one.is position + counted I other.plane.0 other.is position)
  hands-two other some =
      let b = other.plane.0 in
      let n = planes_of I in
      let both : IsPlaneEndOf I P Q a (Some other) = subst (IsPlaneEndOf I P Q a) some are.other in
      let second : IsPlaneEnd I P Q other = both.0 in
      let apart : b ≢ a = both.1 in
      let here : (p : ℕ) → p ≢ b → f p ≡ mid p = λ p off.
      elim (cases_eq p a) [
        | inl same ↦ subst (λ (q : ℕ). f q ≡ mid q) (sym same) (sym mid-at)
        | inr off_a ↦ stays p (are.stay p position.airport.0 off_a (subst (IsOther p) (sym some) off)) ∙ sym (mid-off p off_a)
      ] in
      omega (
        arith,
        filter_change mid g n a are.one.plane mid-off,
        filter_change f mid n b second.plane here,
        ap one_if mid-at,
        ap one_if (mid-off b apart),
        counted-is I P a ends.one.was position are.one.was,
        counted-is I Q a ends.one.is position are.one.is,
        counted-is I P b other.was position second.was,
        counted-is I Q b other.is position second.is,
      )

-- aircraft that end where they did are at hand where they were
counted-alike : (I : Situation) (plane_end : PlaneEnd) (position : PositionInfo) → (stand I plane_end.plane.0 plane_end.is).0 ≡ (stand I plane_end.plane.0 plane_end.was).0 → counted I plane_end.plane.0 plane_end.is position ≡ counted I plane_end.plane.0 plane_end.was position
counted-alike I plane_end position same =
    let p = plane_end.plane.0 in
    ap (λ (n : ℕ). one_if (is_wanted position (plane_at I p) && is_there (if (plane_at I p).surface then None else Some (record { 0 = n })) position.airport.0)) same

pub hands-alike-one : (I : Situation) (P Q : PlanRows) (ends : PlaneEnds) → ArePlaneEnds I P Q ends → ends.other ≡ None → (stand I ends.one.plane.0 ends.one.is).0 ≡ (stand I ends.one.plane.0 ends.one.was).0 → (position : PositionInfo) → at_hand I Q position ≡ at_hand I P position
hands-alike-one I P Q ends are none same position =
    omega (arith, hands-one I P Q position ends are none, counted-alike I ends.one position same)

pub hands-alike-two : (I : Situation) (P Q : PlanRows) (ends : PlaneEnds) (other : PlaneEnd) → ArePlaneEnds I P Q ends → ends.other ≡ Some other → (stand I ends.one.plane.0 ends.one.is).0 ≡ (stand I ends.one.plane.0 ends.one.was).0 → (stand I other.plane.0 other.is).0 ≡ (stand I other.plane.0 other.was).0 → (position : PositionInfo) → at_hand I Q position ≡ at_hand I P position
hands-alike-two I P Q ends other are some first second position =
    omega (arith, hands-two I P Q position ends are other some, counted-alike I ends.one position first, counted-alike I other position second)

-- ---- legs, one more

-- what is read where there is no leg
abbrev pub no_leg : Leg
no_leg = record { 0 = 0 }

pub numbers-more : (legs : List Leg) (i : ℕ) → i < length legs → numbers_of (take (i + 1) legs) ≡ numbers_of (take i legs) ++ (get_or legs i no_leg).0 ∷ []
numbers-more legs i lt = ap numbers_of (take_more legs i no_leg lt) ∙ map-append (λ (leg : Leg). leg.0) (take i legs) (get_or legs i no_leg ∷ [])

-- the legs of an aircraft are flown by it
pub leg-flown : (I : Situation) (P : PlanRows) (p : ℕ) (legs : List Leg) (i : ℕ) → i < length legs → AreLegsOf I P p (numbers_of legs) → ((get_or legs i no_leg).0 < legs_of I) × (flies P p (get_or legs i no_leg).0 ≡ true)
leg-flown I P p legs i lt are =
    let long : i < length (numbers_of legs) = rw (length-map legs (λ (leg : Leg). leg.0)) lt in
    subst (λ (x : ℕ). (x < legs_of I) × (flies P p x ≡ true)) (get_or-map (λ (leg : Leg). leg.0) legs i no_leg 0 lt) (are.flown i 0 long)

-- when a leg departs
pub late : (P : PlanRows) (p at x : ℕ) → at ≤ dep P x → departs_before P p at x ≡ false
late P p at x le = and_right _ _ (le-ltb (dep P x) at le)

pub soon : (P : PlanRows) (p at x : ℕ) → flies P p x ≡ true → dep P x < at → departs_before P p at x ≡ true
soon P p at x flown lt = and_from (flies P p x) (ltb (dep P x) at) flown (lt-ltb (dep P x) at lt)
