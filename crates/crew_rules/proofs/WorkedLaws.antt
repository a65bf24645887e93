-- The legs that a crew works, in their order.
use Rattle.std.proofs.Common.{◌≡◌, ◌≢◌, ℕ, ◌+◌, ◌⊎◌, inl, inr, Bool, true, ◌&&◌, eqb, ltb, List, [], ◌∷◌, refl, sym, ap, subst, ◌∙◌, arith}
use Rattle.std.specs.Prelude.{All, filter, fold, Option, Some, None}
use Rattle.std.specs.List.{AllPairs, Contains, cons_option, filter_map}
use Rattle.std.proofs.lemmas.Bool.{and_parts, and_from, or_cases, or_left, or_right, cases_Bool, cases_order, eqb-true, eq-eqb, ltb-true, lt-ltb}
use Rattle.std.proofs.lemmas.List.Elements.{All-nil, All-cons, All-head, All-tail, All-weaker, All-filter, All-contains, All-contains_itself, filter_passes, Contains-append_left, Contains-append_right, Contains-append_cases}
use Rattle.std.proofs.lemmas.List.Kept.{AllPairs-cons, AllPairs-filter}
use Rattle.desk_units.specs.declared.numbers.Airport.{Airport}
use Rattle.desk_units.specs.declared.numbers.Leg.{Leg}
use Rattle.desk_units.specs.declared.numbers.Minute.{Minute}
use Rattle.desk_data.specs.declared.parts.Parts.{Parts}
use Rattle.desk_data.specs.declared.row.Row.{Row}
use Rattle.desk_data.specs.declared.row.Row.TheVariants.{Flown, Cancelled}
use Rattle.desk_data.proofs.PathOrder.{pairs_head, pairs_tail, pairs_nil, pairs_append}
use Rattle.kept_set.proofs.ListLaws.{contains-cons, contains-first, contains-rest, none_in}
use Rattle.crew_rules.specs.declared.crew.CrewInfo.{CrewInfo}
use Rattle.crew_rules.specs.declared.crew.WorkedLeg.{WorkedLeg}
use Rattle.crew_rules.specs.Crews.{leg_of, row_of, worked_leg, flown_among, is_before, with_leg, worked}
use Rattle.crew_rules.specs.Words.{Works, IsBefore, AreWorked}

-- ---- the order

pub before-holds : (v w : WorkedLeg) → is_before v w ≡ true → IsBefore v w
before-holds v w h =
    elim (or_cases (ltb v.dep.0 w.dep.0) (eqb v.dep.0 w.dep.0 && ltb v.leg.0 w.leg.0) h) [
      | inl less ↦ inl (ltb-true v.dep.0 w.dep.0 less)
      | inr same ↦
          let both = and_parts (eqb v.dep.0 w.dep.0) (ltb v.leg.0 w.leg.0) same in
          inr (eqb-true v.dep.0 w.dep.0 both.0, ltb-true v.leg.0 w.leg.0 both.1)
    ]

pub before-from : (v w : WorkedLeg) → IsBefore v w → is_before v w ≡ true
before-from v w (inl less) = or_left (ltb v.dep.0 w.dep.0) (eqb v.dep.0 w.dep.0 && ltb v.leg.0 w.leg.0) (lt-ltb v.dep.0 w.dep.0 less)
before-from v w (inr both) =
    or_right (ltb v.dep.0 w.dep.0) (eqb v.dep.0 w.dep.0 && ltb v.leg.0 w.leg.0)
    (and_from (eqb v.dep.0 w.dep.0) (ltb v.leg.0 w.leg.0) (eq-eqb v.dep.0 w.dep.0 both.0) (lt-ltb v.leg.0 w.leg.0 both.1))

pub before-trans : (u v w : WorkedLeg) → IsBefore u v → IsBefore v w → IsBefore u w
before-trans u v w (inl a) (inl b) = inl (omega (arith, a, b))
before-trans u v w (inl a) (inr b) = let e = b.0 in inl (omega (arith, a, e))
before-trans u v w (inr a) (inl b) = let e = a.0 in inl (omega (arith, e, b))
before-trans u v w (inr a) (inr b) =
    let e = a.0 in
    let f = b.0 in
    let g = a.1 in
    let h = b.1 in
    inr (omega (arith, e, f), omega (arith, g, h))

pub before-itself : (w : WorkedLeg) → IsBefore w w → ⊥
before-itself w (inl less) = omega (arith, less)
before-itself w (inr both) = let l = both.1 in omega (arith, l)

before-total : (v w : WorkedLeg) → v.leg.0 ≢ w.leg.0 → IsBefore v w ⊎ IsBefore w v
before-total v w other =
    elim (cases_order v.dep.0 w.dep.0) [
      | inl same ↦ elim (cases_order v.leg.0 w.leg.0) [
        | inl alike ↦ absurd (other alike)
        | inr rest ↦ elim rest [
          | inl less ↦ inl (inr (same, less))
          | inr more ↦ inr (inr (sym same, more))
        ]
      ]
      | inr rest ↦ elim rest [
        | inl less ↦ inl (inl less)
        | inr more ↦ inr (inl more)
      ]
    ]

-- ---- lists

contains_filter : (p : WorkedLeg → Bool) (vs : List WorkedLeg) (v : WorkedLeg) → Contains vs v → p v ≡ true → Contains (filter p vs) v
contains_filter p [] v has passes = absurd (none_in v has)
contains_filter p (y ∷ ys) v has passes =
    elim (contains-cons y v ys has) [
      | inl same ↦
          let here : p y ≡ true = subst (λ (z : WorkedLeg). p z ≡ true) same passes in
          rw here (subst (Contains (y ∷ filter p ys)) (sym same) (contains-first y (filter p ys)))
      | inr later ↦
          let more = contains_filter p ys v later passes in
          elim (cases_Bool (p y)) [
            | inl front ↦ rw front (contains-rest y v (filter p ys) more)
            | inr fails ↦ rw fails more
          ]
    ]

filtered : (p : WorkedLeg → Bool) (vs : List WorkedLeg) (v : WorkedLeg) → Contains (filter p vs) v → Contains vs v
filtered p vs v has = All-contains (Contains vs) (filter p vs) v (All-filter p (Contains vs) vs (All-contains_itself vs)) has

-- ---- one leg more in its place

with_leg-order : (vs : List WorkedLeg) (w : WorkedLeg) → AllPairs IsBefore vs → AllPairs IsBefore (with_leg vs w)
with_leg-order vs w pairs =
    let before = filter (λ v. is_before v w) vs in
    let after = filter (λ v. is_before w v) vs in
    let all_after : All (IsBefore w) after = All-weaker (λ v. is_before w v ≡ true) (IsBefore w) (λ v is. before-holds w v is) after (filter_passes (λ v. is_before w v) vs) in
    pairs_append IsBefore before (w ∷ after)
    (AllPairs-filter IsBefore (λ v. is_before v w) vs pairs)
    (AllPairs-cons IsBefore w after all_after (AllPairs-filter IsBefore (λ v. is_before w v) vs pairs))
    (All-weaker (λ v. is_before v w ≡ true) (λ v. All (IsBefore v) (w ∷ after))
    (λ v is.
    let less = before-holds v w is in
    All-cons (IsBefore v) w after less (All-weaker (IsBefore w) (IsBefore v) (λ u more. before-trans v w u less more) after all_after))
    before (filter_passes (λ v. is_before v w) vs))

with_leg-has : (vs : List WorkedLeg) (w u : WorkedLeg) → Contains (with_leg vs w) u → (u ≡ w) ⊎ Contains vs u
with_leg-has vs w u has =
    let before = filter (λ v. is_before v w) vs in
    let after = filter (λ v. is_before w v) vs in
    elim (Contains-append_cases before (w ∷ after) u has) [
      | inl early ↦ inr (filtered (λ v. is_before v w) vs u early)
      | inr late ↦ elim (contains-cons w u after late) [
        | inl same ↦ inl same
        | inr later ↦ inr (filtered (λ v. is_before w v) vs u later)
      ]
    ]

with_leg-new : (vs : List WorkedLeg) (w : WorkedLeg) → Contains (with_leg vs w) w
with_leg-new vs w =
    let before = filter (λ v. is_before v w) vs in
    let after = filter (λ v. is_before w v) vs in
    Contains-append_right before (w ∷ after) w (contains-first w after)

with_leg-old : (vs : List WorkedLeg) (w u : WorkedLeg) → Contains vs u → u.leg.0 ≢ w.leg.0 → Contains (with_leg vs w) u
with_leg-old vs w u has other =
    let before = filter (λ v. is_before v w) vs in
    let after = filter (λ v. is_before w v) vs in
    elim (before-total u w other) [
      | inl early ↦ Contains-append_left before (w ∷ after) u (contains_filter (λ v. is_before v w) vs u has (before-from u w early))
      | inr late ↦ Contains-append_right before (w ∷ after) u (contains-rest w u after (contains_filter (λ v. is_before w v) vs u has (before-from w u late)))
    ]

-- ---- all of them

abbrev pub Other : WorkedLeg → WorkedLeg → Type 0
Other v w = v.leg.0 ≢ w.leg.0

not_same : (a b : ℕ) → a ≢ b → b ≢ a
not_same a b other same = other (sym same)

each_of : (Q : WorkedLeg → Type 0) (vs : List WorkedLeg) → ((v : WorkedLeg) → Contains vs v → Q v) → All Q vs
each_of Q vs each = All-weaker (Contains vs) Q each vs (All-contains_itself vs)

-- legs in order are put among others: all of both are there, in order
record ArePlaced (vs xs ws : List WorkedLeg) : Type 0 where
  order : AllPairs IsBefore ws
  from : (u : WorkedLeg) → Contains ws u → Contains vs u ⊎ Contains xs u
  old : (u : WorkedLeg) → Contains vs u → Contains ws u
  new : (u : WorkedLeg) → Contains xs u → Contains ws u

wider : (vs : List WorkedLeg) (x z : WorkedLeg) → x.leg.0 ≢ z.leg.0 → All (Other z) vs → All (Other z) (with_leg vs x)
wider vs x z other all =
    each_of (Other z) (with_leg vs x) (λ u has. elim (with_leg-has vs x u has) [
      | inl same ↦ subst (Other z) (sym same) (not_same x.leg.0 z.leg.0 other)
      | inr old ↦ All-contains (Other z) vs u all old
    ])

placed : (vs xs : List WorkedLeg) → AllPairs IsBefore vs → AllPairs Other xs → All (λ x. All (Other x) vs) xs → ArePlaced vs xs (fold with_leg vs xs)
placed vs [] order apart across = record { order = order; from = λ u has. inl has; old = λ u has. has; new = λ u has. absurd (none_in u has) }
placed vs (x ∷ xs) order apart across =
    let here : All (Other x) vs = All-head (λ z. All (Other z) vs) x xs across in
    let after : All (Other x) xs = pairs_head Other x xs apart in
    let later : All (λ z. All (Other z) vs) xs = All-tail (λ z. All (Other z) vs) x xs across in
    let wide : All (λ z. All (Other z) (with_leg vs x)) xs =
    each_of (λ z. All (Other z) (with_leg vs x)) xs (λ z has. wider vs x z (All-contains (Other x) xs z after has) (All-contains (λ u. All (Other u) vs) xs z later has)) in
    let rest = placed (with_leg vs x) xs (with_leg-order vs x order) (pairs_tail Other x xs apart) wide in
    record {
      order = rest.order;
      from = λ u has. elim (rest.from u has) [
        | inl early ↦ elim (with_leg-has vs x u early) [
          | inl same ↦ inr (subst (Contains (x ∷ xs)) (sym same) (contains-first x xs))
          | inr old ↦ inl old
        ]
        | inr late ↦ inr (contains-rest x u xs late)
      ];
      old = λ u has. rest.old u (with_leg-old vs x u has (not_same x.leg.0 u.leg.0 (All-contains (Other x) vs u here has)));
      new = λ u has. elim (contains-cons x u xs has) [
        | inl same ↦ rest.old u (subst (Contains (with_leg vs x)) (sym same) (with_leg-new vs x))
        | inr late ↦ rest.new u late
      ];
    }

-- ---- what is there is put before others

cons_has : (o : Option WorkedLeg) (vs : List WorkedLeg) (u : WorkedLeg) → Contains (cons_option o vs) u → (o ≡ Some u) ⊎ Contains vs u
cons_has None vs u has = inr has
cons_has (Some v) vs u has =
    elim (contains-cons v u vs has) [
      | inl same ↦ inl (ap Some (sym same))
      | inr later ↦ inr later
    ]

cons_own : (o : Option WorkedLeg) (vs : List WorkedLeg) (u : WorkedLeg) → o ≡ Some u → Contains (cons_option o vs) u
cons_own o vs u is = subst (λ (p : Option WorkedLeg). Contains (cons_option p vs) u) (sym is) (contains-first u vs)

cons_later : (o : Option WorkedLeg) (vs : List WorkedLeg) (u : WorkedLeg) → Contains vs u → Contains (cons_option o vs) u
cons_later None vs u has = has
cons_later (Some v) vs u has = contains-rest v u vs has

cons_all : (Q : WorkedLeg → Type 0) (o : Option WorkedLeg) (vs : List WorkedLeg) → ((v : WorkedLeg) → o ≡ Some v → Q v) → All Q vs → All Q (cons_option o vs)
cons_all Q None vs own all = all
cons_all Q (Some v) vs own all = All-cons Q v vs (own v refl) all

cons_pairs : (o : Option WorkedLeg) (vs : List WorkedLeg) → ((v : WorkedLeg) → o ≡ Some v → All (Other v) vs) → AllPairs Other vs → AllPairs Other (cons_option o vs)
cons_pairs None vs own pairs = pairs
cons_pairs (Some v) vs own pairs = AllPairs-cons Other v vs (own v refl) pairs

-- ---- the flown legs

abbrev as_flown : Parts → List Row → Leg → Option WorkedLeg
as_flown D P leg = worked_leg D leg.0 (row_of P leg.0)

-- leg x as it is flown from a moment on
abbrev flown_so : Parts → ℕ → Minute → WorkedLeg
flown_so D x dep = record { dep = dep; leg = record { 0 = x }; arr = record { 0 = dep.0 + (leg_of D x).block }; origin = (leg_of D x).origin; dest = (leg_of D x).dest }

same_some : (v w : WorkedLeg) → Some v ≡ Some w → v ≡ w
same_some v w h = cc

number_is : (D : Parts) (x : ℕ) (row : Row) (w : WorkedLeg) → worked_leg D x row ≡ Some w → w.leg.0 ≡ x
number_is D x (Flown plane dep) w h = ap (λ (z : WorkedLeg). z.leg.0) (sym (same_some (flown_so D x dep) w h))
number_is D x Cancelled w h = absurd cc

works_so : (D : Parts) (P : List Row) (c : CrewInfo) (leg : Leg) (row : Row) (w : WorkedLeg) → Contains c.legs leg → row_of P leg.0 ≡ row → worked_leg D leg.0 row ≡ Some w → Works D P c w
works_so D P c leg (Flown plane dep) w listed is h =
    subst (Works D P c) (same_some (flown_so D leg.0 dep) w h) (record { plane = plane; listed = listed; flown = is; arr = refl; origin = refl; dest = refl })
works_so D P c leg Cancelled w listed is h = absurd cc

flown-works : (D : Parts) (P : List Row) (c : CrewInfo) (legs : List Leg) (w : WorkedLeg) → ((x : Leg) → Contains legs x → Contains c.legs x) → Contains (filter_map (as_flown D P) legs) w → Works D P c w
flown-works D P c [] w among has = absurd (none_in w has)
flown-works D P c (x ∷ xs) w among has =
    elim (cons_has (as_flown D P x) (filter_map (as_flown D P) xs) w has) [
      | inl own ↦ works_so D P c x (row_of P x.0) w (among x (contains-first x xs)) refl own
      | inr later ↦ flown-works D P c xs w (λ y there. among y (contains-rest x y xs there)) later
    ]

minute_is : (m : Minute) (n : ℕ) → m.0 ≡ n → (record { 0 = n }) ≡ m
minute_is m n same = ap (λ (k : ℕ). let given : Minute = record { 0 = k } in given) (sym same)

works-is : (D : Parts) (P : List Row) (c : CrewInfo) (w : WorkedLeg) → Works D P c w → as_flown D P w.leg ≡ Some w
works-is D P c w is =
    let L = leg_of D w.leg.0 in
    ap (worked_leg D w.leg.0) is.flown
    ∙ ap (λ (m : Minute). Some (record { dep = w.dep; leg = w.leg; arr = m; origin = L.origin; dest = L.dest })) (minute_is w.arr (w.dep.0 + L.block) is.arr)
    ∙ ap (λ (a : Airport). Some (record { dep = w.dep; leg = w.leg; arr = w.arr; origin = a; dest = L.dest })) (sym is.origin)
    ∙ ap (λ (a : Airport). Some (record { dep = w.dep; leg = w.leg; arr = w.arr; origin = w.origin; dest = a })) (sym is.dest)

flown-has : (D : Parts) (P : List Row) (legs : List Leg) (x : Leg) (w : WorkedLeg) → Contains legs x → as_flown D P x ≡ Some w → Contains (filter_map (as_flown D P) legs) w
flown-has D P [] x w has is = absurd (none_in x has)
flown-has D P (y ∷ ys) x w has is =
    elim (contains-cons y x ys has) [
      | inl same ↦ cons_own (as_flown D P y) (filter_map (as_flown D P) ys) w (ap (as_flown D P) (sym same) ∙ is)
      | inr later ↦ cons_later (as_flown D P y) (filter_map (as_flown D P) ys) w (flown-has D P ys x w later is)
    ]

flown-other : (D : Parts) (P : List Row) (n : ℕ) (legs : List Leg) → All (λ y. n ≢ y.0) legs → All (λ u. n ≢ u.leg.0) (filter_map (as_flown D P) legs)
flown-other D P n [] all = All-nil (λ u. n ≢ u.leg.0)
flown-other D P n (y ∷ ys) all =
    cons_all (λ u. n ≢ u.leg.0) (as_flown D P y) (filter_map (as_flown D P) ys)
    (λ v is. subst (λ (k : ℕ). n ≢ k) (sym (number_is D y.0 (row_of P y.0) v is)) (All-head (λ z. n ≢ z.0) y ys all))
    (flown-other D P n ys (All-tail (λ z. n ≢ z.0) y ys all))

pub flown-apart : (D : Parts) (P : List Row) (legs : List Leg) → AllPairs (λ x y. x.0 ≢ y.0) legs → AllPairs Other (filter_map (as_flown D P) legs)
flown-apart D P [] apart = pairs_nil Other
flown-apart D P (x ∷ xs) apart =
    cons_pairs (as_flown D P x) (filter_map (as_flown D P) xs)
    (λ v is. subst (λ (n : ℕ). All (λ u. n ≢ u.leg.0) (filter_map (as_flown D P) xs)) (sym (number_is D x.0 (row_of P x.0) v is))
    (flown-other D P x.0 xs (pairs_head (λ a b. a.0 ≢ b.0) x xs apart)))
    (flown-apart D P xs (pairs_tail (λ a b. a.0 ≢ b.0) x xs apart))

none_put : (xs : List WorkedLeg) → All (λ x. All (Other x) []) xs
none_put xs = each_of (λ x. All (Other x) []) xs (λ x has. All-nil (Other x))

-- the legs in order are those that are flown
pub record AreInOrder (D : Parts) (P : List Row) (c : CrewInfo) (ws : List WorkedLeg) : Type 0 where
  pub order : AllPairs IsBefore ws
  pub from : (w : WorkedLeg) → Contains ws w → Contains (flown_among D P c.legs) w
  pub each : (w : WorkedLeg) → Contains (flown_among D P c.legs) w → Contains ws w

pub in_order : (D : Parts) (P : List Row) (c : CrewInfo) → AllPairs (λ x y. x.0 ≢ y.0) c.legs → AreInOrder D P c (worked D P c)
unfolding worked
in_order D P c apart =
    let all = placed [] (flown_among D P c.legs) (pairs_nil IsBefore) (flown-apart D P c.legs apart) (none_put (flown_among D P c.legs)) in
    record {
      order = all.order;
      from = λ w has. elim (all.from w has) [
        | inl none ↦ absurd (none_in w none)
        | inr there ↦ there
      ];
      each = all.new;
    }

pub are_worked : (D : Parts) (P : List Row) (c : CrewInfo) → AllPairs (λ x y. x.0 ≢ y.0) c.legs → AreWorked D P c (worked D P c)
are_worked D P c apart =
    let all = in_order D P c apart in
    record {
      each = λ w. (
        λ has. flown-works D P c c.legs w (λ x there. there) (all.from w has),
        λ is. all.each w (flown-has D P c.legs w.leg w is.listed (works-is D P c w is)),
      );
      order = all.order;
    }
