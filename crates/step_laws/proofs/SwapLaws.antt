-- Legs that go from one aircraft to another, one at a time.
use Rattle.std.proofs.Common.{◌≡◌, ◌≢◌, ℕ, ◌+◌, ◌<◌, ◌≤◌, inl, inr, Bool, true, false, ◌||◌, eqb, leb, if◌then◌else◌, ◌*◌, List, [], ◌∷◌, ◌++◌, length, get_or, set, take, refl, sym, ap, subst, ◌∙◌, arith, length-append}
use Rattle.std.specs.Prelude.{fold, map}
use Rattle.std.specs.List.{All, AllPairs, Contains, list_any}
use Rattle.std.proofs.lemmas.Bool.{cases_Bool, cases_eq, eq-eqb, ne_eqb}
use Rattle.std.proofs.lemmas.List.{append-nil, length-map, length-set, get_or-map, get_or-set_same, get_or-set_other, get_or_default, set-get_or, same_lists}
use Rattle.std.proofs.lemmas.List.Elements.{All-head, All-tail, All-append, All-weaker, All-contains}
use Rattle.std.proofs.lemmas.List.Folds.{fold-map, list_any_none, list_any_at, list_any-append}
use Rattle.std.proofs.lemmas.List.Sums.{fold_more}
use Rattle.desk_units.specs.declared.numbers.Leg.{Leg}
use Rattle.desk_data.specs.declared.row.Row.{Row}
use Rattle.desk_data.specs.declared.row.Row.TheVariants.{Flown, Cancelled}
use Rattle.desk_data.specs.Situation.{Situation, legs_of}
use Rattle.desk_data.specs.PlanRows.{PlanRows, row_at, with_row}
use Rattle.desk_rules.specs.Words.{Flies, Precedes}
use Rattle.desk_rules.specs.Maintenance.{flies}
use Rattle.desk_rules.proofs.MaintenanceLaws.{flies-holds, flies-from}
use Rattle.desk_model.specs.Push.{rotation}
use Rattle.desk_model.specs.Swap.{row_after_swap, after_swap}
use Rattle.desk_data.proofs.PathOrder.{pairs_head, pairs_tail, pairs_append}
use Rattle.desk_model.proofs.RotationOrder.{flown_once, precedes-itself, rotation-ordered, rotation-flown, rotation-each}
use Rattle.step_laws.specs.Swapped.{legs_of_both}
use Rattle.step_laws.proofs.PushLaws.{length-rotation}

-- ---- some places of a list are mapped, each once

module _ {X : Type 0} (f : X → X) (d : X) where
  abbrev pub put_at : List X → ℕ → List X
  put_at ys x = set ys x (f (get_or ys x d))

  length-walked : (xs : List ℕ) (ys : List X) → length (fold put_at ys xs) ≡ length ys
  length-walked [] ys = refl
  length-walked (x ∷ xs) ys = length-walked xs (put_at ys x) ∙ length-set ys x (f (get_or ys x d))

  abbrev is_in : ℕ → List ℕ → Bool
  is_in y xs = list_any (λ x. eqb x y) xs

  abbrev value : Bool → X → X
  value b x = if b then f x else x

  walked-at : (xs : List ℕ) (ys : List X) (y : ℕ) → AllPairs (λ a b. a ≢ b) xs → All (λ x. x < length ys) xs → get_or (fold put_at ys xs) y d ≡ value (is_in y xs) (get_or ys y d)
  walked-at [] ys y apart within = refl
  walked-at (x ∷ xs) ys y apart within =
      let zs = put_at ys x in
      let rest : All (λ k. k < length zs) xs = All-weaker (λ k. k < length ys) (λ k. k < length zs) (λ k lt. omega (arith, lt, length-set ys x (f (get_or ys x d)))) xs (All-tail (λ k. k < length ys) x xs within) in
      let ih = walked-at xs zs y (pairs_tail (λ a b. a ≢ b) x xs apart) rest in
      elim (cases_eq x y) [
        | inl same ↦
            let none : is_in y xs ≡ false = list_any_none (λ k. eqb k y) xs (All-weaker (λ k. x ≢ k) (λ k. eqb k y ≡ false) (λ k other. ne_eqb k y (λ e. other (same ∙ sym e))) xs (pairs_head (λ a b. a ≢ b) x xs apart)) in
            let here : get_or zs y d ≡ f (get_or ys y d) = subst (λ (k : ℕ). get_or zs k d ≡ f (get_or ys k d)) same (get_or-set_same ys x (f (get_or ys x d)) d (All-head (λ k. k < length ys) x xs within)) in
            ih ∙ ap (λ (b : Bool). value b (get_or zs y d)) none ∙ here ∙ sym (ap (λ (b : Bool). value (b || is_in y xs) (get_or ys y d)) (eq-eqb x y same))
        | inr other ↦
            let beside : get_or zs y d ≡ get_or ys y d = get_or-set_other ys x y (f (get_or ys x d)) d (λ e. other (sym e)) in
            ih ∙ ap (value (is_in y xs)) beside ∙ sym (ap (λ (b : Bool). value (b || is_in y xs) (get_or ys y d)) (ne_eqb x y other))
      ]

  -- where all other places stay as they are, that is the map
  pub walked-is : (xs : List ℕ) (ys : List X) → AllPairs (λ a b. a ≢ b) xs → All (λ x. x < length ys) xs → ((y : ℕ) → y < length ys → is_in y xs ≡ false → f (get_or ys y d) ≡ get_or ys y d) → fold put_at ys xs ≡ map f ys
  walked-is xs ys apart within stays =
      let long = length-walked xs ys in
      same_lists (fold put_at ys xs) (map f ys) (long ∙ sym (length-map ys f)) (λ k e lt.
      let in_k : k < length ys = omega (arith, lt, long) in
      let at = walked-at xs ys k apart within in
      let same : value (is_in k xs) (get_or ys k d) ≡ f (get_or ys k d) = elim (cases_Bool (is_in k xs)) [
        | inl here ↦ rw here refl
        | inr gone ↦ rw gone (sym (stays k in_k gone))
      ] in
      get_or_default (fold put_at ys xs) k e d lt ∙ at ∙ same ∙ sym (get_or-map f ys k d e in_k))

-- ---- the plan

abbrev by_rows : PlanRows → List Row → PlanRows
by_rows P rows = record P { rows = rows }

abbrev pub swapping : ℕ → ℕ → ℕ → PlanRows → ℕ → PlanRows
swapping p q at Q x = with_row Q x (row_after_swap p q at (row_at Q x))

-- the plan once some legs went over
abbrev pub swapped_all : PlanRows → ℕ → ℕ → ℕ → List Leg → PlanRows
swapped_all P p q at legs = fold (λ Q (leg : Leg). swapping p q at Q leg.0) P legs

-- what is read where there is no leg
abbrev pub no_leg : Leg
no_leg = record { 0 = 0 }

pub swapped_all-more : (P : PlanRows) (p q at : ℕ) (legs : List Leg) (i : ℕ) → i < length legs → swapping p q at (swapped_all P p q at (take i legs)) (get_or legs i no_leg).0 ≡ swapped_all P p q at (take (i + 1) legs)
swapped_all-more P p q at legs i within = sym (fold_more (λ Q (leg : Leg). swapping p q at Q leg.0) P legs i no_leg within)

rows_of : (p q at : ℕ) (xs : List ℕ) (P : PlanRows) → fold (swapping p q at) P xs ≡ by_rows P (fold (put_at (row_after_swap p q at) Cancelled) P.rows xs)
rows_of p q at [] P = refl
rows_of p q at (x ∷ xs) P = rows_of p q at xs (swapping p q at P x)

-- ---- the legs of both aircraft

on_rotation : (I : Situation) (P : PlanRows) (p x : ℕ) → Contains (rotation I P p) x → flies P p x ≡ true
on_rotation I P p x has = (All-contains (λ y. (y < legs_of I) × (flies P p y ≡ true)) (rotation I P p) x (rotation-flown I P p) has).1

rotation-apart : (I : Situation) (P : PlanRows) (p : ℕ) → AllPairs (λ a b. a ≢ b) (rotation I P p)
rotation-apart I P p i j d before within e =
    let first : Precedes P (get_or (rotation I P p) i d) (get_or (rotation I P p) j d) = rotation-ordered I P p i j d before within in
    precedes-itself P (get_or (rotation I P p) j d) (subst (λ (x : ℕ). Precedes P x (get_or (rotation I P p) j d)) e first)

rotation-within : (I : Situation) (P : PlanRows) (p : ℕ) → All (λ x. x < legs_of I) (rotation I P p)
rotation-within I P p = All-weaker (λ x. (x < legs_of I) × (flies P p x ≡ true)) (λ x. x < legs_of I) (λ x both. both.0) (rotation I P p) (rotation-flown I P p)

-- a leg of one aircraft is not of another
across : (I : Situation) (P : PlanRows) (p q : ℕ) → p ≢ q → All (λ x. All (λ y. x ≢ y) (rotation I P q)) (rotation I P p)
across I P p q other =
    All-weaker (λ x. (x < legs_of I) × (flies P p x ≡ true)) (λ x. All (λ y. x ≢ y) (rotation I P q))
    (λ x first. All-weaker (λ y. (y < legs_of I) × (flies P q y ≡ true)) (λ y. x ≢ y)
    (λ y second e.
    let of_q : flies P q x ≡ true = subst (λ (k : ℕ). flies P q k ≡ true) (sym e) second.1 in
    other (flown_once P x p q _ _ (flies-holds P p x first.1) (flies-holds P q x of_q)))
    (rotation I P q) (rotation-flown I P q))
    (rotation I P p) (rotation-flown I P p)

two_legs : (I : Situation) (P : PlanRows) (p q : ℕ) → q ≢ p → legs_of_both I P p q ≡ rotation I P p ++ rotation I P q
two_legs I P p q other = rw (ne_eqb q p other) refl

one_leg : (I : Situation) (P : PlanRows) (p q : ℕ) → q ≡ p → legs_of_both I P p q ≡ rotation I P p
one_leg I P p q same = rw (eq-eqb q p same) (append-nil (rotation I P p))

both-apart : (I : Situation) (P : PlanRows) (p q : ℕ) → AllPairs (λ a b. a ≢ b) (legs_of_both I P p q)
both-apart I P p q = elim (cases_eq q p) [
  | inl same ↦ subst (AllPairs (λ a b. a ≢ b)) (sym (one_leg I P p q same)) (rotation-apart I P p)
  | inr other ↦ subst (AllPairs (λ a b. a ≢ b)) (sym (two_legs I P p q other))
      (pairs_append (λ a b. a ≢ b) (rotation I P p) (rotation I P q) (rotation-apart I P p) (rotation-apart I P q) (across I P p q (λ e. other (sym e))))
]

pub both-within : (I : Situation) (P : PlanRows) (p q : ℕ) → All (λ x. x < legs_of I) (legs_of_both I P p q)
both-within I P p q = elim (cases_eq q p) [
  | inl same ↦ subst (All (λ x. x < legs_of I)) (sym (one_leg I P p q same)) (rotation-within I P p)
  | inr other ↦ subst (All (λ x. x < legs_of I)) (sym (two_legs I P p q other)) (All-append (λ x. x < legs_of I) (rotation I P p) (rotation I P q) (rotation-within I P p) (rotation-within I P q))
]

length-both : (I : Situation) (P : PlanRows) (p q : ℕ) → length (legs_of_both I P p q) ≤ 2 * legs_of I
length-both I P p q = elim (cases_eq q p) [
  | inl same ↦ omega (arith, ap length (one_leg I P p q same), length-rotation I P p)
  | inr other ↦ omega (arith, ap length (two_legs I P p q other), length-append (rotation I P p) (rotation I P q), length-rotation I P p, length-rotation I P q)
]

-- ---- all other legs stay as they are

in-is : (xs : List ℕ) (y : ℕ) → Contains xs y → list_any (λ x. eqb x y) xs ≡ true
in-is xs y has = list_any_at (λ x. eqb x y) xs has.0 y has.1 (eq-eqb (get_or xs has.0 y) y has.2)

or-left : (a b : Bool) → (a || b) ≡ false → a ≡ true → ⊥
or-left true b h t = absurd cc
or-left false b h t = absurd cc

or-right : (a b : Bool) → (a || b) ≡ false → b ≡ true → ⊥
or-right true b h t = absurd cc
or-right false true h t = absurd cc
or-right false false h t = absurd cc

not_on_first : (I : Situation) (P : PlanRows) (p q y : ℕ) → y < legs_of I → list_any (λ x. eqb x y) (legs_of_both I P p q) ≡ false → flies P p y ≡ true → ⊥
not_on_first I P p q y lt gone on =
    let has = in-is (rotation I P p) y (rotation-each I P p y lt on) in
    or-left (list_any (λ x. eqb x y) (rotation I P p)) _ (sym (list_any-append (λ x. eqb x y) (rotation I P p) _) ∙ gone) has

not_on_second : (I : Situation) (P : PlanRows) (p q y : ℕ) → y < legs_of I → q ≢ p → list_any (λ x. eqb x y) (legs_of_both I P p q) ≡ false → flies P q y ≡ true → ⊥
not_on_second I P p q y lt other gone on =
    let has = in-is (rotation I P q) y (rotation-each I P q y lt on) in
    let apart : list_any (λ x. eqb x y) (rotation I P p ++ rotation I P q) ≡ false = ap (list_any (λ x. eqb x y)) (sym (two_legs I P p q other)) ∙ gone in
    or-right (list_any (λ x. eqb x y) (rotation I P p)) (list_any (λ x. eqb x y) (rotation I P q)) (sym (list_any-append (λ x. eqb x y) (rotation I P p) (rotation I P q)) ∙ apart) has

third : (p q at plane dep : ℕ) → plane ≢ p → plane ≢ q → row_after_swap p q at (Flown (record { 0 = plane }) (record { 0 = dep })) ≡ Flown (record { 0 = plane }) (record { 0 = dep })
third p q at plane dep not_p not_q = elim (cases_Bool (leb at dep)) [
  | inl later ↦ rw (later, ne_eqb plane p not_p, ne_eqb plane q not_q) refl
  | inr earlier ↦ rw earlier refl
]

stays : (I : Situation) (P : PlanRows) (p q at y : ℕ) (row : Row) → y < legs_of I → list_any (λ x. eqb x y) (legs_of_both I P p q) ≡ false → row_at P y ≡ row → row_after_swap p q at row ≡ row
stays I P p q at y Cancelled lt gone is = refl
stays I P p q at y (Flown plane dep) lt gone is =
    let on : flies P plane.0 y ≡ true = flies-from P plane.0 y dep.0 is in
    let not_p : plane.0 ≢ p = λ e. not_on_first I P p q y lt gone (subst (λ (k : ℕ). flies P k y ≡ true) e on) in
    let not_q : plane.0 ≢ q = λ e. elim (cases_eq q p) [
      | inl same ↦ not_p (e ∙ same)
      | inr other ↦ not_on_second I P p q y lt other gone (subst (λ (k : ℕ). flies P k y ≡ true) e on)
    ] in
    third p q at plane.0 dep.0 not_p not_q

-- ---- the step

-- no more legs go over than there are, twice
pub length-swapped : (I : Situation) (P : PlanRows) (p q : ℕ) (legs : List Leg) → map (λ (leg : Leg). leg.0) legs ≡ legs_of_both I P p q → length legs ≤ 2 * legs_of I
length-swapped I P p q legs are = omega (arith, length-map legs (λ (leg : Leg). leg.0), ap length are, length-both I P p q)

pub swapped-within : (I : Situation) (P : PlanRows) (p q : ℕ) (legs : List Leg) → map (λ (leg : Leg). leg.0) legs ≡ legs_of_both I P p q → (k : ℕ) → k < length legs → (get_or legs k no_leg).0 < legs_of I
swapped-within I P p q legs are k lt =
    let each : All (λ x. x < legs_of I) (map (λ (leg : Leg). leg.0) legs) = subst (All (λ x. x < legs_of I)) (sym are) (both-within I P p q) in
    let long : k < length (map (λ (leg : Leg). leg.0) legs) = rw (length-map legs (λ (leg : Leg). leg.0)) lt in
    subst (λ (x : ℕ). x < legs_of I) (get_or-map (λ (leg : Leg). leg.0) legs k no_leg 0 lt) (each k 0 long)

-- to have the legs of both aircraft go over is a Swap
pub swapped_all-is : (I : Situation) (P : PlanRows) (p q at : ℕ) (legs : List Leg) → length P.rows ≡ legs_of I → map (λ (leg : Leg). leg.0) legs ≡ legs_of_both I P p q → swapped_all P p q at legs ≡ after_swap P p q at
unfolding after_swap
swapped_all-is I P p q at legs long are =
    let f = row_after_swap p q at in
    let both = legs_of_both I P p q in
    let within : All (λ x. x < length P.rows) both = All-weaker (λ x. x < legs_of I) (λ x. x < length P.rows) (λ x lt. omega (arith, lt, long)) both (both-within I P p q) in
    sym (fold-map (swapping p q at) (λ (leg : Leg). leg.0) P legs)
    ∙ ap (fold (swapping p q at) P) are
    ∙ rows_of p q at both P
    ∙ ap (by_rows P) (walked-is f Cancelled both P.rows (both-apart I P p q) within (λ y lt gone. stays I P p q at y (row_at P y) (omega (arith, lt, long)) gone refl))

-- a leg that keeps its row
pub with_row-own : (P : PlanRows) (x : ℕ) (row : Row) → row ≡ row_at P x → with_row P x row ≡ P
with_row-own P x row own = ap (with_row P x) own ∙ ap (by_rows P) (set-get_or P.rows x Cancelled)
