-- The seats that passengers take, one pair of a path, one group, and one reservation at a time.
use Rattle.std.proofs.Common.{◌≡◌, ℕ, ◌+◌, ◌<◌, ◌≤◌, inl, inr, Bool, true, false, ◌&&◌, ◌||◌, cond, eqb, List, [], length, get_or, set, take, refl, sym, ap, ◌∙◌, subst, arith}
use Rattle.std.specs.Prelude.{sum_by}
use Rattle.std.specs.List.{list_any}
use Rattle.std.proofs.lemmas.Bool.{cases_Bool, cases_eq, and_parts, and_from, and_left, and_right, eqb-true, ne_eqb, eq-eqb}
use Rattle.std.proofs.lemmas.List.{get_or-set_same, get_or-set_other, get_or_default, take_all}
use Rattle.std.proofs.lemmas.List.Folds.{list_any_more}
use Rattle.std.proofs.lemmas.List.Sums.{sum_by_more, sum_by_more_le_part, sum_by-le-sum_by}
use Rattle.desk_units.specs.declared.numbers.Leg.{Leg}
use Rattle.desk_units.specs.declared.numbers.Cabin.{Cabin}
use Rattle.desk_units.specs.declared.numbers.Seats.{Seats}
use Rattle.desk_units.specs.Ranks.{cabin_rank}
use Rattle.desk_data.specs.declared.row.Group.{Group}
use Rattle.desk_data.specs.Situation.{Situation, legs_of, reservations_of}
use Rattle.desk_data.specs.PlanRows.{PlanRows, groups_at}
use Rattle.desk_rules.specs.Passengers.{seats_in, takes, aboard_of, aboard}
use Rattle.plan_checks.specs.TakenSeats.{no_seats, seats_at, all_of, AreTaken}

-- ---- one more pair of a path

-- whether a pair is leg x in cabin c
abbrev is_pair : ℕ → Cabin → Leg × Cabin → Bool
is_pair x c pair = eqb pair.0.0 x && eqb (cabin_rank pair.1) (cabin_rank c)

takes-more : (x : ℕ) (c : Cabin) (path : List (Leg × Cabin)) (k : ℕ) (d : Leg × Cabin) → k < length path → takes x c (take (k + 1) path) ≡ (takes x c (take k path) || is_pair x c (get_or path k d))
takes-more x c path k d lt = list_any_more (is_pair x c) path k d lt

takes_same : (x y : ℕ) (c b : Cabin) (path : List (Leg × Cabin)) → x ≡ y → cabin_rank c ≡ cabin_rank b → takes x c path ≡ takes y b path
takes_same x y c b path leg rank =
    ap (λ (n : ℕ). list_any (λ pair. eqb pair.0.0 n && eqb (cabin_rank pair.1) (cabin_rank c)) path) leg
    ∙ ap (λ (n : ℕ). list_any (λ pair. eqb pair.0.0 y && eqb (cabin_rank pair.1) n) path) rank

-- a pair that stood in the path already
or_known : (b t : Bool) → (t ≡ true → b ≡ true) → (b || t) ≡ b
or_known true t h = refl
or_known false true h = sym (h refl)
or_known false false h = refl

takes_known : (x : ℕ) (c : Cabin) (path : List (Leg × Cabin)) (k : ℕ) (d : Leg × Cabin) → k < length path → takes (get_or path k d).0.0 (get_or path k d).1 (take k path) ≡ true → takes x c (take (k + 1) path) ≡ takes x c (take k path)
takes_known x c path k d lt stands =
    let pair = get_or path k d in
    takes-more x c path k d lt
    ∙ or_known (takes x c (take k path)) (is_pair x c pair) (λ this.
    let parts = and_parts (eqb pair.0.0 x) (eqb (cabin_rank pair.1) (cabin_rank c)) this in
    sym (takes_same pair.0.0 x pair.1 c (take k path) (eqb-true pair.0.0 x parts.0) (eqb-true (cabin_rank pair.1) (cabin_rank c) parts.1)) ∙ stands)

pub known_pair : (taken before : List Seats) (path : List (Leg × Cabin)) (k count : ℕ) (d : Leg × Cabin) → k < length path → takes (get_or path k d).0.0 (get_or path k d).1 (take k path) ≡ true → ((x : ℕ) (c : Cabin) → seats_at taken x c ≡ seats_at before x c + cond (takes x c (take k path)) count 0) → (x : ℕ) (c : Cabin) → seats_at taken x c ≡ seats_at before x c + cond (takes x c (take (k + 1) path)) count 0
known_pair taken before path k count d lt stands h x c =
    h x c ∙ ap (λ (b : Bool). seats_at before x c + cond b count 0) (sym (takes_known x c path k d lt stands))

-- a pair that did not
or_other : (b t : Bool) → t ≡ false → (b || t) ≡ b
or_other true t h = refl
or_other false t h = h

or_this : (b t : Bool) → t ≡ true → (b || t) ≡ true
or_this true t h = refl
or_this false t h = h

seated_here : (taken before count : ℕ) (stood this now : Bool) → stood ≡ false → this ≡ true → now ≡ true → taken ≡ before + cond stood count 0 → taken + cond this count 0 ≡ before + cond now count 0
seated_here taken before count stood this now free is held h =
    let same : taken ≡ before + 0 = h ∙ ap (λ (b : Bool). before + cond b count 0) free in
    rw (is, held) (omega (arith, same))

seated_elsewhere : (taken before count : ℕ) (stood this now : Bool) → now ≡ stood → this ≡ false → taken ≡ before + cond stood count 0 → taken + cond this count 0 ≡ before + cond now count 0
seated_elsewhere taken before count stood this now kept off h = rw (off, kept) (omega (arith, h))

at_pair : (taken before : List Seats) (path : List (Leg × Cabin)) (k count : ℕ) (d : Leg × Cabin) → k < length path → takes (get_or path k d).0.0 (get_or path k d).1 (take k path) ≡ false → (c : Cabin) → seats_at taken (get_or path k d).0.0 c ≡ seats_at before (get_or path k d).0.0 c + cond (takes (get_or path k d).0.0 c (take k path)) count 0 → seats_at taken (get_or path k d).0.0 c + cond (eqb (cabin_rank (get_or path k d).1) (cabin_rank c)) count 0 ≡ seats_at before (get_or path k d).0.0 c + cond (takes (get_or path k d).0.0 c (take (k + 1) path)) count 0
at_pair taken before path k count d lt new c h =
    let pair = get_or path k d in
    let x = pair.0.0 in
    let more = takes-more x c path k d lt in
    elim (cases_Bool (eqb (cabin_rank pair.1) (cabin_rank c))) [
      | inl this ↦
          let free : takes x c (take k path) ≡ false = takes_same x x c pair.1 (take k path) refl (sym (eqb-true (cabin_rank pair.1) (cabin_rank c) this)) ∙ new in
          let held : takes x c (take (k + 1) path) ≡ true = more ∙ or_this (takes x c (take k path)) (is_pair x c pair) (and_from (eqb x x) (eqb (cabin_rank pair.1) (cabin_rank c)) (eq-eqb x x refl) this) in
          seated_here (seats_at taken x c) (seats_at before x c) count (takes x c (take k path)) (eqb (cabin_rank pair.1) (cabin_rank c)) (takes x c (take (k + 1) path)) free this held h
      | inr other ↦
          let kept : takes x c (take (k + 1) path) ≡ takes x c (take k path) = more ∙ or_other (takes x c (take k path)) (is_pair x c pair) (and_right (eqb x x) (eqb (cabin_rank pair.1) (cabin_rank c)) other) in
          seated_elsewhere (seats_at taken x c) (seats_at before x c) count (takes x c (take k path)) (eqb (cabin_rank pair.1) (cabin_rank c)) (takes x c (take (k + 1) path)) kept other h
    ]

pub new_pair : (taken before : List Seats) (path : List (Leg × Cabin)) (k count : ℕ) (d : Leg × Cabin) (seated : Seats) → k < length path → (get_or path k d).0.0 < length taken → takes (get_or path k d).0.0 (get_or path k d).1 (take k path) ≡ false → ((c : Cabin) → seats_in seated c ≡ seats_at taken (get_or path k d).0.0 c + cond (eqb (cabin_rank (get_or path k d).1) (cabin_rank c)) count 0) → ((x : ℕ) (c : Cabin) → seats_at taken x c ≡ seats_at before x c + cond (takes x c (take k path)) count 0) → (x : ℕ) (c : Cabin) → seats_at (set taken (get_or path k d).0.0 seated) x c ≡ seats_at before x c + cond (takes x c (take (k + 1) path)) count 0
new_pair taken before path k count d seated lt within new is h x c =
    let pair = get_or path k d in
    elim (cases_eq x pair.0.0) [
      | inl here ↦ subst (λ (y : ℕ). seats_at (set taken pair.0.0 seated) y c ≡ seats_at before y c + cond (takes y c (take (k + 1) path)) count 0) (sym here)
          (ap (λ s. seats_in s c) (get_or-set_same taken pair.0.0 seated no_seats within)
          ∙ is c
          ∙ at_pair taken before path k count d lt new c (h pair.0.0 c))
      | inr other ↦
          let off : is_pair x c pair ≡ false = and_left (eqb pair.0.0 x) (eqb (cabin_rank pair.1) (cabin_rank c)) (ne_eqb pair.0.0 x (λ e. other (sym e))) in
          ap (λ s. seats_in s c) (get_or-set_other taken pair.0.0 x seated no_seats other)
          ∙ h x c
          ∙ ap (λ (b : Bool). seats_at before x c + cond b count 0) (sym (takes-more x c path k d lt ∙ or_other (takes x c (take k path)) (is_pair x c pair) off))
    ]

-- ---- one more group

at_most : (b : Bool) (n : ℕ) → cond b n 0 ≤ n
at_most true n = omega arith
at_most false n = omega arith

-- there are seats for the passengers of one more group among them
pub room_more : (x : ℕ) (c : Cabin) (groups : List Group) (i : ℕ) (d : Group) → i < length groups → aboard_of x c (take i groups) + (get_or groups i d).count ≤ all_of groups
room_more x c groups i d lt = sum_by_more_le_part (λ group. cond (takes x c group.path) group.count 0) (λ group. group.count) groups i d lt (λ group. at_most (takes x c group.path) group.count)

aboard-at_most : (x : ℕ) (c : Cabin) (groups : List Group) → aboard_of x c groups ≤ all_of groups
aboard-at_most x c groups = sum_by-le-sum_by (λ group. cond (takes x c group.path) group.count 0) (λ group. group.count) groups (λ group. at_most (takes x c group.path) group.count)

-- ---- one more reservation

pub seated_more : (I : Situation) (P : PlanRows) (r : ℕ) (old new : List Seats) (groups : List Group) → length new ≡ length old → groups ≡ groups_at P r → r < length P.groups → all_of groups ≤ 1000 → AreTaken I P r old → ((x : ℕ) (c : Cabin) → seats_at new x c ≡ seats_at old x c + aboard_of x c groups) → AreTaken I P (r + 1) new
seated_more I P r old new groups len same lt few h is = record {
  legs = len ∙ h.legs;
  each = λ x c. is x c
      ∙ ap (λ (n : ℕ). n + aboard_of x c groups) (h.each x c)
      ∙ ap (λ (gs : List Group). sum_by (aboard_of x c) (take r P.groups) + aboard_of x c gs) same
      ∙ sym (sum_by_more (aboard_of x c) P.groups r [] lt);
  few = λ x c. omega (arith, is x c, h.few x c, aboard-at_most x c groups, few);
}

-- all reservations, at a leg whose seats were read
pub all_seated : (I : Situation) (P : PlanRows) (taken : List Seats) (x : ℕ) (seats : Seats) → length P.groups ≡ reservations_of I → AreTaken I P (reservations_of I) taken → x < legs_of I → seats ≡ get_or taken x seats → (c : Cabin) → seats_in seats c ≡ aboard P x c
unfolding aboard
all_seated I P taken x seats all h lt read c =
    let there : x < length taken = omega (arith, h.legs) in
    ap (λ s. seats_in s c) (read ∙ get_or_default taken x seats no_seats there)
    ∙ h.each x c
    ∙ ap (λ (groups : List (List Group)). sum_by (aboard_of x c) groups) (take_all (reservations_of I) P.groups (omega (arith, all)))
