-- Amounts that grow, reservation by reservation.
use Rattle.std.proofs.Common.{◌≡◌, ℕ, suc, ◌+◌, ◌*◌, ◌^◌, ◌<◌, ◌≤◌, inl, inr, Bool, true, false, cond, eqb, List, [], ◌∷◌, length, get_or, set, refl, sym, ap, subst, ◌∙◌, arith}
use Rattle.std.specs.Prelude.{filter}
use Rattle.std.specs.List.{All, list_any}
use Rattle.std.proofs.Math.Nat.{mul-le-mul_right}
use Rattle.std.proofs.lemmas.Bool.{cases_Bool, cases_eq, cases_lt, eqb-true}
use Rattle.std.proofs.lemmas.List.{get_or-set_same, get_or-set_other, set_past}
use Rattle.std.proofs.lemmas.List.Elements.{All-head, All-tail}
use Rattle.std.proofs.lemmas.List.Sums.{sum_by_push, sum_by-le-sum_by, length-filter}
use Rattle.desk_units.specs.declared.numbers.Leg.{Leg}
use Rattle.desk_units.specs.declared.numbers.Cabin.{Cabin}
use Rattle.desk_data.specs.declared.row.Group.{Group}
use Rattle.desk_data.specs.Booked.{booked_path}
use Rattle.desk_data.specs.Situation.{Situation, legs_of, reservations_of}
use Rattle.desk_data.specs.PlanRows.{PlanRows, groups_at}
use Rattle.desk_data.specs.Valid.{IsPlanFor, IsValid}
use Rattle.desk_rules.specs.Numbers.{numbers}
use Rattle.desk_model.specs.Refill.{has_leg}
use Rattle.plan_checks.specs.Amounts.{reservation_cost}
use Rattle.plan_checks.proofs.GroupLaws.{passenger_most, reservations-le}
use Rattle.board_kit.specs.Users.{uses, is_booked_on}
use Rattle.near_priced.specs.Tables.{amount, AreNoLess, IsGrown, AreGrown, paid_first, AreAmounts}

-- ---- one amount

pub grown-later : (c : ℕ) (old mid new : List ℕ) (x : ℕ) → IsGrown c old mid x → AreNoLess mid new → IsGrown c old new x
grown-later c old mid new x grown kept n less few =
    let first = grown n less few in
    let then = kept x in
    omega (arith, first, then)

pub grown-sooner : (c : ℕ) (old mid new : List ℕ) (x : ℕ) → IsGrown c mid new x → AreNoLess old mid → IsGrown c old new x
grown-sooner c old mid new x grown kept n less few =
    let first = kept x in
    grown n (omega (arith, first, less)) few

pub path-later : (c : ℕ) (old mid new : List ℕ) (path : List (Leg × Cabin)) → AreGrown c old mid path → AreNoLess mid new → AreGrown c old new path
path-later c old mid new path grown kept = λ k d lt. grown-later c old mid new (get_or path k d).0.0 (grown k d lt) kept

pub path-sooner : (c : ℕ) (old mid new : List ℕ) (path : List (Leg × Cabin)) → AreGrown c mid new path → AreNoLess old mid → AreGrown c old new path
path-sooner c old mid new path grown kept = λ k d lt. grown-sooner c old mid new (get_or path k d).0.0 (grown k d lt) kept

pub groups-later : (c : ℕ) (old mid new : List ℕ) (groups : List Group) → All (λ group. AreGrown c old mid group.path) groups → AreNoLess mid new → All (λ group. AreGrown c old new group.path) groups
groups-later c old mid new groups grown kept = λ k d lt. path-later c old mid new (get_or groups k d).path (grown k d lt) kept

pub kept-then : (old mid new : List ℕ) → AreNoLess old mid → AreNoLess mid new → AreNoLess old new
kept-then old mid new first then x =
    let one = first x in
    let two = then x in
    omega (arith, one, two)

pub set-kept : (amounts : List ℕ) (x v : ℕ) → amount amounts x ≤ v → AreNoLess amounts (set amounts x v)
set-kept amounts x v less y =
    elim (cases_eq y x) [
      | inr other ↦ (let same : amount (set amounts x v) y ≡ amount amounts y = get_or-set_other amounts x y v 0 other in omega (arith, same))
      | inl is ↦ elim (cases_lt x (length amounts)) [
        | inl within ↦
            let here : amount (set amounts x v) y ≡ v = ap (amount (set amounts x v)) is ∙ get_or-set_same amounts x v 0 within in
            let was : amount amounts y ≡ amount amounts x = ap (amount amounts) is in
            omega (arith, here, was, less)
        | inr past ↦ (let same : amount (set amounts x v) y ≡ amount amounts y = ap (λ (all : List ℕ). amount all y) (set_past amounts x v past) in omega (arith, same))
      ]
    ]

pub set-grown : (c : ℕ) (amounts : List ℕ) (x v : ℕ) → x < length amounts → ((n : ℕ) → n ≤ amount amounts x + c → n ≤ 10 ^ 38 → n ≤ v) → IsGrown c amounts (set amounts x v) x
set-grown c amounts x v within grown n less few =
    let here : amount (set amounts x v) x ≡ v = get_or-set_same amounts x v 0 within in
    let enough = grown n less few in
    omega (arith, here, enough)

-- ---- a leg of a path

path-at : (c : ℕ) (old new : List ℕ) (x : ℕ) (path : List (Leg × Cabin)) → AreGrown c old new path → has_leg x path ≡ true → IsGrown c old new x
path-at c old new x [] grown has = absurd cc
path-at c old new x (pair ∷ path) grown has =
    elim (cases_Bool (eqb pair.0.0 x)) [
      | inl here ↦ subst (IsGrown c old new) (eqb-true pair.0.0 x here) (All-head (λ (q : Leg × Cabin). IsGrown c old new q.0.0) pair path grown)
      | inr other ↦ (let rest : has_leg x path ≡ true = rw other at has in path-at c old new x path (All-tail (λ (q : Leg × Cabin). IsGrown c old new q.0.0) pair path grown) rest)
    ]

groups-at : (c : ℕ) (old new : List ℕ) (x : ℕ) (groups : List Group) → All (λ group. AreGrown c old new group.path) groups → list_any (λ group. has_leg x group.path) groups ≡ true → IsGrown c old new x
groups-at c old new x [] grown has = absurd cc
groups-at c old new x (group ∷ groups) grown has =
    elim (cases_Bool (has_leg x group.path)) [
      | inl here ↦ path-at c old new x group.path (All-head (λ (g : Group). AreGrown c old new g.path) group groups grown) here
      | inr other ↦ (let rest : list_any (λ (g : Group). has_leg x g.path) groups ≡ true = rw other at has in groups-at c old new x groups (All-tail (λ (g : Group). AreGrown c old new g.path) group groups grown) rest)
    ]

-- ---- one reservation more

part-le : (b : Bool) (c : ℕ) → cond b c 0 ≤ c
part-le true c = omega arith
part-le false c = omega arith

paid-few : (I : Situation) (P : PlanRows) (some : ℕ → Bool) (n : ℕ) → IsValid I → IsPlanFor I P → n ≤ reservations_of I → paid_first I P some n ≤ 10 ^ 38
paid-few I P some n valid plan few =
    omega (
      arith,
      sum_by-le-sum_by (λ r. cond (some r) (reservation_cost I P r) 0) (reservation_cost I P) (numbers n) (λ r. part-le (some r) (reservation_cost I P r)),
      reservations-le I P n valid plan,
      mul-le-mul_right (1000 * passenger_most) few,
      mul-le-mul_right (1000 * passenger_most) valid.parts.few.res,
    )

first-more : (I : Situation) (P : PlanRows) (some : ℕ → Bool) (n : ℕ) → paid_first I P some (n + 1) ≡ paid_first I P some n + cond (some n) (reservation_cost I P n) 0
first-more I P some n =
    let next : n + 1 ≡ suc n = omega arith in
    ap (paid_first I P some) next ∙ sum_by_push (λ r. cond (some r) (reservation_cost I P r) 0) (numbers n) n

amount-more : (I : Situation) (P : PlanRows) (some : ℕ → Bool) (old new : List ℕ) (c n x : ℕ) → IsValid I → IsPlanFor I P → n < reservations_of I → c ≡ reservation_cost I P n → AreNoLess old new → (some n ≡ true → IsGrown c old new x) → paid_first I P some n ≤ amount old x → paid_first I P some (n + 1) ≤ amount new x
amount-more I P some old new c n x valid plan lt is kept grown before =
    let more = first-more I P some n in
    elim (cases_Bool (some n)) [
      | inl here ↦
          let one : cond (some n) (reservation_cost I P n) 0 ≡ c = rw here (sym is) in
          grown here (paid_first I P some (n + 1)) (omega (arith, more, one, before)) (paid-few I P some (n + 1) valid plan (omega (arith, lt)))
      | inr off ↦
          let none : cond (some n) (reservation_cost I P n) 0 ≡ 0 = rw off refl in
          let stays = kept x in
          omega (arith, more, none, before, stays)
    ]

pub amounts-more : (I : Situation) (P : PlanRows) (on booked on_new booked_new : List ℕ) (c n : ℕ) → IsValid I → IsPlanFor I P → n < reservations_of I → c ≡ reservation_cost I P n → AreAmounts I P on booked n → length on_new ≡ length on → length booked_new ≡ length booked → AreNoLess on on_new → AreNoLess booked booked_new → All (λ group. AreGrown c on on_new group.path) (groups_at P n) → AreGrown c booked booked_new (booked_path I n) → AreAmounts I P on_new booked_new (n + 1)
amounts-more I P on booked on_new booked_new c n valid plan lt is are long booked_long kept booked_kept paths path = record {
  legs = long ∙ are.legs;
  booked_legs = booked_long ∙ are.booked_legs;
  on_leg = λ x. amount-more I P (uses P x) on on_new c n x valid plan lt is kept (groups-at c on on_new x (groups_at P n) paths) (are.on_leg x);
  booked_on_leg = λ x. amount-more I P (is_booked_on I x) booked booked_new c n x valid plan lt is booked_kept (path-at c booked booked_new x (booked_path I n) path) (are.booked_on_leg x);
}

-- one that costs nothing
same-more : (I : Situation) (P : PlanRows) (some : ℕ → Bool) (n : ℕ) → reservation_cost I P n ≡ 0 → paid_first I P some (n + 1) ≡ paid_first I P some n
same-more I P some n none =
    let more = first-more I P some n in
    let less = part-le (some n) (reservation_cost I P n) in
    omega (arith, more, less, none)

pub nothing-more : (I : Situation) (P : PlanRows) (on booked : List ℕ) (n : ℕ) → reservation_cost I P n ≡ 0 → AreAmounts I P on booked n → AreAmounts I P on booked (n + 1)
nothing-more I P on booked n none are = record {
  legs = are.legs;
  booked_legs = are.booked_legs;
  on_leg = λ x. (let same = same-more I P (uses P x) n none in let was = are.on_leg x in omega (arith, same, was));
  booked_on_leg = λ x. (let same = same-more I P (is_booked_on I x) n none in let was = are.booked_on_leg x in omega (arith, same, was));
}

pub first-amounts : (I : Situation) (P : PlanRows) (on booked : List ℕ) → length on ≡ legs_of I → length booked ≡ legs_of I → AreAmounts I P on booked 0
first-amounts I P on booked long booked_long = record {
  legs = long;
  booked_legs = booked_long;
  on_leg = λ x. omega arith;
  booked_on_leg = λ x. omega arith;
}

-- ---- counts

-- one number more
pub count-more : (f : ℕ → Bool) (n : ℕ) → length (filter f (numbers (n + 1))) ≡ length (filter f (numbers n)) + cond (f n) 1 0
count-more f n =
    let next : n + 1 ≡ suc n = omega arith in
    let same : length (filter f (numbers (n + 1))) ≡ length (filter f (numbers (suc n))) = ap (λ (k : ℕ). length (filter f (numbers k))) next in
    omega (arith, same, length-filter f (numbers n), length-filter f (numbers (suc n)), sum_by_push (λ y. cond (f y) 1 0) (numbers n) n)
