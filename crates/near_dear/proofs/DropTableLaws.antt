-- What is owed by leg, group by group and reservation by reservation.
use Rattle.std.proofs.Common.{◌≡◌, ℕ, suc, ◌+◌, ◌*◌, ◌^◌, ◌<◌, ◌≤◌, inl, inr, Bool, true, false, ◌||◌, cond, eqb, List, [], length, get_or, set, take, replicate, refl, sym, ap, subst, ◌∙◌, arith}
use Rattle.std.specs.Prelude.{sum_by}
use Rattle.std.specs.List.{All}
use Rattle.std.proofs.Math.Nat.{mul-le-mul_right}
use Rattle.std.proofs.lemmas.Bool.{cases_eq, cases_lt, eq-eqb, ne_eqb}
use Rattle.std.proofs.lemmas.List.{get_or-set_same, get_or-set_other, get_or-replicate, get_or_past, length-replicate, get_or_default}
use Rattle.std.proofs.lemmas.List.Folds.{list_any_more}
use Rattle.std.proofs.lemmas.List.Sums.{sum_by_push, sum_by_more_le}
use Rattle.desk_units.specs.declared.numbers.Leg.{Leg}
use Rattle.desk_units.specs.declared.numbers.Cabin.{Cabin}
use Rattle.desk_data.specs.declared.row.Group.{Group}
use Rattle.desk_data.specs.Situation.{Situation, legs_of, reservations_of}
use Rattle.desk_data.specs.PlanRows.{PlanRows, groups_at}
use Rattle.desk_data.specs.Valid.{IsPlanFor, IsValid}
use Rattle.desk_rules.specs.Numbers.{numbers}
use Rattle.desk_rules.proofs.CostLaws.{IsAtMost, reservations-le}
use Rattle.desk_model.specs.Refill.{has_leg}
use Rattle.plan_checks.specs.Counted.{IsGroupOf}
use Rattle.plan_checks.proofs.GroupLaws.{group-fits, group-le, passenger_most, uncarried_is}
use Rattle.near_priced.specs.Tables.{amount}
use Rattle.near_dear.specs.Owed.{AreOwed, owed_by, owed_first, uncarried}

-- ---- the first

abbrev zeros : ℕ → List ℕ
zeros n = replicate n 0

zeros-long : (n : ℕ) → length (zeros n) ≡ n
zeros-long n = length-replicate {A = ℕ} n 0

zero-at : (n x : ℕ) → amount (zeros n) x ≡ 0
zero-at n x =
    elim (cases_lt x n) [
      | inl lt ↦ get_or-replicate {A = ℕ} n x 0 0 lt
      | inr past ↦ get_or_past {X = ℕ} (zeros n) x 0 (let long = zeros-long n in omega (arith, past, long))
    ]

pub first-owed : (I : Situation) (P : PlanRows) (owed : List ℕ) → owed ≡ zeros (legs_of I) → AreOwed I P owed 0
first-owed I P owed is = record {
  legs = ap (λ (all : List ℕ). length all) is ∙ zeros-long (legs_of I);
  each = λ x. ap (λ (all : List ℕ). amount all x) is ∙ zero-at (legs_of I) x;
}

-- ---- one leg of a path

-- the legs of a path before place k have their cost
abbrev pub ArePut : ℕ → List (Leg × Cabin) → List ℕ → List ℕ → Type 0
ArePut cost path old new = (x : ℕ) → amount new x ≡ amount old x + cond (has_leg x path) cost 0

more-legs : (path : List (Leg × Cabin)) (k : ℕ) (d : Leg × Cabin) (x : ℕ) → k < length path → has_leg x (take (k + 1) path) ≡ (has_leg x (take k path) || eqb (get_or path k d).0.0 x)
more-legs path k d x lt = list_any_more (λ (pair : Leg × Cabin). eqb pair.0.0 x) path k d lt

or_none : (b : Bool) → (b || false) ≡ b
or_none true = refl
or_none false = refl

or_all : (b : Bool) → (b || true) ≡ true
or_all true = refl
or_all false = refl

-- a leg that stands before, too
pub known-leg : (cost : ℕ) (path : List (Leg × Cabin)) (old new : List ℕ) (k : ℕ) (d : Leg × Cabin) → k < length path → has_leg (get_or path k d).0.0 (take k path) ≡ true → ArePut cost (take k path) old new → ArePut cost (take (k + 1) path) old new
known-leg cost path old new k d lt has put x =
    let leg = (get_or path k d).0.0 in
    let same : has_leg x (take (k + 1) path) ≡ has_leg x (take k path) =
    elim (cases_eq leg x) [
      | inl is ↦ more-legs path k d x lt ∙ ap (λ (b : Bool). has_leg x (take k path) || b) (eq-eqb leg x is) ∙ or_all (has_leg x (take k path)) ∙ sym (subst (λ (y : ℕ). has_leg y (take k path) ≡ true) is has)
      | inr other ↦ more-legs path k d x lt ∙ ap (λ (b : Bool). has_leg x (take k path) || b) (ne_eqb leg x other) ∙ or_none (has_leg x (take k path))
    ] in
    put x ∙ ap (λ (b : Bool). amount old x + cond b cost 0) (sym same)

-- a new one
pub new-leg : (cost : ℕ) (path : List (Leg × Cabin)) (old new : List ℕ) (k : ℕ) (d : Leg × Cabin) (v : ℕ) → k < length path → (get_or path k d).0.0 < length new → has_leg (get_or path k d).0.0 (take k path) ≡ false → v ≡ amount new (get_or path k d).0.0 + cost → ArePut cost (take k path) old new → ArePut cost (take (k + 1) path) old (set new (get_or path k d).0.0 v)
new-leg cost path old new k d v lt within off is put x =
    let leg = (get_or path k d).0.0 in
    let before = has_leg x (take k path) in
    elim (cases_eq x leg) [
      | inl same ↦
          let here : amount (set new leg v) x ≡ v = ap (amount (set new leg v)) same ∙ get_or-set_same new leg v 0 within in
          let none : cond (has_leg leg (take k path)) cost 0 ≡ 0 = rw off refl in
          let was = put leg in
          let all : cond (has_leg x (take (k + 1) path)) cost 0 ≡ cost = ap (λ (b : Bool). cond b cost 0) (more-legs path k d x lt ∙ ap (λ (b : Bool). before || b) (eq-eqb leg x (sym same)) ∙ or_all before) in
          let old_is : amount old x ≡ amount old leg = ap (amount old) same in
          omega (arith, here, none, was, all, old_is, is)
      | inr other ↦
          let stays : amount (set new leg v) x ≡ amount new x = get_or-set_other new leg x v 0 other in
          let as_before : has_leg x (take (k + 1) path) ≡ before = more-legs path k d x lt ∙ ap (λ (b : Bool). before || b) (ne_eqb leg x (λ is_leg. other (sym is_leg))) ∙ or_none before in
          stays ∙ put x ∙ ap (λ (b : Bool). amount old x + cond b cost 0) (sym as_before)
    ]

-- so it has room
pub leg-room : (cost : ℕ) (path : List (Leg × Cabin)) (old new : List ℕ) (k : ℕ) (d : Leg × Cabin) → k < length path → has_leg (get_or path k d).0.0 (take k path) ≡ false → has_leg (get_or path k d).0.0 path ≡ true → ArePut cost (take k path) old new → ((x : ℕ) → amount old x + cond (has_leg x path) cost 0 ≤ 10 ^ 38) → amount new (get_or path k d).0.0 + cost ≤ 10 ^ 38
leg-room cost path old new k d lt off has put room =
    let leg = (get_or path k d).0.0 in
    let none : cond (has_leg leg (take k path)) cost 0 ≡ 0 = rw off refl in
    let all : cond (has_leg leg path) cost 0 ≡ cost = rw has refl in
    let most = room leg in
    let now = put leg in
    omega (arith, none, all, most, now)

-- ---- one reservation more

pub first-more : (I : Situation) (P : PlanRows) (x n : ℕ) → owed_first I P x (n + 1) ≡ owed_first I P x n + sum_by (owed_by I x n) (groups_at P n)
first-more I P x n =
    let next : n + 1 ≡ suc n = omega arith in
    ap (owed_first I P x) next ∙ sum_by_push (λ r. sum_by (owed_by I x r) (groups_at P r)) (numbers n) n

part-le : (b : Bool) (c : ℕ) → cond b c 0 ≤ c
part-le true c = omega arith
part-le false c = omega arith

-- a passenger owes no more than the dearest one costs
owed-le : (I : Situation) (P : PlanRows) (x : ℕ) → IsValid I → IsPlanFor I P → IsAtMost (owed_by I x) passenger_most
owed-le I P x valid plan r group short =
    let off : Group = record { count = group.count; path = [] } in
    let most = group-le I P valid plan r off (omega arith) in
    let is = uncarried_is I P r off refl in
    let part = part-le (has_leg x group.path) (uncarried I r group.count) in
    omega (arith, most, is, part)

owed-few : (I : Situation) (P : PlanRows) (x n : ℕ) → IsValid I → IsPlanFor I P → n ≤ reservations_of I → owed_first I P x n ≤ 10 ^ 38
owed-few I P x n valid plan few =
    omega (
      arith,
      reservations-le I P (owed_by I x) passenger_most n valid plan (owed-le I P x valid plan),
      mul-le-mul_right (1000 * passenger_most) few,
      mul-le-mul_right (1000 * passenger_most) valid.parts.few.res,
    )

pub reservation-room : (I : Situation) (P : PlanRows) (owed : List ℕ) (n x : ℕ) → IsValid I → IsPlanFor I P → n < reservations_of I → AreOwed I P owed n → amount owed x + sum_by (owed_by I x n) (groups_at P n) ≤ 10 ^ 38
reservation-room I P owed n x valid plan lt are =
    let now = are.each x in
    let more = first-more I P x n in
    let few = owed-few I P x (n + 1) valid plan (omega (arith, lt)) in
    omega (arith, now, more, few)

pub owed-more : (I : Situation) (P : PlanRows) (old new : List ℕ) (n : ℕ) → AreOwed I P old n → length new ≡ length old → ((x : ℕ) → amount new x ≡ amount old x + sum_by (owed_by I x n) (groups_at P n)) → AreOwed I P new (n + 1)
owed-more I P old new n are long grown = record {
  legs = long ∙ are.legs;
  each = λ x.
      let is = grown x in
      let was = are.each x in
      let more = first-more I P x n in
      omega (arith, is, was, more);
}

pub groups-fit : (I : Situation) (P : PlanRows) (r : ℕ) → IsValid I → IsPlanFor I P → r < reservations_of I → All (IsGroupOf I) (groups_at P r)
groups-fit I P r valid plan lt k d within = group-fits I P r k (get_or (groups_at P r) k d) valid plan lt within (get_or_default (groups_at P r) k d (get_or (groups_at P r) k d) within)

-- ---- groups

pub groups-room : (I : Situation) (r x k : ℕ) (old new : List ℕ) (groups : List Group) (group : Group) → k < length groups → group ≡ get_or groups k group → amount new x ≡ amount old x + sum_by (owed_by I x r) (take k groups) → amount old x + sum_by (owed_by I x r) groups ≤ 10 ^ 38 → amount new x + owed_by I x r group ≤ 10 ^ 38
groups-room I r x k old new groups group lt is now room =
    let more = sum_by_more_le (owed_by I x r) groups k group lt in
    let same = ap (owed_by I x r) is in
    omega (arith, more, same, now, room)
