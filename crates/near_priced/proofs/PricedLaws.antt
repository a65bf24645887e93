-- A move that costs at least as much more as those pay whom it touches is not better.
use Rattle.std.proofs.Common.{◌≡◌, ℕ, zero, suc, ◌+◌, ◌<◌, ◌≤◌, inl, inr, Bool, true, false, ◌||◌, not, cond, eqb, List, [], ◌∷◌, ◌++◌, length, get_or, refl, sym, ap, ◌∙◌, arith}
use Rattle.std.specs.Prelude.{None, sum_by}
use Rattle.std.specs.List.{All, list_all, list_any}
use Rattle.std.proofs.lemmas.Bool.{true≢false, and_from, or_parts, not-true, eq-eqb}
use Rattle.std.proofs.lemmas.List.Elements.{All-nil, All-cons, All-contains}
use Rattle.std.proofs.lemmas.List.Folds.{list_any_at}
use Rattle.std.proofs.lemmas.List.Sums.{sum_by-cons, sum_by_push}
use Rattle.desk_units.specs.declared.numbers.Leg.{Leg}
use Rattle.desk_units.specs.declared.numbers.Cabin.{Cabin}
use Rattle.desk_data.specs.declared.row.Group.{Group}
use Rattle.desk_data.specs.Situation.{Situation, reservations_of}
use Rattle.desk_data.specs.PlanRows.{PlanRows, groups_at}
use Rattle.desk_data.specs.Valid.{IsPlanFor, IsValid}
use Rattle.plan_moves.specs.declared.moves.Move.{Move}
use Rattle.plan_moves.specs.declared.moves.Step.{Step}
use Rattle.plan_moves.specs.declared.moves.Step.TheVariants.{Set, Push, Swap, Rebook, Tidy, Refill}
use Rattle.desk_rules.specs.Numbers.{numbers}
use Rattle.desk_rules.specs.Least.{least}
use Rattle.desk_rules.specs.Cost.{cost, operating_cost, position_cost}
use Rattle.desk_model.specs.Refill.{has_leg}
use Rattle.desk_model.specs.Steps.{after_steps, after_move}
use Rattle.plan_checks.specs.Amounts.{reservation_cost}
use Rattle.plan_checks.proofs.BalanceLaws.{cost_is}
use Rattle.board_kit.specs.Users.{uses, is_booked_on}
use Rattle.near_moves.specs.Descent.{is_better}
use Rattle.near_moves.specs.RowRules.{keeps_rows}
use Rattle.near_untouched.specs.Alone.{IsLeftAlone, leaves_alone, cost_of_some}
use Rattle.near_priced.proofs.DearLaws.{saves-dear, dear-worse}
use Rattle.near_draft.specs.Drafts.{AreAllChanged}
use Rattle.near_priced.specs.Priced.{paid_on, paid_booked, tidies, refilled}

-- ---- sums

-- terms that are at most what two others come to: so are the sums
two-le : (f g h : ℕ → ℕ) (n : ℕ) → ((y : ℕ) → f y ≤ g y + h y) → sum_by f (numbers n) ≤ sum_by g (numbers n) + sum_by h (numbers n)
two-le f g h zero less = omega arith
two-le f g h (suc n) less =
    let rest = two-le f g h n less in
    let here = less n in
    omega (arith, sum_by_push f (numbers n) n, sum_by_push g (numbers n) n, sum_by_push h (numbers n) n, rest, here)

pub none-sum : (n : ℕ) → sum_by (λ y. 0) (numbers n) ≡ 0
none-sum zero = refl
none-sum (suc n) =
    let rest = none-sum n in
    omega (arith, sum_by_push (λ y. 0) (numbers n) n, rest)

-- the cost of one reservation, where a test passes
abbrev part : Bool → ℕ → ℕ
part b c = cond b c 0

either-part : (a b : Bool) (c : ℕ) → part (a || b) c ≤ part a c + part b c
either-part true b c = omega arith
either-part false b c = omega arith

whole-part : (b : Bool) (c : ℕ) → c ≤ part (not b) c + part b c
whole-part true c = omega arith
whole-part false c = omega arith

-- a weight for each of the first n reservations, of those that pass a test
abbrev pub some_of : (ℕ → ℕ) → ℕ → (ℕ → Bool) → ℕ
some_of weight n some = sum_by (λ r. cond (some r) (weight r) 0) (numbers n)

module _ (weight : ℕ → ℕ) (n : ℕ) where
  pub either-le : (one two : ℕ → Bool) → some_of weight n (λ r. one r || two r) ≤ some_of weight n one + some_of weight n two
  either-le one two =
      two-le (λ r. part (one r || two r) (weight r)) (λ r. part (one r) (weight r)) (λ r. part (two r) (weight r)) n
      (λ r. either-part (one r) (two r) (weight r))

  -- those that pass one of some tests come to at most what those do that pass each
  pub any-le : {X : Type 0} → (test : X → ℕ → Bool) (xs : List X) → some_of weight n (λ r. list_any (λ x. test x r) xs) ≤ sum_by (λ x. some_of weight n (test x)) xs
  any-le test [] =
      let none : some_of weight n (λ r. list_any (λ x. test x r) []) ≡ 0 = none-sum n in
      omega (arith, none)
  any-le test (x ∷ xs) =
      let both : some_of weight n (λ r. list_any (λ y. test y r) (x ∷ xs)) ≤ some_of weight n (test x) + some_of weight n (λ r. list_any (λ y. test y r) xs) = either-le (test x) (λ r. list_any (λ y. test y r) xs) in
      let rest = any-le test xs in
      omega (arith, both, rest, sum_by-cons (λ y. some_of weight n (test y)) x xs)

  others-le : (touched : ℕ → Bool) → sum_by weight (numbers n) ≤ some_of weight n (λ r. not (touched r)) + some_of weight n touched
  others-le touched =
      two-le weight (λ r. part (not (touched r)) (weight r)) (λ r. part (touched r) (weight r)) n
      (λ r. whole-part (touched r) (weight r))

-- ---- who is touched

pub any-off : {X : Type 0} (test : X → Bool) (xs : List X) → list_any test xs ≡ false → All (λ x. test x ≡ false) xs
any-off test [] off = All-nil (λ x. test x ≡ false)
any-off test (x ∷ xs) off =
    let parts = or_parts (test x) (list_any test xs) off in
    All-cons (λ y. test y ≡ false) x xs parts.0 (any-off test xs parts.1)

-- whether reservation r has somebody on one of some legs, or is booked on one of some others
abbrev pub touched : Situation → PlanRows → List ℕ → List ℕ → ℕ → Bool
touched I P legs refills r = list_any (λ x. uses P x r) legs || list_any (λ x. is_booked_on I x r) refills

-- a leg of a path of the reservation is one that somebody of it is on
on-its-leg : (P : PlanRows) (r k i : ℕ) (d : Group) (e : Leg × Cabin) → k < length (groups_at P r) → i < length (get_or (groups_at P r) k d).path → uses P (get_or (get_or (groups_at P r) k d).path i e).0.0 r ≡ true
on-its-leg P r k i d e within short =
    let path = (get_or (groups_at P r) k d).path in
    let x = (get_or path i e).0.0 in
    list_any_at (λ (group : Group). has_leg x group.path) (groups_at P r) k d within
    (list_any_at (λ (pair : Leg × Cabin). eqb pair.0.0 x) path i e short (eq-eqb x x refl))

leaves : (I : Situation) (r : ℕ) (steps : List Step) → list_all tidies steps ≡ true → list_any (λ x. is_booked_on I x r) (refilled steps) ≡ false → list_all (leaves_alone I r) steps ≡ true
leaves I r [] all off = refl
leaves I r (Set leg was new ∷ steps) all off = absurd cc
leaves I r (Push plane after ∷ steps) all off = absurd cc
leaves I r (Swap first second at ∷ steps) all off = absurd cc
leaves I r (Rebook res path to count ∷ steps) all off = absurd cc
leaves I r (Tidy ∷ steps) all off = leaves I r steps all off
leaves I r (Refill leg ∷ steps) all off =
    let parts = or_parts (is_booked_on I leg.0 r) (list_any (λ x. is_booked_on I x r) (refilled steps)) off in
    and_from (not (is_booked_on I leg.0 r)) (list_all (leaves_alone I r) steps) (ap not parts.0) (leaves I r steps all parts.1)

pub tidied-rows : (steps : List Step) → list_all tidies steps ≡ true → list_all keeps_rows steps ≡ true
tidied-rows [] all = refl
tidied-rows (Set leg was new ∷ steps) all = absurd cc
tidied-rows (Push plane after ∷ steps) all = absurd cc
tidied-rows (Swap first second at ∷ steps) all = absurd cc
tidied-rows (Rebook res path to count ∷ steps) all = absurd cc
tidied-rows (Tidy ∷ steps) all = tidied-rows steps all
tidied-rows (Refill leg ∷ steps) all = tidied-rows steps all

pub alone : (I : Situation) (P Q : PlanRows) (others : List Step) (legs : List ℕ) (r : ℕ) → list_all tidies others ≡ true → AreAllChanged P Q legs → touched I P legs (refilled others) r ≡ false → IsLeftAlone I P Q others r
alone I P Q others legs r all changed off =
    let parts = or_parts (list_any (λ x. uses P x r) legs) (list_any (λ x. is_booked_on I x r) (refilled others)) off in
    record {
      paths = λ k d within i e short.
          let x = (get_or (get_or (groups_at P r) k d).path i e).0.0 in
          elim (changed x) [
            | inl same ↦ same
            | inr has ↦
                let none : uses P x r ≡ false = All-contains (λ y. uses P y r ≡ false) legs x (any-off (λ y. uses P y r) legs parts.0) has in
                absurd (true≢false (sym (on-its-leg P r k i d e within short) ∙ none))
          ];
      steps = leaves I r others all parts.1;
    }

-- ---- a whole move

pub priced-dear : (I : Situation) (P : PlanRows) (m : Move) (first others : List Step) (legs : List ℕ) → IsValid I → IsPlanFor I (after_steps I P first) → least I P ≡ None → m.steps ≡ first ++ others → (after_steps I P first).groups ≡ P.groups → list_all tidies others ≡ true → AreAllChanged P (after_steps I P first) legs → operating_cost I P + position_cost I P + sum_by (paid_on I P) legs + sum_by (paid_booked I P) (refilled others) ≤ operating_cost I (after_steps I P first) + position_cost I (after_steps I P first) → cost I P ≤ cost I (after_move I P m)
priced-dear I P m first others legs valid plan feasible steps same all changed less =
    let Q = after_steps I P first in
    let refills = refilled others in
    let hit = touched I P legs refills in
    let on : cost_of_some I P (λ r. list_any (λ x. uses P x r) legs) ≤ sum_by (paid_on I P) legs = any-le (reservation_cost I P) (reservations_of I) (uses P) legs in
    let booked : cost_of_some I P (λ r. list_any (λ x. is_booked_on I x r) refills) ≤ sum_by (paid_booked I P) refills = any-le (reservation_cost I P) (reservations_of I) (is_booked_on I) refills in
    let both : cost_of_some I P hit ≤ cost_of_some I P (λ r. list_any (λ x. uses P x r) legs) + cost_of_some I P (λ r. list_any (λ x. is_booked_on I x r) refills) = either-le (reservation_cost I P) (reservations_of I) (λ r. list_any (λ x. uses P x r) legs) (λ r. list_any (λ x. is_booked_on I x r) refills) in
    let rest = others-le (reservation_cost I P) (reservations_of I) hit in
    saves-dear I P m first others (λ r. not (hit r)) valid plan feasible steps same (tidied-rows others all)
    (λ r lt spared. alone I P Q others legs r all changed (not-true (hit r) spared))
    (omega (arith, less, on, booked, both, rest, cost_is I P))

pub priced-worse : (I : Situation) (P : PlanRows) (m : Move) (first others : List Step) (legs : List ℕ) → IsValid I → IsPlanFor I (after_steps I P first) → least I P ≡ None → m.steps ≡ first ++ others → (after_steps I P first).groups ≡ P.groups → list_all tidies others ≡ true → AreAllChanged P (after_steps I P first) legs → operating_cost I P + position_cost I P + sum_by (paid_on I P) legs + sum_by (paid_booked I P) (refilled others) ≤ operating_cost I (after_steps I P first) + position_cost I (after_steps I P first) → is_better I P m ≡ false
priced-worse I P m first others legs valid plan feasible steps same all changed less =
    dear-worse I P m (priced-dear I P m first others legs valid plan feasible steps same all changed less)
