-- Rotations that are looked up once, and where their legs lead.
use Rattle.std.proofs.Common.{◌≡◌, ℕ, zero, suc, ◌+◌, ◌-◌, ◌<◌, inl, inr, Bool, true, eqb, cond, List, [], ◌∷◌, ◌++◌, length, get_or, take, map, refl, sym, ap, subst, ◌∙◌, arith}
use Rattle.std.specs.Prelude.{Some, All, filter, slice_get}
use Rattle.std.specs.List.{AllByRecursion, Contains}
use Rattle.std.proofs.lemmas.Bool.{cases_Bool, eq-eqb, ne_eqb}
use Rattle.std.proofs.lemmas.List.{append-nil, get_or-map, length-map, map_push, take_more}
use Rattle.std.proofs.lemmas.List.Elements.{All-take, All-from_recursion, filter-append, recursion_from_All, Contains-append_left}
use Rattle.std.proofs.lemmas.Option.{slice_get_within, get_or_from_slice_get}
use Rattle.desk_units.specs.declared.numbers.Leg.{Leg}
use Rattle.desk_data.specs.Situation.{Situation, legs_of}
use Rattle.desk_data.specs.PlanRows.{PlanRows}
use Rattle.desk_rules.specs.Numbers.{numbers}
use Rattle.desk_rules.specs.Rotations.{dep}
use Rattle.desk_rules.specs.Maintenance.{flies}
use Rattle.desk_rules.proofs.HourLaws.{length-numbers}
use Rattle.desk_rules.proofs.MaintenanceLaws.{flies-holds}
use Rattle.desk_model.specs.Push.{rotation}
use Rattle.desk_model.proofs.GroupPlans.{numbers-at}
use Rattle.near_moves.specs.MoveParts.{run}
use Rattle.near_moves.proofs.ListLaws.{contains_head, contains_tail}
use Rattle.near_moves.proofs.TallyLaws.{AreApart, apart-rest}
use Rattle.near_moves.specs.Chains.{led, to_airport}
use Rattle.near_moves.proofs.ChainLaws.{led-append, led-end, rotation-apart}
use Rattle.near_moves.proofs.HandLaws.{from-last}
use Rattle.near_search.specs.Rotations.{from_leg, numbers_of}

-- ---- the legs of each aircraft at its place

pub lists-long : {X : Type 0} (f : X → List ℕ) (g : ℕ → List ℕ) (xs : List X) (n : ℕ) → map f xs ≡ map g (numbers n) → length xs ≡ n
lists-long f g xs n are = sym (length-map xs f) ∙ ap length are ∙ length-map (numbers n) g ∙ length-numbers n

pub list-at : {X : Type 0} (f : X → List ℕ) (g : ℕ → List ℕ) (xs : List X) (n p : ℕ) (d : X) → map f xs ≡ map g (numbers n) → p < n → f (get_or xs p d) ≡ g p
list-at f g xs n p d are lt =
    let long : length xs ≡ n = lists-long f g xs n are in
    sym (get_or-map f xs p d [] (omega (arith, long, lt)))
    ∙ ap (λ (ys : List (List ℕ)). get_or ys p []) are
    ∙ get_or-map g (numbers n) p 0 [] (rw length-numbers lt)
    ∙ ap g (numbers-at n p 0 lt)

-- ---- the legs from a leg on

from_number : ℕ → List ℕ → List ℕ
from_number x [] = []
from_number x (y ∷ ys) = cond (eqb y x) (y ∷ ys) (from_number x ys)

from-numbers : (x : ℕ) (legs : List Leg) → numbers_of (from_leg x legs) ≡ from_number x (numbers_of legs)
unfolding from_number
from-numbers x [] = refl
from-numbers x (leg ∷ legs) =
    elim (cases_Bool (eqb leg.0 x)) [
      | inl same ↦ rw same refl
      | inr other ↦ rw other (from-numbers x legs)
    ]

from-split : (x : ℕ) (before after : List ℕ) → (Contains before x → ⊥) → from_number x (before ++ x ∷ after) ≡ x ∷ after
unfolding from_number
from-split x [] after none = rw (eq-eqb x x refl) refl
from-split x (y ∷ before) after none =
    rw (ne_eqb y x (λ same. none (subst (Contains (y ∷ before)) same (contains_head y before))))
    (from-split x before after (λ has. none (contains_tail y x before has)))

take-numbers : (k : ℕ) (legs : List Leg) → numbers_of (take k legs) ≡ take k (numbers_of legs)
take-numbers zero legs = refl
take-numbers (suc k) [] = refl
take-numbers (suc k) (leg ∷ legs) = ap (λ (xs : List ℕ). leg.0 ∷ xs) (take-numbers k legs)

pub run-is : (I : Situation) (P : PlanRows) (x p k : ℕ) (legs : List Leg) → x < legs_of I → flies P p x ≡ true → numbers_of legs ≡ rotation I P p → numbers_of (take k (from_leg x legs)) ≡ run I P x k
run-is I P x p k legs within flown order =
    let ends = from-last I P x p (dep P x) within (flies-holds P p x flown) in
    let is : rotation I P p ≡ ends.before ++ x ∷ ends.tail = ends.is ∙ ap (λ (xs : List ℕ). ends.before ++ xs) ends.begins in
    let apart : AreApart (ends.before ++ x ∷ ends.tail) = subst AreApart is (rotation-apart I P p) in
    let none : Contains ends.before x → ⊥ = λ has. (apart-rest x ends.before ends.tail apart).0 (Contains-append_left ends.before ends.tail x has) in
    let from : from_number x (numbers_of legs) ≡ x ∷ ends.tail = ap (from_number x) (order ∙ is) ∙ from-split x ends.before ends.tail none in
    take-numbers k (from_leg x legs) ∙ ap (take k) (from-numbers x legs ∙ from ∙ sym ends.begins)

from_all : (Q : Leg → Type 0) (x : ℕ) (legs : List Leg) → AllByRecursion Q legs → AllByRecursion Q (from_leg x legs)
from_all Q x [] all = tt
from_all Q x (leg ∷ legs) all =
    elim (cases_Bool (eqb leg.0 x)) [
      | inl same ↦ rw same all
      | inr other ↦ rw other (from_all Q x legs all.1)
    ]

pub run-within : (Q : Leg → Type 0) (x k : ℕ) (legs : List Leg) → All Q legs → All Q (take k (from_leg x legs))
run-within Q x k legs all = All-take Q k (from_leg x legs) (All-from_recursion Q (from_leg x legs) (from_all Q x legs (recursion_from_All Q legs all)))

-- where they lead that are passed, with one leg more
pub led-more : (I : Situation) (a x : ℕ) (t : ℕ → Bool) (xs : List ℕ) → led I a (filter t (xs ++ x ∷ [])) ≡ cond (t x) (to_airport I x) (led I a (filter t xs))
led-more I a x t xs =
    elim (cases_Bool (t x)) [
      | inl yes_test ↦ ap (led I a) (filter-append t xs (x ∷ [])) ∙ rw yes_test (led-append I a (filter t xs) (x ∷ []))
      | inr no_test ↦ ap (led I a) (filter-append t xs (x ∷ [])) ∙ rw no_test (ap (led I a) (append-nil (filter t xs)))
    ]

-- where they lead is told by the last leg
pub led-by-last : (I : Situation) (a : ℕ) (legs : List Leg) (x : Leg) → slice_get legs (length legs - 1) ≡ Some x → led I a (numbers_of legs) ≡ to_airport I x.0
led-by-last I a legs x at =
    let n = length legs - 1 in
    let within : n < length legs = slice_get_within legs n x at in
    let same : length (numbers_of legs) ≡ length legs = length-map legs (λ (leg : Leg). leg.0) in
    led-end I a (numbers_of legs) n 0 (omega (arith, within, same))
    ∙ ap (to_airport I) (get_or-map (λ (leg : Leg). leg.0) legs n x 0 within ∙ ap (λ (leg : Leg). leg.0) (get_or_from_slice_get legs n x x at))

pub led-next : (I : Situation) (a : ℕ) (t : ℕ → Bool) (legs : List Leg) (i : ℕ) (d : Leg) → i < length legs → led I a (filter t (numbers_of (take (i + 1) legs))) ≡ cond (t (get_or legs i d).0) (to_airport I (get_or legs i d).0) (led I a (filter t (numbers_of (take i legs))))
led-next I a t legs i d lt =
    ap (λ (some : List Leg). led I a (filter t (numbers_of some))) (take_more legs i d lt)
    ∙ ap (λ (xs : List ℕ). led I a (filter t xs)) (map_push (λ (leg : Leg). leg.0) (take i legs) (get_or legs i d))
    ∙ led-more I a (get_or legs i d).0 t (numbers_of (take i legs))
