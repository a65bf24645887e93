-- What steps that cancel legs say, and the positions that an aircraft may serve.
use Rattle.std.proofs.Common.{◌≡◌, ℕ, ◌+◌, ◌*◌, ◌<◌, ◌≤◌, Bool, true, false, ◌&&◌, not, cond, eqb, ltb, List, [], ◌∷◌, ◌++◌, length, get_or, take, drop, refl, sym, ap, ◌∙◌, arith}
use Rattle.std.specs.Prelude.{map, sum_by}
use Rattle.std.specs.List.{All, list_all}
use Rattle.std.proofs.Math.Nat.{mul-le-mul_left}
use Rattle.std.proofs.lemmas.Bool.{and_parts, eq-eqb}
use Rattle.std.proofs.lemmas.List.{take-append-drop, drop_more, drop_all, take_more}
use Rattle.std.proofs.lemmas.List.Elements.{All-nil, All-cons}
use Rattle.std.proofs.lemmas.List.Sums.{sum_by-cons, sum_by-le-sum_by}
use Rattle.desk_units.specs.declared.numbers.Leg.{Leg}
use Rattle.desk_units.specs.declared.tariff.Term.TheVariants as term
use Rattle.tariff_prices.specs.Prices.{position_price}
use Rattle.desk_data.specs.declared.info.PositionInfo.{PositionInfo}
use Rattle.desk_data.specs.declared.row.Row.{Row}
use Rattle.desk_data.specs.declared.row.Row.TheVariants.{Flown, Cancelled}
use Rattle.desk_data.specs.Situation.{Situation, plane_at, reservations_of}
use Rattle.desk_data.specs.PlanRows.{PlanRows, row_at}
use Rattle.plan_moves.specs.declared.moves.Step.{Step}
use Rattle.plan_moves.specs.declared.moves.Step.TheVariants.{Set, Push, Swap, Rebook, Tidy, Refill}
use Rattle.desk_rules.specs.Cost.{weight, rows_of, by_item, operating, is_wanted, ends_at, at_hand}
use Rattle.desk_rules.specs.Maintenance.{flies}
use Rattle.desk_rules.specs.Passengers.{is_flown}
use Rattle.desk_rules.specs.Rows.{is_row}
use Rattle.desk_rules.proofs.LegLaws.{is_row-holds}
use Rattle.near_moves.specs.LegMoves.{cancelling}
use Rattle.near_priced.specs.Unpaid.{may_serve, services, saved_by_ending}
use Rattle.near_draft.specs.Legs.{numbers_of}
use Rattle.near_priced.specs.Priced.{paid_on}
use Rattle.near_priced.specs.Tables.{AreAmounts, amount}
use Rattle.near_dear.specs.Drops.{cancels, legs_set, flying_of, lacks_one, places_for}

-- ---- the last two steps

pub ends-so : (steps : List Step) (k : ℕ) (d e : Step) → length steps ≡ k + 2 → steps ≡ take k steps ++ get_or steps k d ∷ get_or steps (k + 1) e ∷ []
ends-so steps k d e long =
    let one = drop_more steps k d (omega (arith, long)) in
    let two = drop_more steps (k + 1) e (omega (arith, long)) in
    let none : drop (k + 1 + 1) steps ≡ [] = drop_all (k + 1 + 1) steps (omega (arith, long)) in
    sym (take-append-drop k steps)
    ∙ ap (λ (rest : List Step). take k steps ++ rest) (one ∙ ap (λ (rest : List Step). get_or steps k d ∷ rest) (two ∙ ap (λ (rest : List Step). get_or steps (k + 1) e ∷ rest) none))

-- ---- steps that cancel

cancelled-row : (row : Row) → not (is_flown row) ≡ true → row ≡ Cancelled
cancelled-row (Flown plane dep) off = absurd cc
cancelled-row Cancelled off = refl

pub cancels-are : (P : PlanRows) (p : ℕ) (steps : List Step) → list_all (cancels P p) steps ≡ true → steps ≡ map (cancelling P) (legs_set steps)
cancels-are P p [] all = refl
cancels-are P p (Set leg was new ∷ steps) all =
    let parts = and_parts (cancels P p (Set leg was new)) (list_all (cancels P p) steps) all in
    let own = and_parts (is_row (row_at P leg.0) was) (flies P p leg.0 && not (is_flown new)) parts.0 in
    let off = and_parts (flies P p leg.0) (not (is_flown new)) own.1 in
    let here : Set leg was new ≡ cancelling P leg.0 =
    ap (λ (row : Row). Set leg row new) (is_row-holds (row_at P leg.0) was own.0)
    ∙ ap (λ (row : Row). Set leg (row_at P leg.0) row) (cancelled-row new off.1) in
    ap (λ (step : Step). step ∷ steps) here ∙ ap (λ (rest : List Step). cancelling P leg.0 ∷ rest) (cancels-are P p steps parts.1)
cancels-are P p (Push plane after ∷ steps) all = absurd cc
cancels-are P p (Swap first second at ∷ steps) all = absurd cc
cancels-are P p (Rebook res path to count ∷ steps) all = absurd cc
cancels-are P p (Tidy ∷ steps) all = absurd cc
cancels-are P p (Refill leg ∷ steps) all = absurd cc

pub cancels-flown : (P : PlanRows) (p : ℕ) (steps : List Step) → list_all (cancels P p) steps ≡ true → All (λ x. flies P p x ≡ true) (legs_set steps)
cancels-flown P p [] all = All-nil (λ x. flies P p x ≡ true)
cancels-flown P p (Set leg was new ∷ steps) all =
    let parts = and_parts (cancels P p (Set leg was new)) (list_all (cancels P p) steps) all in
    let own = and_parts (is_row (row_at P leg.0) was) (flies P p leg.0 && not (is_flown new)) parts.0 in
    let off = and_parts (flies P p leg.0) (not (is_flown new)) own.1 in
    All-cons (λ x. flies P p x ≡ true) leg.0 (legs_set steps) off.0 (cancels-flown P p steps parts.1)
cancels-flown P p (Push plane after ∷ steps) all = absurd cc
cancels-flown P p (Swap first second at ∷ steps) all = absurd cc
cancels-flown P p (Rebook res path to count ∷ steps) all = absurd cc
cancels-flown P p (Tidy ∷ steps) all = absurd cc
cancels-flown P p (Refill leg ∷ steps) all = absurd cc

-- what flying them costs
pub flying-is : (I : Situation) (P : PlanRows) (steps : List Step) → sum_by (operating I P) (legs_set steps) ≡ sum_by (flying_of I P) steps
flying-is I P [] = refl
flying-is I P (Set leg was new ∷ steps) = (let rest = flying-is I P steps in omega (arith, rest, sum_by-cons (flying_of I P) (Set leg was new) steps, sum_by-cons (operating I P) leg.0 (legs_set steps)))
flying-is I P (Push plane after ∷ steps) = (let rest = flying-is I P steps in omega (arith, rest, sum_by-cons (flying_of I P) (Push plane after) steps))
flying-is I P (Swap first second at ∷ steps) = (let rest = flying-is I P steps in omega (arith, rest, sum_by-cons (flying_of I P) (Swap first second at) steps))
flying-is I P (Rebook res path to count ∷ steps) = (let rest = flying-is I P steps in omega (arith, rest, sum_by-cons (flying_of I P) (Rebook res path to count) steps))
flying-is I P (Tidy ∷ steps) = (let rest = flying-is I P steps in omega (arith, rest, sum_by-cons (flying_of I P) Tidy steps))
flying-is I P (Refill leg ∷ steps) = (let rest = flying-is I P steps in omega (arith, rest, sum_by-cons (flying_of I P) (Refill leg) steps))

-- one step more
set-append : (xs ys : List Step) → legs_set (xs ++ ys) ≡ legs_set xs ++ legs_set ys
set-append [] ys = refl
set-append (Set leg was new ∷ xs) ys = ap (λ (rest : List ℕ). leg.0 ∷ rest) (set-append xs ys)
set-append (Push plane after ∷ xs) ys = set-append xs ys
set-append (Swap first second at ∷ xs) ys = set-append xs ys
set-append (Rebook res path to count ∷ xs) ys = set-append xs ys
set-append (Tidy ∷ xs) ys = set-append xs ys
set-append (Refill leg ∷ xs) ys = set-append xs ys

pub set-more : (steps : List Step) (i : ℕ) (d : Step) → i < length steps → legs_set (take (i + 1) steps) ≡ legs_set (take i steps) ++ legs_set (get_or steps i d ∷ [])
set-more steps i d lt = ap legs_set (take_more steps i d lt) ∙ set-append (take i steps) (get_or steps i d ∷ [])

-- ---- those who pay

numbers-are : (amounts : List ℕ) (legs : List Leg) → sum_by (amount amounts) (numbers_of legs) ≡ sum_by (λ (leg : Leg). amount amounts leg.0) legs
numbers-are amounts [] = refl
numbers-are amounts (leg ∷ legs) = (let rest = numbers-are amounts legs in omega (arith, rest, sum_by-cons (amount amounts) leg.0 (numbers_of legs), sum_by-cons (λ (l : Leg). amount amounts l.0) leg legs))

pub paid-le : (I : Situation) (P : PlanRows) (on booked : List ℕ) (legs : List Leg) (own : List ℕ) → AreAmounts I P on booked (reservations_of I) → numbers_of legs ≡ own → sum_by (paid_on I P) own ≤ sum_by (λ (leg : Leg). amount on leg.0) legs
paid-le I P on booked legs own are is =
    let less = sum_by-le-sum_by (paid_on I P) (amount on) own are.on_leg in
    let same = ap (sum_by (amount on)) is in
    omega (arith, less, same, numbers-are on legs)

-- ---- positions

one_if : Bool → ℕ
one_if b = cond b 1 0

fewer : (w e t : Bool) → one_if (w && (not e && t)) ≤ one_if (w && t)
unfolding one_if
fewer false e t = omega arith
fewer true true t = omega arith
fewer true false t = omega arith

services-le : (I : Situation) (P : PlanRows) (p : ℕ) → services I P p ≤ places_for I P p
unfolding one_if
services-le I P p =
    sum_by-le-sum_by (λ (position : PositionInfo). cond (may_serve I P p position) 1 0) (λ (position : PositionInfo). cond (lacks_one I P p position) 1 0) I.parts.positions
    (λ position. fewer (is_wanted position (plane_at I p)) (ends_at I P p position.airport.0) (ltb (at_hand I P position) position.count))

pub saved-le : (I : Situation) (P : PlanRows) (p : ℕ) → saved_by_ending I P p p ≤ by_item (weight I term.Position) (position_price (rows_of I)) (places_for I P p)
saved-le I P p =
    let price = 60 * weight I term.Position * position_price (rows_of I) in
    let alone : services I P p + cond (eqb p p) 0 (services I P p) ≡ services I P p = rw (eq-eqb p p refl) (omega arith) in
    let is = ap (λ (n : ℕ). price * n) alone in
    let less = mul-le-mul_left price (services-le I P p) in
    omega (arith, is, less)
