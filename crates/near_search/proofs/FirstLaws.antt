-- What rules moves out, and what is found of the moves near a plan.
use Rattle.std.proofs.Common.{◌≡◌, ℕ, ◌-◌, ◌<◌, ◌≤◌, Bool, true, false, ltb, List, [], ◌∷◌, ◌++◌, length, get_or, take, drop, refl, sym, ap, subst, ◌∙◌, arith}
use Rattle.std.specs.Prelude.{Option, None, Some, filter, find, map, not, is_none, is_some, ◌&&◌}
use Rattle.std.specs.List.{All, flat_map, list_all}
use Rattle.std.specs.Option.{option_or}
use Rattle.std.proofs.lemmas.Bool.{le-ltb, and_right}
use Rattle.std.proofs.lemmas.List.{take_all}
use Rattle.std.proofs.lemmas.List.Concat.{flat_map-append}
use Rattle.std.proofs.lemmas.List.Elements.{All-map, All-filter, All-append, All-nil, All-cons, filter-append}
use Rattle.std.proofs.lemmas.List.Folds.{find-append}
use Rattle.desk_units.specs.declared.numbers.Leg.{Leg}
use Rattle.desk_units.specs.declared.numbers.Cabin.{Cabin}
use Rattle.desk_units.specs.declared.numbers.Res.{Res}
use Rattle.plan_moves.specs.declared.moves.Move.{Move}
use Rattle.plan_moves.specs.declared.moves.Step.{Step}
use Rattle.plan_moves.specs.declared.moves.Step.TheVariants.{Rebook}
use Rattle.desk_data.specs.Situation.{Situation}
use Rattle.desk_data.specs.PlanRows.{PlanRows, groups_at, same_path}
use Rattle.desk_rules.specs.Least.{least}
use Rattle.desk_rules.specs.Cost.{cost}
use Rattle.desk_model.specs.Rebook.{count_on}
use Rattle.desk_model.specs.Steps.{after_step, after_steps, after_move}
use Rattle.plan_checks.specs.Amounts.{passenger_cost}
use Rattle.near_moves.specs.PassengerMoves.{aims, portions, rebooking, rebookings}
use Rattle.near_moves.specs.Units.{rebooked}
use Rattle.near_moves.specs.Near.{leg_units, units, unit_steps, unit_moves, moves_of, of_shard, shard, move_of, step_in_time}
use Rattle.near_moves.specs.PassengerMoves.{rebooked_units}
use Rattle.near_moves.specs.Descent.{is_better, first_better}
use Rattle.near_legs.specs.Walk as leg_moves
use Rattle.near_pax.specs.Left as passenger_moves
use Rattle.near_search.specs.Given.{GivesAll, LegsGive, PassengersGive}
use Rattle.near_search.proofs.PaidLaws.{rebook-dearer}

-- ---- what rules moves out

-- a move that makes a plan no cheaper is not better
pub dearer-ruled_out : (I : Situation) (P : PlanRows) (m : Move) → cost I P ≤ cost I (after_move I P m) → is_better I P m ≡ false
unfolding is_better
dearer-ruled_out I P m less = and_right _ _ (le-ltb (cost I (after_move I P m)) (cost I P) less)

-- a step alone is the move
pub one-dear : (I : Situation) (P : PlanRows) (m : Move) (step : Step) → m.steps ≡ step ∷ [] → cost I P ≤ cost I (after_step I P step) → cost I P ≤ cost I (after_move I P m)
unfolding after_move
one-dear I P m step is less = subst (λ (steps : List Step). cost I P ≤ cost I (after_steps I P steps)) (sym is) less

pub one-ruled_out : (I : Situation) (P : PlanRows) (m : Move) (step : Step) → m.steps ≡ step ∷ [] → cost I P ≤ cost I (after_step I P step) → is_better I P m ≡ false
one-ruled_out I P m step is less = dearer-ruled_out I P m (one-dear I P m step is less)

pub rebook-step : (I : Situation) (P : PlanRows) (res : Res) (path to : List (Leg × Cabin)) (count : ℕ) → passenger_cost I P res.0 path ≤ passenger_cost I P res.0 to → cost I P ≤ cost I (after_step I P (Rebook res path to count))
unfolding after_step
rebook-step I P res path to count less = rebook-dearer I P res.0 path to count less

pub rebook-ruled_out : (I : Situation) (P : PlanRows) (m : Move) (res : Res) (path to : List (Leg × Cabin)) (count : ℕ) → m.steps ≡ Rebook res path to count ∷ [] → passenger_cost I P res.0 path ≤ passenger_cost I P res.0 to → is_better I P m ≡ false
rebook-ruled_out I P m res path to count is less = one-ruled_out I P m (Rebook res path to count) is (rebook-step I P res path to count less)

-- a test of moves that fails for the steps
abbrev IsWorse : Situation → PlanRows → List Step → Type 0
IsWorse I P steps = is_better I P (move_of steps) ≡ false

aim_worse : (I : Situation) (P : PlanRows) (r : ℕ) (path aim : List (Leg × Cabin)) → passenger_cost I P r path ≡ 0 → (count : ℕ) → IsWorse I P (rebooking r path aim count)
aim_worse I P r path aim none count =
    let res : Res = record { 0 = r } in
    rebook-ruled_out I P (move_of (rebooking r path aim count)) res path aim count refl (omega (arith, none))

counts_worse : (I : Situation) (P : PlanRows) (r : ℕ) (path aim : List (Leg × Cabin)) → passenger_cost I P r path ≡ 0 → (counts : List ℕ) → All (IsWorse I P) (map (rebooking r path aim) counts)
counts_worse I P r path aim none [] = All-nil (IsWorse I P)
counts_worse I P r path aim none (count ∷ counts) =
    All-cons (IsWorse I P) (rebooking r path aim count) (map (rebooking r path aim) counts) (aim_worse I P r path aim none count) (counts_worse I P r path aim none counts)

aims_worse : (I : Situation) (P : PlanRows) (r : ℕ) (path : List (Leg × Cabin)) (counts : List ℕ) → passenger_cost I P r path ≡ 0 → (to : List (List (Leg × Cabin))) → All (IsWorse I P) (flat_map (λ aim. map (rebooking r path aim) counts) to)
aims_worse I P r path counts none [] = All-nil (IsWorse I P)
aims_worse I P r path counts none (aim ∷ to) =
    All-append (IsWorse I P) (map (rebooking r path aim) counts) (flat_map (λ aim. map (rebooking r path aim) counts) to)
    (counts_worse I P r path aim none counts) (aims_worse I P r path counts none to)

pub unit-ruled_out : (I : Situation) (P : PlanRows) (r : ℕ) (path : List (Leg × Cabin)) → passenger_cost I P r path ≡ 0 → All (λ (m : Move). is_better I P m ≡ false) (unit_moves I P (rebooked r path))
unfolding unit_moves unit_steps rebookings
unit-ruled_out I P r path none =
    let counts = portions (count_on path (groups_at P r)) in
    let to = filter (λ (aim : List (Leg × Cabin)). not (same_path path aim)) (aims I P r) in
    let steps : List (List Step) = flat_map (λ aim. map (rebooking r path aim) counts) to in
    All-map (λ (m : Move). is_better I P m ≡ false) move_of (filter (list_all step_in_time) steps)
    (All-filter (list_all step_in_time) (IsWorse I P) steps (aims_worse I P r path counts none to))

-- ---- the moves of a shard are those of legs and those of passengers

shard_is : (I : Situation) (P : PlanRows) (s n : ℕ) → shard I P s n ≡ moves_of I P (of_shard s n (leg_units I P)) ++ moves_of I P (of_shard s n (rebooked_units I P))
unfolding shard units
shard_is I P s n =
    ap (moves_of I P) (filter-append _ (leg_units I P) (rebooked_units I P))
    ∙ flat_map-append (unit_moves I P) (of_shard s n (leg_units I P)) (of_shard s n (rebooked_units I P))

given-all : {Walk : Type 0} (left : Walk → List Move) (given : List Move) (walk : Walk) → GivesAll left given walk → given ≡ left walk
given-all left [] walk none = sym none
given-all left (m ∷ given) walk gives = ap (λ (ms : List Move). m ∷ ms) (given-all left given gives.after gives.rest) ∙ sym gives.first

pub given-shard : (I : Situation) (P : PlanRows) (s n : ℕ) (legs passengers : List Move) → LegsGive I P s n legs → PassengersGive I P s n passengers → legs ++ passengers ≡ shard I P s n
given-shard I P s n legs passengers by_legs by_passengers =
    ap (λ (ms : List Move). ms ++ passengers) (given-all (leg_moves.left I P) legs by_legs.walk by_legs.all ∙ by_legs.made)
    ∙ ap (λ (ms : List Move). moves_of I P (of_shard s n (leg_units I P)) ++ ms) (given-all (passenger_moves.left I P) passengers by_passengers.walk by_passengers.all ∙ by_passengers.made)
    ∙ sym (shard_is I P s n)

pub first-is : (I : Situation) (P : PlanRows) (s n : ℕ) → first_better I P s n ≡ option_or (find (is_better I P) (moves_of I P (of_shard s n (leg_units I P)))) (find (is_better I P) (moves_of I P (of_shard s n (rebooked_units I P))))
first-is I P s n =
    ap (find (is_better I P)) (shard_is I P s n)
    ∙ find-append (is_better I P) (moves_of I P (of_shard s n (leg_units I P))) (moves_of I P (of_shard s n (rebooked_units I P)))

-- the first of the moves of legs is the first of all, and where there is none, the first of those of passengers is
pub first-leg : (I : Situation) (P : PlanRows) (s n : ℕ) (found : Option Move) (m : Move) → found ≡ find (is_better I P) (moves_of I P (of_shard s n (leg_units I P))) → found ≡ Some m → Some m ≡ first_better I P s n
first-leg I P s n found m is some =
    sym (first-is I P s n ∙ ap (λ (o : Option Move). option_or o (find (is_better I P) (moves_of I P (of_shard s n (rebooked_units I P))))) (sym is ∙ some))

pub first-passengers : (I : Situation) (P : PlanRows) (s n : ℕ) (found : Option Move) → found ≡ find (is_better I P) (moves_of I P (of_shard s n (leg_units I P))) → found ≡ None → find (is_better I P) (moves_of I P (of_shard s n (rebooked_units I P))) ≡ first_better I P s n
first-passengers I P s n found is none =
    sym (first-is I P s n ∙ ap (λ (o : Option Move). option_or o (find (is_better I P) (moves_of I P (of_shard s n (rebooked_units I P))))) (sym is ∙ none))

-- what is found is a better move
pub trial-is : (I : Situation) (P Q : PlanRows) (m : Move) → Q ≡ after_move I P m → is_better I P m ≡ is_none (least I Q) && ltb (cost I Q) (cost I P)
unfolding is_better
trial-is I P Q m is = rw is refl

pub none_is : {X : Type 0} (o : Option X) (b : Bool) → is_some o ≡ not b → b ≡ is_none o
none_is None true h = refl
none_is None false h = absurd cc
none_is (Some x) true h = absurd cc
none_is (Some x) false h = refl

-- a list of one element
pub one-is : {X : Type 0} (xs : List X) (x : X) → 1 ≤ length xs → length xs < 2 → x ≡ get_or xs 0 x → xs ≡ x ∷ []
one-is [] x some few is = absurd (omega arith)
one-is (y ∷ []) x some few is = ap (λ z. z ∷ []) (sym is)
one-is (y ∷ z ∷ xs) x some few is = absurd (omega arith)

-- a list that has a first element, and those after it
pub begins-is : {X : Type 0} (xs : List X) (x : X) → 1 ≤ length xs → x ≡ get_or xs 0 x → xs ≡ x ∷ take (length xs - 1) (drop 1 xs)
begins-is [] x some is = absurd (omega arith)
begins-is (y ∷ xs) x some is =
    ap (λ z. z ∷ xs) (sym is) ∙ ap (λ zs. x ∷ zs) (sym (take_all (length (y ∷ xs) - 1) xs (omega arith)))
