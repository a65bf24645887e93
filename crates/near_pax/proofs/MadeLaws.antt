-- The moves of a unit, one by one.
use Rattle.std.proofs.Common.{◌≡◌, ℕ, ◌+◌, ◌<◌, ◌≤◌, true, List, [], ◌∷◌, ◌++◌, length, get_or, map, drop, refl, sym, ap, subst, ◌∙◌, arith}
use Rattle.std.specs.List.{flat_map, list_all}
use Rattle.std.proofs.lemmas.List.{drop_more, drop_all, drop_at, get_or-map, length-map, length-append, get_or_append_left}
use Rattle.std.proofs.lemmas.Simd.{map-map}
use Rattle.desk_units.specs.declared.numbers.Leg.{Leg}
use Rattle.desk_units.specs.declared.numbers.Cabin.{Cabin}
use Rattle.desk_data.specs.Situation.{Situation}
use Rattle.desk_data.specs.PlanRows.{PlanRows, groups_at}
use Rattle.plan_moves.specs.declared.moves.Step.{Step}
use Rattle.plan_moves.specs.declared.moves.Move.{Move}
use Rattle.desk_model.specs.Rebook.{count_on}
use Rattle.near_moves.specs.Units.{rebooked}
use Rattle.near_moves.specs.Near.{unit_steps, unit_moves, step_in_time, move_of}
use Rattle.near_moves.specs.PassengerMoves.{aims, portions, rebooking, rebookings}
use Rattle.near_moves.proofs.ListLaws.{map_of_flat_map, filter_all, flat_map_agree, All_from_contains, map_contains, flat_map_contains}
use Rattle.near_pax.specs.declared.unit.Made.{Made}
use Rattle.near_pax.specs.Left.{moves_to, other_aims, left_of_made, IsMade}

-- ---- all moves of a unit

pub unit-moves : (I : Situation) (P : PlanRows) (r : ℕ) (path : List (Leg × Cabin)) → unit_moves I P (rebooked r path) ≡ flat_map (moves_to r path (portions (count_on path (groups_at P r)))) (other_aims I P r path)
unfolding unit_moves unit_steps rebookings
unit-moves I P r path =
    let counts = portions (count_on path (groups_at P r)) in
    let others = other_aims I P r path in
    let steps : List (Leg × Cabin) → List (List Step) = λ aim. map (rebooking r path aim) counts in
    ap (map move_of) (filter_all (list_all step_in_time) (flat_map steps others)
    (All_from_contains (λ s. list_all step_in_time s ≡ true) (flat_map steps others) (λ s has.
    let at = flat_map_contains steps others s has in
    let own = map_contains (rebooking r path at.from) counts s at.is in
    subst (λ (z : List Step). list_all step_in_time z ≡ true) own.is refl)))
    ∙ map_of_flat_map move_of steps others
    ∙ flat_map_agree (λ aim. map move_of (steps aim)) (moves_to r path counts) others
    (All_from_contains (λ aim. map move_of (steps aim) ≡ moves_to r path counts aim) others (λ aim has. map-map move_of (rebooking r path aim) counts))

pub made-first : (I : Situation) (P : PlanRows) (r : ℕ) (path : List (Leg × Cabin)) (made : Made) → IsMade I P r path made → made.aim ≡ 0 → made.count ≡ 0 → left_of_made r path made ≡ unit_moves I P (rebooked r path)
unfolding left_of_made
made-first I P r path made is aim count =
    rw (aim, count, is.aims, is.counts) (sym (unit-moves I P r path))

-- ---- one after another

pub made-none : (r : ℕ) (path : List (Leg × Cabin)) (made : Made) → length made.aims.items ≤ made.aim → left_of_made r path made ≡ []
unfolding left_of_made
made-none r path made past =
    rw (drop_all made.aim made.aims.items past) (drop_all made.count [] (omega arith))

-- the moves from the aim at hand on
abbrev from_aim : ℕ → List (Leg × Cabin) → Made → List Move
from_aim r path made = flat_map (moves_to r path made.counts.items) (drop made.aim made.aims.items)

from-next : (r : ℕ) (path : List (Leg × Cabin)) (made : Made) → made.aim < length made.aims.items → from_aim r path made ≡ moves_to r path made.counts.items (get_or made.aims.items made.aim []) ++ flat_map (moves_to r path made.counts.items) (drop (made.aim + 1) made.aims.items)
from-next r path made lt = ap (flat_map (moves_to r path made.counts.items)) (drop_more made.aims.items made.aim [] lt)

given-move : (r : ℕ) (path : List (Leg × Cabin)) (made : Made) → made.aim < length made.aims.items → made.count < length made.counts.items → left_of_made r path made ≡ move_of (rebooking r path (get_or made.aims.items made.aim []) (get_or made.counts.items made.count 0)) ∷ drop (made.count + 1) (from_aim r path made)
unfolding left_of_made
given-move r path made lt low =
    let counts = made.counts.items in
    let aim = get_or made.aims.items made.aim [] in
    let one : ℕ → Move = λ count. move_of (rebooking r path aim count) in
    let here = map one counts in
    let rest = flat_map (moves_to r path counts) (drop (made.aim + 1) made.aims.items) in
    let none = one 0 in
    let long = length-map counts one in
    let whole = length-append here rest in
    let all : from_aim r path made ≡ here ++ rest = from-next r path made lt in
    drop_more (from_aim r path made) made.count none (let n = ap length all in omega (arith, n, whole, long, low))
    ∙ ap (λ (m : Move). m ∷ drop (made.count + 1) (from_aim r path made))
    (ap (λ (ms : List Move). get_or ms made.count none) all
    ∙ get_or_append_left here rest none made.count (omega (arith, long, low))
    ∙ get_or-map one counts made.count 0 none low)

pub made-same_aim : (r : ℕ) (path : List (Leg × Cabin)) (made next : Made) → made.aim < length made.aims.items → made.count < length made.counts.items → next.aims ≡ made.aims → next.counts ≡ made.counts → next.aim ≡ made.aim → next.count ≡ made.count + 1 → left_of_made r path made ≡ move_of (rebooking r path (get_or made.aims.items made.aim []) (get_or made.counts.items made.count 0)) ∷ left_of_made r path next
unfolding left_of_made
made-same_aim r path made next lt low aims counts aim count = rw (aims, counts, aim, count) (given-move r path made lt low)

pub made-next_aim : (r : ℕ) (path : List (Leg × Cabin)) (made next : Made) → made.aim < length made.aims.items → made.count < length made.counts.items → made.count + 1 ≡ length made.counts.items → next.aims ≡ made.aims → next.counts ≡ made.counts → next.aim ≡ made.aim + 1 → next.count ≡ 0 → left_of_made r path made ≡ move_of (rebooking r path (get_or made.aims.items made.aim []) (get_or made.counts.items made.count 0)) ∷ left_of_made r path next
unfolding left_of_made
made-next_aim r path made next lt low last aims counts aim count =
    let all = made.counts.items in
    let to = get_or made.aims.items made.aim [] in
    let first : Move = move_of (rebooking r path to (get_or all made.count 0)) in
    let here = moves_to r path all to in
    let rest = flat_map (moves_to r path all) (drop (made.aim + 1) made.aims.items) in
    let long = length-map all (λ count. move_of (rebooking r path to count)) in
    rw (aims, counts, aim, count)
    (given-move r path made lt low
    ∙ ap (λ (ms : List Move). first ∷ ms)
    (ap (drop (made.count + 1)) (from-next r path made lt) ∙ drop_at here rest (made.count + 1) (omega (arith, long, last))))
