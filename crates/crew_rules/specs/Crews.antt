-- The legs that a crew works in a plan, its duties, and the rules K1 to K4 as tests.
--
-- The letters, here and in the file of words:
--   D  the rows of the day            P  the rows of a plan, one for each leg
--   c  a crew, cs  all crews          k  the number of a crew, its place among them from 0
--   x  the number of a leg            v, w  legs as a crew works them, vs, ws  lists of these
use Rattle.std.specs.Prelude.{ℕ, ◌+◌, Bool, true, ◌&&◌, ◌||◌, not, nat_lt, nat_le, ◌==◌, if◌then◌else◌, List, [], ◌∷◌, ◌++◌, filter, fold, position, slice_index_or, Option, Some, None, option_map}
use Rattle.std.specs.List.{filter_map, list_all}
use Rattle.std.specs.Option.{option_or}
use Rattle.desk_units.specs.declared.numbers.Leg.{Leg}
use Rattle.desk_data.specs.declared.info.LegInfo.{LegInfo}
use Rattle.desk_data.specs.declared.parts.Parts.{Parts}
use Rattle.desk_data.specs.declared.row.Row.{Row}
use Rattle.desk_data.specs.declared.row.Row.TheVariants.{Flown, Cancelled}
use Rattle.desk_data.specs.Situation.{no_leg}
use Rattle.crew_rules.specs.declared.crew.CrewInfo.{CrewInfo}
use Rattle.crew_rules.specs.declared.crew.WorkedLeg.{WorkedLeg}
use Rattle.crew_rules.specs.declared.crew.CrewBroken.{CrewBroken}
use Rattle.crew_rules.specs.declared.crew.CrewBroken.TheVariants.{K1, K2, K3, K4}

-- ---- the legs that a crew works

-- the row of leg x in the day
abbrev pub leg_of : Parts → ℕ → LegInfo
leg_of D x = slice_index_or D.legs x no_leg

-- the row of leg x in a plan; out of range it is cancelled
abbrev pub row_of : List Row → ℕ → Row
row_of P x = slice_index_or P x Cancelled

-- leg x as its row has it flown; none where it is cancelled
abbrev pub worked_leg : Parts → ℕ → Row → Option WorkedLeg
worked_leg D x (Flown plane dep) = Some (record { dep = dep; leg = record { 0 = x }; arr = record { 0 = dep.0 + (leg_of D x).block }; origin = (leg_of D x).origin; dest = (leg_of D x).dest })
worked_leg D x Cancelled = None

-- those of these legs that are flown, in the order of the list
abbrev pub flown_among : Parts → List Row → List Leg → List WorkedLeg
flown_among D P legs = filter_map (λ leg. worked_leg D leg.0 (row_of P leg.0)) legs

-- by departure, then by number
abbrev pub is_before : WorkedLeg → WorkedLeg → Bool
is_before v w = nat_lt v.dep.0 w.dep.0 || ((v.dep.0 == w.dep.0) && nat_lt v.leg.0 w.leg.0)

-- a leg in its place among legs that are in order
abbrev pub with_leg : List WorkedLeg → WorkedLeg → List WorkedLeg
with_leg vs w = filter (λ v. is_before v w) vs ++ w ∷ filter (λ v. is_before w v) vs

-- the legs that crew c works in plan P, in their order
unfoldable pub worked : Parts → List Row → CrewInfo → List WorkedLeg
worked D P c = fold with_leg [] (flown_among D P c.legs)

-- ---- duties

-- a leg before the duties of those after it: it is of the first of these where that one's first leg departs less than the least rest after it has arrived
abbrev pub before_duties : ℕ → WorkedLeg → List (List WorkedLeg) → List (List WorkedLeg)
before_duties rest w [] = (w ∷ []) ∷ []
before_duties rest w ([] ∷ later) = (w ∷ []) ∷ later
before_duties rest w ((v ∷ vs) ∷ later) = if nat_lt v.dep.0 (w.arr.0 + rest) then (w ∷ v ∷ vs) ∷ later else (w ∷ []) ∷ (v ∷ vs) ∷ later

-- the duties of these legs, which a rest parts
unfoldable pub duties : ℕ → List WorkedLeg → List (List WorkedLeg)
duties rest [] = []
duties rest (w ∷ ws) = before_duties rest w (duties rest ws)

-- when the last of these legs arrives
abbrev pub last_arrival : WorkedLeg → List WorkedLeg → ℕ
last_arrival w [] = w.arr.0
last_arrival w (v ∷ vs) = last_arrival v vs

-- whether a duty takes at most so many minutes, from its first departure to its last arrival
abbrev pub is_short : ℕ → List WorkedLeg → Bool
is_short most [] = true
is_short most (w ∷ ws) = nat_le (last_arrival w ws) (w.dep.0 + most)

-- ---- the rules of these legs

-- the first leg leaves this airport, and each later one where the one before arrived
abbrev pub is_chain : ℕ → List WorkedLeg → Bool
is_chain at [] = true
is_chain at (w ∷ ws) = (w.origin.0 == at) && is_chain w.dest.0 ws

-- the first leg departs no earlier than this moment, and each later one no earlier than the one before arrived
abbrev pub is_in_turn : ℕ → List WorkedLeg → Bool
is_in_turn ready [] = true
is_in_turn ready (w ∷ ws) = nat_le ready w.dep.0 && is_in_turn w.arr.0 ws

-- where a crew is after these legs
abbrev pub end_of : ℕ → List WorkedLeg → ℕ
end_of at [] = at
end_of at (w ∷ ws) = end_of w.dest.0 ws

-- ---- the rules

-- K1: the first leg leaves home, and each later one leaves where the one before arrived
unfoldable pub keeps_k1 : Parts → List Row → CrewInfo → Bool
keeps_k1 D P c = is_chain c.home.0 (worked D P c)

-- K2: each leg departs no earlier than the one before arrived
unfoldable pub keeps_k2 : Parts → List Row → CrewInfo → Bool
keeps_k2 D P c = is_in_turn 0 (worked D P c)

-- K3: no duty is longer than the greatest
unfoldable pub keeps_k3 : Parts → List Row → CrewInfo → Bool
keeps_k3 D P c = list_all (is_short c.duty) (duties c.rest (worked D P c))

-- K4: the last leg arrives at home
unfoldable pub keeps_k4 : Parts → List Row → CrewInfo → Bool
keeps_k4 D P c = end_of c.home.0 (worked D P c) == c.home.0

-- ---- the first that is broken

-- the number of the first crew that breaks a rule, if one does
abbrev pub first_breaking : (CrewInfo → Bool) → List CrewInfo → Option ℕ
first_breaking keeps cs = position (λ c. not (keeps c)) cs

-- the first broken item, by rule, then by crew
unfoldable pub crew_least : Parts → List CrewInfo → List Row → Option CrewBroken
crew_least D cs P =
    option_or (option_map K1 (first_breaking (keeps_k1 D P) cs))
    (option_or (option_map K2 (first_breaking (keeps_k2 D P) cs))
    (option_or (option_map K3 (first_breaking (keeps_k3 D P) cs))
    (option_map K4 (first_breaking (keeps_k4 D P) cs))))
