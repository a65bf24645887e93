-- What the tests of the crews say, as facts in words. The letters are those of the file of tests.
use Rattle.std.specs.Prelude.{◌≡◌, ℕ, ◌+◌, ◌<◌, ◌≤◌, ◌⊎◌, ◌↔◌, true, false, List, [], ◌∷◌, ◌++◌, length, All, Option, Some, None}
use Rattle.std.specs.List.{AllPairs, Contains, flat_map}
use Rattle.desk_units.specs.declared.numbers.Plane.{Plane}
use Rattle.desk_data.specs.declared.parts.Parts.{Parts}
use Rattle.desk_data.specs.declared.row.Row.TheVariants.{Flown}
use Rattle.desk_data.specs.declared.row.Row.{Row}
use Rattle.crew_rules.specs.declared.crew.CrewInfo.{CrewInfo}
use Rattle.crew_rules.specs.declared.crew.WorkedLeg.{WorkedLeg}
use Rattle.crew_rules.specs.declared.crew.CrewBroken.{CrewBroken}
use Rattle.crew_rules.specs.Crews.{leg_of, row_of}
use Rattle.crew_rules.specs.Broken.{breaks_crew, ComesBefore}

-- ---- places in a list

-- x is the first of a list, y the last, and y the next after x
pub record IsFirst {X : Type 0} (xs : List X) (x : X) : Type 0 where
  pub after : List X
  pub is : xs ≡ x ∷ after

pub record IsLast {X : Type 0} (xs : List X) (y : X) : Type 0 where
  pub before : List X
  pub is : xs ≡ before ++ y ∷ []

pub record IsNext {X : Type 0} (xs : List X) (x y : X) : Type 0 where
  pub before : List X
  pub after : List X
  pub is : xs ≡ before ++ x ∷ y ∷ after

-- ---- the legs that a crew works

-- crew c works leg w: the leg is one of its legs, plan P has it flown, and departure, arrival and airports are the leg's
pub record Works (D : Parts) (P : List Row) (c : CrewInfo) (w : WorkedLeg) : Type 0 where
  pub plane : Plane
  pub listed : Contains c.legs w.leg
  pub flown : row_of P w.leg.0 ≡ Flown plane w.dep
  pub arr : w.arr.0 ≡ w.dep.0 + (leg_of D w.leg.0).block
  pub origin : w.origin ≡ (leg_of D w.leg.0).origin
  pub dest : w.dest ≡ (leg_of D w.leg.0).dest

-- v departs before w; of two that depart together the lesser number comes first
abbrev pub IsBefore : WorkedLeg → WorkedLeg → Type 0
IsBefore v w = (v.dep.0 < w.dep.0) ⊎ ((v.dep.0 ≡ w.dep.0) × (v.leg.0 < w.leg.0))

-- these are the legs that crew c works, all of them and no others, in their order
pub record AreWorked (D : Parts) (P : List Row) (c : CrewInfo) (ws : List WorkedLeg) : Type 0 where
  pub each : (w : WorkedLeg) → Contains ws w ↔ Works D P c w
  pub order : AllPairs IsBefore ws

-- ---- duties

-- legs in their order fall into these duties: within a duty each next leg departs less than the least rest after the one before arrived,
-- and between two duties there is the least rest. So no duty could be longer
pub record AreDuties (rest : ℕ) (ws : List WorkedLeg) (ds : List (List WorkedLeg)) : Type 0 where
  pub whole : flat_map (λ duty. duty) ds ≡ ws
  pub some : All (λ duty. 1 ≤ length duty) ds
  pub within : All (λ duty. (v w : WorkedLeg) → IsNext duty v w → w.dep.0 < v.arr.0 + rest) ds
  pub between : (d e : List WorkedLeg) → IsNext ds d e → (v w : WorkedLeg) → IsLast d v → IsFirst e w → v.arr.0 + rest ≤ w.dep.0

-- ---- the rules, of the legs ws that crew c works

-- K1: the first leg leaves home, and each later one leaves where the one before arrived
pub record MeetsK1 (c : CrewInfo) (ws : List WorkedLeg) : Type 0 where
  pub first : (w : WorkedLeg) → IsFirst ws w → w.origin ≡ c.home
  pub later : (v w : WorkedLeg) → IsNext ws v w → w.origin ≡ v.dest

-- K2: each leg departs no earlier than the one before arrived
abbrev pub MeetsK2 : List WorkedLeg → Type 0
MeetsK2 ws = (v w : WorkedLeg) → IsNext ws v w → v.arr.0 ≤ w.dep.0

-- K3: in each duty the last leg's arrival is at most the greatest duty after the first leg's departure
abbrev pub MeetsK3 : CrewInfo → List (List WorkedLeg) → Type 0
MeetsK3 c ds = All (λ duty. (v w : WorkedLeg) → IsFirst duty v → IsLast duty w → w.arr.0 ≤ v.dep.0 + c.duty) ds

-- K4: the last leg arrives at home
abbrev pub MeetsK4 : CrewInfo → List WorkedLeg → Type 0
MeetsK4 c ws = (w : WorkedLeg) → IsLast ws w → w.dest ≡ c.home

-- ---- the first that is broken

-- the item is broken, and each other that is broken comes after it
pub record IsLeastBroken (D : Parts) (cs : List CrewInfo) (P : List Row) (item : CrewBroken) : Type 0 where
  pub broken : breaks_crew D cs P item ≡ true
  pub least : (other : CrewBroken) → breaks_crew D cs P other ≡ true → (other ≡ item) ⊎ ComesBefore item other

-- the first broken item, or none where none is broken
abbrev pub IsFirstBroken : Parts → List CrewInfo → List Row → Option CrewBroken → Type 0
IsFirstBroken D cs P None = (item : CrewBroken) → breaks_crew D cs P item ≡ false
IsFirstBroken D cs P (Some item) = IsLeastBroken D cs P item
