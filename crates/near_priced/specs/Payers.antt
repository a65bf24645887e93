-- Who pays at a plan, looked up once: the aircraft and the legs that have to do with reservations that cost something.
use Rattle.std.specs.Prelude.{◌≡◌, ℕ, ◌<◌, ◌≤◌, ◌⊎◌, Bool, true, false, not, List, length, All, slice_index_or}
use Rattle.desk_units.specs.declared.money.Grains.{Grains}
use Rattle.desk_units.specs.declared.numbers.Leg.{Leg}
use Rattle.desk_units.specs.declared.numbers.Cabin.{Cabin}
use Rattle.desk_data.specs.Booked.{booked_path}
use Rattle.desk_data.specs.Situation.{Situation, legs_of, planes_of, reservations_of}
use Rattle.desk_data.specs.PlanRows.{PlanRows, groups_at}
use Rattle.plan_moves.specs.declared.moves.Step.{Step}
use Rattle.plan_moves.specs.declared.moves.Step.TheVariants.{Set, Push, Swap, Rebook, Tidy, Refill}
use Rattle.desk_rules.specs.Cost.{grains}
use Rattle.desk_rules.specs.Maintenance.{flies}
use Rattle.plan_checks.specs.Amounts.{reservation_cost}
use Rattle.near_priced.specs.Unpaid.{services}
use Rattle.near_priced.specs.declared.payers.Payers.{Payers}

-- what the passengers of each of the first n reservations cost, by its number
pub record AreCosts (I : Situation) (P : PlanRows) (costs : List Grains) (n : ℕ) : Type 0 where
  pub res : length costs ≡ n
  pub each : (r : ℕ) → r < n → (slice_index_or costs r (grains 0)).0 ≡ reservation_cost I P r

-- whether number k is marked
abbrev pub is_marked : List Bool → ℕ → Bool
is_marked marks k = slice_index_or marks k false

-- what was marked still is
abbrev pub AreKept : List Bool → List Bool → Type 0
AreKept old new = (k : ℕ) → is_marked old k ≡ true → is_marked new k ≡ true

-- the aircraft that flies leg y is marked, if one does
abbrev pub IsFlierMarked : PlanRows → List Bool → ℕ → Type 0
IsFlierMarked P on y = (p : ℕ) → flies P p y ≡ true → is_marked on p ≡ true

-- those that fly the legs of a path are
abbrev pub AreFliersMarked : PlanRows → List Bool → List (Leg × Cabin) → Type 0
AreFliersMarked P on path = All (λ pair. IsFlierMarked P on pair.0.0) path

-- the legs of a path are marked
abbrev pub AreLegsMarked : List Bool → List (Leg × Cabin) → Type 0
AreLegsMarked booked path = All (λ pair. is_marked booked pair.0.0 ≡ true) path

-- of reservation r the aircraft are marked on whose legs somebody is, and the legs on which it is booked
pub record IsMarked (I : Situation) (P : PlanRows) (on booked : List Bool) (r : ℕ) : Type 0 where
  pub paths : All (λ group. AreFliersMarked P on group.path) (groups_at P r)
  pub path : AreLegsMarked booked (booked_path I r)

-- each of the first n reservations costs nothing or is marked
pub record AreMarked (I : Situation) (P : PlanRows) (on booked : List Bool) (n : ℕ) : Type 0 where
  pub planes : length on ≡ planes_of I
  pub legs : length booked ≡ legs_of I
  pub each : (r : ℕ) → r < n → (reservation_cost I P r ≡ 0) ⊎ IsMarked I P on booked r

-- all reservations are told, and of each aircraft at least how many positions it may serve
pub record ArePayers (I : Situation) (P : PlanRows) (payers : Payers) : Type 0 where
  pub marked : AreMarked I P payers.on.items payers.booked.items (reservations_of I)
  pub planes : length payers.services.items ≡ planes_of I
  pub few : All (λ n. n ≤ 10000) payers.services.items
  pub serve : (p : ℕ) → p < planes_of I → services I P p ≤ slice_index_or payers.services.items p 0

-- whether a step leaves those alone whose legs are marked: a Tidy, and a Refill of a leg that is not
abbrev pub spares : List Bool → Step → Bool
spares booked (Set leg was new) = false
spares booked (Push plane after) = false
spares booked (Swap first second at) = false
spares booked (Rebook res path to count) = false
spares booked Tidy = true
spares booked (Refill leg) = not (is_marked booked leg.0)
