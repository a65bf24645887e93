-- Legs that are untouched one by one are untouched together.
use Rattle.std.proofs.Common.{◌≡◌, ℕ, ◌+◌, ◌≤◌, Bool, true, eqb, List, refl}
use Rattle.std.specs.List.{list_any}
use Rattle.std.proofs.lemmas.Bool.{eq-eqb}
use Rattle.desk_units.specs.declared.numbers.Leg.{Leg}
use Rattle.desk_units.specs.declared.numbers.Cabin.{Cabin}
use Rattle.desk_data.specs.Booked.{booked_path}
use Rattle.desk_data.specs.declared.row.Group.{Group}
use Rattle.desk_data.specs.Situation.{Situation}
use Rattle.desk_data.specs.PlanRows.{PlanRows, groups_at}
use Rattle.near_moves.proofs.ListLaws.{any_holds, any_from}
use Rattle.near_moves.specs.Room.{count_from, count_to}
use Rattle.near_untouched.specs.Planes.{is_on, AreUntouchedLegs}
use Rattle.near_untouched.specs.Hours.{margin}
use Rattle.near_untouched.specs.Passengers.{is_just}
use Rattle.near_untouched.specs.Legs.{IsUntouchedLeg}

-- a leg of a path that passes a test, and that the path has it
record IsOnPath (legs : ℕ → Bool) (path : List (Leg × Cabin)) : Type 0 where
  leg : ℕ
  own : legs leg ≡ true
  has : list_any (λ pair. is_just leg pair.0.0) path ≡ true

itself : (y : ℕ) → eqb y y ≡ true
itself y = eq-eqb y y refl

path-leg : (legs : ℕ → Bool) (path : List (Leg × Cabin)) → list_any (λ pair. legs pair.0.0) path ≡ true → IsOnPath legs path
path-leg legs path has =
    let at = any_holds (λ (pair : Leg × Cabin). legs pair.0.0) path has in
    record {
      leg = at.from.0.0;
      own = at.is;
      has = any_from (λ (pair : Leg × Cabin). is_just at.from.0.0 pair.0.0) path at.from at.there (itself at.from.0.0);
    }

-- the same of the paths of a reservation's groups
record IsOnOne (legs : ℕ → Bool) (R : PlanRows) (r : ℕ) : Type 0 where
  leg : ℕ
  own : legs leg ≡ true
  has : is_on (is_just leg) R r ≡ true

groups-leg : (legs : ℕ → Bool) (R : PlanRows) (r : ℕ) → is_on legs R r ≡ true → IsOnOne legs R r
groups-leg legs R r has =
    let at = any_holds (λ (group : Group). list_any (λ pair. legs pair.0.0) group.path) (groups_at R r) has in
    let on = path-leg legs at.from.path at.is in
    record {
      leg = on.leg;
      own = on.own;
      has = any_from (λ (group : Group). list_any (λ pair. is_just on.leg pair.0.0) group.path) (groups_at R r) at.from at.there on.has;
    }

pub legs-together : (legs : ℕ → Bool) (I : Situation) (P Q : PlanRows) → ((y : ℕ) → legs y ≡ true → IsUntouchedLeg I P Q y) → ((a : ℕ) → count_from legs I a + count_from legs I a ≤ margin) → ((a : ℕ) → count_to legs I a + count_to legs I a ≤ margin) → AreUntouchedLegs margin legs I P Q
legs-together legs I P Q each few_from few_to = record {
  few_from = few_from;
  few_to = few_to;
  departures = λ x h own. (each x own).departures h;
  arrivals = λ x h own. (each x own).arrivals h;
  on = λ r lt has. (let at = groups-leg legs P r has in (each at.leg at.own).users.on r lt at.has);
  on_later = λ r lt has. (let at = groups-leg legs Q r has in (each at.leg at.own).users.on_later r lt at.has);
  booked = λ r lt has. (let at = path-leg legs (booked_path I r) has in (each at.leg at.own).users.booked r lt at.has);
  seats = λ r lt has. (let at = path-leg legs (booked_path I r) has in (each at.leg at.own).users.seats r lt at.has);
}
