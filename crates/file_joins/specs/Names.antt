-- Which row of a day has a name: the first one, and none where no row has it.
use Rattle.std.specs.Prelude.{◌≡◌, ℕ, ◌≤◌, Bool, ◌&&◌, ◌==◌, List, map, position, Option, option_map, bytes_eq}
use Rattle.desk_units.specs.declared.numbers.Airport.{Airport}
use Rattle.desk_units.specs.declared.numbers.Leg.{Leg}
use Rattle.desk_units.specs.declared.numbers.Plane.{Plane}
use Rattle.desk_units.specs.declared.numbers.Res.{Res}
use Rattle.desk_data.specs.Situation.{Situation, legs_of, planes_of, airports_of, reservations_of}
use Rattle.file_joins.specs.Keys.{Key, same_direction, leg_key, plane_key, res_key, airport_key}

-- the leg of a flight on a day
unfoldable pub leg_named : Situation → List ℕ → ℕ → Option Leg
leg_named I flight day = option_map (λ x. record { 0 = x }) (position (λ leg. bytes_eq flight leg.flight && (day == leg.day)) I.parts.legs)

-- the aircraft of a name
unfoldable pub plane_named : Situation → List ℕ → Option Plane
plane_named I name = option_map (λ p. record { 0 = p }) (position (λ plane. bytes_eq name plane.name) I.parts.planes)

-- the reservation of a name and a direction, outbound or inbound
unfoldable pub res_named : Situation → List ℕ → Bool → Option Res
res_named I name inbound = option_map (λ r. record { 0 = r }) (position (λ r. bytes_eq name r.name && same_direction inbound r.inbound) I.parts.res)

-- the airport of a name
unfoldable pub airport_named : Situation → List ℕ → Option Airport
airport_named I name = option_map (λ a. record { 0 = a }) (position (λ airport. bytes_eq name airport.name) I.parts.airports)

-- the keys of all rows of a day, of which there are not too many to number
pub record AreKeysOf (I : Situation) (leg_keys plane_keys res_keys airport_keys : List Key) : Type 0 where
  pub legs : leg_keys ≡ map leg_key I.parts.legs
  pub planes : plane_keys ≡ map plane_key I.parts.planes
  pub reservations : res_keys ≡ map res_key I.parts.res
  pub airports : airport_keys ≡ map airport_key I.parts.airports
  pub few_legs : legs_of I ≤ 20000
  pub few_planes : planes_of I ≤ 1000
  pub few_reservations : reservations_of I ≤ 100000
  pub few_airports : airports_of I ≤ 500
