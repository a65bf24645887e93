-- What the rows of a day are found by.
use Rattle.std.specs.Prelude.{ℕ, Bool, true, false, ◌&&◌, ◌==◌, cond, List, [], ◌∷◌, ◌++◌, bytes_eq}
use Rattle.std.specs.List.{list_any}
use Rattle.desk_data.specs.declared.info.AirportInfo.{AirportInfo}
use Rattle.desk_data.specs.declared.info.LegInfo.{LegInfo}
use Rattle.desk_data.specs.declared.info.PlaneInfo.{PlaneInfo}
use Rattle.desk_data.specs.declared.info.ResInfo.{ResInfo}
use Rattle.file_joins.specs.declared.places.Key.{Key as Borrowed}
use Rattle.file_joins.specs.declared.places.Key.TheVariants as borrowed

-- an aircraft or an airport by its name, a leg by its flight and its day, a reservation by its name and whether it is
-- inbound
pub data Key : Type 0 where
  named : List ℕ → Key
  on_day : List ℕ → ℕ → Key
  booked : List ℕ → Bool → Key

-- whether both are outbound, or both inbound
abbrev pub same_direction : Bool → Bool → Bool
same_direction true true = true
same_direction false false = true
same_direction true false = false
same_direction false true = false

abbrev pub is_key : Key → Key → Bool
is_key (named a) (named b) = bytes_eq a b
is_key (on_day flight day) (on_day other date) = bytes_eq flight other && (day == date)
is_key (booked name inbound) (booked other back) = bytes_eq name other && same_direction inbound back
is_key a b = false

-- the keys, with one more where it is new
abbrev pub with_key : List Key → Key → List Key
with_key keys key = cond (list_any (is_key key) keys) keys (keys ++ key ∷ [])

-- the key that is borrowed
abbrev pub key_in : Borrowed → Key
key_in (borrowed.Named name) = named name.now
key_in (borrowed.OnDay flight day) = on_day flight.now day
key_in (borrowed.Booked name inbound) = booked name.now inbound

-- the keys of the rows
abbrev pub leg_key : LegInfo → Key
leg_key leg = on_day leg.flight leg.day

abbrev pub plane_key : PlaneInfo → Key
plane_key plane = named plane.name

abbrev pub res_key : ResInfo → Key
res_key r = booked r.name r.inbound

abbrev pub airport_key : AirportInfo → Key
airport_key airport = named airport.name
