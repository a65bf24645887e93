-- What finds a key finds the row of the name.
use Rattle.std.proofs.Common.{◌≡◌, ℕ, Bool, List, map, sym, ap, ◌∙◌}
use Rattle.std.specs.List.{position}
use Rattle.std.specs.Option.{option_map}
use Rattle.desk_units.specs.declared.numbers.Airport.{Airport}
use Rattle.desk_units.specs.declared.numbers.Leg.{Leg}
use Rattle.desk_units.specs.declared.numbers.Plane.{Plane}
use Rattle.desk_units.specs.declared.numbers.Res.{Res}
use Rattle.desk_data.specs.Situation.{Situation}
use Rattle.file_joins.specs.Keys.{Key, named, on_day, booked, is_key, leg_key, plane_key, res_key, airport_key}
use Rattle.file_joins.specs.Names.{leg_named, plane_named, res_named, airport_named}
use Rattle.file_joins.proofs.KeyLemmas.{position-map}

-- the row of a number
abbrev pub leg_of : ℕ → Leg
leg_of x = record { 0 = x }

abbrev pub plane_of : ℕ → Plane
plane_of p = record { 0 = p }

abbrev pub res_of : ℕ → Res
res_of r = record { 0 = r }

abbrev pub airport_of : ℕ → Airport
airport_of a = record { 0 = a }

found_row : {Row N : Type 0} (key_of : Row → Key) (number : ℕ → N) (rows : List Row) (keys : List Key) (key : Key) → keys ≡ map key_of rows → option_map number (position (is_key key) keys) ≡ option_map number (position (λ row. is_key key (key_of row)) rows)
found_row key_of number rows keys key are =
    ap (λ ks. option_map number (position (is_key key) ks)) are ∙ ap (option_map number) (sym (position-map key_of (is_key key) rows))

pub leg_found : (I : Situation) (keys : List Key) (flight : List ℕ) (day : ℕ) → keys ≡ map leg_key I.parts.legs → option_map leg_of (position (is_key (on_day flight day)) keys) ≡ leg_named I flight day
unfolding leg_named
leg_found I keys flight day are = found_row leg_key leg_of I.parts.legs keys (on_day flight day) are

pub plane_found : (I : Situation) (keys : List Key) (name : List ℕ) → keys ≡ map plane_key I.parts.planes → option_map plane_of (position (is_key (named name)) keys) ≡ plane_named I name
unfolding plane_named
plane_found I keys name are = found_row plane_key plane_of I.parts.planes keys (named name) are

pub res_found : (I : Situation) (keys : List Key) (name : List ℕ) (inbound : Bool) → keys ≡ map res_key I.parts.res → option_map res_of (position (is_key (booked name inbound)) keys) ≡ res_named I name inbound
unfolding res_named
res_found I keys name inbound are = found_row res_key res_of I.parts.res keys (booked name inbound) are

pub airport_found : (I : Situation) (keys : List Key) (name : List ℕ) → keys ≡ map airport_key I.parts.airports → option_map airport_of (position (is_key (named name)) keys) ≡ airport_named I name
unfolding airport_named
airport_found I keys name are = found_row airport_key airport_of I.parts.airports keys (named name) are
