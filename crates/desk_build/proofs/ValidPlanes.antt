-- The airports and the aircraft of the day are in their ranges.
use Rattle.std.proofs.Common.{◌≡◌, ℕ, ◌<◌, true, List, [], ◌∷◌, length, map, get_or, Option, Some, None, refl, subst, arith, All, AllPairs}
use Rattle.std.specs.Prelude.{is_some, option_map, IfSome, IsSome}
use Rattle.std.specs.Option.{ForSome}
use Rattle.std.proofs.lemmas.List.{length-map, get_or-map}
use Rattle.std.proofs.lemmas.List.Elements.{All-map}
use Rattle.desk_data.specs.Valid.{IsCap, IsAirport, IsMaint, IsPlane}
use Rattle.file_rows.specs.declared.network.AirportRow.{AirportRow}
use Rattle.file_rows.specs.Facts.{IsAirport as IsAirportRow}
use Rattle.file_rows.specs.declared.fleet.MaintRow.{MaintRow}
use Rattle.file_rows.specs.declared.fleet.AircraftRow.{AircraftRow}
use Rattle.file_rows.specs.Facts.{IsMaint as IsMaintRow, IsAircraft}
use Rattle.build_tables.specs.declared.files.Files.{Files}
use Rattle.build_tables.specs.Names.{airport_place}
use Rattle.build_tables.specs.Fitting.{HasKnownAirports, FitTogether}
use Rattle.desk_build.specs.Legs.{airport_of}
use Rattle.desk_build.specs.Day.{cap_info, airport_info, maint_info, plane_info}
use Rattle.build_tables.specs.Facts.{AreFileRows}
use Rattle.desk_build.proofs.FoundLemmas.{known_within}

-- pairs of what is made of rows are pairs of rows
pub pairs_made : {A B : Type 0} (R : B → B → Type 0) (make : A → B) (xs : List A) → AllPairs (λ a b. R (make a) (make b)) xs → AllPairs R (map make xs)
pairs_made R make [] h = λ i j d before within. absurd (omega arith)
pairs_made R make (x ∷ xs) h = λ i j d before within.
    let inside : j < length (x ∷ xs) = omega (arith, length-map (x ∷ xs) make) in
    let earlier : i < length (x ∷ xs) = omega arith in
    rw (get_or-map make (x ∷ xs) i x d earlier, get_or-map make (x ∷ xs) j x d inside) (h i j x before inside)

-- a known airport's number is below the number of airports
pub airport_within : (airports : List AirportRow) (name : List ℕ) → is_some (airport_place airports name) ≡ true → (airport_of airports name).0 < length (map airport_info airports)
airport_within airports name known = rw (length-map airports airport_info) (known_within _ airports known)

is_airport : (row : AirportRow) → IsAirportRow row → IsAirport (airport_info row)
is_airport row h = record {
  name = h.seen;
  caps = All-map IsCap cap_info row.groups (λ k d below. let cap = h.groups k d below in record { deps = cap.deps; arrs = cap.arrs; from = cap.from; to = cap.to });
}

is_maint : (airports : List AirportRow) (row : MaintRow) → is_some (airport_place airports row.airport) ≡ true → IsMaintRow row → IsMaint (length (map airport_info airports)) (maint_info airports row)
is_maint airports row known h = record { airport = airport_within airports row.airport known; from = h.from; to = h.to; minutes = h.minutes }

-- the maintenance of an aircraft, where it has one
is_maint_of : (airports : List AirportRow) (row : Option MaintRow) → ForSome row (λ m. IsSome (airport_place airports m.airport)) → IfSome row IsMaintRow → ForSome (option_map (maint_info airports) row) (IsMaint (length (map airport_info airports)))
is_maint_of airports None known h maint e = absurd cc
is_maint_of airports (Some row) known h maint e =
    let same : maint_info airports row ≡ maint = cc in
    subst (IsMaint (length (map airport_info airports))) same (is_maint airports row (known row refl) h)

is_plane : (x : Files) (row : AircraftRow) → HasKnownAirports x.airports row → IsAircraft row → IsPlane (length (map airport_info x.airports)) (plane_info x row)
unfolding plane_info
is_plane x row known h = record {
  name = h.name;
  model = h.model;
  family = h.family;
  seats = record { f = h.seats.f; b = h.seats.b; e = h.seats.e };
  range = h.range;
  hourly = h.hourly;
  turnaround = h.turnaround;
  transit = h.transit;
  origin = airport_within x.airports row.origin known.origin;
  maint = is_maint_of x.airports row.maint known.maint h.maint;
}

module _ (x : Files) (rows : AreFileRows x) (fit : FitTogether x) where
  pub are_airports : All IsAirport (map airport_info x.airports)
  are_airports = All-map IsAirport airport_info x.airports (λ k d below. is_airport (get_or x.airports k d) (rows.airports k d below))

  pub are_planes : All (IsPlane (length (map airport_info x.airports))) (map (plane_info x) x.aircraft)
  are_planes = All-map (IsPlane (length (map airport_info x.airports))) (plane_info x) x.aircraft (λ k d below. is_plane x (get_or x.aircraft k d) (fit.aircraft k d below) (rows.aircraft k d below))
