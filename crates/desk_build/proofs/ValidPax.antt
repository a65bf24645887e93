-- The reservations and the positions of the day are in their ranges, and its tariff is one.
use Rattle.std.proofs.Common.{◌≡◌, ◌≢◌, ℕ, ◌<◌, ◌≤◌, true, List, [], ◌∷◌, length, map, get_or, sym, ap, ◌∙◌, subst, arith, All, AllPairs}
use Rattle.std.specs.Prelude.{is_some}
use Rattle.std.specs.List.{flat_map, sum_by}
use Rattle.std.proofs.lemmas.List.{length-map}
use Rattle.std.proofs.lemmas.List.Concat.{length-flat_map}
use Rattle.std.proofs.lemmas.List.Elements.{All-map, All-append, All-head, All-tail}
use Rattle.desk_data.specs.declared.info.ResInfo.{ResInfo}
use Rattle.desk_data.specs.Valid.{IsReservation, IsPosition}
use Rattle.tariff_prices.specs.Rows.{AreTariffRows}
use Rattle.file_rows.specs.declared.fleet.PositionRow.{PositionRow}
use Rattle.file_rows.specs.Facts.{IsPosition as IsPositionRow}
use Rattle.file_rows.specs.declared.passengers.ItineraryRow.{ItineraryRow}
use Rattle.file_rows.specs.Facts.{IsItinerary}
use Rattle.build_tables.specs.declared.files.Files.{Files}
use Rattle.build_tables.specs.Names.{airport_place}
use Rattle.build_tables.specs.Fitting.{IsOnRotations, FitTogether}
use Rattle.desk_build.specs.Legs.{leg_of}
use Rattle.desk_build.specs.Day.{airport_info, path_leg, res_info, positions_of}
use Rattle.build_tables.specs.Facts.{AreFileRows}
use Rattle.desk_build.proofs.FoundLemmas.{known_within}
use Rattle.desk_build.proofs.ValidPlanes.{airport_within, pairs_made}

-- what holds of all in each part holds of all
All-flat_map : {X A : Type 0} (P : A → Type 0) (f : X → List A) (xs : List X) → All (λ x. All P (f x)) xs → All P (flat_map f xs)
All-flat_map P f [] h = λ k d below. absurd (omega arith)
All-flat_map P f (x ∷ xs) h = All-append P (f x) (flat_map f xs) (All-head (λ x. All P (f x)) x xs h) (All-flat_map P f xs (All-tail (λ x. All P (f x)) x xs h))

is_reservation : (x : Files) (row : ItineraryRow) → IsOnRotations x.rotations row → IsItinerary row → IsReservation (length (map (leg_of x) x.rotations)) (res_info x.rotations row)
is_reservation x row fits h = record {
  name = h.name;
  price = h.price;
  some = h.count;
  count = fits.count;
  starts = rw (length-map row.legs (path_leg x.rotations)) h.some;
  short = rw (length-map row.legs (path_leg x.rotations)) fits.short;
  path = All-map (λ pair. pair.0.0 < length (map (leg_of x) x.rotations)) (path_leg x.rotations) row.legs (λ k d below.
      rw (length-map x.rotations (leg_of x)) (known_within _ x.rotations (fits.legs k d below)));
}

are_wanted : (x : Files) (row : PositionRow) → is_some (airport_place x.airports row.airport) ≡ true → IsPositionRow row → All (IsPosition (length (map airport_info x.airports))) (positions_of x.airports row)
are_wanted x row known h = All-map (IsPosition (length (map airport_info x.airports))) _ row.groups (λ k d below.
    let group = h.groups k d below in
    record { airport = airport_within x.airports row.airport known; model = group.model; seats = record { f = group.seats.f; b = group.seats.b; e = group.seats.e }; count = group.count })

module _ (x : Files) (rows : AreFileRows x) (fit : FitTogether x) where
  pub are_reservations : All (IsReservation (length (map (leg_of x) x.rotations))) (map (res_info x.rotations) x.itineraries)
  are_reservations = All-map (IsReservation (length (map (leg_of x) x.rotations))) (res_info x.rotations) x.itineraries (λ k d below. is_reservation x (get_or x.itineraries k d) (fit.itineraries k d below) (rows.itineraries k d below))

  -- no two reservations are of one name and one type
  pub reservations_apart : AllPairs (λ a b. a.name ≡ b.name → a.inbound ≢ b.inbound) (map (res_info x.rotations) x.itineraries)
  reservations_apart = pairs_made (λ (a b : ResInfo). a.name ≡ b.name → a.inbound ≢ b.inbound) (res_info x.rotations) x.itineraries fit.apart.itineraries

  pub are_positions : All (IsPosition (length (map airport_info x.airports))) (flat_map (positions_of x.airports) x.position)
  are_positions = All-flat_map (IsPosition (length (map airport_info x.airports))) (positions_of x.airports) x.position (λ k d below. are_wanted x (get_or x.position k d) (fit.position k d below) (rows.position k d below))

  pub few_positions : length (flat_map (positions_of x.airports) x.position) ≤ 10000
  few_positions =
      let count = length-flat_map (positions_of x.airports) x.position in
      let one : (row : PositionRow) → length (positions_of x.airports row) ≡ length row.groups = λ row. length-map row.groups _ in
      let same = ap (λ (size : PositionRow → ℕ). sum_by size x.position) (λ i row. one row i) in
      subst (λ (n : ℕ). n ≤ 10000) (sym (count ∙ same)) fit.few.groups

  pub are_tariff_rows : AreTariffRows x.tariff.rows
  are_tariff_rows = record {
    few = fit.few.tariff;
    each = rows.tariff;
    distinct = fit.apart.tariff;
  }
