-- The rows of the day make an instance where the rows of the files fit together.
use Rattle.std.proofs.Common.{◌≢◌, ℕ, length, map, sym, ap, subst, All}
use Rattle.std.specs.Prelude.{is_some}
use Rattle.std.proofs.lemmas.List.{length-map}
use Rattle.desk_data.specs.declared.info.PlaneInfo.{PlaneInfo}
use Rattle.desk_data.specs.declared.info.AirportInfo.{AirportInfo}
use Rattle.desk_data.specs.Valid.{IsLeg, AreWithinLimits, AreDistinct, AreParts}
use Rattle.build_tables.specs.declared.files.Files.{Files}
use Rattle.build_tables.specs.Fitting.{FitTogether}
use Rattle.desk_build.specs.Legs.{leg_of, HasKnownFlights}
use Rattle.desk_build.specs.Day.{airport_info, plane_info, res_info, parts_of}
use Rattle.build_tables.specs.Facts.{AreFileRows}
use Rattle.desk_build.proofs.ValidPlanes.{pairs_made, are_airports, are_planes}
use Rattle.desk_build.proofs.ValidLegs.{are_legs, legs_apart, are_distances}
use Rattle.desk_build.proofs.ValidPax.{are_reservations, reservations_apart, are_positions, few_positions, are_tariff_rows}

module _ (x : Files) (rows : AreFileRows x) (fit : FitTogether x) where
  are_few : AreWithinLimits (parts_of x)
  unfolding parts_of
  are_few = record {
    airports = rw (length-map x.airports airport_info) fit.few.airports;
    planes = rw (length-map x.aircraft (plane_info x)) fit.few.aircraft;
    legs = rw (length-map x.rotations (leg_of x)) fit.few.rotations;
    res = rw (length-map x.itineraries (res_info x.rotations)) fit.few.itineraries;
    positions = few_positions x rows fit;
  }

  are_distinct : AreDistinct (parts_of x)
  unfolding parts_of plane_info
  are_distinct = record {
    airports = pairs_made (λ (a b : AirportInfo). a.name ≢ b.name) airport_info x.airports fit.apart.airports;
    planes = pairs_made (λ (a b : PlaneInfo). a.name ≢ b.name) (plane_info x) x.aircraft fit.apart.aircraft;
    legs = legs_apart x rows fit;
    res = reservations_apart x rows fit;
  }

  pub parts_are_valid : AreParts (parts_of x)
  unfolding parts_of
  parts_are_valid = record {
    few = are_few;
    airports = are_airports x rows fit;
    planes = are_planes x rows fit;
    legs = subst (λ (n : ℕ). All (IsLeg (length (map airport_info x.airports)) (length (map (plane_info x) x.aircraft)) n) (map (leg_of x) x.rotations)) (sym (length-map x.rotations (leg_of x))) (are_legs x rows fit);
    res = are_reservations x rows fit;
    from = rows.window.from;
    to = rows.window.to;
    positions = are_positions x rows fit;
    dist = are_distances x rows;
    tariff = are_tariff_rows x rows fit;
    distinct = are_distinct;
  }

-- each rotation is of a flight of the file
pub flights_known : (x : Files) → FitTogether x → HasKnownFlights x
flights_known x fit = λ k d below. ap is_some (fit.rotations k d below).1.named
