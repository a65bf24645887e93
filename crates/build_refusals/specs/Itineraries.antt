-- Why a row of itineraries.csv is refused.
use Rattle.std.specs.Prelude.{ℕ, Bool, ◌&&◌, ◌||◌, ◌==◌, List, length, take, Option, Some, None, is_some, bytes_eq, nat_lt, nat_le, if◌then◌else◌}
use Rattle.std.specs.List.{list_any, list_all}
use Rattle.file_rows.specs.declared.cause.Cause.{Cause}
use Rattle.file_rows.specs.declared.cause.Cause.TheVariants.{Unknown, Twice, Limit}
use Rattle.file_rows.specs.declared.legs.RotationRow.{RotationRow}
use Rattle.file_rows.specs.declared.passengers.ItineraryRow.{ItineraryRow}
use Rattle.build_tables.specs.declared.files.Files.{Files}
use Rattle.build_tables.specs.Keys.{type_number}
use Rattle.file_rows.specs.Limits.{most_itineraries, most_passengers, most_legs}
use Rattle.build_tables.specs.Names.{rotation_place}

-- whether two rows are of one reservation: of one name and one type
abbrev pub is_same_reservation : ItineraryRow → ItineraryRow → Bool
is_same_reservation a b = bytes_eq a.name b.name && (type_number a.inbound == type_number b.inbound)

-- whether there is a rotation of each leg
abbrev pub has_known_legs : List RotationRow → ItineraryRow → Bool
has_known_legs rotations row = list_all (λ leg. is_some (rotation_place rotations leg.flight leg.day)) row.legs

-- one reservation, one passenger or one leg too many, a name and type that stood before, a leg that is not there
unfoldable pub itinerary_cause : Files → ℕ → ItineraryRow → Option Cause
itinerary_cause x n row =
    if nat_le most_itineraries n || (nat_lt most_passengers row.count || nat_lt most_legs (length row.legs)) then Some Limit
    else (if list_any (is_same_reservation row) (take n x.itineraries) then Some Twice
    else (if has_known_legs x.rotations row then None
    else Some Unknown))
