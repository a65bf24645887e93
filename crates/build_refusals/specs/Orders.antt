-- Why an order of the alt files or of the feed is refused.
use Rattle.std.specs.Prelude.{ℕ, ◌-◌, Bool, true, false, not, ◌&&◌, List, take, Option, Some, None, is_some, nat_lt, nat_le, if◌then◌else◌}
use Rattle.std.specs.List.{count_by}
use Rattle.file_rows.specs.declared.cause.Cause.{Cause}
use Rattle.file_rows.specs.declared.cause.Cause.TheVariants.{Unknown, Limit, BadWindow}
use Rattle.file_rows.specs.declared.disruptions.AltRow.{AltRow}
use Rattle.file_rows.specs.declared.disruptions.AltRow.TheVariants as alt
use Rattle.build_tables.specs.declared.files.Files.{Files}
use Rattle.build_tables.specs.Names.{rotation_place, airport_place, aircraft_place}

-- the line of a row
abbrev pub line_of : AltRow → ℕ
line_of (alt.Flight line flight day delay) = line
line_of (alt.Aircraft line aircraft from to) = line
line_of (alt.Field line airport from to deps arrs) = line
line_of (alt.Nothing line) = line
line_of (alt.At line at) = line

-- whether a row is an order: one that only says that there is a batch, or when it becomes known, is none
abbrev pub is_order : AltRow → Bool
is_order (alt.Flight line flight day delay) = true
is_order (alt.Aircraft line aircraft from to) = true
is_order (alt.Field line airport from to deps arrs) = true
is_order (alt.Nothing line) = false
is_order (alt.At line at) = false

-- how many more orders may come after these rows, where so many may come before them
abbrev pub room_after : ℕ → List AltRow → ℕ
room_after room rows = room - count_by is_order rows

-- whether the leg, the aircraft or the airport of an order is known
abbrev pub is_about_known : Files → AltRow → Bool
is_about_known x (alt.Flight line flight day delay) = is_some (rotation_place x.rotations flight day)
is_about_known x (alt.Aircraft line aircraft from to) = is_some (aircraft_place x.aircraft aircraft)
is_about_known x (alt.Field line airport from to deps arrs) = is_some (airport_place x.airports airport)
is_about_known x (alt.Nothing line) = true
is_about_known x (alt.At line at) = true

-- whether the span of an order, where it has one, ends after its start
abbrev pub has_good_span : AltRow → Bool
has_good_span (alt.Flight line flight day delay) = true
has_good_span (alt.Aircraft line aircraft from to) = nat_lt from.0 to.0
has_good_span (alt.Field line airport from to deps arrs) = nat_lt from.0 to.0
has_good_span (alt.Nothing line) = true
has_good_span (alt.At line at) = true

-- one order too many, where there are as many already as there may be; a name that is not there, a span of no length
unfoldable pub order_cause : Files → Bool → AltRow → Option Cause
order_cause x full row =
    if full && is_order row then Some Limit
    else (if not (is_about_known x row) then Some Unknown
    else (if has_good_span row then None
    else Some BadWindow))

-- the cause of a row of an alt file, in which so many orders may come
abbrev pub alt_cause : Files → ℕ → List AltRow → ℕ → AltRow → Option Cause
alt_cause x room rows n row = order_cause x (nat_le room (count_by is_order (take n rows))) row
