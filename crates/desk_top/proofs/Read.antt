-- The rows of the journal among those of the files that were read.
use Rattle.std.proofs.Common.{◌≡◌, ℕ, Bool, true, false, List, [], ◌∷◌, refl, sym, ap, subst, ◌∙◌}
use Rattle.std.specs.Prelude.{Result, Ok, Err, if◌then◌else◌, nat_lt, length}
use Rattle.std.specs.List.{AllByRecursion}
use Rattle.desk_folder.specs.declared.files.File.{File}
use Rattle.desk_folder.specs.declared.files.File.TheVariants as file
use Rattle.file_rows.specs.declared.cause.Cause.{Cause}
use Rattle.file_rows.specs.declared.cause.Cause.TheVariants.{Size}
use Rattle.file_rows.specs.Limits.{most_bytes}
use Rattle.desk_text.specs.Rows.{◌>>=◌, text_rows}
use Rattle.file_readers.specs.Config.{config_of}
use Rattle.file_readers.specs.Airports.{airport_row}
use Rattle.file_readers.specs.Dist.{dist_row}
use Rattle.file_readers.specs.Itineraries.{itinerary_row}
use Rattle.file_readers.specs.Tariff.{tariff_rows}
use Rattle.file_readers.specs.Orders as orders
use Rattle.file_readers.specs.Feed.{feed_rows}
use Rattle.file_readers.specs.Flights.{flight_row}
use Rattle.file_readers.specs.Rotations.{rotation_row}
use Rattle.file_readers.specs.Aircraft.{aircraft_row}
use Rattle.file_readers.specs.Position.{position_row}
use Rattle.file_readers.specs.Crews.{crew_row}
use Rattle.desk_journal.specs.Journal.{journal_rows_of}
use Rattle.file_readers.specs.Grammar.{refusal_in}
use Rattle.desk_words.specs.declared.asked.Command.TheVariants as command_is
use Rattle.desk_tasks.specs.Commands.{files_read}
use Rattle.desk_tasks.specs.Inputs.{Inputs}
use Rattle.desk_tasks.specs.Reading.{byte_limit}
use Rattle.desk_tasks.specs.Story.{Rows, no_rows, unless_refused, with_rows, within_limit, in_file, read_as, read_all, rows_of}
use Rattle.desk_top.specs.Due.{IsNumbered}
use Rattle.desk_top.proofs.Parts.{bound, same_Ok, or_refused-Ok}
use Rattle.desk_top.proofs.Numbered.{journal_numbered}

-- the rows of the journal so far
abbrev pub AreNumbered : Rows → Type 0
AreNumbered rows = AllByRecursion IsNumbered rows.journal

-- ---- one file

-- a file that gives no rows of a journal
other_rows : {A : Type 0} (r : Result A (ℕ × Cause)) (f : A → Rows) (rows now : Rows) → ((x : A) → (f x).journal ≡ rows.journal) → (r >>= λ x. let given : Result Rows (ℕ × Cause) = Ok (f x) in given) ≡ Ok now → AreNumbered rows → AreNumbered now
other_rows (Err why) f rows now same h are = absurd cc
other_rows (Ok x) f rows now same h are = (let is : (f x).journal ≡ now.journal = ap (λ (r : Rows). r.journal) (same_Ok (f x) now h) in subst (AllByRecursion IsNumbered) (sym (same x) ∙ is) are)

with_numbered : (f : File) (bytes : List ℕ) (rows now : Rows) → with_rows f bytes rows ≡ Ok now → AreNumbered rows → AreNumbered now
unfolding with_rows
with_numbered file.Config bytes rows now h are = other_rows (config_of bytes) (λ x. record rows { files = record rows.files { config = x } }) rows now (λ x. refl) h are
with_numbered file.Flights bytes rows now h are = other_rows (text_rows most_bytes flight_row bytes) (λ x. record rows { files = record rows.files { flights = x } }) rows now (λ x. refl) h are
with_numbered file.Rotations bytes rows now h are = other_rows (text_rows most_bytes rotation_row bytes) (λ x. record rows { files = record rows.files { rotations = x } }) rows now (λ x. refl) h are
with_numbered file.Aircraft bytes rows now h are = other_rows (text_rows most_bytes aircraft_row bytes) (λ x. record rows { files = record rows.files { aircraft = x } }) rows now (λ x. refl) h are
with_numbered file.Airports bytes rows now h are = other_rows (text_rows most_bytes airport_row bytes) (λ x. record rows { files = record rows.files { airports = x } }) rows now (λ x. refl) h are
with_numbered file.Dist bytes rows now h are = other_rows (text_rows most_bytes dist_row bytes) (λ x. record rows { files = record rows.files { dist = x } }) rows now (λ x. refl) h are
with_numbered file.Itineraries bytes rows now h are = other_rows (text_rows most_bytes itinerary_row bytes) (λ x. record rows { files = record rows.files { itineraries = x } }) rows now (λ x. refl) h are
with_numbered file.Position bytes rows now h are = other_rows (text_rows most_bytes position_row bytes) (λ x. record rows { files = record rows.files { position = x } }) rows now (λ x. refl) h are
with_numbered file.AltFlights bytes rows now h are = other_rows (text_rows most_bytes orders.flight_row bytes) (λ x. record rows { files = record rows.files { alt_flights = x } }) rows now (λ x. refl) h are
with_numbered file.AltAircraft bytes rows now h are = other_rows (text_rows most_bytes orders.aircraft_row bytes) (λ x. record rows { files = record rows.files { alt_aircraft = x } }) rows now (λ x. refl) h are
with_numbered file.AltAirports bytes rows now h are = other_rows (text_rows most_bytes orders.airport_row bytes) (λ x. record rows { files = record rows.files { alt_airports = x } }) rows now (λ x. refl) h are
with_numbered file.Tariff bytes rows now h are = other_rows (tariff_rows bytes) (λ x. record rows { files = record rows.files { tariff = record { rows = x } } }) rows now (λ x. refl) h are
with_numbered file.Feed bytes rows now h are = other_rows (feed_rows bytes) (λ x. record rows { files = record rows.files { feed = x } }) rows now (λ x. refl) h are
with_numbered file.Crew bytes rows now h are = other_rows (text_rows most_bytes crew_row bytes) (λ x. record rows { crews = x }) rows now (λ x. refl) h are
with_numbered file.Journal bytes rows now h are =
    let own = bound (journal_rows_of bytes) (λ x. Ok (record rows { journal = x })) now h in
    subst AreNumbered (same_Ok (record rows { journal = own.0 }) now own.2) (journal_numbered bytes own.0 own.1)
with_numbered file.SolRotations bytes rows now h are = other_rows (unless_refused (refusal_in file.SolRotations bytes)) (λ x. record rows { plan_rotations = bytes }) rows now (λ x. refl) h are
with_numbered file.SolItineraries bytes rows now h are = other_rows (unless_refused (refusal_in file.SolItineraries bytes)) (λ x. record rows { plan_itineraries = bytes }) rows now (λ x. refl) h are
with_numbered file.SolAdded bytes rows now h are = subst AreNumbered (same_Ok rows now h) are

where_short : (b : Bool) (r : Result Rows (ℕ × Cause)) (now : Rows) → (if b then Err (0, Size) else r) ≡ Ok now → r ≡ Ok now
where_short true r now h = absurd cc
where_short false r now h = h

as_numbered : (f : File) (bytes : List ℕ) (rows now : Rows) → read_as f bytes rows ≡ Ok now → AreNumbered rows → AreNumbered now
unfolding read_as
as_numbered f bytes rows now h are =
    let read = with_rows f bytes rows in
    let given = or_refused-Ok (in_file f) (within_limit f bytes read) now h in
    with_numbered f bytes rows now (where_short (nat_lt (byte_limit f) (length bytes)) read now given) are

-- ---- all of them

all_numbered : (files : List File) (x : Inputs) (rows now : Rows) → read_all files x rows ≡ Ok now → AreNumbered rows → AreNumbered now
unfolding read_all
all_numbered [] x rows now h are = subst AreNumbered (same_Ok rows now h) are
all_numbered (f ∷ files) x rows now h are =
    let first = bound (read_as f (x f) rows) (read_all files x) now h in
    all_numbered files x first.0 now first.2 (as_numbered f (x f) rows first.0 first.1 are)

pub stored_numbered : (x : Inputs) (rows : Rows) → rows_of command_is.Store x ≡ Ok rows → AreNumbered rows
stored_numbered x rows h = all_numbered (files_read command_is.Store) x no_rows rows h tt
