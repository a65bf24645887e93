-- What the input files of a command say: the task that they set, or the first refusal.
use Rattle.std.specs.Prelude.{ℕ, true, false, List, [], ◌∷◌, length, Option, Some, None, Result, Ok, Err, nat_lt, if◌then◌else◌}
use Rattle.desk_folder.specs.declared.files.File.{File}
use Rattle.desk_folder.specs.declared.files.File.TheVariants as file
use Rattle.desk_folder.specs.Outputs.{FileText}
use Rattle.file_rows.specs.declared.cause.Cause.{Cause}
use Rattle.file_rows.specs.declared.cause.Cause.TheVariants.{Size}
use Rattle.file_rows.specs.Limits.{most_bytes}
use Rattle.desk_text.specs.Rows.{◌>>=◌, text_rows}
use Rattle.file_readers.specs.Config.{config_of}
use Rattle.file_readers.specs.Airports.{airport_row}
use Rattle.file_readers.specs.Dist.{dist_row}
use Rattle.file_readers.specs.Itineraries.{itinerary_row}
use Rattle.file_readers.specs.Tariff.{tariff_rows}
use Rattle.file_readers.specs.Orders as orders
use Rattle.file_readers.specs.Feed.{feed_rows}
use Rattle.file_readers.specs.Flights.{flight_row}
use Rattle.file_readers.specs.Rotations.{rotation_row}
use Rattle.file_readers.specs.Aircraft.{aircraft_row}
use Rattle.file_readers.specs.Position.{position_row}
use Rattle.file_readers.specs.declared.crew_row.CrewRow.{CrewRow}
use Rattle.file_readers.specs.Crews.{crew_row}
use Rattle.file_joins.specs.CrewJoin.{crews_after}
use Rattle.build_tables.specs.declared.files.Files.{Files}
use Rattle.desk_build.specs.Join.{built_of}
use Rattle.desk_journal.specs.declared.rows.JournalRow.{JournalRow}
use Rattle.desk_journal.specs.Journal.{journal_rows_of}
use Rattle.file_joins.specs.Join.{events_of}
use Rattle.file_readers.specs.Grammar.{refusal_in}
use Rattle.file_joins.specs.Solution.{solution_of}
use Rattle.desk_tasks.specs.Reading.{byte_limit}
use Rattle.desk_tasks.specs.declared.refusal.Refusal.{Refusal}
use Rattle.desk_words.specs.declared.asked.Command.{Command}
use Rattle.desk_words.specs.declared.asked.Command.TheVariants as command_is
use Rattle.desk_words.specs.declared.choice.NumberOption.TheVariants.{Moves}
use Rattle.desk_words.specs.Commands.{default_of}
use Rattle.output_texts.specs.Generated.{text_of}
use Rattle.desk_tasks.specs.Inputs.{Inputs}
use Rattle.desk_tasks.specs.Commands.{files_read}
use Rattle.desk_tasks.specs.Play.{Story}
use Rattle.desk_tasks.specs.Keep.{KeptStory}
use Rattle.desk_tasks.specs.Recover.{Recovery}
use Rattle.desk_tasks.specs.Judge.{Judged, with_batches}
use Rattle.desk_tasks.specs.Crew.{CrewedStory, JudgedCrews}
use Rattle.desk_tasks.specs.Tasks.{Task, play, play_crews, trial, judge, judge_crews, ferry, generate, recover_by}

-- ---- refusals

-- the refusal of a line
abbrev pub refusal : File → Cause → ℕ → Refusal
refusal file cause line = record { file = file; line = line; cause = cause }

-- what was read, or why it was not, in other words
abbrev pub or_refused : {A Why Given : Type 0} → (Why → Given) → Result A Why → Result A Given
or_refused given (Ok x) = Ok x
or_refused given (Err why) = Err (given why)

-- a line with its cause, and the file that it is of
abbrev pub in_file : File → ℕ × Cause → Refusal
in_file file at = refusal file at.1 at.0

-- a line of a file that does not fit the others
abbrev pub not_joined : File × ℕ × Cause → Refusal
not_joined at = refusal at.0 at.2 at.1

-- ---- the rows of the files

-- the rows that were read so far
pub record Rows : Type 0 where
  pub files : Files
  pub crews : List CrewRow
  pub journal : List JournalRow
  -- the bytes of the two files that give a plan, once their lines are in their form
  pub plan_rotations : List ℕ
  pub plan_itineraries : List ℕ

-- before any file is read
abbrev pub no_rows : Rows
no_rows = record {
  files = record {
    config = record { from = record { 0 = 0 }; to = record { 0 = 0 }; line = 0 };
    flights = [];
    rotations = [];
    aircraft = [];
    airports = [];
    dist = [];
    itineraries = [];
    position = [];
    alt_flights = [];
    alt_aircraft = [];
    alt_airports = [];
    tariff = record { rows = [] };
    feed = [];
  };
  crews = [];
  journal = [];
  plan_rotations = [];
  plan_itineraries = [];
}

-- a file whose lines are only tried
abbrev pub unless_refused : Option (ℕ × Cause) → Result (Unit {0}) (ℕ × Cause)
unless_refused None = Ok tt
unless_refused (Some refusal) = Err refusal

-- the rows with those of one file more, by its grammar
unfoldable pub with_rows : File → List ℕ → Rows → Result Rows (ℕ × Cause)
with_rows file.Config bytes rows = do
  config ← config_of bytes
  Ok (record rows { files = record rows.files { config = config } })
with_rows file.Flights bytes rows = do
  flights ← text_rows most_bytes flight_row bytes
  Ok (record rows { files = record rows.files { flights = flights } })
with_rows file.Rotations bytes rows = do
  rotations ← text_rows most_bytes rotation_row bytes
  Ok (record rows { files = record rows.files { rotations = rotations } })
with_rows file.Aircraft bytes rows = do
  aircraft ← text_rows most_bytes aircraft_row bytes
  Ok (record rows { files = record rows.files { aircraft = aircraft } })
with_rows file.Airports bytes rows = do
  airports ← text_rows most_bytes airport_row bytes
  Ok (record rows { files = record rows.files { airports = airports } })
with_rows file.Dist bytes rows = do
  dist ← text_rows most_bytes dist_row bytes
  Ok (record rows { files = record rows.files { dist = dist } })
with_rows file.Itineraries bytes rows = do
  itineraries ← text_rows most_bytes itinerary_row bytes
  Ok (record rows { files = record rows.files { itineraries = itineraries } })
with_rows file.Position bytes rows = do
  position ← text_rows most_bytes position_row bytes
  Ok (record rows { files = record rows.files { position = position } })
with_rows file.AltFlights bytes rows = do
  alt_flights ← text_rows most_bytes orders.flight_row bytes
  Ok (record rows { files = record rows.files { alt_flights = alt_flights } })
with_rows file.AltAircraft bytes rows = do
  alt_aircraft ← text_rows most_bytes orders.aircraft_row bytes
  Ok (record rows { files = record rows.files { alt_aircraft = alt_aircraft } })
with_rows file.AltAirports bytes rows = do
  alt_airports ← text_rows most_bytes orders.airport_row bytes
  Ok (record rows { files = record rows.files { alt_airports = alt_airports } })
with_rows file.Tariff bytes rows = do
  tariff ← tariff_rows bytes
  Ok (record rows { files = record rows.files { tariff = record { rows = tariff } } })
with_rows file.Feed bytes rows = do
  feed ← feed_rows bytes
  Ok (record rows { files = record rows.files { feed = feed } })
with_rows file.Crew bytes rows = do
  crews ← text_rows most_bytes crew_row bytes
  Ok (record rows { crews = crews })
with_rows file.Journal bytes rows = do
  journal ← journal_rows_of bytes
  Ok (record rows { journal = journal })
with_rows file.SolRotations bytes rows = do
  tried ← unless_refused (refusal_in file.SolRotations bytes)
  Ok (record rows { plan_rotations = bytes })
with_rows file.SolItineraries bytes rows = do
  tried ← unless_refused (refusal_in file.SolItineraries bytes)
  Ok (record rows { plan_itineraries = bytes })
with_rows file.SolAdded bytes rows = Ok rows

-- the same for a file of any length: one of too many bytes is refused at line 0, whatever they are
abbrev pub within_limit : File → List ℕ → Result Rows (ℕ × Cause) → Result Rows (ℕ × Cause)
within_limit f bytes read = if nat_lt (byte_limit f) (length bytes) then Err (0, Size) else read

unfoldable pub read_as : File → List ℕ → Rows → Result Rows Refusal
read_as f bytes rows = or_refused (in_file f) (within_limit f bytes (with_rows f bytes rows))

-- the rows with those of these files: each file is decided before the next one is looked at
unfoldable pub read_all : List File → Inputs → Rows → Result Rows Refusal
read_all [] x rows = Ok rows
read_all (f ∷ files) x rows = read_as f (x f) rows >>= read_all files x

-- the same from texts, each the whole of its file
unfoldable pub read_texts : List FileText → Rows → Result Rows Refusal
read_texts [] rows = Ok rows
read_texts (t ∷ texts) rows = read_as t.0 t.1 rows >>= read_texts texts

-- the rows of the files of a command, or the first refusal by a grammar
abbrev pub rows_of : Command → Inputs → Result Rows Refusal
rows_of c x = read_all (files_read c) x no_rows

-- ---- the task

-- to play: the files are joined to a day and its batches, and then the journal says which of them are taken, and when
unfoldable pub story_of_rows : Rows → Result Story Refusal
story_of_rows rows = do
  built ← or_refused not_joined (built_of rows.files)
  events ← or_refused (in_file file.Journal) (events_of built rows.journal)
  Ok (record { day = built.inst; events = events })

-- to keep: the same story, with all batches of its day
unfoldable pub kept_of_rows : Rows → Result KeptStory Refusal
kept_of_rows rows = do
  built ← or_refused not_joined (built_of rows.files)
  events ← or_refused (in_file file.Journal) (events_of built rows.journal)
  Ok (record { story = record { day = built.inst; events = events }; batches = built.batches })

-- to play beside crews: the files are joined, then the crews, and then the journal
unfoldable pub crewed_of_rows : Rows → Result CrewedStory Refusal
crewed_of_rows rows = do
  built ← or_refused not_joined (built_of rows.files)
  crews ← or_refused (in_file file.Crew) (crews_after built.inst [] rows.crews)
  events ← or_refused (in_file file.Journal) (events_of built rows.journal)
  Ok (record { story = record { day = built.inst; events = events }; crews = crews })

-- to recover: the files are joined, and all batches are taken, with so many accepted moves at most after each
unfoldable pub recovery_of_rows : ℕ → Rows → Result Recovery Refusal
recovery_of_rows moves rows = do
  built ← or_refused not_joined (built_of rows.files)
  Ok (record { day = built.inst; batches = built.batches; moves = moves })

-- to judge: the files are joined, and then those of the plan; the batches are added by it, and it is judged on the day with all of them
unfoldable pub judged_of_rows : Rows → Result Judged Refusal
judged_of_rows rows = do
  built ← or_refused not_joined (built_of rows.files)
  plan ← or_refused not_joined (solution_of built.inst rows.plan_rotations rows.plan_itineraries)
  Ok (record { day = with_batches built.inst plan built.batches; plan = plan })

-- to judge with crews: the files are joined, then the crews, and then those of the plan
unfoldable pub judged_crews_of_rows : Rows → Result JudgedCrews Refusal
judged_crews_of_rows rows = do
  built ← or_refused not_joined (built_of rows.files)
  crews ← or_refused (in_file file.Crew) (crews_after built.inst [] rows.crews)
  plan ← or_refused not_joined (solution_of built.inst rows.plan_rotations rows.plan_itineraries)
  Ok (record { judged = record { day = with_batches built.inst plan built.batches; plan = plan }; crews = crews })

-- how many moves are accepted at most where the words don't say it
abbrev pub usual_moves : ℕ
usual_moves = default_of Moves

-- to try: the files of a day that is made up are read and joined as those of a folder would be, to be recovered so
unfoldable pub trial_of : ℕ → ℕ → Result Recovery Refusal
trial_of seed size = rows_of (command_is.Recover 0 usual_moves false false) (text_of seed size) >>= recovery_of_rows usual_moves

-- by the command; what is generated is asked by the words alone
unfoldable pub task_of_rows : Command → Rows → Result Task Refusal
task_of_rows (command_is.Replay false) rows = do
  story ← story_of_rows rows
  Ok (play story)
task_of_rows (command_is.Replay true) rows = do
  story ← crewed_of_rows rows
  Ok (play_crews story)
task_of_rows command_is.Store rows = do
  story ← story_of_rows rows
  Ok (play story)
task_of_rows (command_is.Recover workers moves live watch) rows = do
  recovery ← recovery_of_rows moves rows
  Ok (recover_by workers live watch recovery)
task_of_rows (command_is.Check false) rows = do
  judged ← judged_of_rows rows
  Ok (judge judged)
task_of_rows (command_is.Check true) rows = do
  judged ← judged_crews_of_rows rows
  Ok (judge_crews judged)
task_of_rows command_is.Ferry rows = do
  judged ← judged_of_rows rows
  Ok (ferry judged)
task_of_rows (command_is.Gen seed size) rows = Ok (generate seed size)
task_of_rows (command_is.Trial seed size) rows = do
  recovery ← trial_of seed size
  Ok (trial recovery)

-- the grammar of each file comes before the join of any
unfoldable pub task_of : Command → Inputs → Result Task Refusal
task_of c x = rows_of c x >>= task_of_rows c

-- the story that `store` keeps, with the batches of its day
unfoldable pub kept_of : Inputs → Result KeptStory Refusal
kept_of x = rows_of command_is.Store x >>= kept_of_rows
