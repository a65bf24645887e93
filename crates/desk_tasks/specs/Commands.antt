-- The files that each command reads and writes, and what is asked of the desk.
use Rattle.std.specs.Prelude.{◌≡◌, ◌≤◌, ℕ, Bool, true, false, List, [], ◌∷◌, ◌++◌, Option, Some, None}
use Rattle.std.specs.Option.{option_map}
use Rattle.desk_folder.specs.declared.files.File.{File}
use Rattle.desk_folder.specs.declared.files.File.TheVariants as file
use Rattle.desk_folder.specs.Files.{day_files, plan_files}
use Rattle.desk_folder.specs.Outside.{Directories}
use Rattle.desk_words.specs.declared.asked.Command.{Command}
use Rattle.desk_words.specs.declared.asked.Command.TheVariants as command_is
use Rattle.desk_words.specs.Commands.{Asking, command}

-- the file of the crews, where they are to be checked
abbrev pub if_crew : Bool → List File
if_crew true = file.Crew ∷ []
if_crew false = []

-- the files that a command reads, in file order
abbrev pub files_read : Command → List File
files_read (command_is.Replay crew) = day_files ++ if_crew crew ++ file.Journal ∷ []
files_read command_is.Store = day_files ++ file.Journal ∷ []
files_read (command_is.Recover workers moves live watch) = day_files
files_read (command_is.Check crew) = day_files ++ if_crew crew ++ plan_files
files_read command_is.Ferry = day_files ++ plan_files
files_read (command_is.Gen seed size) = []
files_read (command_is.Trial seed size) = []

-- the files that say what a history came to, in the order in which they are written
abbrev pub history_files : List File
history_files = file.SolRotations ∷ file.SolItineraries ∷ file.Journal ∷ []

-- the files that a command may write, in the order in which it writes them
abbrev pub files_written : Command → List File
files_written (command_is.Replay crew) = history_files
files_written command_is.Store = history_files
files_written (command_is.Recover workers moves live watch) = history_files
files_written (command_is.Check crew) = []
files_written command_is.Ferry = file.SolAdded ∷ []
files_written (command_is.Gen seed size) = day_files
files_written (command_is.Trial seed size) = []

-- what is asked of the desk: a command, and the directories that are to be named for it, where there are any
pub record Ask : Type 0 where
  pub command : Command
  pub place : Option Directories

abbrev pub asks : Asking → Ask
asks asking = record { command = asking.0; place = asking.1 }

-- by the words of the program; words that spell no command ask for nothing
abbrev pub asked_by : List (List ℕ) → Option Ask
asked_by words = option_map asks (command words)

-- by a command alone, whose directories are named already
abbrev pub asked_here : Command → Option Ask
asked_here c = Some (record { command = c; place = None })

-- the files that are read, and those that may be written, where so much is asked
abbrev pub reads : Option Ask → List File
reads None = []
reads (Some a) = files_read a.command

abbrev pub writes : Option Ask → List File
writes None = []
writes (Some a) = files_written a.command

-- what a command may ask for: a seed of at most nine digits and a size from 1 to 40; or a search with at most 64 workers and 1 to 100,000
-- accepted moves, where batches are taken live and a viewer watches only beside a worker
abbrev pub IsCommand : Command → Type 0
IsCommand (command_is.Replay crew) = Unit {0}
IsCommand command_is.Store = Unit {0}
IsCommand (command_is.Recover workers moves live watch) = (workers ≤ 64) × (1 ≤ moves) × (moves ≤ 100000) × (live ≡ true → 1 ≤ workers) × (watch ≡ true → 1 ≤ workers)
IsCommand (command_is.Check crew) = Unit {0}
IsCommand command_is.Ferry = Unit {0}
IsCommand (command_is.Gen seed size) = (seed ≤ 999999999) × (1 ≤ size) × (size ≤ 40)
IsCommand (command_is.Trial seed size) = (seed ≤ 999999999) × (1 ≤ size) × (size ≤ 40)

-- how many workers a command asks for
abbrev pub workers_of : Command → ℕ
workers_of (command_is.Recover workers moves live watch) = workers
workers_of other = 0

-- whether a command keeps its journal on a disk
abbrev pub is_of_disk : Command → Bool
is_of_disk command_is.Store = true
is_of_disk other = false

-- the same of what is asked
abbrev pub asks_disk : Option Ask → Bool
asks_disk None = false
asks_disk (Some a) = is_of_disk a.command
