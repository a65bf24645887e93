-- The words of the program: a command first, then its directories and options.
use Rattle.std.specs.Prelude.{ℕ, Bool, true, false, ◌&&◌, nat_lt, if◌then◌else◌, List, [], ◌∷◌, Option, Some, None, codes, bytes_eq}
use Rattle.desk_folder.specs.Outside.{Directories}
use Rattle.desk_text.specs.Fields.{◌>>=◌, number_from}
use Rattle.desk_words.specs.declared.asked.Command.{Command}
use Rattle.desk_words.specs.declared.asked.Command.TheVariants.{Replay, Store, Recover, Check, Ferry, Gen, Trial}
use Rattle.desk_words.specs.declared.choice.NumberOption.{NumberOption}
use Rattle.desk_words.specs.declared.choice.NumberOption.TheVariants.{Seed, Size, Workers, Moves, Live, Watch, Crew}
use Rattle.desk_words.specs.Arguments.{Argument, arguments, places, values}

-- a command, and the directories that are to be named for it, where it has any
abbrev pub Asking : Type 0
Asking = Command × Option Directories

abbrev pub directories : List ℕ → List ℕ → Directories
directories input output = record { input = input; output = output }

-- what an option is where it isn't set, and the least and the greatest number that it can be
abbrev pub default_of : NumberOption → ℕ
default_of Seed = 1
default_of Size = 1
default_of Workers = 0
default_of Moves = 1000
default_of Live = 0
default_of Watch = 0
default_of Crew = 0

abbrev pub least_of : NumberOption → ℕ
least_of Seed = 0
least_of Size = 1
least_of Workers = 0
least_of Moves = 1
least_of Live = 0
least_of Watch = 0
least_of Crew = 0

abbrev pub most_of : NumberOption → ℕ
most_of Seed = 999999999
most_of Size = 40
most_of Workers = 64
most_of Moves = 100000
most_of Live = 1
most_of Watch = 1
most_of Crew = 1

-- an option stands at most once, and its value is 1 to 9 digits that spell a number in its range
abbrev pub value_in : NumberOption → List (List ℕ) → Option ℕ
value_in choice [] = Some (default_of choice)
value_in choice (text ∷ []) = number_from (least_of choice) (most_of choice) text
value_in choice texts = None

abbrev pub value_of : NumberOption → List Argument → Option ℕ
value_of choice arguments = value_in choice (values choice arguments)

-- an option that a command doesn't take stands nowhere
abbrev pub is_nothing : List (List ℕ) → Bool
is_nothing [] = true
is_nothing texts = false

abbrev pub is_unset : NumberOption → List Argument → Bool
is_unset choice arguments = is_nothing (values choice arguments)

-- the options of a day that is made up, and those of a search
abbrev pub no_day_options : List Argument → Bool
no_day_options arguments = is_unset Seed arguments && is_unset Size arguments

abbrev pub no_search_options : List Argument → Bool
no_search_options arguments = is_unset Workers arguments && is_unset Moves arguments && is_unset Live arguments && is_unset Watch arguments

-- exactly two directories: the input and the output
abbrev pub input_and_output : List (List ℕ) → Option Directories
input_and_output (input ∷ output ∷ []) = Some (directories input output)
input_and_output words = None

-- exactly one directory: the output; the input is the empty text
abbrev pub output_alone : List (List ℕ) → Option Directories
output_alone (output ∷ []) = Some (directories [] output)
output_alone words = None

-- no directory
abbrev pub no_directory : List (List ℕ) → Option (Unit {0})
no_directory [] = Some tt
no_directory words = None

-- a command that takes an input and an output directory, and no options of a day or of a search
unfoldable pub plain : Command → List Argument → Option Asking
plain command arguments =
    if no_day_options arguments && no_search_options arguments
    then (input_and_output (places arguments) >>= λ dirs. Some (command, Some dirs))
    else None

-- a command that takes these, and the option of the crews
unfoldable pub crewed : (Bool → Command) → List Argument → Option Asking
crewed command arguments = do
  crew ← value_of Crew arguments
  plain (command (nat_lt 0 crew)) arguments

-- a search of so many workers, which takes live batches and has a viewer only where there is one
abbrev pub search : ℕ → ℕ → ℕ → ℕ → Option Command
search workers moves live watch =
    if nat_lt workers live then None else (
    if nat_lt workers watch then None else Some (Recover workers moves (nat_lt 0 live) (nat_lt 0 watch)))

-- the command `recover`, which takes an input and an output directory and the options of a search
unfoldable pub searching : List Argument → Option Asking
searching arguments = do
  workers ← value_of Workers arguments
  moves ← value_of Moves arguments
  live ← value_of Live arguments
  watch ← value_of Watch arguments
  command ← search workers moves live watch
  dirs ← input_and_output (places arguments)
  Some (command, Some dirs)

abbrev pub recovering : List Argument → Option Asking
recovering arguments = if no_day_options arguments then searching arguments else None

-- the command `gen`, which takes an output directory and the options of a day
unfoldable pub making : List Argument → Option Asking
making arguments = do
  seed ← value_of Seed arguments
  size ← value_of Size arguments
  dirs ← output_alone (places arguments)
  Some (Gen seed size, Some dirs)

abbrev pub generating : List Argument → Option Asking
generating arguments = if no_search_options arguments then making arguments else None

-- the command `trial`, which takes these options and no directory
unfoldable pub sampling : List Argument → Option Asking
sampling arguments = do
  seed ← value_of Seed arguments
  size ← value_of Size arguments
  none ← no_directory (places arguments)
  Some (Trial seed size, None)

abbrev pub trying : List Argument → Option Asking
trying arguments = if no_search_options arguments then sampling arguments else None

-- what the word of a command that checks no crews makes of its arguments
abbrev pub uncrewed_by : List ℕ → List Argument → Option Asking
uncrewed_by word arguments =
    if bytes_eq word (codes "store") then plain Store arguments else (
    if bytes_eq word (codes "recover") then recovering arguments else (
    if bytes_eq word (codes "ferry") then plain Ferry arguments else (
    if bytes_eq word (codes "gen") then generating arguments else (
    if bytes_eq word (codes "trial") then trying arguments else None))))

-- what a command's word makes of its arguments
abbrev pub command_by : List ℕ → List Argument → Option Asking
command_by word arguments =
    if bytes_eq word (codes "replay") then crewed Replay arguments else (
    if bytes_eq word (codes "check") then crewed Check arguments else (
    if is_unset Crew arguments then uncrewed_by word arguments else None))

-- the command of the words, the program's name left out, with its directories; all other words are a usage refusal
unfoldable pub command : List (List ℕ) → Option Asking
command [] = None
command (word ∷ words) = do
  list ← arguments words
  command_by word list
