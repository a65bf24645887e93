-- What is kept of the words that were read: the directories, at most two, and the numbers of the options.
use Rattle.std.specs.Prelude.{ℕ, Bool, true, false, ◌&&◌, nat_lt, if◌then◌else◌, List, [], ◌∷◌, Option, Some, None, unwrap_or, codes, bytes_eq}
use Rattle.desk_text.specs.Fields.{◌>>=◌, number_from}
use Rattle.desk_words.specs.declared.asked.Command.{Command}
use Rattle.desk_words.specs.declared.asked.Command.TheVariants.{Replay, Store, Check, Ferry, Gen, Trial}
use Rattle.desk_words.specs.declared.choice.NumberOption.{NumberOption}
use Rattle.desk_words.specs.declared.choice.NumberOption.TheVariants.{Seed, Size, Workers, Moves, Live, Watch, Crew}
use Rattle.desk_words.specs.declared.read.DirectoryWords.{DirectoryWords}
use Rattle.desk_words.specs.declared.read.DirectoryWords.TheVariants.{Nothing, One, Two}
use Rattle.desk_words.specs.declared.read.Read.{Read}
use Rattle.desk_words.specs.declared.read.Values.{Values}
use Rattle.desk_words.specs.declared.read.Expected.{Expected}
use Rattle.desk_words.specs.declared.read.Expected.TheVariants as expected
use Rattle.desk_words.specs.Arguments.{Argument, Place, Setting, is_directory, choice_of, setting_of, flag_of, only_places, arguments_after}
use Rattle.desk_words.specs.Commands.{Asking, default_of, least_of, most_of, search, input_and_output, output_alone, no_directory}

-- what is kept
pub record WordsRead : Type 0 where
  pub places : List (List ℕ)
  pub values : Values

abbrev pub place_list : DirectoryWords → List (List ℕ)
place_list Nothing = []
place_list (One first) = first.now ∷ []
place_list (Two first second) = first.now ∷ second.now ∷ []

abbrev pub kept_of : Read → WordsRead
kept_of read = record { places = place_list read.places; values = read.values }

abbrev pub nothing : WordsRead
nothing = record { places = []; values = record { seed = None; size = None; workers = None; moves = None; live = None; watch = None; crew = None } }

-- the number of an option, where it is set
abbrev pub value : Values → NumberOption → Option ℕ
value set Seed = set.seed
value set Size = set.size
value set Workers = set.workers
value set Moves = set.moves
value set Live = set.live
value set Watch = set.watch
value set Crew = set.crew

-- the numbers with that of one option more
abbrev pub with_value : Values → NumberOption → ℕ → Values
with_value set Seed n = record set { seed = Some n }
with_value set Size n = record set { size = Some n }
with_value set Workers n = record set { workers = Some n }
with_value set Moves n = record set { moves = Some n }
with_value set Live n = record set { live = Some n }
with_value set Watch n = record set { watch = Some n }
with_value set Crew n = record set { crew = Some n }

-- one directory more, where there are not yet two
abbrev pub one_more : List (List ℕ) → List ℕ → Option (List (List ℕ))
one_more [] word = Some (word ∷ [])
one_more (first ∷ []) word = Some (first ∷ word ∷ [])
one_more words word = None

unfoldable pub with_place : WordsRead → List ℕ → Option WordsRead
with_place kept word = do
  places ← one_more kept.places word
  Some (record { places = places; values = kept.values })

-- the number of an option that has none yet
abbrev pub first_value : NumberOption → Option ℕ → List ℕ → Option ℕ
first_value choice None text = number_from (least_of choice) (most_of choice) text
first_value choice (Some value) text = None

unfoldable pub with_setting : WordsRead → NumberOption → List ℕ → Option WordsRead
with_setting kept choice text = do
  number ← first_value choice (value kept.values choice) text
  Some (record { places = kept.places; values = with_value kept.values choice number })

-- what is kept after one argument more, and after some
abbrev pub with_argument : WordsRead → Argument → Option WordsRead
with_argument kept (Place word) = with_place kept word
with_argument kept (Setting choice text) = with_setting kept choice text

unfoldable pub with_all : WordsRead → List Argument → Option WordsRead
with_all kept [] = Some kept
with_all kept (argument ∷ others) = do
  more ← with_argument kept argument
  with_all more others

-- what is kept after the arguments of some words, where they have arguments
abbrev pub kept_after : WordsRead → Option (List Argument) → Option WordsRead
kept_after kept None = None
kept_after kept (Some arguments) = with_all kept arguments

-- what comes of an option, or else of none
abbrev pub by_choice : Option NumberOption → (NumberOption → Option (Expected × WordsRead)) → Option (Expected × WordsRead) → Option (Expected × WordsRead)
by_choice (Some choice) named other = named choice
by_choice None named other = other

-- the arguments of words, by what the first of them may be
abbrev pub arguments_by : Expected → List (List ℕ) → Option (List Argument)
arguments_by expected.Any words = arguments_after None words
arguments_by (expected.Value choice) words = arguments_after (Some choice) words
arguments_by expected.Place words = only_places words

-- what the next word may be, and what is kept
abbrev pub after : Expected × Read → Expected × WordsRead
after pair = (pair.0, kept_of pair.1)

-- what the next word may be, where so much is kept
abbrev pub next_is : Expected → WordsRead → Option (Expected × WordsRead)
next_is mode kept = Some (mode, kept)

-- after one word
unfoldable pub of_any : WordsRead → List ℕ → Option (Expected × WordsRead)
of_any kept word =
    if is_directory word then (with_place kept word >>= next_is expected.Any) else (
    if bytes_eq word (codes "--") then next_is expected.Place kept else (
    by_choice (flag_of word) (λ flag. with_setting kept flag (codes "1") >>= next_is expected.Any)
    (by_choice (choice_of word) (λ choice. next_is (expected.Value choice) kept)
    (setting_of word >>= λ set. with_setting kept set.0 set.1 >>= next_is expected.Any))))

unfoldable pub of_word : Expected → WordsRead → List ℕ → Option (Expected × WordsRead)
of_word expected.Any kept word = of_any kept word
of_word (expected.Value choice) kept word = with_setting kept choice word >>= next_is expected.Any
of_word expected.Place kept word = if is_directory word then (with_place kept word >>= next_is expected.Place) else None

-- an option that isn't set
abbrev pub unset : Option ℕ → Bool
unset None = true
unset (Some value) = false

abbrev pub no_day_set : Values → Bool
no_day_set set = unset set.seed && unset set.size

abbrev pub no_search_set : Values → Bool
no_search_set set = unset set.workers && unset set.moves && unset set.live && unset set.watch

-- what a command's word makes of what was kept
unfoldable pub plain_kept : Command → WordsRead → Option Asking
plain_kept command kept =
    if no_day_set kept.values && no_search_set kept.values
    then (input_and_output kept.places >>= λ dirs. Some (command, Some dirs))
    else None

-- the number of an option, which is the usual one where it isn't set
abbrev pub number_set : NumberOption → Values → ℕ
number_set choice set = unwrap_or (value set choice) (default_of choice)

abbrev pub number_kept : NumberOption → WordsRead → ℕ
number_kept choice kept = number_set choice kept.values

abbrev pub searching_kept : Values → Option Command
searching_kept set = search (number_set Workers set) (number_set Moves set) (number_set Live set) (number_set Watch set)

unfoldable pub recovering_kept : WordsRead → Option Asking
recovering_kept kept =
    if no_day_set kept.values
    then (searching_kept kept.values >>= λ command. input_and_output kept.places >>= λ dirs. Some (command, Some dirs))
    else None

unfoldable pub generating_kept : WordsRead → Option Asking
generating_kept kept =
    if no_search_set kept.values
    then (output_alone kept.places >>= λ dirs. Some (Gen (number_kept Seed kept) (number_kept Size kept), Some dirs))
    else None

unfoldable pub trying_kept : WordsRead → Option Asking
trying_kept kept =
    if no_search_set kept.values
    then (no_directory kept.places >>= λ none. Some (Trial (number_kept Seed kept) (number_kept Size kept), None))
    else None

-- whether the crews are to be checked
abbrev pub has_crew : Values → Bool
has_crew set = nat_lt 0 (number_set Crew set)

unfoldable pub uncrewed_kept : List ℕ → WordsRead → Option Asking
uncrewed_kept word kept =
    if unset kept.values.crew then (
    if bytes_eq word (codes "store") then plain_kept Store kept else (
    if bytes_eq word (codes "recover") then recovering_kept kept else (
    if bytes_eq word (codes "ferry") then plain_kept Ferry kept else (
    if bytes_eq word (codes "gen") then generating_kept kept else (
    if bytes_eq word (codes "trial") then trying_kept kept else None))))) else None

abbrev pub asked_kept : List ℕ → WordsRead → Option Asking
asked_kept word kept =
    if bytes_eq word (codes "replay") then plain_kept (Replay (has_crew kept.values)) kept else (
    if bytes_eq word (codes "check") then plain_kept (Check (has_crew kept.values)) kept else
    uncrewed_kept word kept)
