-- The words after a command: directories and options in any order.
use Rattle.std.specs.Prelude.{ℕ, ◌+◌, Bool, false, not, ◌==◌, if◌then◌else◌, List, [], ◌∷◌, take, drop, position, Option, Some, None, option_map, codes, bytes_eq}
use Rattle.desk_text.specs.Fields.{◌>>=◌}
use Rattle.desk_words.specs.declared.choice.NumberOption.{NumberOption}
use Rattle.desk_words.specs.declared.choice.NumberOption.TheVariants.{Seed, Size, Workers, Moves, Live, Watch, Crew}

-- a directory isn't empty and doesn't begin with -
abbrev pub is_directory : List ℕ → Bool
is_directory [] = false
is_directory (byte ∷ bytes) = not (byte == 45)

-- what words say: a directory, or an option with the text of its value, which is 1 where the option's word has none
pub data Argument : Type 0 where
  Place : List ℕ → Argument
  Setting : NumberOption → List ℕ → Argument

-- the option that a word names, whose value is the next word
abbrev pub choice_of : List ℕ → Option NumberOption
choice_of word =
    if bytes_eq word (codes "--seed") then Some Seed else (
    if bytes_eq word (codes "--size") then Some Size else (
    if bytes_eq word (codes "--workers") then Some Workers else (
    if bytes_eq word (codes "--moves") then Some Moves else None)))

-- the option of a word that takes no value
abbrev pub flag_of : List ℕ → Option NumberOption
flag_of word =
    if bytes_eq word (codes "--live") then Some Live else (
    if bytes_eq word (codes "--watch") then Some Watch else (
    if bytes_eq word (codes "--crew") then Some Crew else None))

-- the option that a word names in front of its place `at`, with the text after that place
abbrev pub setting_at : List ℕ → ℕ → Option (NumberOption × List ℕ)
setting_at word at = option_map (λ choice. (choice, drop (at + 1) word)) (choice_of (take at word))

-- the option that a word sets, with the text of its value after the first =
unfoldable pub setting_of : List ℕ → Option (NumberOption × List ℕ)
setting_of word = position (λ byte. byte == 61) word >>= setting_at word

-- an argument before others
abbrev pub before : Argument → Option (List Argument) → Option (List Argument)
before argument others = option_map (λ list. argument ∷ list) others

-- the argument of a word that sets an option, before others; other words are none
abbrev pub set_before : Option (NumberOption × List ℕ) → Option (List Argument) → Option (List Argument)
set_before None others = None
set_before (Some set) others = before (Setting set.0 set.1) others

-- where a word is the name of an option, what comes of that, else what comes of other words
abbrev pub named_or : Option NumberOption → (NumberOption → Option (List Argument)) → Option (List Argument) → Option (List Argument)
named_or (Some choice) named other = named choice
named_or None named other = other

-- words that are all directories
unfoldable pub only_places : List (List ℕ) → Option (List Argument)
only_places [] = Some []
only_places (word ∷ words) = if is_directory word then before (Place word) (only_places words) else None

-- the arguments that words say, or none where some word is none: after a word -- all are directories; after the name of an
-- option, which is named first here, comes its value
unfoldable pub arguments_after : Option NumberOption → List (List ℕ) → Option (List Argument)
arguments_after None [] = Some []
arguments_after (Some choice) [] = None
arguments_after (Some choice) (word ∷ words) = before (Setting choice word) (arguments_after None words)
arguments_after None (word ∷ words) =
    if is_directory word then before (Place word) (arguments_after None words) else (
    if bytes_eq word (codes "--") then only_places words else (
    named_or (flag_of word) (λ flag. before (Setting flag (codes "1")) (arguments_after None words))
    (named_or (choice_of word) (λ choice. arguments_after (Some choice) words) (set_before (setting_of word) (arguments_after None words)))))

abbrev pub arguments : List (List ℕ) → Option (List Argument)
arguments words = arguments_after None words

-- the directories among arguments
unfoldable pub places : List Argument → List (List ℕ)
places [] = []
places (Place word ∷ others) = word ∷ places others
places (Setting choice text ∷ others) = places others

-- the number of an option, by which one is known from another
abbrev pub choice_number : NumberOption → ℕ
choice_number Seed = 0
choice_number Size = 1
choice_number Workers = 2
choice_number Moves = 3
choice_number Live = 4
choice_number Watch = 5
choice_number Crew = 6

-- the texts of the values of one option
unfoldable pub values : NumberOption → List Argument → List (List ℕ)
values choice [] = []
values choice (Place word ∷ others) = values choice others
values choice (Setting other text ∷ others) =
    if choice_number other == choice_number choice then text ∷ values choice others else values choice others
