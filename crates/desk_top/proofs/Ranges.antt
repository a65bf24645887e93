-- The numbers of the words are in their ranges.
use Rattle.std.proofs.Common.{◌≡◌, ℕ, ◌≤◌, Bool, true, false, ◌&&◌, if◌then◌else◌, List, [], ◌∷◌, refl, sym, subst, ◌∙◌, inl, inr, arith}
use Rattle.std.proofs.lemmas.Bool.Decides.{nat_tests}
use Rattle.std.specs.Prelude.{Option, Some, None, IfSome, IsSome, nat_le, nat_lt, bytes_eq, codes}
use Rattle.std.proofs.lemmas.Bool.{cases_Bool, false≢true, leb-true}
use Rattle.desk_folder.specs.Outside.{Directories}
use Rattle.desk_text.specs.Fields.{◌>>=◌, only_if, digits_of, number_from}
use Rattle.desk_words.specs.declared.asked.Command.{Command}
use Rattle.desk_words.specs.declared.asked.Command.TheVariants as command_is
use Rattle.desk_words.specs.declared.choice.NumberOption.{NumberOption}
use Rattle.desk_words.specs.declared.choice.NumberOption.TheVariants as choice_is
use Rattle.desk_words.specs.Arguments.{Argument, arguments, places}
use Rattle.desk_words.specs.Commands.{Asking, least_of, most_of, value_in, value_of, no_day_options, no_search_options, input_and_output, output_alone, no_directory, is_unset, plain, crewed, search, searching, recovering, making, generating, sampling, trying, uncrewed_by, command_by, command}
use Rattle.desk_tasks.specs.Commands.{IsCommand, is_of_disk}

-- from a least to a greatest number
abbrev Within : ℕ → ℕ → ℕ → Type 0
Within low high n = (low ≤ n) × (n ≤ high)

both : (low high n : ℕ) → (nat_le low n && nat_le n high) ≡ true → Within low high n
both low high n e = elim (cases_Bool (nat_le low n)) [
  | inl first ↦ (leb-true low n first, leb-true n high (rw first at e))
  | inr not ↦ absurd (let no : false ≡ true = rw not at e in cc)
]

only_within : (low high : ℕ) (o : Option ℕ) → IfSome (o >>= (λ n. only_if (nat_le low n && nat_le n high) n)) (Within low high)
only_within low high None = tt
only_within low high (Some n) = elim (cases_Bool (nat_le low n && nat_le n high)) [
  | inl e ↦ rw e (both low high n e)
  | inr e ↦ rw e tt
]

number_within : (low high : ℕ) (bytes : List ℕ) → IfSome (number_from low high bytes) (Within low high)
unfolding number_from
number_within low high bytes = only_within low high (digits_of 9 bytes)

value_within : (choice : NumberOption) (texts : List (List ℕ)) → IfSome (value_in choice texts) (Within (least_of choice) (most_of choice))
value_within choice_is.Seed [] = (omega arith, omega arith)
value_within choice_is.Size [] = (omega arith, omega arith)
value_within choice_is.Workers [] = (omega arith, omega arith)
value_within choice_is.Moves [] = (omega arith, omega arith)
value_within choice_is.Live [] = (omega arith, omega arith)
value_within choice_is.Watch [] = (omega arith, omega arith)
value_within choice_is.Crew [] = (omega arith, omega arith)
value_within choice (text ∷ []) = number_within (least_of choice) (most_of choice) text
value_within choice (text ∷ other ∷ texts) = tt

-- ---- each command

-- the command that is asked for is one, and has directories where it keeps its journal on a disk
abbrev IsAsking : Asking → Type 0
IsAsking asked = IsCommand asked.0 × (is_of_disk asked.0 ≡ true → IsSome asked.1)

abbrev InRange : Option Asking → Type 0
InRange o = IfSome o IsAsking

-- directories change no number
with_dirs : (c : Command) (dirs : Option Directories) → IsCommand c → InRange (dirs >>= (λ dirs. Some (c, Some dirs)))
with_dirs c None h = tt
with_dirs c (Some d) h = (h, λ kept. refl)

without_dirs : (c : Command) (none : Option (Unit {0})) → IsCommand c → is_of_disk c ≡ false → InRange (none >>= (λ none. Some (c, None)))
without_dirs c None h free = tt
without_dirs c (Some found) h free = (h, λ kept. absurd (let no : false ≡ true = sym free ∙ kept in cc))

if_range : (test : Bool) (o : Option Asking) → InRange o → InRange (if test then o else None)
if_range true o h = h
if_range false o h = tt

-- batches are taken live, and a viewer watches, only beside a worker
some_worker : (workers flag : ℕ) → nat_lt workers flag ≡ false → nat_lt 0 flag ≡ true → 1 ≤ workers
some_worker workers flag few some = grind (arith, nat_tests)

search_in : (workers moves live watch : ℕ) (dirs : Option Directories) (less fewer : Bool) → nat_lt workers live ≡ less → nat_lt workers watch ≡ fewer → Within 0 64 workers → Within 1 100000 moves → InRange ((if less then None else (if fewer then None else Some (command_is.Recover workers moves (nat_lt 0 live) (nat_lt 0 watch)))) >>= (λ command. dirs >>= (λ dirs. Some (command, Some dirs))))
search_in workers moves live watch dirs true fewer is same w a = tt
search_in workers moves live watch dirs false true is same w a = tt
search_in workers moves live watch dirs false false is same w a = with_dirs (command_is.Recover workers moves (nat_lt 0 live) (nat_lt 0 watch)) dirs (w.1, a.0, a.1, (λ some. some_worker workers live is some), λ some. some_worker workers watch same some)

searching_in : (workers moves live watch : Option ℕ) (dirs : Option Directories) → IfSome workers (Within 0 64) → IfSome moves (Within 1 100000) → InRange (workers >>= (λ workers. moves >>= (λ moves. live >>= (λ live. watch >>= (λ watch. search workers moves live watch >>= (λ command. dirs >>= (λ dirs. Some (command, Some dirs))))))))
searching_in None moves live watch dirs w a = tt
searching_in (Some workers) None live watch dirs w a = tt
searching_in (Some workers) (Some moves) None watch dirs w a = tt
searching_in (Some workers) (Some moves) (Some live) None dirs w a = tt
searching_in (Some workers) (Some moves) (Some live) (Some watch) dirs w a = search_in workers moves live watch dirs (nat_lt workers live) (nat_lt workers watch) refl refl w a

recovering_range : (list : List Argument) → InRange (recovering list)
unfolding searching
recovering_range list = if_range (no_day_options list) _ (searching_in (value_of choice_is.Workers list) (value_of choice_is.Moves list) (value_of choice_is.Live list) (value_of choice_is.Watch list) (input_and_output (places list)) (value_within choice_is.Workers _) (value_within choice_is.Moves _))

making_in : (seed size : Option ℕ) (dirs : Option Directories) → IfSome seed (Within 0 999999999) → IfSome size (Within 1 40) → InRange (seed >>= (λ seed. size >>= (λ size. dirs >>= (λ dirs. Some (command_is.Gen seed size, Some dirs)))))
making_in None size dirs a b = tt
making_in (Some seed) None dirs a b = tt
making_in (Some seed) (Some size) dirs a b = with_dirs (command_is.Gen seed size) dirs (a.1, b.0, b.1)

generating_range : (list : List Argument) → InRange (generating list)
unfolding making
generating_range list = if_range (no_search_options list) _ (making_in (value_of choice_is.Seed list) (value_of choice_is.Size list) (output_alone (places list)) (value_within choice_is.Seed _) (value_within choice_is.Size _))

sampling_in : (seed size : Option ℕ) (none : Option (Unit {0})) → IfSome seed (Within 0 999999999) → IfSome size (Within 1 40) → InRange (seed >>= (λ seed. size >>= (λ size. none >>= (λ none. Some (command_is.Trial seed size, None)))))
sampling_in None size _ a b = tt
sampling_in (Some seed) None _ a b = tt
sampling_in (Some seed) (Some size) found a b = without_dirs (command_is.Trial seed size) found (a.1, b.0, b.1) refl

trying_range : (list : List Argument) → InRange (trying list)
unfolding sampling
trying_range list = if_range (no_search_options list) _ (sampling_in (value_of choice_is.Seed list) (value_of choice_is.Size list) (no_directory (places list)) (value_within choice_is.Seed _) (value_within choice_is.Size _))

plain_range : (c : Command) (list : List Argument) → IsCommand c → InRange (plain c list)
unfolding plain
plain_range c list h = if_range (no_day_options list && no_search_options list) _ (with_dirs c (input_and_output (places list)) h)

crewed_in : (c : Bool → Command) (crew : Option ℕ) (list : List Argument) → ((crew : Bool) → IsCommand (c crew)) → InRange (crew >>= (λ crew. plain (c (nat_lt 0 crew)) list))
crewed_in c None list h = tt
crewed_in c (Some crew) list h = plain_range (c (nat_lt 0 crew)) list (h (nat_lt 0 crew))

crewed_range : (c : Bool → Command) (list : List Argument) → ((crew : Bool) → IsCommand (c crew)) → InRange (crewed c list)
unfolding crewed
crewed_range c list h = crewed_in c (value_of choice_is.Crew list) list h

asked_range : (word : List ℕ) (list : List Argument) → InRange (command_by word list)
asked_range word list =
    choice_range (bytes_eq word (codes "replay")) (crewed command_is.Replay list) _ (crewed_range command_is.Replay list (λ crew. tt))
    (choice_range (bytes_eq word (codes "check")) (crewed command_is.Check list) _ (crewed_range command_is.Check list (λ crew. tt))
    (if_range (is_unset choice_is.Crew list) (uncrewed_by word list)
    (choice_range (bytes_eq word (codes "store")) (plain command_is.Store list) _ (plain_range command_is.Store list tt)
    (choice_range (bytes_eq word (codes "recover")) (recovering list) _ (recovering_range list)
    (choice_range (bytes_eq word (codes "ferry")) (plain command_is.Ferry list) _ (plain_range command_is.Ferry list tt)
    (choice_range (bytes_eq word (codes "gen")) (generating list) _ (generating_range list)
    (if_range (bytes_eq word (codes "trial")) (trying list) (trying_range list))))))))
  where
    choice_range : (test : Bool) (a b : Option Asking) → InRange a → InRange b → InRange (if test then a else b)
    choice_range true a b h k = h
    choice_range false a b h k = k

after_range : (word : List ℕ) (read : Option (List Argument)) → InRange (read >>= command_by word)
after_range word None = tt
after_range word (Some list) = asked_range word list

ranges : (words : List (List ℕ)) → InRange (command words)
unfolding command
ranges [] = tt
ranges (word ∷ words) = after_range word (arguments words)

asking : (words : List (List ℕ)) (asked : Asking) → Some asked ≡ command words → IsAsking asked
asking words asked is = subst (λ (o : Option Asking). InRange o) (sym is) (ranges words)

pub asked-in-range : (words : List (List ℕ)) (asked : Asking) → Some asked ≡ command words → IsCommand asked.0
asked-in-range words asked is = (asking words asked is).0

-- where it has no directories it keeps no journal on a disk
none_kept : (c : Command) (test : Bool) → is_of_disk c ≡ test → (is_of_disk c ≡ true → IsSome (let o : Option Directories = None in o)) → is_of_disk c ≡ false
none_kept c true is some = absurd (false≢true (some is))
none_kept c false is some = is

pub unplaced-free : (words : List (List ℕ)) (c : Command) → Some (c, None) ≡ command words → is_of_disk c ≡ false
unplaced-free words c is = none_kept c (is_of_disk c) refl (asking words (c, None) is).1
