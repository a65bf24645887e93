-- What is kept of words is what their arguments say.
use Rattle.std.proofs.Common.{◌≡◌, ℕ, Bool, true, false, ◌&&◌, if◌then◌else◌, eqb, nat_lt, List, [], ◌∷◌, ◌++◌, Option, Some, None, unwrap_or, ap, sym, ◌∙◌, refl, codes, bytes_eq}
use Rattle.std.proofs.lemmas.List.{append_assoc, append-nil}
use Rattle.desk_text.specs.Fields.{◌>>=◌, number_from}
use Rattle.desk_words.specs.declared.asked.Command.{Command}
use Rattle.desk_words.specs.declared.asked.Command.TheVariants.{Replay, Store, Check, Ferry}
use Rattle.desk_words.specs.declared.choice.NumberOption.{NumberOption}
use Rattle.desk_words.specs.declared.choice.NumberOption.TheVariants.{Seed, Size, Workers, Moves, Live, Watch, Crew}
use Rattle.desk_words.specs.declared.read.Expected.{Expected}
use Rattle.desk_words.specs.declared.read.Expected.TheVariants as expected
use Rattle.desk_words.specs.Arguments.{Argument, Place, Setting, is_directory, choice_of, setting_of, flag_of, before, named_or, set_before, only_places, arguments_after, arguments, places, values, choice_number}
use Rattle.desk_words.specs.Commands.{Asking, default_of, least_of, most_of, value_in, value_of, is_nothing, is_unset, no_day_options, no_search_options, search, input_and_output, plain, crewed, searching, recovering, making, generating, sampling, trying, uncrewed_by, command_by, command}
use Rattle.desk_words.specs.Read.{WordsRead, nothing, one_more, with_place, with_setting, with_argument, with_all, kept_after, by_choice, next_is, arguments_by, of_any, of_word, value, with_value, unset, no_day_set, no_search_set, number_kept, plain_kept, recovering_kept, generating_kept, trying_kept, has_crew, uncrewed_kept, asked_kept}

nowhere : {X : Type 0} (more : Option X) (f : X → Option WordsRead) → ((x : X) → f x ≡ None) → (more >>= f) ≡ None
nowhere None f none = refl
nowhere (Some x) f none = none x

-- an argument before others is kept, and then the others
pub kept_before : (kept : WordsRead) (argument : Argument) (others : Option (List Argument)) → kept_after kept (before argument others) ≡ (with_argument kept argument >>= λ more. kept_after more others)
unfolding with_all
kept_before kept argument (Some list) = refl
kept_before kept argument None = sym (nowhere (with_argument kept argument) (λ more. kept_after more None) (λ more. refl))

-- what is kept of the words after one
abbrev go_on : List (List ℕ) → Expected × WordsRead → Option WordsRead
go_on words next = kept_after next.1 (arguments_by next.0 words)

bind_twice : (more : Option WordsRead) (next : Expected) (f : Expected × WordsRead → Option WordsRead) → ((more >>= next_is next) >>= f) ≡ (more >>= λ kept. f (next, kept))
bind_twice None next f = refl
bind_twice (Some kept) next f = refl

kept_any : (kept : WordsRead) (word : List ℕ) (words : List (List ℕ)) → kept_after kept (arguments_after None (word ∷ words)) ≡ (of_any kept word >>= go_on words)
unfolding of_any arguments_after
kept_any kept word words = by_tests (is_directory word) (bytes_eq word (codes "--")) (flag_of word) (choice_of word) (setting_of word)
  where
    by_tests : (place dashes : Bool) (flag choice : Option NumberOption) (set : Option (NumberOption × List ℕ)) →
        kept_after kept (if place then before (Place word) (arguments_after None words) else (
        if dashes then only_places words else
        named_or flag (λ f. before (Setting f (codes "1")) (arguments_after None words))
        (named_or choice (λ c. arguments_after (Some c) words) (set_before set (arguments_after None words)))))
        ≡ ((if place then (with_place kept word >>= next_is expected.Any) else (
        if dashes then next_is expected.Place kept else
        by_choice flag (λ f. with_setting kept f (codes "1") >>= next_is expected.Any)
        (by_choice choice (λ c. next_is (expected.Value c) kept) (set >>= λ s. with_setting kept s.0 s.1 >>= next_is expected.Any)))) >>= go_on words)
    by_tests true dashes flag choice set = kept_before kept (Place word) (arguments_after None words) ∙ sym (bind_twice (with_place kept word) expected.Any (go_on words))
    by_tests false true flag choice set = refl
    by_tests false false (Some f) choice set = kept_before kept (Setting f (codes "1")) (arguments_after None words) ∙ sym (bind_twice (with_setting kept f (codes "1")) expected.Any (go_on words))
    by_tests false false None (Some c) set = refl
    by_tests false false None None None = refl
    by_tests false false None None (Some s) = kept_before kept (Setting s.0 s.1) (arguments_after None words) ∙ sym (bind_twice (with_setting kept s.0 s.1) expected.Any (go_on words))

-- what words say is what the first of them says, and then the others
pub kept_word : (mode : Expected) (kept : WordsRead) (word : List ℕ) (words : List (List ℕ)) → kept_after kept (arguments_by mode (word ∷ words)) ≡ (of_word mode kept word >>= go_on words)
unfolding of_word arguments_after only_places
kept_word expected.Any kept word words = kept_any kept word words
kept_word (expected.Value choice) kept word words = kept_before kept (Setting choice word) (arguments_after None words) ∙ sym (bind_twice (with_setting kept choice word) expected.Any (go_on words))
kept_word expected.Place kept word words = by_test (is_directory word)
  where
    by_test : (test : Bool) → kept_after kept (if test then before (Place word) (only_places words) else None) ≡ ((if test then (with_place kept word >>= next_is expected.Place) else None) >>= go_on words)
    by_test true = kept_before kept (Place word) (only_places words) ∙ sym (bind_twice (with_place kept word) expected.Place (go_on words))
    by_test false = refl

places-append : (a b : List Argument) → places (a ++ b) ≡ places a ++ places b
unfolding places
places-append [] b = refl
places-append (Place word ∷ a) b = ap (λ (l : List (List ℕ)). word ∷ l) (places-append a b)
places-append (Setting choice text ∷ a) b = places-append a b

put_if : (hit : Bool) (text : List ℕ) (x y z : List (List ℕ)) → x ≡ y ++ z → (if hit then text ∷ x else x) ≡ (if hit then text ∷ y else y) ++ z
put_if true text x y z e = ap (λ (l : List (List ℕ)). text ∷ l) e
put_if false text x y z e = e

values-append : (choice : NumberOption) (a b : List Argument) → values choice (a ++ b) ≡ values choice a ++ values choice b
unfolding values
values-append choice [] b = refl
values-append choice (Place word ∷ a) b = values-append choice a b
values-append choice (Setting other text ∷ a) b =
    put_if (eqb (choice_number other) (choice_number choice)) text (values choice (a ++ b)) (values choice a) (values choice b) (values-append choice a b)

-- what the texts of an option's values say: nothing, or the number of the only one
abbrev value_read : NumberOption → List (List ℕ) → Option (Option ℕ)
value_read choice [] = Some None
value_read choice (text ∷ []) = number_from (least_of choice) (most_of choice) text >>= λ n. Some (Some n)
value_read choice (text ∷ other ∷ others) = None

-- this is kept of the arguments so far
record Says (done : List Argument) (kept : WordsRead) : Type 0 where
  places_are : places done ≡ kept.places
  set : (choice : NumberOption) → value_read choice (values choice done) ≡ Some (value kept.values choice)

some_of : {X : Type 0} (x y : X) → Some x ≡ Some y → x ≡ y
some_of x y e = cc

none_some : {X Y : Type 0} (x : X) → None ≡ Some x → Y
none_some x e = absurd (cc e)

-- an option that was read is set where its value is kept
unset_read : (choice : NumberOption) (texts : List (List ℕ)) (value : Option ℕ) → value_read choice texts ≡ Some value → is_nothing texts ≡ unset value
unset_read choice [] value e = ap unset (some_of None value e)
unset_read choice (text ∷ []) value e = of_number (number_from (least_of choice) (most_of choice) text) value e
  where
    of_number : (n : Option ℕ) (value : Option ℕ) → (n >>= λ k. Some (Some k)) ≡ Some value → false ≡ unset value
    of_number None value e = none_some value e
    of_number (Some k) value e = ap unset (some_of (Some k) value e)
unset_read choice (text ∷ other ∷ others) value e = none_some value e

-- and its number is the one that is kept, or its default
value_kept : (choice : NumberOption) (texts : List (List ℕ)) (value : Option ℕ) → value_read choice texts ≡ Some value → value_in choice texts ≡ Some (unwrap_or value (default_of choice))
value_kept choice [] value e = ap (λ v. Some (unwrap_or v (default_of choice))) (some_of None value e)
value_kept choice (text ∷ []) value e = of_number (number_from (least_of choice) (most_of choice) text) value e
  where
    of_number : (n : Option ℕ) (value : Option ℕ) → (n >>= λ k. Some (Some k)) ≡ Some value → n ≡ Some (unwrap_or value (default_of choice))
    of_number None value e = none_some value e
    of_number (Some k) value e = ap (λ v. Some (unwrap_or v (default_of choice))) (some_of (Some k) value e)
value_kept choice (text ∷ other ∷ others) value e = none_some value e

day_says : (done : List Argument) (kept : WordsRead) → Says done kept → no_day_options done ≡ no_day_set kept.values
day_says done kept h = rw (unset_read Seed (values Seed done) kept.values.seed (h.set Seed), unset_read Size (values Size done) kept.values.size (h.set Size)) refl

search_says : (done : List Argument) (kept : WordsRead) → Says done kept → no_search_options done ≡ no_search_set kept.values
search_says done kept h = rw (unset_read Workers (values Workers done) kept.values.workers (h.set Workers), unset_read Moves (values Moves done) kept.values.moves (h.set Moves), unset_read Live (values Live done) kept.values.live (h.set Live), unset_read Watch (values Watch done) kept.values.watch (h.set Watch)) refl

number_says : (choice : NumberOption) (done : List Argument) (kept : WordsRead) → Says done kept → value_of choice done ≡ Some (number_kept choice kept)
number_says choice done kept h = value_kept choice (values choice done) (value kept.values choice) (h.set choice)

plain_says : (command : Command) (done : List Argument) (kept : WordsRead) → Says done kept → plain command done ≡ plain_kept command kept
unfolding plain plain_kept
plain_says command done kept h = rw (day_says done kept h, search_says done kept h, h.places_are) refl

recovering_says : (done : List Argument) (kept : WordsRead) → Says done kept → recovering done ≡ recovering_kept kept
unfolding searching recovering_kept
recovering_says done kept h = rw (day_says done kept h, number_says Workers done kept h, number_says Moves done kept h, number_says Live done kept h, number_says Watch done kept h, h.places_are) refl

generating_says : (done : List Argument) (kept : WordsRead) → Says done kept → generating done ≡ generating_kept kept
unfolding making generating_kept
generating_says done kept h = rw (search_says done kept h, number_says Seed done kept h, number_says Size done kept h, h.places_are) refl

trying_says : (done : List Argument) (kept : WordsRead) → Says done kept → trying done ≡ trying_kept kept
unfolding sampling trying_kept
trying_says done kept h = rw (search_says done kept h, number_says Seed done kept h, number_says Size done kept h, h.places_are) refl

if_same : {X : Type 0} (test : Bool) (a b c d : X) → a ≡ b → c ≡ d → (if test then a else c) ≡ (if test then b else d)
if_same true a b c d e f = e
if_same false a b c d e f = f

crew_says : (done : List Argument) (kept : WordsRead) → Says done kept → is_unset Crew done ≡ unset kept.values.crew
crew_says done kept h = unset_read Crew (values Crew done) kept.values.crew (h.set Crew)

crewed_says : (command : Bool → Command) (done : List Argument) (kept : WordsRead) → Says done kept → crewed command done ≡ plain_kept (command (has_crew kept.values)) kept
unfolding crewed
crewed_says command done kept h = rw (number_says Crew done kept h) (plain_says (command (has_crew kept.values)) done kept h)

uncrewed_says : (word : List ℕ) (done : List Argument) (kept : WordsRead) → Says done kept → (if is_unset Crew done then uncrewed_by word done else None) ≡ uncrewed_kept word kept
unfolding uncrewed_kept
uncrewed_says word done kept h = rw (crew_says done kept h, plain_says Store done kept h, recovering_says done kept h, plain_says Ferry done kept h, generating_says done kept h, trying_says done kept h) refl

says_all : (word : List ℕ) (done : List Argument) (kept : WordsRead) → Says done kept → command_by word done ≡ asked_kept word kept
says_all word done kept h =
    if_same (bytes_eq word (codes "replay")) (crewed Replay done) (plain_kept (Replay (has_crew kept.values)) kept) _ _ (crewed_says Replay done kept h)
    (if_same (bytes_eq word (codes "check")) (crewed Check done) (plain_kept (Check (has_crew kept.values)) kept) _ _ (crewed_says Check done kept h)
    (uncrewed_says word done kept h))

-- whether an option is another one than that of the crews
abbrev IsNotCrew : NumberOption → Type 0
IsNotCrew Crew = ⊥
IsNotCrew other = Unit {0}

-- arguments that no command takes: too many directories, or an option that is set wrongly, besides that of the crews
data FailsUncrewed (list : List Argument) : Type 0 where
  many : (a b c : List ℕ) (others : List (List ℕ)) → places list ≡ a ∷ b ∷ c ∷ others → FailsUncrewed list
  wrong : (choice : NumberOption) → value_in choice (values choice list) ≡ None → IsNotCrew choice → FailsUncrewed list

-- or that one is
data Fails (list : List Argument) : Type 0 where
  uncrewed : FailsUncrewed list → Fails list
  wrong_crew : value_in Crew (values Crew list) ≡ None → Fails list

fails_by : (choice : NumberOption) (list : List Argument) → value_in choice (values choice list) ≡ None → Fails list
fails_by Seed list e = uncrewed (wrong Seed e tt)
fails_by Size list e = uncrewed (wrong Size e tt)
fails_by Workers list e = uncrewed (wrong Workers e tt)
fails_by Moves list e = uncrewed (wrong Moves e tt)
fails_by Live list e = uncrewed (wrong Live e tt)
fails_by Watch list e = uncrewed (wrong Watch e tt)
fails_by Crew list e = wrong_crew e

unset_wrong : (choice : NumberOption) (texts : List (List ℕ)) → value_in choice texts ≡ None → is_nothing texts ≡ false
unset_wrong choice [] e = none_some (default_of choice) (sym e)
unset_wrong choice (text ∷ texts) e = refl

bind_none : {X Y : Type 0} (x : Option X) (f : X → Option Y) → ((y : X) → f y ≡ None) → (x >>= f) ≡ None
bind_none None f none = refl
bind_none (Some y) f none = none y

if_none : {X : Type 0} (test : Bool) (a b : Option X) → a ≡ None → b ≡ None → (if test then a else b) ≡ None
if_none true a b e f = e
if_none false a b e f = f

and_first : (a b : Bool) → a ≡ false → (a && b) ≡ false
and_first true b e = absurd cc
and_first false b e = refl

and_false : (a b : Bool) → b ≡ false → (a && b) ≡ false
and_false true b e = e
and_false false b e = refl

-- whether an option is one of a day that is made up
abbrev IsOfDay : NumberOption → Type 0
IsOfDay Seed = Unit {0}
IsOfDay Size = Unit {0}
IsOfDay other = ⊥

day_wrong : (choice : NumberOption) (list : List Argument) → value_in choice (values choice list) ≡ None → IsOfDay choice → no_day_options list ≡ false
day_wrong Seed list e of = rw (unset_wrong Seed (values Seed list) e) refl
day_wrong Size list e of = and_false (is_unset Seed list) (is_unset Size list) (unset_wrong Size (values Size list) e)
day_wrong Workers list e of = absurd of
day_wrong Moves list e of = absurd of
day_wrong Live list e of = absurd of
day_wrong Watch list e of = absurd of
day_wrong Crew list e of = absurd of

search_wrong : (choice : NumberOption) (list : List Argument) → value_in choice (values choice list) ≡ None → IsNotCrew choice → (IsOfDay choice → ⊥) → no_search_options list ≡ false
search_wrong Seed list e own of = absurd (of tt)
search_wrong Size list e own of = absurd (of tt)
search_wrong Workers list e own of = rw (unset_wrong Workers (values Workers list) e) refl
search_wrong Moves list e own of = and_first (is_unset Workers list && is_unset Moves list && is_unset Live list) (is_unset Watch list) (and_first (is_unset Workers list && is_unset Moves list) (is_unset Live list) (and_false (is_unset Workers list) (is_unset Moves list) (unset_wrong Moves (values Moves list) e)))
search_wrong Live list e own of = and_first (is_unset Workers list && is_unset Moves list && is_unset Live list) (is_unset Watch list) (and_false (is_unset Workers list && is_unset Moves list) (is_unset Live list) (unset_wrong Live (values Live list) e))
search_wrong Watch list e own of = and_false (is_unset Workers list && is_unset Moves list && is_unset Live list) (is_unset Watch list) (unset_wrong Watch (values Watch list) e)
search_wrong Crew list e own of = absurd own

unless : {X : Type 0} (test : Bool) (a : Option X) → test ≡ false → (if test then a else None) ≡ None
unless test a e = rw e refl

two_wrong : (list : List Argument) (a b c : List ℕ) (others : List (List ℕ)) → places list ≡ a ∷ b ∷ c ∷ others → input_and_output (places list) ≡ None
two_wrong list a b c others e = ap input_and_output e

plain_fails : (command : Command) (list : List Argument) → FailsUncrewed list → plain command list ≡ None
unfolding plain
plain_fails command list (many a b c others e) = if_none (no_day_options list && no_search_options list) _ None (rw (two_wrong list a b c others e) refl) refl
plain_fails command list (wrong Seed e own) = unless (no_day_options list && no_search_options list) _ (rw (day_wrong Seed list e tt) refl)
plain_fails command list (wrong Size e own) = unless (no_day_options list && no_search_options list) _ (rw (day_wrong Size list e tt) refl)
plain_fails command list (wrong Workers e own) = unless (no_day_options list && no_search_options list) _ (and_false (no_day_options list) (no_search_options list) (search_wrong Workers list e own (λ n. n)))
plain_fails command list (wrong Moves e own) = unless (no_day_options list && no_search_options list) _ (and_false (no_day_options list) (no_search_options list) (search_wrong Moves list e own (λ n. n)))
plain_fails command list (wrong Live e own) = unless (no_day_options list && no_search_options list) _ (and_false (no_day_options list) (no_search_options list) (search_wrong Live list e own (λ n. n)))
plain_fails command list (wrong Watch e own) = unless (no_day_options list && no_search_options list) _ (and_false (no_day_options list) (no_search_options list) (search_wrong Watch list e own (λ n. n)))
plain_fails command list (wrong Crew e own) = absurd own

recovering_fails : (list : List Argument) → FailsUncrewed list → recovering list ≡ None
unfolding searching
recovering_fails list (many a b c others e) = if_none (no_day_options list) _ None (bind_none (value_of Workers list) _ (λ x. bind_none (value_of Moves list) _ (λ y. bind_none (value_of Live list) _ (λ z. bind_none (value_of Watch list) _ (λ w. bind_none (search x y z w) _ (λ command. rw e refl)))))) refl
recovering_fails list (wrong Seed e own) = unless (no_day_options list) _ (day_wrong Seed list e tt)
recovering_fails list (wrong Size e own) = unless (no_day_options list) _ (day_wrong Size list e tt)
recovering_fails list (wrong Workers e own) = if_none (no_day_options list) _ None (rw e refl) refl
recovering_fails list (wrong Moves e own) = if_none (no_day_options list) _ None (bind_none (value_of Workers list) _ (λ x. rw e refl)) refl
recovering_fails list (wrong Live e own) = if_none (no_day_options list) _ None (bind_none (value_of Workers list) _ (λ x. bind_none (value_of Moves list) _ (λ y. rw e refl))) refl
recovering_fails list (wrong Watch e own) = if_none (no_day_options list) _ None (bind_none (value_of Workers list) _ (λ x. bind_none (value_of Moves list) _ (λ y. bind_none (value_of Live list) _ (λ z. rw e refl)))) refl
recovering_fails list (wrong Crew e own) = absurd own

generating_fails : (list : List Argument) → FailsUncrewed list → generating list ≡ None
unfolding making
generating_fails list (many a b c others e) = if_none (no_search_options list) _ None (bind_none (value_of Seed list) _ (λ x. bind_none (value_of Size list) _ (λ y. rw e refl))) refl
generating_fails list (wrong Seed e own) = if_none (no_search_options list) _ None (rw e refl) refl
generating_fails list (wrong Size e own) = if_none (no_search_options list) _ None (bind_none (value_of Seed list) _ (λ x. rw e refl)) refl
generating_fails list (wrong Workers e own) = unless (no_search_options list) _ (search_wrong Workers list e own (λ n. n))
generating_fails list (wrong Moves e own) = unless (no_search_options list) _ (search_wrong Moves list e own (λ n. n))
generating_fails list (wrong Live e own) = unless (no_search_options list) _ (search_wrong Live list e own (λ n. n))
generating_fails list (wrong Watch e own) = unless (no_search_options list) _ (search_wrong Watch list e own (λ n. n))
generating_fails list (wrong Crew e own) = absurd own

trying_fails : (list : List Argument) → FailsUncrewed list → trying list ≡ None
unfolding sampling
trying_fails list (many a b c others e) = if_none (no_search_options list) _ None (bind_none (value_of Seed list) _ (λ x. bind_none (value_of Size list) _ (λ y. rw e refl))) refl
trying_fails list (wrong Seed e own) = if_none (no_search_options list) _ None (rw e refl) refl
trying_fails list (wrong Size e own) = if_none (no_search_options list) _ None (bind_none (value_of Seed list) _ (λ x. rw e refl)) refl
trying_fails list (wrong Workers e own) = unless (no_search_options list) _ (search_wrong Workers list e own (λ n. n))
trying_fails list (wrong Moves e own) = unless (no_search_options list) _ (search_wrong Moves list e own (λ n. n))
trying_fails list (wrong Live e own) = unless (no_search_options list) _ (search_wrong Live list e own (λ n. n))
trying_fails list (wrong Watch e own) = unless (no_search_options list) _ (search_wrong Watch list e own (λ n. n))
trying_fails list (wrong Crew e own) = absurd own

uncrewed_fails : (word : List ℕ) (list : List Argument) → FailsUncrewed list → uncrewed_by word list ≡ None
uncrewed_fails word list h =
    if_none (bytes_eq word (codes "store")) (plain Store list) _ (plain_fails Store list h)
    (if_none (bytes_eq word (codes "recover")) (recovering list) _ (recovering_fails list h)
    (if_none (bytes_eq word (codes "ferry")) (plain Ferry list) _ (plain_fails Ferry list h)
    (if_none (bytes_eq word (codes "gen")) (generating list) _ (generating_fails list h)
    (if_none (bytes_eq word (codes "trial")) (trying list) None (trying_fails list h) refl))))

crewed_fails : (command : Bool → Command) (list : List Argument) → Fails list → crewed command list ≡ None
unfolding crewed
crewed_fails command list (uncrewed h) = bind_none (value_of Crew list) _ (λ crew. plain_fails (command (nat_lt 0 crew)) list h)
crewed_fails command list (wrong_crew e) = rw e refl

others_fail : (word : List ℕ) (list : List Argument) → Fails list → (if is_unset Crew list then uncrewed_by word list else None) ≡ None
others_fail word list (uncrewed h) = if_none (is_unset Crew list) (uncrewed_by word list) None (uncrewed_fails word list h) refl
others_fail word list (wrong_crew e) = unless (is_unset Crew list) (uncrewed_by word list) (unset_wrong Crew (values Crew list) e)

fails_all : (word : List ℕ) (list : List Argument) → Fails list → command_by word list ≡ None
fails_all word list h =
    if_none (bytes_eq word (codes "replay")) (crewed Replay list) _ (crewed_fails Replay list h)
    (if_none (bytes_eq word (codes "check")) (crewed Check list) _ (crewed_fails Check list h)
    (others_fail word list h))

-- an argument more is kept, or it fails whatever follows it
data Step (done : List Argument) (kept : WordsRead) (argument : Argument) : Type 0 where
  goes : (more : WordsRead) → with_argument kept argument ≡ Some more → Says (done ++ argument ∷ []) more → Step done kept argument
  stops : with_argument kept argument ≡ None → ((list : List Argument) → Fails (done ++ argument ∷ list)) → Step done kept argument

-- a directory changes no option
no_value : (choice : NumberOption) (done : List Argument) (word : List ℕ) (value : Option ℕ) → value_read choice (values choice done) ≡ Some value → value_read choice (values choice (done ++ Place word ∷ [])) ≡ Some value
unfolding values
no_value choice done word value e =
    ap (value_read choice) (values-append choice done (Place word ∷ []) ∙ append-nil (values choice done)) ∙ e

place_goes : (done : List Argument) (kept : WordsRead) (word : List ℕ) (more : List (List ℕ)) → Says done kept → one_more kept.places word ≡ Some more → kept.places ++ word ∷ [] ≡ more → Step done kept (Place word)
unfolding with_place places
place_goes done kept word more h e is = goes (record { places = more; values = kept.values })
    (rw e refl)
    (record {
      places_are = places-append done (Place word ∷ []) ∙ ap (λ p. p ++ word ∷ []) h.places_are ∙ is;
      set = λ choice. no_value choice done word (value kept.values choice) (h.set choice);
    })

places_after : (done : List Argument) (kept : WordsRead) (word : List ℕ) (given : List (List ℕ)) (list : List Argument) → Says done kept → kept.places ≡ given → places (done ++ Place word ∷ list) ≡ given ++ word ∷ places list
unfolding places
places_after done kept word given list h e = places-append done (Place word ∷ list) ∙ ap (λ p. p ++ word ∷ places list) (h.places_are ∙ e)

place_step : (done : List Argument) (kept : WordsRead) (word : List ℕ) (given : List (List ℕ)) → kept.places ≡ given → Says done kept → Step done kept (Place word)
unfolding with_place
place_step done kept word [] e h = place_goes done kept word (word ∷ []) h (ap (λ p. one_more p word) e) (ap (λ p. p ++ word ∷ []) e)
place_step done kept word (first ∷ []) e h = place_goes done kept word (first ∷ word ∷ []) h (ap (λ p. one_more p word) e) (ap (λ p. p ++ word ∷ []) e)
place_step done kept word (first ∷ second ∷ []) e h = stops (rw e refl)
    (λ list. uncrewed (many first second word (places list) (places_after done kept word (first ∷ second ∷ []) list h e)))
place_step done kept word (first ∷ second ∷ third ∷ others) e h = stops (rw e refl)
    (λ list. uncrewed (many first second third (others ++ word ∷ places list) (places_after done kept word (first ∷ second ∷ third ∷ others) list h e)))

twice : (choice : NumberOption) (texts : List (List ℕ)) (value : ℕ) (text : List ℕ) (others : List (List ℕ)) → value_read choice texts ≡ Some (Some value) → value_in choice (texts ++ text ∷ others) ≡ None
twice choice [] value text others e = absurd (none_value value (some_of None (Some value) e))
  where
    none_value : (value : ℕ) → None ≡ Some value → ⊥
    none_value value e = cc
twice choice (first ∷ []) value text others e = refl
twice choice (first ∷ second ∷ more) value text others e = refl

not_yet : (choice : NumberOption) (texts : List (List ℕ)) → value_read choice texts ≡ Some None → texts ≡ []
not_yet choice [] e = refl
not_yet choice (text ∷ []) e = of_number (number_from (least_of choice) (most_of choice) text) e
  where
    of_number : (n : Option ℕ) → (n >>= λ k. Some (Some k)) ≡ Some None → text ∷ [] ≡ []
    of_number None e = none_some None e
    of_number (Some k) e = none_some k (sym (some_of (Some k) None e))
not_yet choice (text ∷ other ∷ others) e = none_some None e

no_number : (choice : NumberOption) (text : List ℕ) (others : List (List ℕ)) → number_from (least_of choice) (most_of choice) text ≡ None → value_in choice (text ∷ others) ≡ None
no_number choice text [] e = e
no_number choice text (other ∷ others) e = refl

-- the texts of an option after its setting, and of another one
own_values : (choice : NumberOption) (done : List Argument) (text : List ℕ) (list : List Argument) → values choice (done ++ Setting choice text ∷ list) ≡ values choice done ++ text ∷ values choice list
unfolding values
own_values Seed done text list = values-append Seed done (Setting Seed text ∷ list)
own_values Size done text list = values-append Size done (Setting Size text ∷ list)
own_values Workers done text list = values-append Workers done (Setting Workers text ∷ list)
own_values Live done text list = values-append Live done (Setting Live text ∷ list)
own_values Watch done text list = values-append Watch done (Setting Watch text ∷ list)
own_values Crew done text list = values-append Crew done (Setting Crew text ∷ list)
own_values Moves done text list = values-append Moves done (Setting Moves text ∷ list)

other_values : (choice other : NumberOption) (done : List Argument) (text : List ℕ) → values choice (Setting other text ∷ []) ≡ [] → values choice (done ++ Setting other text ∷ []) ≡ values choice done
other_values choice other done text none = values-append choice done (Setting other text ∷ []) ∙ ap (λ (t : List (List ℕ)). values choice done ++ t) none ∙ append-nil (values choice done)

reported_set : (choice : NumberOption) (done : List Argument) (text : List ℕ) → places (done ++ Setting choice text ∷ []) ≡ places done
unfolding places
reported_set choice done text = places-append done (Setting choice text ∷ []) ∙ append-nil (places done)

-- an option that was set fails where it is set again
again : (choice : NumberOption) (done : List Argument) (text : List ℕ) (value : ℕ) → value_read choice (values choice done) ≡ Some (Some value) → (list : List Argument) → Fails (done ++ Setting choice text ∷ list)
again choice done text value e list =
    fails_by choice (done ++ Setting choice text ∷ list) (ap (value_in choice) (own_values choice done text list) ∙ twice choice (values choice done) value text (values choice list) e)

-- and one that was not, where its text is no number in its range
unread : (choice : NumberOption) (done : List Argument) (text : List ℕ) → value_read choice (values choice done) ≡ Some None → number_from (least_of choice) (most_of choice) text ≡ None → (list : List Argument) → Fails (done ++ Setting choice text ∷ list)
unread choice done text e none list =
    fails_by choice (done ++ Setting choice text ∷ list) (ap (value_in choice) (own_values choice done text list ∙ ap (λ t. t ++ text ∷ values choice list) (not_yet choice (values choice done) e)) ∙ no_number choice text (values choice list) none)

-- else it has that number
read_first : (choice : NumberOption) (done : List Argument) (text : List ℕ) (n : ℕ) → value_read choice (values choice done) ≡ Some None → number_from (least_of choice) (most_of choice) text ≡ Some n → value_read choice (values choice (done ++ Setting choice text ∷ [])) ≡ Some (Some n)
unfolding values
read_first choice done text n e some =
    ap (value_read choice) (own_values choice done text [] ∙ ap (λ t. t ++ text ∷ []) (not_yet choice (values choice done) e)) ∙ ap (λ m. m >>= λ k. Some (Some k)) some

-- what is kept after a setting: of that option its number, of the others what was kept
set_more : (choice other : NumberOption) (done : List Argument) (kept : WordsRead) (text : List ℕ) (n : ℕ) → Says done kept → value_read other (values other (done ++ Setting other text ∷ [])) ≡ Some (Some n) → value_read choice (values choice (done ++ Setting other text ∷ [])) ≡ Some (value (with_value kept.values other n) choice)
unfolding values
set_more Seed Seed done kept text n h is = is
set_more Size Size done kept text n h is = is
set_more Workers Workers done kept text n h is = is
set_more Moves Moves done kept text n h is = is
set_more Live Live done kept text n h is = is
set_more Watch Watch done kept text n h is = is
set_more Crew Crew done kept text n h is = is
set_more Seed Size done kept text n h is = ap (value_read Seed) (other_values Seed Size done text refl) ∙ h.set Seed
set_more Seed Workers done kept text n h is = ap (value_read Seed) (other_values Seed Workers done text refl) ∙ h.set Seed
set_more Seed Moves done kept text n h is = ap (value_read Seed) (other_values Seed Moves done text refl) ∙ h.set Seed
set_more Size Seed done kept text n h is = ap (value_read Size) (other_values Size Seed done text refl) ∙ h.set Size
set_more Size Workers done kept text n h is = ap (value_read Size) (other_values Size Workers done text refl) ∙ h.set Size
set_more Size Moves done kept text n h is = ap (value_read Size) (other_values Size Moves done text refl) ∙ h.set Size
set_more Workers Seed done kept text n h is = ap (value_read Workers) (other_values Workers Seed done text refl) ∙ h.set Workers
set_more Workers Size done kept text n h is = ap (value_read Workers) (other_values Workers Size done text refl) ∙ h.set Workers
set_more Workers Moves done kept text n h is = ap (value_read Workers) (other_values Workers Moves done text refl) ∙ h.set Workers
set_more Moves Seed done kept text n h is = ap (value_read Moves) (other_values Moves Seed done text refl) ∙ h.set Moves
set_more Moves Size done kept text n h is = ap (value_read Moves) (other_values Moves Size done text refl) ∙ h.set Moves
set_more Moves Workers done kept text n h is = ap (value_read Moves) (other_values Moves Workers done text refl) ∙ h.set Moves
set_more Seed Live done kept text n h is = ap (value_read Seed) (other_values Seed Live done text refl) ∙ h.set Seed
set_more Size Live done kept text n h is = ap (value_read Size) (other_values Size Live done text refl) ∙ h.set Size
set_more Workers Live done kept text n h is = ap (value_read Workers) (other_values Workers Live done text refl) ∙ h.set Workers
set_more Moves Live done kept text n h is = ap (value_read Moves) (other_values Moves Live done text refl) ∙ h.set Moves
set_more Live Seed done kept text n h is = ap (value_read Live) (other_values Live Seed done text refl) ∙ h.set Live
set_more Live Size done kept text n h is = ap (value_read Live) (other_values Live Size done text refl) ∙ h.set Live
set_more Live Workers done kept text n h is = ap (value_read Live) (other_values Live Workers done text refl) ∙ h.set Live
set_more Live Moves done kept text n h is = ap (value_read Live) (other_values Live Moves done text refl) ∙ h.set Live
set_more Seed Watch done kept text n h is = ap (value_read Seed) (other_values Seed Watch done text refl) ∙ h.set Seed
set_more Size Watch done kept text n h is = ap (value_read Size) (other_values Size Watch done text refl) ∙ h.set Size
set_more Workers Watch done kept text n h is = ap (value_read Workers) (other_values Workers Watch done text refl) ∙ h.set Workers
set_more Moves Watch done kept text n h is = ap (value_read Moves) (other_values Moves Watch done text refl) ∙ h.set Moves
set_more Live Watch done kept text n h is = ap (value_read Live) (other_values Live Watch done text refl) ∙ h.set Live
set_more Watch Seed done kept text n h is = ap (value_read Watch) (other_values Watch Seed done text refl) ∙ h.set Watch
set_more Watch Size done kept text n h is = ap (value_read Watch) (other_values Watch Size done text refl) ∙ h.set Watch
set_more Watch Workers done kept text n h is = ap (value_read Watch) (other_values Watch Workers done text refl) ∙ h.set Watch
set_more Watch Moves done kept text n h is = ap (value_read Watch) (other_values Watch Moves done text refl) ∙ h.set Watch
set_more Watch Live done kept text n h is = ap (value_read Watch) (other_values Watch Live done text refl) ∙ h.set Watch
set_more Seed Crew done kept text n h is = ap (value_read Seed) (other_values Seed Crew done text refl) ∙ h.set Seed
set_more Crew Seed done kept text n h is = ap (value_read Crew) (other_values Crew Seed done text refl) ∙ h.set Crew
set_more Size Crew done kept text n h is = ap (value_read Size) (other_values Size Crew done text refl) ∙ h.set Size
set_more Crew Size done kept text n h is = ap (value_read Crew) (other_values Crew Size done text refl) ∙ h.set Crew
set_more Workers Crew done kept text n h is = ap (value_read Workers) (other_values Workers Crew done text refl) ∙ h.set Workers
set_more Crew Workers done kept text n h is = ap (value_read Crew) (other_values Crew Workers done text refl) ∙ h.set Crew
set_more Moves Crew done kept text n h is = ap (value_read Moves) (other_values Moves Crew done text refl) ∙ h.set Moves
set_more Crew Moves done kept text n h is = ap (value_read Crew) (other_values Crew Moves done text refl) ∙ h.set Crew
set_more Live Crew done kept text n h is = ap (value_read Live) (other_values Live Crew done text refl) ∙ h.set Live
set_more Crew Live done kept text n h is = ap (value_read Crew) (other_values Crew Live done text refl) ∙ h.set Crew
set_more Watch Crew done kept text n h is = ap (value_read Watch) (other_values Watch Crew done text refl) ∙ h.set Watch
set_more Crew Watch done kept text n h is = ap (value_read Crew) (other_values Crew Watch done text refl) ∙ h.set Crew

set_step : (choice : NumberOption) (done : List Argument) (kept : WordsRead) (text : List ℕ) (was number : Option ℕ) → value kept.values choice ≡ was → number_from (least_of choice) (most_of choice) text ≡ number → Says done kept → Step done kept (Setting choice text)
unfolding with_setting
set_step choice done kept text (Some value) number e is h = stops (rw e refl) (again choice done text value (h.set choice ∙ ap Some e))
set_step choice done kept text None None e is h = stops (rw (e, is) refl) (unread choice done text (h.set choice ∙ ap Some e) is)
set_step choice done kept text None (Some n) e is h = goes (record { places = kept.places; values = with_value kept.values choice n }) (rw (e, is) refl) (record {
  places_are = reported_set choice done text ∙ h.places_are;
  set = λ other. set_more other choice done kept text n h (read_first choice done text n (h.set choice ∙ ap Some e) is);
})

step_of : (done : List Argument) (kept : WordsRead) (argument : Argument) → Says done kept → Step done kept argument
step_of done kept (Place word) h = place_step done kept word kept.places refl h
step_of done kept (Setting choice text) h = set_step choice done kept text (value kept.values choice) (number_from (least_of choice) (most_of choice) text) refl refl h

kept_all : (word : List ℕ) (done list : List Argument) (kept : WordsRead) → Says done kept → command_by word (done ++ list) ≡ (with_all kept list >>= asked_kept word)
unfolding with_all
kept_all word done [] kept h = ap (command_by word) (append-nil done) ∙ says_all word done kept h
kept_all word done (argument ∷ list) kept h = elim (step_of done kept argument h) [
  | goes more is says ↦ ap (command_by word) (sym (append_assoc done (argument ∷ []) list)) ∙ kept_all word (done ++ argument ∷ []) list more says
      ∙ ap (λ next. (next >>= λ k. with_all k list) >>= asked_kept word) (sym is)
  | stops is fails ↦ fails_all word (done ++ argument ∷ list) (fails list) ∙ ap (λ next. (next >>= λ k. with_all k list) >>= asked_kept word) (sym is)
]

none_set : (choice : NumberOption) → Some None ≡ Some (value nothing.values choice)
none_set Seed = refl
none_set Size = refl
none_set Workers = refl
none_set Moves = refl
none_set Live = refl
none_set Watch = refl
none_set Crew = refl

says_nothing : Says [] nothing
unfolding places values
says_nothing = record { places_are = refl; set = none_set }

-- what a command's word makes of arguments is what it makes of what is kept of them
pub asked_of_kept : (word : List ℕ) (list : Option (List Argument)) → (list >>= command_by word) ≡ (kept_after nothing list >>= asked_kept word)
asked_of_kept word None = refl
asked_of_kept word (Some list) = kept_all word [] list nothing says_nothing

-- reading stops at a word, or goes on after it
pub read_stops : (mode : Expected) (kept : WordsRead) (word : List ℕ) (words all : List (List ℕ)) → all ≡ word ∷ words → None ≡ of_word mode kept word → None ≡ kept_after kept (arguments_by mode all)
read_stops mode kept word words all e none =
    ap (λ next. next >>= go_on words) none ∙ sym (kept_word mode kept word words) ∙ ap (λ l. kept_after kept (arguments_by mode l)) (sym e)

pub read_goes : (mode : Expected) (kept : WordsRead) (word : List ℕ) (words all : List (List ℕ)) (next : Expected × WordsRead) (answer : Option WordsRead) → all ≡ word ∷ words → Some next ≡ of_word mode kept word → answer ≡ kept_after next.1 (arguments_by next.0 words) → answer ≡ kept_after kept (arguments_by mode all)
read_goes mode kept word words all next answer e some rest =
    rest ∙ ap (λ n. n >>= go_on words) some ∙ sym (kept_word mode kept word words) ∙ ap (λ l. kept_after kept (arguments_by mode l)) (sym e)

-- the command of words, by what is kept of those after the first
command_is : (word : List ℕ) (words all : List (List ℕ)) → all ≡ word ∷ words → (kept_after nothing (arguments words) >>= asked_kept word) ≡ command all
unfolding command
command_is word words all e = sym (asked_of_kept word (arguments words)) ∙ ap command (sym e)

pub no_command : (all : List (List ℕ)) → all ≡ [] → None ≡ command all
unfolding command
no_command all e = ap command (sym e)

pub command_stops : (first : WordsRead) (word : List ℕ) (words all : List (List ℕ)) → all ≡ word ∷ words → first ≡ nothing → None ≡ kept_after first (arguments words) → None ≡ command all
command_stops first word words all e start none =
    ap (λ (kept : Option WordsRead). kept >>= asked_kept word) (none ∙ ap (λ k. kept_after k (arguments words)) start) ∙ command_is word words all e

pub command_goes : (first : WordsRead) (word : List ℕ) (words all : List (List ℕ)) (kept : WordsRead) (answer : Option Asking) → all ≡ word ∷ words → first ≡ nothing → Some kept ≡ kept_after first (arguments words) → answer ≡ asked_kept word kept → answer ≡ command all
command_goes first word words all kept answer e start some is =
    is ∙ ap (λ (k : Option WordsRead). k >>= asked_kept word) (some ∙ ap (λ k. kept_after k (arguments words)) start) ∙ command_is word words all e
