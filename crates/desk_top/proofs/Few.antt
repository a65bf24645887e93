-- How many batches the day of an accepted input has.
use Rattle.std.proofs.Common.{◌≡◌, ℕ, ◌+◌, ◌≤◌, ◌&&◌, Bool, true, false, List, [], ◌∷◌, length, refl, subst, arith}
use Rattle.std.specs.Prelude.{Option, Some, None, Ok, if◌then◌else◌, not, nat_le, option_map, unwrap_or}
use Rattle.std.specs.List.{last_or}
use Rattle.std.specs.Option.{option_map_or, option_or}
use Rattle.std.proofs.lemmas.Bool.{and_parts, leb-true}
use Rattle.std.proofs.lemmas.List.FromFn.{length-map-range_with_len}
use Rattle.desk_units.specs.declared.numbers.Minute.{Minute}
use Rattle.desk_folder.specs.declared.files.File.{File}
use Rattle.desk_folder.specs.declared.files.File.TheVariants as file
use Rattle.file_rows.specs.declared.cause.Cause.{Cause}
use Rattle.file_rows.specs.declared.disruptions.AltRow.{AltRow}
use Rattle.build_tables.specs.declared.files.Files.{Files}
use Rattle.build_tables.specs.Batches.{last_batch}
use Rattle.build_refusals.specs.First.{first_refusal_in, refusal_from}
use Rattle.build_refusals.specs.Feed.{fed_cause, feed_cause, is_in_turn}
use Rattle.build_refusals.specs.Itineraries.{itinerary_cause}
use Rattle.build_refusals.specs.Orders.{line_of}
use Rattle.build_refusals.specs.Position.{position_cause}
use Rattle.build_refusals.specs.Refusals.{Refusal, in_file, refusal_of, refusal_of_alternatives, refusal_of_demand, refusal_of_schedule, room_for_feed}
use Rattle.build_refusals.specs.Tariff.{tariff_refusal}
use Rattle.desk_build.specs.Batches.{batch_in, batches_of}
use Rattle.desk_build.specs.declared.joining.Built.{Built}
use Rattle.desk_build.specs.Join.{built_of, made_of, unless_refused}
use Rattle.desk_words.specs.declared.asked.Command.TheVariants as command_is
use Rattle.file_joins.specs.Join.{events_of}
use Rattle.desk_tasks.specs.Inputs.{Inputs}
use Rattle.desk_tasks.specs.Keep.{KeptStory}
use Rattle.desk_tasks.specs.Story.{Rows, rows_of, kept_of_rows, kept_of, or_refused, not_joined, in_file as in_file_of}
use Rattle.desk_text.specs.Rows.{◌>>=◌}
use Rattle.desk_top.proofs.Kept.{story_with}
use Rattle.desk_top.proofs.Parts.{bound, same_Ok, or_refused-Ok}

-- ---- nothing is refused

last_of : {A : Type 0} (a b : Option A) → option_or a b ≡ None → b ≡ None
last_of None b e = e
last_of (Some x) b e = absurd cc

not_in : (f : File) (refused : Option (ℕ × Cause)) → in_file f refused ≡ None → refused ≡ None
not_in f None e = refl
not_in f (Some r) e = absurd cc

-- nothing of the feed, which comes last
feed_passes : (x : Files) → refusal_of x ≡ None → first_refusal_in (feed_cause x (room_for_feed x) x.feed) (λ fed. line_of fed.1) x.feed ≡ None
unfolding refusal_of refusal_of_demand
feed_passes x e =
    let demand = last_of (refusal_of_schedule x) (refusal_of_demand x) e in
    let position = last_of (in_file file.Itineraries (first_refusal_in (itinerary_cause x) (λ row. row.line) x.itineraries)) _ demand in
    let alternatives = last_of (in_file file.Position (first_refusal_in (position_cause x) (λ row. row.line) x.position)) _ position in
    let tariff = last_of (refusal_of_alternatives x) _ alternatives in
    let feed = last_of (in_file file.Tariff (tariff_refusal x.tariff.rows)) _ tariff in
    not_in file.Feed (first_refusal_in (feed_cause x (room_for_feed x) x.feed) (λ fed. line_of fed.1) x.feed) feed

-- ---- the rows of the feed

-- a batch is within the limit
where_good : (b : Bool) (why : Cause) (rest : Option Cause) → (if not b then Some why else rest) ≡ None → b ≡ true
where_good true why rest e = refl
where_good false why rest e = absurd cc

few_fed : (x : Files) (before : Option ℕ) (earlier : Minute) (full : Bool) (fed : ℕ × AltRow) → fed_cause x before earlier full fed ≡ None → fed.0 ≤ 1000
unfolding fed_cause
few_fed x before earlier full fed e =
    let good = where_good (is_in_turn before fed.0 && nat_le fed.0 1000) _ _ e in
    leb-true fed.0 1000 (and_parts (is_in_turn before fed.0) (nat_le fed.0 1000) good).1

not_refused : (line : ℕ) (o : Option Cause) (rest : Option (ℕ × Cause)) → option_map_or (λ why. Some (line, why)) o rest ≡ None → (o ≡ None) × (rest ≡ None)
not_refused line None rest e = (refl, e)
not_refused line (Some why) rest e = absurd cc

-- the number of the last row, and that of any row before it where there is none
abbrev number_or : Option (ℕ × AltRow) → List (ℕ × AltRow) → ℕ
number_or last rows = unwrap_or (option_map (λ (fed : ℕ × AltRow). fed.0) (last_or last rows)) 0

few_last : (cause : ℕ → ℕ × AltRow → Option Cause) (line : ℕ → ℕ × AltRow → ℕ) → ((n : ℕ) (fed : ℕ × AltRow) → cause n fed ≡ None → fed.0 ≤ 1000)
    → (n : ℕ) (last : Option (ℕ × AltRow)) (rows : List (ℕ × AltRow)) → number_or last [] ≤ 1000 → refusal_from cause line n rows ≡ None → number_or last rows ≤ 1000
unfolding refusal_from
few_last cause line few n last [] first e = first
few_last cause line few n last (fed ∷ rows) first e =
    let parts = not_refused (line n fed) (cause n fed) (refusal_from cause line (n + 1) rows) e in
    few_last cause line few (n + 1) (Some fed) rows (few n fed parts.0) parts.1

few_batches : (x : Files) → refusal_of x ≡ None → last_batch x.feed ≤ 1000
few_batches x e =
    few_last (feed_cause x (room_for_feed x) x.feed) (λ n fed. line_of fed.1) (λ n fed none. few_fed x _ _ _ fed none) 0 None x.feed (omega arith) (feed_passes x e)

-- ---- the day that is built

made : (refusal : Option Refusal) (x : Files) (built : Built) → unless_refused refusal (made_of x) ≡ Ok built → (refusal ≡ None) × (made_of x ≡ built)
made None x built h = (refl, same_Ok (made_of x) built h)
made (Some r) x built h = absurd cc

few_made : (x : Files) → last_batch x.feed ≤ 1000 → length (batches_of x) ≤ 1001
unfolding batches_of
few_made x few = omega (arith, few, length-map-range_with_len (batch_in x x.feed) 1 (last_batch x.feed))

few_built : (x : Files) (built : Built) → built_of x ≡ Ok built → length built.batches ≤ 1001
unfolding built_of
few_built x built h =
    let from = made (refusal_of x) x built h in
    subst (λ (b : Built). length b.batches ≤ 1001) from.1 (few_made x (few_batches x from.0))

-- ---- the story of an input

few_rows : (rows : Rows) (k : KeptStory) → kept_of_rows rows ≡ Ok k → length k.batches ≤ 1001
unfolding kept_of_rows
few_rows rows k h =
    let built = bound (or_refused not_joined (built_of rows.files)) (λ built. or_refused (in_file_of file.Journal) (events_of built rows.journal) >>= λ events. Ok (story_with built events)) k h in
    let events = bound (or_refused (in_file_of file.Journal) (events_of built.0 rows.journal)) (λ events. Ok (story_with built.0 events)) k built.2 in
    let few = few_built rows.files built.0 (or_refused-Ok not_joined (built_of rows.files) built.0 built.1) in
    subst (λ (own : KeptStory). length own.batches ≤ 1001) (same_Ok (story_with built.0 events.0) k events.2) few

pub kept_few : (x : Inputs) (k : KeptStory) → kept_of x ≡ Ok k → length k.batches ≤ 1001
unfolding kept_of
kept_few x k h = (let rows = bound (rows_of command_is.Store x) kept_of_rows k h in few_rows rows.0 k rows.2)
