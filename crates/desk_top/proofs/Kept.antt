-- What an input gives can be stored.
use Rattle.std.proofs.Common.{◌≡◌, ℕ, List, [], sym, subst, arith}
use Rattle.std.specs.Prelude.{Ok}
use Rattle.desk_folder.specs.declared.files.File.TheVariants as file
use Rattle.desk_text.specs.Rows.{◌>>=◌}
use Rattle.desk_model.specs.declared.answer.Event.{Event}
use Rattle.desk_model.specs.States.{opening}
use Rattle.desk_build.specs.declared.joining.Built.{Built}
use Rattle.desk_build.specs.Join.{built_of}
use Rattle.file_joins.specs.Join.{events_of}
use Rattle.desk_journal.specs.Payloads.{AreNext}
use Rattle.desk_journal.proofs.EnteredLaws.{run_enters_all}
use Rattle.desk_words.specs.declared.asked.Command.TheVariants as command_is
use Rattle.desk_tasks.specs.Inputs.{Inputs}
use Rattle.desk_tasks.specs.Play.{history}
use Rattle.desk_tasks.specs.Keep.{KeptStory}
use Rattle.story_commands.specs.Own.{CanBeStored}
use Rattle.desk_tasks.specs.Story.{Rows, rows_of, kept_of_rows, kept_of, or_refused, not_joined, in_file}
use Rattle.desk_top.specs.Due.{AreDue}
use Rattle.desk_top.proofs.Parts.{bound, same_Ok, or_refused-Ok}
use Rattle.desk_top.proofs.Read.{AreNumbered, stored_numbered}
use Rattle.desk_top.proofs.Next.{rows_due, due_next}

-- the events of rows, each due after those before it
events_due : (built : Built) (rows : Rows) (events : List (ℕ × Event)) → AreNumbered rows → events_of built rows.journal ≡ Ok events → AreDue built.inst built.batches 0 events
unfolding events_of
events_due built rows events numbered h = rows_due built.inst built.batches [] rows.journal events numbered h

abbrev pub story_with : Built → List (ℕ × Event) → KeptStory
story_with built events = record { story = record { day = built.inst; events = events }; batches = built.batches }

-- the story of rows
abbrev StoryIsDue : KeptStory → Type 0
StoryIsDue k = AreDue k.story.day k.batches 0 k.story.events

rows_story : (rows : Rows) (k : KeptStory) → AreNumbered rows → kept_of_rows rows ≡ Ok k → StoryIsDue k
unfolding kept_of_rows
rows_story rows k numbered h =
    let built = bound (or_refused not_joined (built_of rows.files)) (λ built. or_refused (in_file file.Journal) (events_of built rows.journal) >>= λ events. Ok (story_with built events)) k h in
    let given = or_refused (in_file file.Journal) (events_of built.0 rows.journal) in
    let events = bound given (λ events. Ok (story_with built.0 events)) k built.2 in
    let joined = or_refused-Ok (in_file file.Journal) (events_of built.0 rows.journal) events.0 events.1 in
    let own : StoryIsDue (story_with built.0 events.0) = events_due built.0 rows events.0 numbered joined in
    subst StoryIsDue (same_Ok (story_with built.0 events.0) k events.2) own

input_due : (x : Inputs) (k : KeptStory) → kept_of x ≡ Ok k → StoryIsDue k
unfolding kept_of
input_due x k h =
    let rows = bound (rows_of command_is.Store x) kept_of_rows k h in
    rows_story rows.0 k (stored_numbered x rows.0 rows.1) rows.2

pub kept_stored : (x : Inputs) (k : KeptStory) → kept_of x ≡ Ok k → CanBeStored k
unfolding history
kept_stored x k sets =
    subst (AreNext k.story.day k.batches 0) (sym (run_enters_all (opening k.story.day) k.story.events))
    (due_next k.story.day k.batches 0 0 k.story.events (omega arith) (input_due x k sets))
