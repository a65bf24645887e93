-- What came of the events of a story is written.
use Rattle.std.proofs.Common.{◌≡◌, ℕ, List, refl, ap, subst, ◌∙◌}
use Rattle.std.specs.Prelude.{None}
use Rattle.desk_data.specs.Situation.{Situation}
use Rattle.desk_model.specs.declared.answer.Event.{Event}
use Rattle.desk_model.specs.States.{opening}
use Rattle.desk_model.specs.Histories.{run}
use Rattle.desk_core.specs.Recorded.{Recorded}
use Rattle.desk_tasks.specs.declared.ending.Ending.{Ending}
use Rattle.desk_tasks.specs.Commands.{history_files}
use Rattle.desk_tasks.specs.Outcome.{Outcome}
use Rattle.desk_tasks.specs.Runs.{World}
use Rattle.desk_tasks.specs.Finishing.{Completes}
use Rattle.desk_tasks.specs.Play.{story_on, history, search_remarks, history_outcome, played}

-- the book that the events of a story end in
abbrev book_of : Situation → List (ℕ × Event) → Recorded
book_of I events = record { opening = I; journal = run (opening I) events }

book_outcome : (I : Situation) (events : List (ℕ × Event)) → history_outcome (book_of I events).opening (search_remarks None) (book_of I events).journal ≡ played (story_on I events)
unfolding history
book_outcome I events = refl

pub played-book : (before now : World) (I : Situation) (events : List (ℕ × Event)) (B : Recorded) (how : Ending) → B ≡ book_of I events → Completes history_files before now (history_outcome B.opening (search_remarks None) B.journal) how → Completes history_files before now (played (story_on I events)) how
played-book before now I events B how is done =
    subst (λ (o : Outcome). Completes history_files before now o how) (ap (λ (C : Recorded). history_outcome C.opening (search_remarks None) C.journal) is ∙ book_outcome I events) done
