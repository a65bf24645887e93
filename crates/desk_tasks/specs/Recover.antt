-- Recovering a day: its batches are taken one after another, after each the desk searches for a cheaper plan, and what that comes to is written.
use Rattle.std.specs.Prelude.{◌≡◌, ◌↔◌, ℕ, true, false, List, [], Option, Some, None, IsSome}
use Rattle.day_orders.specs.declared.orders.Batch.{Batch}
use Rattle.desk_data.specs.Situation.{Situation}
use Rattle.desk_model.specs.declared.answer.Entry.{Entry}
use Rattle.desk_model.specs.States.{opening}
use Rattle.desk_model.specs.Histories.{state}
use Rattle.near_moves.specs.Descent.{IsQuiet, end_by, is_spent, recovery}
use Rattle.desk_tasks.specs.Outcome.{Outcome}
use Rattle.near_moves.specs.declared.ended.SearchEnd.{SearchEnd}
use Rattle.near_moves.specs.declared.ended.SearchEnd.TheVariants as ended
use Rattle.desk_tasks.specs.Play.{search_remarks, history_outcome}

-- a day, the batches that are taken on it in order, and how many proposals may be accepted after each
pub record Recovery : Type 0 where
  pub day : Situation
  pub batches : List Batch
  pub moves : ℕ

abbrev pub recovery_on : Situation → List Batch → ℕ → Recovery
recovery_on day batches moves = record { day = day; batches = batches; moves = moves }

-- its history: each batch is taken from caller 0, and a descent follows
unfoldable pub recovered_history : Recovery → List Entry
recovered_history r = recovery r.moves (opening r.day) r.batches

-- why the last search ended, where there is a plan at the end: the history is spent, or no move near the plan is better
unfoldable pub search_end : Situation → ℕ → List Entry → Option SearchEnd
search_end I most h = end_by (state (opening I) h).broken (is_spent most h)

-- what a recovery comes to
abbrev pub recovered : Recovery → Outcome
recovered r = history_outcome r.day (search_remarks (search_end r.day r.moves (recovered_history r))) (recovered_history r)

-- the same status and report, and no files
unfoldable pub reported_alone : Outcome → Outcome
reported_alone o = record {
  status = o.status;
  texts = record {
    files = [];
    report = o.texts.report;
  };
}

-- what a trial comes to, which recovers a day and writes no file
abbrev pub tried : Recovery → Outcome
tried r = reported_alone (recovered r)

-- what is reported of the last search after a history: its budget was spent exactly where there is a plan and as many proposals were
-- accepted since the last batch as may be, or the journal takes no more; and it ended quiet exactly where neither is so and no
-- move near the plan is better
pub record IsSearchEnd (I : Situation) (most : ℕ) (h : List Entry) (given : Option SearchEnd) : Type 0 where
  pub budget : given ≡ Some ended.Budget ↔ ((state (opening I) h).broken ≡ None) × (is_spent most h ≡ true)
  pub quiet : given ≡ Some ended.Quiet ↔ IsQuiet (state (opening I) h) × (is_spent most h ≡ false)
  pub unreported : given ≡ None ↔ IsSome (state (opening I) h).broken
