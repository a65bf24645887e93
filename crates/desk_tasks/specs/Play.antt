-- Playing a story: its events are taken in order, and what they come to is written.
use Rattle.std.specs.Prelude.{ℕ, List, [], ◌∷◌, ◌++◌, Option, Some, None, length, filter, codes, decimal}
use Rattle.std.specs.List.{flat_map, zip}
use Rattle.desk_folder.specs.declared.files.File.TheVariants as file
use Rattle.desk_units.specs.declared.money.Grains.{Grains}
use Rattle.desk_data.specs.Situation.{Situation}
use Rattle.desk_data.specs.declared.broken.Broken.{Broken}
use Rattle.desk_rules.specs.Numbers.{numbers}
use Rattle.desk_model.specs.declared.answer.Answer.{Answer}
use Rattle.desk_model.specs.declared.answer.Event.{Event}
use Rattle.desk_model.specs.declared.answer.Entry.{Entry}
use Rattle.desk_model.specs.States.{State, opening}
use Rattle.desk_model.specs.Histories.{state, changes, is_batch, run}
use Rattle.desk_model.specs.Promises.{cost_of}
use Rattle.desk_model.specs.declared.view.View.{View}
use Rattle.output_texts.specs.Items.{broken_text}
use Rattle.output_texts.specs.Lines.{answer_text, journal_text}
use Rattle.output_texts.specs.Rotations.{rotations_text}
use Rattle.output_texts.specs.Itineraries.{itineraries_text}
use Rattle.desk_tasks.specs.declared.ending.Ending.{Ending}
use Rattle.desk_tasks.specs.declared.ending.Ending.TheVariants as ending
use Rattle.desk_tasks.specs.Outcome.{line, Outcome}
use Rattle.near_moves.specs.declared.ended.SearchEnd.{SearchEnd}
use Rattle.near_moves.specs.declared.ended.SearchEnd.TheVariants as ended

-- a day, and the events that are taken on it in order, each with its caller
pub record Story : Type 0 where
  pub day : Situation
  pub events : List (ℕ × Event)

abbrev pub story_on : Situation → List (ℕ × Event) → Story
story_on day events = record { day = day; events = events }

-- the history of the events from the opening of the day, and the state that it ends in
unfoldable pub history : Story → List Entry
history s = run (opening s.day) s.events

unfoldable pub last : Story → State
last s = state (opening s.day) (history s)

-- the cost of the plan, or what the rows break where there is none
abbrev pub cost_or_broken : Situation → ℕ → Option Broken → List ℕ
cost_or_broken I cost None = codes "cost " ++ decimal cost
cost_or_broken I cost (Some item) = codes "no plan " ++ broken_text I item

-- the cost of a plan that was seen, or what the rows broke where there was none
abbrev pub seen_end : Situation → Grains → Option Broken → List ℕ
seen_end I cost None = decimal cost.0
seen_end I cost (Some item) = codes "no plan " ++ broken_text I item

-- the entries of the batches of a history, in order
abbrev pub batch_entries : List Entry → List Entry
batch_entries h = filter (λ entry. is_batch entry.event) h

-- the line of a batch, by its number: what was answered to it
abbrev pub batch_line : Situation → ℕ → Answer → List ℕ
batch_line I number given = line (codes "batch " ++ decimal number ++ codes " " ++ answer_text I given)

-- a line for each batch of a history, numbered from 0
unfoldable pub batch_lines : Situation → List Entry → List ℕ
batch_lines I h = flat_map (λ numbered. batch_line I numbered.0 numbered.1.answer) (zip (numbers (length (batch_entries h))) (batch_entries h))

-- how many changes there were, and the cost of the last plan, or what is broken
unfoldable pub end_lines : Situation → List Entry → List ℕ
end_lines I h =
    let S = state (opening I) h in
    line (codes "changes " ++ decimal (changes h)) ++ line (cost_or_broken S.inst (cost_of S) S.broken)

-- what a report says besides what its history says: lines before those of the batches, why the search after the last batch ended,
-- where there was one, and lines before the number of changes
pub record Remarks : Type 0 where
  pub head : List ℕ
  pub search : Option SearchEnd
  pub extra : List ℕ

-- the line of a view that was seen: its numbers of entries and of changes, and its cost or what is broken
abbrev pub seen_line : Situation → View → List ℕ
seen_line I v = line (codes "seen " ++ decimal v.entries ++ codes " " ++ decimal v.changes ++ codes " " ++ seen_end I v.cost v.broken)

-- a line for each
unfoldable pub seen_lines : Situation → List View → List ℕ
seen_lines I [] = []
seen_lines I (v ∷ views) = seen_line I v ++ seen_lines I views

-- why the search ended, and these lines
abbrev pub remarks_with : Option SearchEnd → List ℕ → Remarks
remarks_with search extra = record { head = []; search = search; extra = extra }

-- why the search ended, and what was seen meanwhile
abbrev pub watch_remarks : Situation → Option SearchEnd → List View → Remarks
watch_remarks I search seen = remarks_with search (seen_lines I seen)

-- why the search ended, and no line more
abbrev pub search_remarks : Option SearchEnd → Remarks
search_remarks search = remarks_with search []

-- the line that says why the search ended
abbrev pub search_line : Option SearchEnd → List ℕ
search_line None = []
search_line (Some ended.Budget) = line (codes "ended budget")
search_line (Some ended.Quiet) = line (codes "ended quiet")

-- the report of a history: what was answered to each batch, and how it ended, with the remarks where they stand
unfoldable pub report_text : Situation → Remarks → List Entry → List ℕ
report_text I remarks h = remarks.head ++ batch_lines I h ++ search_line remarks.search ++ (remarks.extra ++ end_lines I h)

-- the rotations and the itineraries of a state's plan; where there is no plan, none
abbrev pub planned_rotations : State → Option Broken → List ℕ
planned_rotations S None = rotations_text S.inst S.plan
planned_rotations S (Some item) = []

abbrev pub planned_itineraries : State → Option Broken → List ℕ
planned_itineraries S None = itineraries_text S.inst S.plan
planned_itineraries S (Some item) = []

-- 0 where there is a plan, 1 where there is none
abbrev pub plan_status : Option Broken → ℕ
plan_status None = 0
plan_status (Some item) = 1

-- what a history comes to, with the remarks of its report
unfoldable pub history_outcome : Situation → Remarks → List Entry → Outcome
history_outcome I remarks h =
    let S = state (opening I) h in
    record {
      status = plan_status S.broken;
      texts = record {
        files = (file.SolRotations, planned_rotations S S.broken) ∷ (file.SolItineraries, planned_itineraries S S.broken) ∷ (file.Journal, journal_text I h) ∷ [];
        report = report_text I remarks h;
      };
    }

-- what a story comes to that is played
abbrev pub played : Story → Outcome
played s = history_outcome s.day (search_remarks None) (history s)

-- how a run ends that wrote it, by what its last plan breaks
abbrev pub played_end : Option Broken → Ending
played_end None = ending.Done
played_end (Some item) = ending.NoPlan
