-- The promise of the desk.
use Rattle.std.specs.Prelude.{◌≡◌, ℕ, false, List, Option, None, Some, IsSome, slice_get}
use Rattle.std.specs.Io.KnownBytes.{Appends, Keeps}
use Rattle.desk_folder.specs.declared.files.File.TheVariants as file
use Rattle.desk_data.specs.Situation.{Situation}
use Rattle.desk_data.specs.PlanRows.{PlanRows}
use Rattle.desk_data.specs.declared.broken.Broken.{Broken}
use Rattle.desk_rules.specs.Least.{least}
use Rattle.desk_rules.specs.Cost.{cost}
use Rattle.added_legs.specs.declared.added.Added.{Added}
use Rattle.added_legs.specs.Ferried.{IsFerried}
use Rattle.added_legs.specs.Words.{EachPays, IsUntouched}
use Rattle.output_texts.specs.FerryText.{added_text}
use Rattle.desk_model.specs.declared.answer.Entry.{Entry}
use Rattle.desk_model.specs.States.{opening}
use Rattle.desk_model.specs.Histories.{IsLegal, run, state, is_accepted}
use Rattle.desk_model.specs.Promises.{KeepsPromises}
use Rattle.near_moves.specs.Descent.{recovery}
use Rattle.near_moves.specs.Descents.{AllAlong, IsRecoveryEntry, BatchesWait, batches_in}
use Rattle.near_moves.specs.declared.ended.SearchEnd.{SearchEnd}
use Rattle.desk_teams.specs.Teams.{IsTeamwork, IsProposal, ChangesBetween}
use Rattle.output_texts.specs.Lines.{journal_text}
use Rattle.output_texts.specs.Rotations.{rotations_text}
use Rattle.output_texts.specs.Itineraries.{itineraries_text}
use Rattle.desk_tasks.specs.Runs.{World}
use Rattle.desk_tasks.specs.Play.{Story, Remarks, search_remarks, watch_remarks, report_text}
use Rattle.desk_tasks.specs.Keep.{opened_remarks}
use Rattle.desk_tasks.specs.Crew.{CrewedStory, crew_remarks}
use Rattle.desk_tasks.specs.Recover.{Recovery, search_end, IsSearchEnd}
use Rattle.desk_tasks.specs.Team.{TeamRecovery, Work, IsTeamEnd, IsWatched}
use Rattle.desk_tasks.specs.Judge.{Judged, verdict_report}
use Rattle.desk_tasks.specs.Ferry.{ferried_report}

-- what is written of a history, with the remarks of its report
pub record TellsHistory (before now : World) (I : Situation) (remarks : Remarks) (h : List Entry) : Type 0 where
  -- journal.csv is the journal of the history, and the report gives its batches, its changes and the cost of the last plan, with
  -- the remarks
  pub journal : Appends (before.folder.written file.Journal) (now.folder.written file.Journal) (journal_text I h)
  pub reported : Appends before.sink.written now.sink.written (report_text I remarks h)
  -- sol_rotations.csv and sol_itineraries.csv are those of the last plan, and are written only where there is one
  pub rotations : (state (opening I) h).broken ≡ None →
      Appends (before.folder.written file.SolRotations) (now.folder.written file.SolRotations)
      (rotations_text (state (opening I) h).inst (state (opening I) h).plan)
  pub no_rotations : IsSome (state (opening I) h).broken → Keeps (before.folder.written file.SolRotations) (now.folder.written file.SolRotations)
  pub itineraries : (state (opening I) h).broken ≡ None →
      Appends (before.folder.written file.SolItineraries) (now.folder.written file.SolItineraries)
      (itineraries_text (state (opening I) h).inst (state (opening I) h).plan)
  pub no_itineraries : IsSome (state (opening I) h).broken → Keeps (before.folder.written file.SolItineraries) (now.folder.written file.SolItineraries)

-- ---- a story

-- the promise of the desk, for a story that was played: the history to which what was written belongs
pub record Headline (before now : World) (s : Story) (h : List Entry) : Type 0 where
  -- it is the history of the events that were read, in their order, from the opening of the day that was read
  pub events : h ≡ run (opening s.day) s.events
  pub legal : IsLegal (opening s.day) h
  -- whatever batches are taken between the proposals: each published plan meets all rules of the day with the batches taken by then,
  -- each stored cost is the cost of the rows on that day, between two batches costs only fall, and a proposal to a published
  -- plan is accepted exactly where the moved plan is feasible and cheaper
  pub promises : KeepsPromises s.day h
  pub written : TellsHistory before now s.day (search_remarks None) h

-- there is such a history
pub record HasHeadline (before now : World) (s : Story) : Type 0 where
  pub history : List Entry
  pub headline : Headline before now s history

-- the same of a story that was kept on a disk, which held so many entries: the report begins with how many they were
pub record HasKept (before now : World) (s : Story) (held : ℕ) : Type 0 where
  pub history : List Entry
  pub events : history ≡ run (opening s.day) s.events
  pub legal : IsLegal (opening s.day) history
  pub promises : KeepsPromises s.day history
  pub written : TellsHistory before now s.day (opened_remarks held) history

-- the same of a story that was played beside its crews: the report has their lines, of each plan that a change left
pub record HasCrewed (before now : World) (s : CrewedStory) : Type 0 where
  pub history : List Entry
  pub events : history ≡ run (opening s.story.day) s.story.events
  pub legal : IsLegal (opening s.story.day) history
  pub promises : KeepsPromises s.story.day history
  pub written : TellsHistory before now s.story.day (crew_remarks s.story.day s.crews history) history

-- ---- a recovery

-- a history is that of a recovery
pub record Recovers (r : Recovery) (h : List Entry) : Type 0 where
  -- after each batch stands exactly the descent: as long as there is a plan and the budget is not spent, the first move near it
  -- that makes it feasible and cheaper
  pub exact : h ≡ recovery r.moves (opening r.day) r.batches
  -- the batches are those that were read, in their order, each once
  pub batches : batches_in h ≡ r.batches
  -- the desk asks for all entries, and what is no batch is an accepted proposal of the first better move near the plan as it stands
  pub entries : AllAlong IsRecoveryEntry (opening r.day) h
  -- each batch but the first waits until the descent before it has ended: with no plan, with so many accepted as may be, or where
  -- no move near the plan is better
  pub waits : BatchesWait r.moves (opening r.day) h
  -- and it keeps what is promised of a story that is played
  pub legal : IsLegal (opening r.day) h
  pub promises : KeepsPromises r.day h
  -- what the report says of the last search
  pub ended : IsSearchEnd r.day r.moves h (search_end r.day r.moves h)

-- there is such a history, to which what was written belongs
pub record HasRecovered (before now : World) (r : Recovery) : Type 0 where
  pub history : List Entry
  pub recovers : Recovers r history
  pub written : TellsHistory before now r.day (search_remarks (search_end r.day r.moves history)) history

-- or, where nothing was written but a report, there is such a history, to which the report belongs
pub record HasTried (before now : World) (r : Recovery) : Type 0 where
  pub history : List Entry
  pub recovers : Recovers r history
  pub reported : Appends before.sink.written now.sink.written (report_text r.day (search_remarks (search_end r.day r.moves history)) history)

-- ---- a recovery by a team

-- a history is one that a team may make of a day, whatever worker came first
pub record TeamRecovers (t : TeamRecovery) (h : List Entry) (reported : Option SearchEnd) : Type 0 where
  -- it keeps what is promised of a story that is played: each published plan meets the rules, each stored cost is that of its rows, and so on
  pub legal : IsLegal (opening t.recovery.day) h
  pub promises : KeepsPromises t.recovery.day h
  -- its batches are those that were read, in their order, each once and from the desk. Each other entry is the proposal of a worker: the first better
  -- move of its shard, after a beginning of the history that has all its earlier entries and is not spent. Each batch but the first waits until the
  -- search before it has stopped, unless they are taken live; and at the end the search has stopped
  pub teamwork : IsTeamwork t.workers t.recovery.moves t.live (opening t.recovery.day) t.recovery.batches h
  -- a proposal is refused only where another change stands between what its worker saw and its entry
  pub refusals : (k : ℕ) (entry : Entry) → slice_get h k ≡ Some entry → (p : IsProposal t.workers t.recovery.moves (opening t.recovery.day) h k entry) → is_accepted entry.answer ≡ false → ChangesBetween h p.saw k entry.caller
  -- what the report says of the end of the search
  pub ended : IsTeamEnd t.recovery.day t.recovery.moves h reported

-- there is such a history, to which what was written belongs
pub record HasTeamRecovered (before now : World) (t : TeamRecovery) (work : Work) : Type 0 where
  pub recovers : TeamRecovers t work.history work.ended
  pub seen : IsWatched t.watch t.recovery.day work.history work.seen
  pub written : TellsHistory before now t.recovery.day (watch_remarks t.recovery.day work.ended work.seen) work.history

-- ---- legs that are added to a plan

-- what is written of these legs, which are added to a plan
pub record TellsAdded (before now : World) (I : Situation) (P : PlanRows) (A : List Added) : Type 0 where
  -- each is the first candidate that lowers the cost, after those before it, and after the last one no candidate does
  pub ferried : IsFerried I P A
  -- so with each of them the cost became lower, and no rule was broken; and all that is scheduled stands as it was
  pub pays : EachPays I P A
  pub untouched : IsUntouched I P A
  -- sol_added.csv has a line for each, in their order, and so has the report, with the cost
  pub file : Appends (before.folder.written file.SolAdded) (now.folder.written file.SolAdded) (added_text I P A)
  pub reported : Appends before.sink.written now.sink.written (ferried_report I P A)

-- what is written of a plan that breaks a rule: the report of a check, and nothing of sol_added.csv
pub record TellsBroken (before now : World) (I : Situation) (P : PlanRows) (item : Broken) : Type 0 where
  pub no_file : Keeps (before.folder.written file.SolAdded) (now.folder.written file.SolAdded)
  pub reported : Appends before.sink.written now.sink.written (verdict_report I (Some item) (cost I P))

-- what is written of a plan to which legs are to be added, by what it breaks
pub record HasFerried (before now : World) (j : Judged) : Type 0 where
  pub legs : List Added
  pub added : least j.day j.plan ≡ None → TellsAdded before now j.day j.plan legs
  pub broken : (item : Broken) → least j.day j.plan ≡ Some item → TellsBroken before now j.day j.plan item
