-- A story that was played, and a day that was recovered, all of whose texts are written, carry the headline.
use Rattle.std.proofs.Common.{◌≡◌, ℕ, List, [], ◌∷◌, ◌++◌, refl, sym, ap, subst, ◌∙◌, arith, append_assoc}
use Rattle.std.specs.Prelude.{Option, Some, None, IsSome}
use Rattle.std.specs.Io.KnownBytes.{Appends, Keeps}
use Rattle.std.proofs.lemmas.Bool.{false≢true}
use Rattle.std.proofs.lemmas.List.{append-nil}
use Rattle.desk_folder.specs.declared.files.File.TheVariants as file
use Rattle.desk_folder.specs.Outputs.{FileText, HasAll, ArePut}
use Rattle.desk_folder.proofs.PutAll.{whole-first, whole-rest, whole-end}
use Rattle.desk_data.specs.declared.broken.Broken.{Broken}
use Rattle.desk_data.specs.Situation.{Situation}
use Rattle.desk_model.specs.States.{State, opening}
use Rattle.desk_model.specs.declared.answer.Entry.{Entry}
use Rattle.desk_model.specs.Histories.{AreAskable, IsLegal, run, state}
use Rattle.desk_model.proofs.StateLaws.{opening-inst}
use Rattle.desk_model.proofs.HistoryLaws.{promises, run-legal}
use Rattle.output_texts.specs.Lines.{journal_text}
use Rattle.desk_tasks.specs.Outcome.{Texts}
use Rattle.desk_tasks.specs.Runs.{World, IsWritten}
use Rattle.near_moves.specs.Descent.{recovery}
use Rattle.desk_teams.proofs.TeamLaws.{refused-between}
use Rattle.near_moves.proofs.LegalLaws.{recovery-legal}
use Rattle.near_moves.proofs.RecoveryLaws.{recovery-all_wait, recovery-along, recovery-batches}
use Rattle.desk_tasks.specs.Play.{Story, history, Remarks, search_remarks, watch_remarks, batch_lines, end_lines, planned_rotations, planned_itineraries, report_text, history_outcome, played}
use Rattle.desk_tasks.specs.Keep.{opened_line, opened_remarks, opened_first, kept}
use Rattle.desk_tasks.specs.Crew.{CrewedStory, crew_remarks, played_crews}
use Rattle.desk_tasks.specs.Recover.{Recovery, recovered_history, search_end, reported_alone, recovered, tried}
use Rattle.desk_tasks.specs.Team.{TeamRecovery, Work, IsTeamWork, recovered_by_team}
use Rattle.desk_tasks.specs.Tasks.{Task, play, play_crews, recover, team, trial, judge, judge_crews, ferry, generate, team_size, IsWorkOf, outcome_at, outcome, IsRunnable, IsRecoverable, IsSound}
use Rattle.desk_tasks.specs.Headline.{TellsHistory, HasHeadline, HasKept, HasCrewed, Recovers, HasRecovered, HasTried, TeamRecovers, HasTeamRecovered}
use Rattle.desk_tasks.proofs.RecoveryLaw.{recovery-rests, search-ended}

pub keeps_of : (before now : Option (List ℕ)) → Appends before now [] → Keeps before now
keeps_of None now h = tt
keeps_of (Some xs) None h = h
keeps_of (Some xs) (Some ys) h = h ∙ append-nil xs

planned_some : (S : State) (o : Option Broken) → IsSome o → planned_rotations S o ≡ []
planned_some S None h = absurd (false≢true h)
planned_some S (Some item) h = refl

planned_none : (S : State) (o : Option Broken) → IsSome o → planned_itineraries S o ≡ []
planned_none S None h = absurd (false≢true h)
planned_none S (Some item) h = refl

-- ---- what is written of a history

-- the state that a history ends in
abbrev end_of : Situation → List Entry → State
end_of I h = state (opening I) h

-- its texts, file by file
abbrev rotations_of : Situation → List Entry → FileText
rotations_of I h = (file.SolRotations, planned_rotations (end_of I h) (end_of I h).broken)

abbrev journal_of : Situation → List Entry → FileText
journal_of I h = (file.Journal, journal_text I h)

abbrev itineraries_of : Situation → List Entry → FileText
itineraries_of I h = (file.SolItineraries, planned_itineraries (end_of I h) (end_of I h).broken)

abbrev after_itineraries : Situation → List Entry → List FileText
after_itineraries I h = journal_of I h ∷ []

abbrev after_rotations : Situation → List Entry → List FileText
after_rotations I h = itineraries_of I h ∷ after_itineraries I h

abbrev files_are : Situation → List Entry → List FileText
files_are I h = rotations_of I h ∷ after_rotations I h

texts_are : (I : Situation) (remarks : Remarks) (h : List Entry) → (history_outcome I remarks h).texts ≡ record { files = files_are I h; report = report_text I remarks h }
unfolding history_outcome
texts_are I remarks h = refl

-- whoever has written all that a history comes to has said it
pub tells : (before now : World) (I : Situation) (remarks : Remarks) (h : List Entry) → IsWritten before now (history_outcome I remarks h).texts → TellsHistory before now I remarks h
tells before now I remarks h w =
    let Reported : Type 0 = Appends before.sink.written now.sink.written (report_text I remarks h) in
    let whole : ArePut (λ f. ⊥) Reported (files_are I h) before.folder now.folder = subst (λ (t : Texts). IsWritten before now t) (texts_are I remarks h) w in
    let rotations : HasAll (rotations_of I h) before.folder now.folder = whole-first Reported (rotations_of I h) (after_rotations I h) before.folder now.folder whole in
    let later : ArePut (λ f. ⊥) Reported (after_rotations I h) before.folder now.folder = whole-rest Reported (rotations_of I h) (after_rotations I h) before.folder now.folder whole in
    let itineraries : HasAll (itineraries_of I h) before.folder now.folder = whole-first Reported (itineraries_of I h) (after_itineraries I h) before.folder now.folder later in
    let last : ArePut (λ f. ⊥) Reported (after_itineraries I h) before.folder now.folder = whole-rest Reported (itineraries_of I h) (after_itineraries I h) before.folder now.folder later in
    let S = end_of I h in
    record {
      journal = whole-first Reported (journal_of I h) [] before.folder now.folder last;
      reported = whole-end Reported (files_are I h) before.folder now.folder whole;
      rotations = λ none. subst (λ (o : Option Broken). Appends (before.folder.written file.SolRotations) (now.folder.written file.SolRotations) (planned_rotations S o)) none rotations;
      no_rotations = λ some. keeps_of (before.folder.written file.SolRotations) (now.folder.written file.SolRotations)
          (subst (λ (t : List ℕ). Appends (before.folder.written file.SolRotations) (now.folder.written file.SolRotations) t) (planned_some S S.broken some) rotations);
      itineraries = λ none. subst (λ (o : Option Broken). Appends (before.folder.written file.SolItineraries) (now.folder.written file.SolItineraries) (planned_itineraries S o)) none itineraries;
      no_itineraries = λ some. keeps_of (before.folder.written file.SolItineraries) (now.folder.written file.SolItineraries)
          (subst (λ (t : List ℕ). Appends (before.folder.written file.SolItineraries) (now.folder.written file.SolItineraries) t) (planned_none S S.broken some) itineraries);
    }

-- ---- a story

story_legal : (s : Story) → IsRunnable s → IsLegal (opening s.day) (history s)
unfolding history
story_legal s runs = run-legal (opening s.day) s.events (subst (λ (I : Situation). AreAskable I s.events) (sym (opening-inst s.day)) runs)

history_is : (s : Story) → history s ≡ run (opening s.day) s.events
unfolding history
history_is s = refl

pub has-headline : (before now : World) (s : Story) → IsRunnable s → IsWritten before now (played s).texts → HasHeadline before now s
has-headline before now s runs w = record {
  history = history s;
  headline = record {
    events = history_is s;
    legal = story_legal s runs;
    promises = promises s.day (history s) (story_legal s runs);
    written = tells before now s.day (search_remarks None) (history s) w;
  };
}

-- ---- a story that is kept on a disk

-- the line before the report of a history stands where its remarks have it
report_opened : (I : Situation) (held : ℕ) (h : List Entry) → opened_line held ++ report_text I (search_remarks None) h ≡ report_text I (opened_remarks held) h
unfolding report_text
report_opened I held h =
    let o = opened_line held in
    let b = batch_lines I h in
    let e = end_lines I h in
    ap (λ (t : List ℕ). o ++ t) (append_assoc b [] e) ∙ sym (append_assoc (o ++ b) [] e ∙ append_assoc o b e)

kept_is : (s : Story) (held : ℕ) → (kept held s).texts ≡ (history_outcome s.day (opened_remarks held) (history s)).texts
unfolding opened_first history_outcome
kept_is s held = ap (λ (report : List ℕ). let t : Texts = record { files = files_are s.day (history s); report = report } in t) (report_opened s.day held (history s))

pub has-kept : (before now : World) (s : Story) (held : ℕ) → IsRunnable s → IsWritten before now (kept held s).texts → HasKept before now s held
has-kept before now s held runs w = record {
  history = history s;
  events = history_is s;
  legal = story_legal s runs;
  promises = promises s.day (history s) (story_legal s runs);
  written = tells before now s.day (opened_remarks held) (history s) (subst (λ (t : Texts). IsWritten before now t) (kept_is s held) w);
}

-- ---- a story that is played beside its crews

pub has-crewed : (before now : World) (s : CrewedStory) → IsRunnable s.story → IsWritten before now (played_crews s).texts → HasCrewed before now s
has-crewed before now s runs w = record {
  history = history s.story;
  events = history_is s.story;
  legal = story_legal s.story runs;
  promises = promises s.story.day (history s.story) (story_legal s.story runs);
  written = tells before now s.story.day (crew_remarks s.story.day s.crews (history s.story)) (history s.story) w;
}

-- ---- a recovery

recovery_is : (r : Recovery) → recovered_history r ≡ recovery r.moves (opening r.day) r.batches
unfolding recovered_history
recovery_is r = refl

pub recovers : (r : Recovery) → IsRecoverable r → Recovers r (recovered_history r)
unfolding recovered_history
recovers r can =
    let S = opening r.day in
    let h = recovery r.moves S r.batches in
    let legal : IsLegal S h = recovery-legal r.moves r.day r.batches can.valid can.asked (omega (arith, can.few)) in
    record {
      exact = refl;
      batches = recovery-batches r.moves S [] r.batches;
      entries = recovery-along r.moves S [] r.batches tt;
      waits = recovery-all_wait r.moves S r.batches;
      legal = legal;
      promises = promises r.day h legal;
      ended = search-ended r.day r.moves h (recovery-rests r.moves S [] r.batches can.some);
    }

pub has-recovered : (before now : World) (r : Recovery) → IsRecoverable r → IsWritten before now (recovered r).texts → HasRecovered before now r
has-recovered before now r can w = record {
  history = recovered_history r;
  recovers = recovers r can;
  written = tells before now r.day (search_remarks (search_end r.day r.moves (recovered_history r))) (recovered_history r) w;
}

tried_report : (before now : World) (r : Recovery) → IsWritten before now (tried r).texts → Appends before.sink.written now.sink.written (report_text r.day (search_remarks (search_end r.day r.moves (recovered_history r))) (recovered_history r))
unfolding reported_alone history_outcome
tried_report before now r w = w

pub has-tried : (before now : World) (r : Recovery) → IsRecoverable r → IsWritten before now (tried r).texts → HasTried before now r
has-tried before now r can w = record {
  history = recovered_history r;
  recovers = recovers r can;
  reported = tried_report before now r w;
}

-- ---- a recovery by a team

pub team-recovers : (t : TeamRecovery) (w : Work) → IsTeamWork t w → TeamRecovers t w.history w.ended
team-recovers t w is = record {
  legal = is.legal;
  promises = promises t.recovery.day w.history is.legal;
  teamwork = is.teamwork;
  refusals = λ k entry at p refused. refused-between t.workers t.recovery.moves t.recovery.day w.history k entry is.legal at p refused;
  ended = is.ended;
}

pub has-team-recovered : (before now : World) (t : TeamRecovery) (w : Work) → IsTeamWork t w → IsWritten before now (recovered_by_team t w).texts → HasTeamRecovered before now t w
has-team-recovered before now t w is written = record {
  recovers = team-recovers t w is;
  seen = is.seen;
  written = tells before now t.recovery.day (watch_remarks t.recovery.day w.ended w.seen) w.history written;
}

-- ---- tasks with one outcome

pub one-work : (task : Task) (work other : Work) → IsSound task → team_size task ≡ 0 → IsWorkOf task work → IsWorkOf task other → (work ≡ other) × (outcome_at work task ≡ outcome task)
one-work (play s) work other sound e a b = (a ∙ sym b, refl)
one-work (play_crews s) work other sound e a b = (a ∙ sym b, refl)
one-work (recover r) work other sound e a b = (a ∙ sym b, refl)
one-work (trial r) work other sound e a b = (a ∙ sym b, refl)
one-work (judge j) work other sound e a b = (a ∙ sym b, refl)
one-work (judge_crews j) work other sound e a b = (a ∙ sym b, refl)
one-work (ferry j) work other sound e a b = (a ∙ sym b, refl)
one-work (generate seed size) work other sound e a b = (a ∙ sym b, refl)
one-work (team t) work other sound e a b = absurd (let some = sound.some in omega (arith, some, e))
