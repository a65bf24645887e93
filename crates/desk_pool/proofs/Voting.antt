-- What a vote says of the history that was seen.
use Rattle.std.proofs.Common.{◌≡◌, ◌≢◌, ℕ, ◌+◌, ◌-◌, ◌<◌, ◌≤◌, Bool, true, false, List, [], ◌∷◌, ◌++◌, length, take, get_or, slice_get, refl, sym, ap, ◌∙◌, subst, arith}
use Rattle.std.specs.Prelude.{Some, None, Option, IfSome, All}
use Rattle.std.proofs.lemmas.List.{take_all, take-append-le, get_or_default}
use Rattle.std.proofs.lemmas.Option.{slice_get-get_or}
use mathlib.Core.List.{IsPrefix}
use mathlib.Core.Logic.{dite}
use native.Mathlib.Decide.{ℕ_discrete}
use Rattle.turn_book.proofs.Prefixes.{prefix_length}
use Rattle.plan_moves.specs.declared.moves.Move.{Move}
use Rattle.desk_data.specs.Situation.{Situation}
use Rattle.desk_data.specs.declared.broken.Broken.{Broken}
use Rattle.desk_model.specs.declared.answer.Entry.{Entry}
use Rattle.desk_model.specs.States.{State, opening}
use Rattle.desk_model.specs.Histories.{state, changes, IsLegal, is_change}
use Rattle.std.proofs.lemmas.List.Sums.{sum_by-append}
use Rattle.desk_model.proofs.HistoryLaws.{promises}
use Rattle.near_moves.specs.Descent.{first_better, is_spent}
use Rattle.desk_teams.proofs.TeamLaws.{equal-since, spent-longer, shards-quiet}
use Rattle.desk_teams.proofs.TrailLaws.{get-left, get-last}
use Rattle.desk_teams.specs.declared.report.End.{End}
use Rattle.desk_teams.specs.declared.report.End.TheVariants as end
use Rattle.desk_teams.specs.declared.report.Report.{Report}
use Rattle.desk_teams.specs.declared.report.Vote.{Vote}
use Rattle.desk_teams.specs.declared.report.Vote.TheVariants.{Quiet, Spent, NoPlan}
use Rattle.desk_pool.specs.declared.worker.Worker.{Worker}
use Rattle.desk_pool.specs.Reports.{end_found, end_by, end_at, report_at}
use Rattle.desk_pool.specs.Workers.{AreAllShards, CanAllSearch}
use Rattle.desk_teams.specs.Votes.{OneReportedLast, HasVote}
use Rattle.desk_pool.specs.Laps.{IsReportOf, ReportsOf}
use Rattle.desk_pool.specs.Voted.{AreReports, WasReported, SomeReported, AllWereQuiet, OneWasSpent, OneHadNoPlan, IsVoteOf}

-- ---- what an end means

found_quiet : (found : Option Move) → end_found found ≡ end.Quiet → found ≡ None
found_quiet None is = refl
found_quiet (Some m) is = absurd cc

quiet_by : (b : Option Broken) (spent : Bool) (found : Option Move) → end_by b spent found ≡ end.Quiet → (b ≡ None) × (found ≡ None)
quiet_by (Some item) spent found is = absurd cc
quiet_by None true found is = absurd cc
quiet_by None false found is = (refl, found_quiet found is)

found_spent : (found : Option Move) → end_found found ≡ end.Spent → ⊥
found_spent None is = cc
found_spent (Some m) is = cc

spent_by : (b : Option Broken) (spent : Bool) (found : Option Move) → end_by b spent found ≡ end.Spent → (b ≡ None) × (spent ≡ true)
spent_by (Some item) spent found is = absurd cc
spent_by None true found is = (refl, refl)
spent_by None false found is = absurd (found_spent found is)

found_broken : (found : Option Move) (item : Broken) → end_found found ≡ end.NoPlan item → ⊥
found_broken None item is = cc
found_broken (Some m) item is = cc

broken_by : (b : Option Broken) (spent : Bool) (found : Option Move) (item : Broken) → end_by b spent found ≡ end.NoPlan item → b ≡ Some item
broken_by (Some other) spent found item is = (let same : other ≡ item = cc is in ap (λ (x : Broken). Some x) same)
broken_by None true found item is = absurd cc
broken_by None false found item is = absurd (found_broken found item is)

quiet_at : (most s n : ℕ) (S : State) (h : List Entry) → end_at most s n S h ≡ end.Quiet → ((state S h).broken ≡ None) × (first_better (state S h).inst (state S h).plan s n ≡ None)
unfolding end_at
quiet_at most s n S h is = quiet_by _ _ _ is

spent_at : (most s n : ℕ) (S : State) (h : List Entry) → end_at most s n S h ≡ end.Spent → ((state S h).broken ≡ None) × (is_spent most h ≡ true)
unfolding end_at
spent_at most s n S h is = spent_by _ _ _ is

broken_at : (most s n : ℕ) (S : State) (h : List Entry) (item : Broken) → end_at most s n S h ≡ end.NoPlan item → (state S h).broken ≡ Some item
unfolding end_at
broken_at most s n S h item is = broken_by _ _ _ item is

-- ---- beginnings of a history with as many changes

begins_so : (h g : List Entry) → IsPrefix h g → take (length h) g ≡ h
begins_so h g p = ap (take (length h)) (sym p.1) ∙ take-append-le (length h) h p.0 (omega arith) ∙ take_all (length h) h (omega arith)

pub same_state : (I : Situation) (h g : List Entry) → IsLegal (opening I) g → IsPrefix h g → changes h ≡ changes g → state (opening I) h ≡ state (opening I) g
same_state I h g legal p same =
    let low = prefix_length h g p in
    let whole : take (length g) g ≡ g = take_all (length g) g (omega arith) in
    let equal : changes (take (length h) g) ≡ changes (take (length g) g) = ap changes (begins_so h g p) ∙ same ∙ ap changes (sym whole) in
    ap (state (opening I)) (sym (begins_so h g p)) ∙ (promises I g legal).same (length h) (length g) low (omega arith) equal ∙ ap (state (opening I)) whole

pub same_spent : (most : ℕ) (h g : List Entry) → IsPrefix h g → changes h ≡ changes g → is_spent most h ≡ true → is_spent most g ≡ true
same_spent most h g p same spent =
    let low = prefix_length h g p in
    let whole : take (length g) g ≡ g = take_all (length g) g (omega arith) in
    let equal : changes (take (length h) g) ≡ changes (take (length g) g) = ap changes (begins_so h g p) ∙ same ∙ ap changes (sym whole) in
    spent-longer most h g (ap Rattle.desk_model.specs.Histories.accepted_since_batch (sym (begins_so h g p)) ∙ equal-since g (length h) (length g) low (omega arith) equal ∙ ap Rattle.desk_model.specs.Histories.accepted_since_batch whole) low spent

fewer_changes : (h g : List Entry) → IsPrefix h g → changes h ≤ changes g
fewer_changes h g p = (let sum : changes (h ++ p.0) ≡ changes h + changes p.0 = sum_by-append (λ (e : Entry). Rattle.std.proofs.Common.cond (is_change e.event e.answer) 1 0) h p.0 in omega (arith, sum, ap changes p.1))

-- ---- what a worker reported

-- the report of worker i is report i
reported_is : (o : Option Report) (r : Report) (Q : Report → Type 0) → o ≡ Some r → IfSome o Q → Q r
reported_is (Some x) r Q is q = (let same : x ≡ r = cc is in subst Q same q)
reported_is None r Q is q = absurd cc

-- one worker more, and its report
pub reports_more : (workers : List Worker) (reports : List Report) (n : ℕ) (w : Worker) (r : Report) → length reports ≡ n → n < length workers → w ≡ get_or workers n w → w.report ≡ Some r → ((i : ℕ) (d : Worker) → i < n → (get_or workers i d).report ≡ slice_get reports i) → (i : ℕ) (d : Worker) → i < n + 1 → (get_or workers i d).report ≡ slice_get (reports ++ r ∷ []) i
reports_more workers reports n w r len low is told each i d lt =
    dite (ℕ_discrete i n)
    (λ (e : i ≡ n).
    let same : get_or workers i d ≡ w = ap (λ (k : ℕ). get_or workers k d) e ∙ get_or_default workers n d w low ∙ sym is in
    let there : slice_get (reports ++ r ∷ []) i ≡ Some r = ap (slice_get (reports ++ r ∷ [])) (e ∙ sym len) ∙ get-last reports r in
    ap (λ (x : Worker). x.report) same ∙ told ∙ sym there)
    (λ (ne : i ≢ n).
    let below : i < n = omega (arith, ne, lt) in
    let old : slice_get reports i ≡ Some (get_or reports i r) = slice_get-get_or reports i r (omega (arith, below, len)) in
    each i d below ∙ old ∙ sym (get-left reports (r ∷ []) i (get_or reports i r) old))

module _ (workers : List Worker) (reports : List Report) (are : AreReports workers reports) where
  -- the report of a worker, and that it is one of the list
  pub report_of : (i : ℕ) (d : Worker) (e : Report) → i < length workers → (get_or workers i d).report ≡ Some (get_or reports i e)
  report_of i d e lt = are.each i d lt ∙ slice_get-get_or reports i e (let len = are.len in omega (arith, len, lt))

  -- what holds of the report of a worker, by what holds of each
  pub of_worker : (i : ℕ) (d : Worker) (e : Report) (Q : Report → Type 0) → i < length workers → IfSome (get_or workers i d).report Q → Q (get_or reports i e)
  of_worker i d e Q lt q = reported_is (get_or workers i d).report (get_or reports i e) Q (report_of i d e lt) q

-- a report is of a history with no more changes than the one that was seen, and one of them is of all
module _ (most : ℕ) (I : Situation) (workers : List Worker) (reports : List Report) (h : List Entry) (d : Worker) (e : Report) (are : AreReports workers reports) (tells : ReportsOf most I workers h) where
  -- what worker i reports
  told_by : (i : ℕ) → i < length workers → IsReportOf most I ((get_or workers i d).searcher.number - 1) (length workers) h (get_or reports i e)
  told_by i lt = of_worker workers reports are i d e (IsReportOf most I ((get_or workers i d).searcher.number - 1) (length workers) h) lt (tells.each i d lt)

  -- the worker that saw the whole history reports its changes
  whole_changes : (i : ℕ) × (i < length reports) × ((get_or reports i e).changes ≡ changes h)
  whole_changes =
      let w = tells.whole d in
      let is = of_worker workers reports are w.0 d e (λ r. r ≡ report_at most ((get_or workers w.0 d).searcher.number - 1) (length workers) (opening I) h) w.1 w.2 in
      (w.0, (let len = are.len in let lt = w.1 in omega (arith, len, lt)), ap (λ (x : Report). x.changes) is)

  -- what a worker reports of as many changes as the history has was reported of its shard at the last plan
  reported_at : (i : ℕ) (ended : End) → (lt : i < length workers) → (get_or reports i e).changes ≡ changes h → (get_or reports i e).end ≡ ended → WasReported most I ((get_or workers i d).searcher.number - 1) (length workers) h ended
  reported_at i ended lt same is =
      let told = told_by i lt in
      record {
        saw = told.saw;
        begins = told.begins;
        same = sym (ap (λ (x : Report). x.changes) told.report) ∙ same;
        report = sym (ap (λ (x : Report). x.end) told.report) ∙ is;
      }

  -- a report that none has more changes than has those of the history
  last_changes : (r : Report) (i : ℕ) → (lt : i < length workers) → get_or reports i e ≡ r → All (λ (x : Report). x.changes ≤ r.changes) reports → r.changes ≡ changes h
  last_changes r i lt is last =
      let told = told_by i lt in
      let whole = whole_changes in
      let counted : r.changes ≡ changes told.saw = ap (λ (x : Report). x.changes) (sym is ∙ told.report) in
      let less = fewer_changes told.saw h told.begins in
      let more = last whole.0 e whole.1 in
      omega (arith, counted, less, more, whole.2)

  -- one that reports so of the last plan
  some_reported : (ended : End) → CanAllSearch I workers h → AreAllShards workers → OneReportedLast reports (λ r. r.end ≡ ended) → SomeReported most I (length workers) h ended
  some_reported ended ready shards one =
      let i = one.index in
      let lt : i < length workers = (let len = are.len in let within = one.within in omega (arith, len, within)) in
      let can = ready i d lt in
      let few = can.few in
      let some = can.some in
      let all = shards.shards i d lt in
      let same = one.there e in
      record {
        shard = (get_or workers i d).searcher.number - 1;
        within = omega (arith, few, some, all);
        was = reported_at i ended lt (ap (λ (x : Report). x.changes) same ∙ last_changes one.report i lt same one.last) (ap (λ (x : Report). x.end) same ∙ one.says);
      }

  -- where each reports of one plan that its shard is quiet, each shard was reported to be quiet at the last plan
  all_quiet : (counted : ℕ) → AreAllShards workers → All (λ (r : Report). (r.end ≡ end.Quiet) × (r.changes ≡ counted)) reports → (counted ≡ changes h) × ((s : ℕ) → s < length workers → WasReported most I s (length workers) h end.Quiet)
  all_quiet counted shards each =
      let whole = whole_changes in
      let is : counted ≡ changes h = sym (each whole.0 e whole.1).1 ∙ whole.2 in (
        is,
        λ s lt.
            let at = shards.each s d lt in
            let low = at.1 in
            let own = each at.0 e (let len = are.len in omega (arith, len, low)) in
            let number : (get_or workers at.0 d).searcher.number - 1 ≡ s = (let n = at.2 in omega (arith, n)) in
            subst (λ (k : ℕ). WasReported most I k (length workers) h end.Quiet) number (reported_at at.0 end.Quiet low (own.1 ∙ is) own.0),
      )

-- ---- votes

quiet_vote : (most : ℕ) (I : Situation) (n : ℕ) (h : List Entry) (counted : ℕ) → IsLegal (opening I) h → 0 < n → counted ≡ changes h → ((s : ℕ) → s < n → WasReported most I s n h end.Quiet) → AllWereQuiet most I n h counted
quiet_vote most I n h counted legal some is were =
    let at : (s : ℕ) → s < n → ((state (opening I) h).broken ≡ None) × (first_better (state (opening I) h).inst (state (opening I) h).plan s n ≡ None) = λ s lt. (let w = were s lt in let q = quiet_at most s n (opening I) w.saw w.report in let same = same_state I w.saw h legal w.begins w.same in
    (sym (ap (λ (S : State). S.broken) same) ∙ q.0, sym (ap (λ (S : State). first_better S.inst S.plan s n) same) ∙ q.1)) in
    record {
      counted = is;
      shards = were;
      quiet = shards-quiet n (state (opening I) h) some (at 0 some).0 (λ s lt. (at s lt).1);
    }

spent_vote : (most : ℕ) (I : Situation) (n : ℕ) (h : List Entry) → IsLegal (opening I) h → SomeReported most I n h end.Spent → OneWasSpent most I n h
spent_vote most I n h legal reported =
    let was = reported.was in
    let spent = spent_at most reported.shard n (opening I) was.saw was.report in
    record {
      reported = reported;
      planned = sym (ap (λ (S : State). S.broken) (same_state I was.saw h legal was.begins was.same)) ∙ spent.0;
      spent = same_spent most was.saw h was.begins was.same spent.1;
    }

broken_vote : (most : ℕ) (I : Situation) (n : ℕ) (h : List Entry) (item : Broken) → IsLegal (opening I) h → SomeReported most I n h (end.NoPlan item) → OneHadNoPlan most I n h item
broken_vote most I n h item legal reported =
    let was = reported.was in
    record {
      reported = reported;
      broken = sym (ap (λ (S : State). S.broken) (same_state I was.saw h legal was.begins was.same)) ∙ broken_at most reported.shard n (opening I) was.saw item was.report;
    }

a_report : (reports : List Report) → 0 < length reports → Report
a_report [] lt = absurd (omega arith)
a_report (r ∷ reports) lt = r

pub vote_is : (most : ℕ) (I : Situation) (workers : List Worker) (reports : List Report) (h : List Entry) (d : Worker) (vote : Vote) → IsLegal (opening I) h → 0 < length workers → CanAllSearch I workers h → ReportsOf most I workers h → AreReports workers reports → AreAllShards workers → HasVote reports vote → IsVoteOf most I (length workers) h vote
vote_is most I workers reports h d (Quiet counted) legal some ready tells are shards each =
    let e = a_report reports (let len = are.len in omega (arith, len, some)) in
    let all = all_quiet most I workers reports h d e are tells counted shards each in
    quiet_vote most I (length workers) h counted legal some all.0 all.1
vote_is most I workers reports h d Spent legal some ready tells are shards one =
    let e = a_report reports (let len = are.len in omega (arith, len, some)) in
    spent_vote most I (length workers) h legal (some_reported most I workers reports h d e are tells end.Spent ready shards one)
vote_is most I workers reports h d (NoPlan item) legal some ready tells are shards one =
    let e = a_report reports (let len = are.len in omega (arith, len, some)) in
    broken_vote most I (length workers) h item legal (some_reported most I workers reports h d e are tells (end.NoPlan item) ready shards one)
