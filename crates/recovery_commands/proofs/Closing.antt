-- The turn is closed.
use Rattle.std.proofs.Common.{◌≡◌, ◌≢◌, ℕ, zero, suc, ◌+◌, ◌-◌, ◌<◌, ◌≤◌, ◌==◌, Bool, true, false, List, [], length, refl, sym, ap, ◌∙◌, subst, arith}
use Rattle.std.specs.Prelude.{Option, Some, None, IsSome}
use Rattle.std.proofs.lemmas.Bool.Decides.{nat_tests}
use mathlib.Core.Logic.{dite}
use native.Mathlib.Decide.{ℕ_discrete}
use Rattle.turn_book.specs.Names.{knows}
use Rattle.turn_book.specs.Places.{has}
use Rattle.turn_book.specs.Histories.{places_from}
use Rattle.turn_book.proofs.Bools.{off, or_left, or_right}
use Rattle.turn_book.proofs.SplitLaws.{none_out}
use Rattle.day_orders.specs.declared.orders.Batch.{Batch}
use Rattle.desk_data.specs.Situation.{Situation}
use Rattle.desk_data.specs.declared.broken.Broken.{Broken}
use Rattle.desk_model.specs.declared.answer.Entry.{Entry}
use Rattle.desk_model.specs.States.{opening}
use Rattle.desk_model.specs.Histories.{IsLegal, state}
use Rattle.desk_core.specs.Recorded.{Recorded}
use Rattle.desk_teams.proofs.RoomLaws.{few-entries}
use Rattle.desk_teams.specs.declared.report.Vote.{Vote}
use Rattle.desk_teams.specs.declared.report.Vote.TheVariants.{Quiet, Spent, NoPlan}
use Rattle.desk_pool.specs.Rounds.{Knows}
use Rattle.desk_pool.specs.Laps.{IsReturned}
use Rattle.desk_pool.specs.Voted.{IsVoteOf}
use Rattle.near_moves.specs.declared.ended.SearchEnd.{SearchEnd}
use Rattle.desk_model.specs.declared.view.View.{View}
use Rattle.desk_model.specs.Views.{AreSeen}
use Rattle.desk_tasks.specs.Team.{IsTeamEnd, IsTeamWork, IsWatched}
use Rattle.recovery_commands.specs.declared.searched.Searched.TheVariants as searched
use Rattle.recovery_commands.specs.declared.team.Team.{Team}
use Rattle.recovery_commands.specs.Running.{HasMadeAll, IsTeamRun}
use Rattle.recovery_commands.specs.Closing.{end_of, team_of, IsTeamBook}

-- ---- each entry was made by a call

has_places : (n a k : ℕ) → a ≤ k → k < a + n → has k (places_from a n) ≡ true
has_places zero a k low high = absurd (omega (arith, low, high))
has_places (suc n) a k low high = dite (ℕ_discrete k a)
    (λ (e : k ≡ a). or_left (k == a) (has k (places_from (suc a) n)) (grind (arith, nat_tests)))
    (λ (ne : k ≢ a). or_right (k == a) (has k (places_from (suc a) n)) (has_places n (suc a) k (omega (arith, ne, low)) (omega (arith, high))))

pub made_all : (v : Knows) (n : ℕ) → n ≡ 0 → v.made ≡ places_from n (length v.seen - n) → HasMadeAll v
made_all v n none is k lt =
    let made : v.made ≡ places_from 0 (length v.seen - 0) = subst (λ (m : ℕ). v.made ≡ places_from m (length v.seen - m)) none is in
    ap (has k) made ∙ has_places (length v.seen - 0) 0 k (omega arith) (omega (arith, lt))

-- nothing is out
pub all_in : (v w : Knows) → v.tags.out ≡ [] → IsReturned v w → w.tags.out ≡ []
all_in v w out back = none_out w.tags.out (λ m known. off (ap (knows m) (sym out) ∙ back.out m known))

-- ---- what is reported of the end

planned_some : (o : Option Broken) → o ≡ None → IsSome o → ⊥
planned_some None e some = off some
planned_some (Some item) e some = absurd cc

pub team_end : (most : ℕ) (I : Situation) (n : ℕ) (h : List Entry) (vote : Vote) → IsVoteOf most I n h vote → IsTeamEnd I most h (end_of vote)
team_end most I n h (Quiet c) voted = record {
  budget = λ e. absurd cc;
  quiet = λ e. voted.quiet;
  unplanned = (λ e. absurd cc, λ some. absurd (planned_some (state (opening I) h).broken voted.quiet.planned some));
}
team_end most I n h Spent voted = record {
  budget = λ e. (voted.planned, voted.spent);
  quiet = λ e. absurd cc;
  unplanned = (λ e. absurd cc, λ some. absurd (planned_some (state (opening I) h).broken voted.planned some));
}
team_end most I n h (NoPlan item) voted = record {
  budget = λ e. absurd cc;
  quiet = λ e. absurd cc;
  unplanned = (λ e. subst IsSome (sym voted.broken) refl, λ some. refl);
}

-- ---- the book

pub team_book : (I : Situation) (batches : List Batch) (team : Team) (v : Knows) (B : Recorded) (vote : Vote) → B.opening ≡ I → B.journal ≡ v.seen → IsLegal (opening B.opening) B.journal → HasMadeAll v → IsTeamRun team.workers team.moves team.live I batches v (searched.Voted vote)
    → IsTeamBook I batches team B (end_of vote)
team_book I batches team v B vote same seen legal all run =
    let came = run.voted vote refl in
    let legal_there : IsLegal (opening I) B.journal = subst (λ (J : Situation). IsLegal (opening J) B.journal) same legal in
    record {
      same = same;
      legal = legal_there;
      teamwork = subst (λ (h : List Entry). Rattle.desk_teams.specs.Teams.IsTeamwork team.workers team.moves team.live (opening I) batches h) (sym seen) (came.0 all);
      ended = subst (λ (h : List Entry). IsTeamEnd I team.moves h (end_of vote)) (sym seen) (team_end team.moves I team.workers v.seen vote came.1);
    }

-- with what was seen meanwhile it is the work of the team
pub team_work : (I : Situation) (batches : List Batch) (team : Team) (B : Recorded) (reported : Option SearchEnd) (seen : List View) → IsTeamBook I batches team B reported → IsWatched team.watch I B.journal seen → IsTeamWork (team_of I batches team) (record { history = B.journal; ended = reported; seen = seen })
team_work I batches team B reported seen book watched = record {
  legal = book.legal;
  teamwork = book.teamwork;
  ended = book.ended;
  seen = watched;
}

-- where nobody watches nothing is seen, and where one does what may be
pub unwatched_nothing : (watch : Bool) (I : Situation) (h : List Entry) → watch ≡ false → IsWatched watch I h []
unwatched_nothing false I h is = refl
unwatched_nothing true I h is = absurd cc

pub watched_seen : (watch : Bool) (I : Situation) (h : List Entry) (seen : List View) → watch ≡ true → AreSeen (opening I) h seen → IsWatched watch I h seen
watched_seen true I h seen is are = are
watched_seen false I h seen is are = absurd cc

-- the journal is never full
pub never_full : (n most : ℕ) (live : Bool) (I : Situation) (batches : List Batch) (v : Knows) → length batches ≤ 1001 → IsLegal (opening I) v.seen → HasMadeAll v → IsTeamRun n most live I batches v searched.Full → ⊥
never_full n most live I batches v few legal all run =
    let came = run.full refl in
    let count = came.0 all in
    let long = came.1 in
    let short = few-entries (opening I) v.seen legal in
    omega (arith, count, long, short, few)

-- ---- from what the closed turn says

pub closed_full : (n most : ℕ) (live : Bool) (I J : Situation) (batches : List Batch) (v : Knows) (h : List Entry) (first : ℕ) → length batches ≤ 1001 → h ≡ v.seen → J ≡ I → IsLegal (opening J) h → first ≡ 0 → v.made ≡ places_from first (length v.seen - first) → IsTeamRun n most live I batches v searched.Full → ⊥
closed_full n most live I J batches v h first few seen same legal none made run =
    let there : IsLegal (opening I) h = subst (λ (K : Situation). IsLegal (opening K) h) same legal in
    never_full n most live I batches v few (subst (IsLegal (opening I)) seen there) (made_all v first none made) run

pub closed_book : (n : ℕ) (I D : Situation) (batches : List Batch) (team : Team) (v : Knows) (B : Recorded) (first : ℕ) (vote : Vote) → D ≡ I → n ≡ team.workers → B.opening ≡ D → B.journal ≡ v.seen → IsLegal (opening B.opening) B.journal → first ≡ 0 → v.made ≡ places_from first (length v.seen - first)
    → IsTeamRun n team.moves team.live D batches v (searched.Voted vote) → IsTeamBook I batches team B (end_of vote)
closed_book n I D batches team v B first vote same size opened seen legal none made run =
    let here : IsTeamRun n team.moves team.live I batches v (searched.Voted vote) = subst (λ (K : Situation). IsTeamRun n team.moves team.live K batches v (searched.Voted vote)) same run in
    team_book I batches team v B vote (opened ∙ same) seen legal (made_all v first none made) (subst (λ (m : ℕ). IsTeamRun m team.moves team.live I batches v (searched.Voted vote)) size here)

pub ended_so : (a b : Vote) → searched.Voted a ≡ searched.Voted b → end_of a ≡ end_of b
ended_so a b e = (let same : a ≡ b = cc e in ap end_of same)
