-- What workers add to a history side by side, and what comes back.
use Rattle.std.specs.Prelude.{◌≡◌, ◌≢◌, ◌⊎◌, ℕ, ◌-◌, ◌<◌, ◌≤◌, true, false, List, ◌++◌, length, map, drop, slice_get, slice_index_or, Some, IfSome}
use mathlib.Core.List.{IsPrefix}
use Rattle.desk_data.specs.Situation.{Situation}
use Rattle.desk_model.specs.declared.answer.Entry.{Entry}
use Rattle.desk_model.specs.States.{opening}
use Rattle.turn_book.specs.Names.{Name, knows}
use Rattle.turn_book.specs.Places.{has}
use Rattle.desk_teams.specs.declared.trail.Trail.{Trail}
use Rattle.desk_teams.specs.Trails.{IsInBudget}
use Rattle.desk_teams.specs.declared.report.End.TheVariants.{Answered}
use Rattle.desk_teams.specs.declared.report.Report.{Report}
use Rattle.desk_pool.specs.declared.worker.Worker.{Worker}
use Rattle.desk_pool.specs.Reports.{report_at}
use Rattle.desk_pool.specs.Rounds.{Knows, IsSameShard, place_of}
use Rattle.desk_pool.specs.Workers.{trail_of}

-- the items of a worker's trail that are new, and their places
abbrev pub new_items : Worker → Worker → List Trail
new_items old new = drop (length (trail_of old)) (trail_of new)

abbrev pub new_places : Worker → Worker → List ℕ
new_places old new = map place_of (new_items old new)

-- a worker of the same shard, whose trail is the old one followed by new items, each found at a history of at least this length, and within the budget
pub record GoesOn (most low : ℕ) (h : List Entry) (old new : Worker) : Type 0 where
  pub same : IsSameShard old.searcher new.searcher
  pub trail : trail_of new ≡ trail_of old ++ new_items old new
  pub since : (i : ℕ) (t : Trail) → slice_get (new_items old new) i ≡ Some t → low ≤ t.saw
  pub in_budget : (i : ℕ) (t : Trail) → slice_get (new_items old new) i ≡ Some t → IsInBudget most h t

-- a worker has a new item at the place
abbrev pub SomeNew : List Worker → List Worker → ℕ → Type 0
SomeNew workers_before workers_after k = (i : ℕ) × (d : Worker) × (i < length workers_before) × (has k (new_places (slice_index_or workers_before i d) (slice_index_or workers_after i d)) ≡ true)

-- each worker goes on, and the places made since are exactly those of the new items, each of one worker alone
pub record HasGained (most low : ℕ) (v w : Knows) (workers_before workers_after : List Worker) : Type 0 where
  pub began : IsPrefix v.seen w.seen
  pub workers : length workers_after ≡ length workers_before
  pub trails : (i : ℕ) (d : Worker) → i < length workers_before → GoesOn most low w.seen (slice_index_or workers_before i d) (slice_index_or workers_after i d)
  pub made_only : (k : ℕ) → has k w.made ≡ true → (has k v.made ≡ true) ⊎ SomeNew workers_before workers_after k
  pub made_before : (k : ℕ) → has k v.made ≡ true → has k w.made ≡ true
  pub made_since : (k : ℕ) → SomeNew workers_before workers_after k → (has k w.made ≡ true) × (has k v.made ≡ false)
  pub apart : (i j : ℕ) (d : Worker) (k : ℕ) → i ≢ j → i < length workers_before → j < length workers_before
      → has k (new_places (slice_index_or workers_before i d) (slice_index_or workers_after i d)) ≡ true → has k (new_places (slice_index_or workers_before j d) (slice_index_or workers_after j d)) ≡ false

-- all passes that were split were joined again
pub record IsReturned (v w : Knows) : Type 0 where
  pub name : w.tags.name ≡ v.tags.name
  pub out : (m : Name) → knows m w.tags.out ≡ true → knows m v.tags.out ≡ true

-- a report is that of a round that saw a beginning of this history and ended without a proposal
pub record IsReportOf (most : ℕ) (I : Situation) (s n : ℕ) (h : List Entry) (r : Report) : Type 0 where
  pub saw : List Entry
  pub begins : IsPrefix saw h
  pub report : r ≡ report_at most s n (opening I) saw
  pub rests : r.end ≢ Answered

-- the report of each worker, if it has one, is such a report, and one of them saw the whole history
pub record ReportsOf (most : ℕ) (I : Situation) (workers : List Worker) (h : List Entry) : Type 0 where
  pub each : (i : ℕ) (d : Worker) → i < length workers → IfSome (slice_index_or workers i d).report (IsReportOf most I ((slice_index_or workers i d).searcher.number - 1) (length workers) h)
  pub whole : (d : Worker) → (i : ℕ) × (i < length workers) × IfSome (slice_index_or workers i d).report (λ r. r ≡ report_at most ((slice_index_or workers i d).searcher.number - 1) (length workers) (opening I) h)
