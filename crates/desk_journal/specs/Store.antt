-- What a file holds of a journal.
use Rattle.std.specs.Prelude.{◌≡◌, ℕ, ◌≤◌, List, [], length, take}
use Rattle.day_orders.specs.declared.orders.Batch.{Batch}
use Rattle.desk_data.specs.Situation.{Situation}
use Rattle.desk_model.specs.declared.answer.Entry.{Entry}
use Rattle.desk_model.specs.declared.answer.Event.{Event}
use Rattle.desk_disk.specs.Records.{AreAccepted, Opens}
use Rattle.desk_journal.specs.Payloads.{asked_in, with_room, payloads_of, MayStand}

-- the file holds these events: it opens so, and each may stand there
pub record Holds (I : Situation) (batches : List Batch) (events : List (ℕ × Event)) (c : List ℕ) : Type 0 where
  pub place : ℕ
  pub opens : Opens (payloads_of events) place c
  pub each : AreAccepted (MayStand I batches) [] (payloads_of events)

-- the file opens as the first entries of a history, at least n of them: that is what its events are read into
pub record HoldsFirst (I : Situation) (batches : List Batch) (h : List Entry) (n : ℕ) (c : List ℕ) : Type 0 where
  pub events : List (ℕ × Event)
  pub holds : Holds I batches events c
  pub count : ℕ
  pub first : with_room events ≡ take count (asked_in h)
  pub least : n ≤ count
  pub most : count ≤ length h
