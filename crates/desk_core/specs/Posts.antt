-- What is said of the desk's board.
use Rattle.std.specs.Prelude.{◌≡◌, List, Some}
use mathlib.Core.List.{IsPrefix}
use Rattle.desk_model.specs.declared.answer.Entry.{Entry}
use Rattle.desk_core.specs.Recorded.{Recorded}
use Rattle.live_board.specs.declared.told.Told.{Told}
use Rattle.live_board.specs.Histories.{history, origin}
use Rattle.desk_core.specs.declared.posted.Posted.{Posted}

-- what was told by the time that something was posted
abbrev pub posted : Posted → List (Told Recorded Entry)
posted p = p.0.seen.log

-- a board that was opened on this book has told a beginning of this history
abbrev pub HasTold : Recorded → List Entry → List (Told Recorded Entry) → Type 0
HasTold B h log = (origin log ≡ Some B) × IsPrefix (history log) h
