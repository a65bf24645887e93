-- What holds of the rows of a journal, as their readers give them.
use Rattle.std.specs.Prelude.{◌<◌, ◌≤◌, List, length, All, IfSome, ⊤}
use Rattle.desk_units.specs.declared.numbers.Cabin.{Cabin}
use Rattle.file_rows.specs.Seen.{IsSeen}
use Rattle.desk_journal.specs.declared.rows.NamedLeg.{NamedLeg}
use Rattle.desk_journal.specs.declared.rows.NamedPath.{NamedPath}
use Rattle.desk_journal.specs.declared.rows.NamedRow.{NamedRow}
use Rattle.desk_journal.specs.declared.rows.NamedRow.TheVariants.{Flown, Cancelled}
use Rattle.desk_journal.specs.declared.rows.NamedStep.{NamedStep}
use Rattle.desk_journal.specs.declared.rows.NamedStep.TheVariants.{Set, Push, Swap, Rebook, Tidy, Refill}
use Rattle.desk_journal.specs.declared.rows.NamedEvent.{NamedEvent}
use Rattle.desk_journal.specs.declared.rows.NamedEvent.TheVariants.{Batch, Move}
use Rattle.desk_journal.specs.declared.rows.JournalRow.{JournalRow}

-- a leg's flight can be seen, and its day is of the years 2000 to 2099
pub record IsNamedLeg (leg : NamedLeg) : Type 0 where
  pub flight : IsSeen leg.flight
  pub day : leg.day < 36525

-- a flown row's aircraft can be seen, and it departs in the years 2000 to 2099
abbrev pub IsNamedRow : NamedRow → Type 0
IsNamedRow (Flown plane dep) = IsSeen plane × (dep.0 < 52596000)
IsNamedRow Cancelled = ⊤

-- a path has at most 8 legs
pub record IsNamedPath (path : NamedPath) : Type 0 where
  pub few : length path.legs ≤ 8
  pub each : All (λ (seat : NamedLeg × Cabin). IsNamedLeg seat.0) path.legs

-- a step's names can be seen, and its numbers are in their ranges; a count is 1 to 1,000
abbrev pub IsNamedStep : NamedStep → Type 0
IsNamedStep (Set leg was new) = IsNamedLeg leg × IsNamedRow was × IsNamedRow new
IsNamedStep (Push plane after) = IsSeen plane × IfSome after IsNamedLeg
IsNamedStep (Swap first second at) = IsSeen first × IsSeen second × (at.0 < 52596000)
IsNamedStep (Rebook res path to count) = IsSeen res.name × IsNamedPath path × IsNamedPath to × (1 ≤ count) × (count ≤ 1000)
IsNamedStep Tidy = ⊤
IsNamedStep (Refill leg) = IsNamedLeg leg

-- a batch's number is 0 to 1,000; each step of a move is one that a reader gives
abbrev pub IsNamedEvent : NamedEvent → Type 0
IsNamedEvent (Batch number) = number ≤ 1000
IsNamedEvent (Move steps) = All IsNamedStep steps

-- a row has a caller that there may be
pub record IsJournalRow (row : JournalRow) : Type 0 where
  pub caller : row.caller ≤ 64
  pub event : IsNamedEvent row.event

-- each row is one that a reader gives
abbrev pub AreRows : List JournalRow → Type 0
AreRows rows = All IsJournalRow rows
