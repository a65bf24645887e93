-- What is noted of units of legs.
use Rattle.std.specs.Prelude.{◌≡◌, ℕ, ◌≤◌, Bool, true, ◌&&◌, ◌⊎◌, nat_lt, List, All, length, replicate, Option, Some, None, slice_index_or}
use Rattle.std.specs.Option.{ForSome}
use Rattle.desk_data.specs.Situation.{Situation, legs_of, planes_of}
use Rattle.desk_data.specs.PlanRows.{PlanRows, row_at}
use Rattle.desk_data.specs.Valid.{IsPlanFor}
use Rattle.plan_moves.specs.declared.moves.Move.{Move}
use Rattle.plan_moves.specs.Fits.{Fits}
use Rattle.desk_rules.specs.Least.{least}
use Rattle.near_moves.specs.Descent.{first_better}
use Rattle.near_moves.specs.MoveParts.{flier}
use Rattle.near_moves.specs.Near.{unit_moves}
use Rattle.near_moves.specs.Units.{MoveUnit}
use Rattle.near_legs.specs.Choices.{IsLegUnit, unit_of}
use Rattle.near_legs.specs.declared.unit.LegUnit.{LegUnit}
use Rattle.near_legs.specs.declared.unit.LegUnit.TheVariants.{Retimed, Swapped, Dropped, Restored, Handed}
use Rattle.near_moves.specs.Steps.{unit_planes}
use Rattle.near_moves.specs.Own.{BreaksOwn}
use Rattle.near_moves.specs.Out.{SwapsInVain, RestoresInVain, HandsInVain, IsOut}
use Rattle.near_notes.specs.Rows.{number_at}
use Rattle.near_notes.specs.Places.{number_of}
use Rattle.near_notes.specs.declared.findings.Findings.{Findings}
use Rattle.near_notes.specs.declared.notes.UnitNotes.{UnitNotes}
use Rattle.near_notes.specs.declared.place.Place.{Place}

-- a unit is out: each of its moves fits, and it is known why it is not better
pub record IsUnitOut (I : Situation) (P : PlanRows) (u : MoveUnit) : Type 0 where
  pub fits : All (Fits I) (unit_moves I P u)
  pub out : All (IsOut I P u) (unit_moves I P u)

-- a move of a unit is not better by rows alone, whoever is on board of the legs and whatever they pay
pub data IsOutByRows (I : Situation) (P : PlanRows) (u : MoveUnit) (m : Move) : Type 0 where
  -- it breaks C2 or C4 to C7 of a leg of the unit's aircraft
  breaks_rule : BreaksOwn (unit_planes P u) I P m → IsOutByRows I P u m
  -- it gives legs in vain, as the aircraft stand
  swaps_in_vain : SwapsInVain I P u m → IsOutByRows I P u m
  restores_in_vain : RestoresInVain I P u m → IsOutByRows I P u m
  hands_in_vain : HandsInVain I P u → IsOutByRows I P u m

-- a unit is out by rows alone
pub record IsUnitOutByRows (I : Situation) (P : PlanRows) (u : MoveUnit) : Type 0 where
  pub fits : All (Fits I) (unit_moves I P u)
  pub out : All (IsOutByRows I P u) (unit_moves I P u)

-- ---- findings

-- whether the last search after which number k was touched, an aircraft or a leg, came before search n; it is 0 where it never was
abbrev pub is_before : List ℕ → ℕ → ℕ → Bool
is_before touched k n = nat_lt (slice_index_or touched k 0) n

-- whether all that a unit hangs on was last touched before search n: a unit that refills legs hangs on more of its aircraft than one that refills none
abbrev pub is_untouched_since : PlanRows → List ℕ → List ℕ → List ℕ → LegUnit → ℕ → Bool
is_untouched_since P planes flown again (Retimed leg) n = is_before planes (flier (row_at P leg.0)) n
is_untouched_since P planes flown again (Swapped first second) n = is_before flown first.0 n && is_before flown second.0 n
is_untouched_since P planes flown again (Dropped leg) n = is_before flown (flier (row_at P leg.0)) n
is_untouched_since P planes flown again (Restored leg plane) n = is_before planes plane.0 n && is_before again leg.0 n
is_untouched_since P planes flown again (Handed leg count plane) n = is_before flown (flier (row_at P leg.0)) n && is_before flown plane.0 n

-- whether a unit was found after all that
abbrev pub is_noted : PlanRows → Findings → LegUnit → Bool
is_noted P findings u = is_untouched_since P findings.planes.items findings.flown.items findings.again.items u (number_of findings.found u)

-- nothing was found or touched
pub record AreNone (I : Situation) (findings : Findings) : Type 0 where
  pub planes : findings.planes.items ≡ replicate (planes_of I) 0
  pub flown : findings.flown.items ≡ replicate (planes_of I) 0
  pub again : findings.again.items ≡ replicate (legs_of I) 0
  pub found : (row column : ℕ) → number_at findings.found row column ≡ 0

-- findings are true of plan P: no unit was found by a later search than this one, and what is found of each unit that is noted is known of it
pub record AreFindings (I : Situation) (P : PlanRows) (search : ℕ) (IsKnown : MoveUnit → Type 0) (findings : Findings) : Type 0 where
  pub planes : length findings.planes.items ≡ planes_of I
  pub flown : length findings.flown.items ≡ planes_of I
  pub again : length findings.again.items ≡ legs_of I
  pub latest : (row column : ℕ) → number_at findings.found row column ≤ search
  pub known : (u : LegUnit) → IsLegUnit I P u → is_noted P findings u ≡ true → IsKnown (unit_of u)

-- the number of a search may stand at a place; all else stays
pub record IsNotedAt (old new : Findings) (there : Place) (search : ℕ) : Type 0 where
  pub planes : new.planes.items ≡ old.planes.items
  pub flown : new.flown.items ≡ old.flown.items
  pub again : new.again.items ≡ old.again.items
  pub found : (row column : ℕ) → (number_at new.found row column ≡ number_at old.found row column) ⊎ ((row ≡ there.row) × (column ≡ there.column) × (number_at new.found row column ≡ search))

-- ---- notes

-- notes are true of the day: their plan is a feasible plan for it; each unit that is noted is out, and by rows alone where it is noted so; and of the shard that is
-- noted, if one is, no move is better
pub record AreUnitNotes (I : Situation) (notes : UnitNotes) : Type 0 where
  pub valid : IsPlanFor I notes.plan
  pub feasible : least I notes.plan ≡ None
  pub out : AreFindings I notes.plan notes.search (IsUnitOut I notes.plan) notes.out
  pub by_rows : AreFindings I notes.plan notes.search (IsUnitOutByRows I notes.plan) notes.by_rows
  pub quiet : ForSome notes.quiet (λ shard. first_better I notes.plan shard.number shard.count ≡ None)

-- if there are any
abbrev pub AreUnitNotesIfAny : Situation → Option UnitNotes → Type 0
AreUnitNotesIfAny I None = Unit {0}
AreUnitNotesIfAny I (Some notes) = AreUnitNotes I notes

-- they are of plan P
pub record AreUnitNotesAt (I : Situation) (P : PlanRows) (given : UnitNotes) : Type 0 where
  pub notes : AreUnitNotes I given
  pub plan : given.plan ≡ P
