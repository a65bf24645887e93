-- What the board of the slots is seen as, and of which plan it is the board.
use Rattle.std.specs.Prelude.{◌≡◌, ◌+◌, ◌*◌, ◌≤◌, List, [], ◌∷◌, length}
use Rattle.desk_data.specs.Situation.{Situation, legs_of}
use Rattle.desk_data.specs.PlanRows.{PlanRows}
use Rattle.desk_data.specs.declared.broken.Broken.{Broken}
use Rattle.kept_set.specs.Kept.{OrderedItems}
use Rattle.board_kit.specs.declared.slot.By.{By}
use Rattle.hour_counts.specs.declared.slot.Slot.{Slot}
use Rattle.board_kit.specs.declared.slot.SlotLoad.{SlotLoad}
use Rattle.board_kit.specs.declared.slot.SlotChange.{SlotChange}
use Rattle.board_kit.specs.Slots.{LoadRows, AreCounted, AreKnown, among, taken}

-- how many legs take each slot, and the changes since the past was empty, the last first
pub record Board : Type 0 where
  pub loads : LoadRows
  pub past : List SlotChange

-- each change of the past can be taken back within the room: it makes at most four slots overfull
pub record HasRoom (over : OrderedItems Broken) (past : List SlotChange) : Type 0 where
  pub room : length over.items + 4 * length past ≤ over.room
  pub few : length past ≤ 2000000000

-- a change made plan P of plan Q: some slots are taken by a leg more, others by a leg less, all of them known
pub record IsChange (I : Situation) (loads : List (Slot × SlotLoad)) (P Q : PlanRows) (change : SlotChange) : Type 0 where
  pub counts : (by : By) (s : Slot) → taken I Q by s + among by change.come s ≡ taken I P by s + among by change.gone s
  pub gone : AreKnown loads change.gone
  pub come : AreKnown loads change.come

-- changes, the last first, made plan P of the plans before them, the last first
abbrev pub AreChanges : Situation → List (Slot × SlotLoad) → PlanRows → List PlanRows → List SlotChange → Type 0
AreChanges I loads P [] [] = Unit {0}
AreChanges I loads P [] (change ∷ changes) = ⊥
AreChanges I loads P (Q ∷ Qs) [] = ⊥
AreChanges I loads P (Q ∷ Qs) (change ∷ changes) = IsChange I loads P Q change × AreChanges I loads Q Qs changes

-- the board is that of the day and of plan P, and its past the plans Ps, the last first
pub record IsBoardOf (I : Situation) (P : PlanRows) (Ps : List PlanRows) (board : Board) : Type 0 where
  pub few : legs_of I ≤ 20000
  pub depth : length board.past ≡ length Ps
  pub loads : AreCounted I (taken I P) board.loads.loads
  pub past : AreChanges I board.loads.loads P Ps board.past
