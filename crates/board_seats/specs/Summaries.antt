-- Summaries: the passengers aboard each leg, the faults of each reservation, what is broken and who uses which leg; and how edits
-- change them. The summary of a plan is defined in Board. An edit knows what it replaced, so that it can be taken back without the plan;
-- going back takes the edits of the log back, the last first. No plan and no instance is kept.
use Rattle.std.specs.Prelude.{◌≡◌, ℕ, Bool, not, ◌&&◌, ◌==◌, if◌then◌else◌, List, [], ◌∷◌, ◌++◌, length, take, drop}
use Rattle.desk_units.specs.declared.numbers.Seats.{Seats}
use Rattle.desk_data.specs.declared.broken.Broken.{Broken}
use Rattle.desk_rules.specs.Order.{rule_of, named_by, part_of}
use Rattle.board_kit.specs.Users.{without_user}
use Rattle.board_seats.specs.declared.faults.PathFaults.{PathFaults}
use Rattle.board_seats.specs.declared.edit.Edit.{Edit}
use Rattle.board_seats.specs.declared.edit.Edit.TheVariants.{OfSeats, OfFaults, OfItem, OfUser}

-- the seats that passengers take by leg, the faults by reservation, whether an item is broken, and whether a leg may be used by a reservation
pub record Summary : Type 0 where
  pub taken : ℕ → Seats
  pub faults : ℕ → PathFaults
  pub broken : Broken → Bool
  pub users : ℕ → ℕ → Bool

-- whether two items are one
abbrev pub same_item : Broken → Broken → Bool
same_item a b = (rule_of a == rule_of b) && ((named_by a == named_by b) && (part_of a == part_of b))

-- a list by number with another value at n
abbrev pub with_at : {X : Type 0} → ℕ → X → (ℕ → X) → ℕ → X
with_at n x values m = if m == n then x else values m

-- a test that is toggled at an item, and one that gives another answer there
abbrev pub turned_at : Broken → (Broken → Bool) → Broken → Bool
turned_at item broken other = if same_item other item then not (broken other) else broken other

abbrev pub marked_at : Broken → Bool → (Broken → Bool) → Broken → Bool
marked_at item is_broken broken other = if same_item other item then is_broken else broken other

-- what is broken, with each of some items marked as broken or not
abbrev pub marked : List (Broken × Bool) → (Broken → Bool) → Broken → Bool
marked [] broken = broken
marked (mark ∷ marks) broken = marked marks (marked_at mark.0 mark.1 broken)

-- a summary with an edit taken back
abbrev pub edit_undone : Edit → Summary → Summary
edit_undone (OfSeats leg seats) s = record s { taken = with_at leg.0 seats s.taken }
edit_undone (OfFaults res faults) s = record s { faults = with_at res.0 faults s.faults }
edit_undone (OfItem item) s = record s { broken = turned_at item s.broken }
edit_undone (OfUser leg res) s = record s { users = without_user leg.0 res.0 s.users }

-- a summary with edits taken back, the last first
abbrev pub undone : Summary → List Edit → Summary
undone summary [] = summary
undone summary (edit ∷ edits) = edit_undone edit (undone summary edits)

-- a summary for so many legs and reservations, and the edits that made it
pub record Edited : Type 0 where
  pub summary : Summary
  pub legs : ℕ
  pub reservations : ℕ
  pub edits : List Edit

-- another summary by one edit more
abbrev pub with_edit : Edit → Summary → Edited → Edited
with_edit edit summary e = record e { summary = summary; edits = e.edits ++ edit ∷ [] }

-- with all but the first n edits taken back
abbrev pub back_to : ℕ → Edited → Edited
back_to n e = record e { summary = undone e.summary (drop n e.edits); edits = take n e.edits }

-- edits led from one summary to another, so that they can be taken back
abbrev pub LedTo : Edited → Edited → Type 0
LedTo old new = back_to (length old.edits) new ≡ old
