-- Summaries: which legs the aircraft fly and what is broken; and how edits change them.
-- A board is a summary and a log. A summary is two tests: whether an aircraft flies a rotation leg, and whether an item is broken; the
-- summary of a plan is a function of the instance and the plan (Meaning). An edit turns one test round at one point, so the
-- same edit takes itself back, and going back is to make the edits of the log once more, the last first. A change of a row
-- is three steps: the leg is taken off its aircraft, put on the other, and judged; each of the first two judges C5 and C6
-- of the leg that stands after it and C8 and C9 of the aircraft (Changes). No plan and no instance is kept.
use Rattle.std.specs.Prelude.{◌≡◌, ℕ, Bool, false, not, ◌&&◌, ◌==◌, if◌then◌else◌, List, [], ◌∷◌, ◌++◌, length, take, drop}
use Rattle.desk_data.specs.declared.broken.Broken.{Broken}
use Rattle.desk_rules.specs.Order.{rule_of, named_by, part_of}
use Rattle.plan_reads.specs.declared.rotation_leg.RotationLeg.{RotationLeg}
use Rattle.board_rot.specs.declared.edit.Edit.{Edit}
use Rattle.board_rot.specs.declared.edit.Edit.TheVariants.{OfLeg, OfItem}

-- whether an aircraft flies a rotation leg, and whether an item is broken
pub record Summary : Type 0 where
  pub rotation_legs : ℕ → RotationLeg → Bool
  pub broken : Broken → Bool

-- whether two rotation legs, and two items, are one
abbrev pub same_rotation_leg : RotationLeg → RotationLeg → Bool
same_rotation_leg s t = (s.dep.0 == t.dep.0) && (s.leg.0 == t.leg.0)

abbrev pub same_item : Broken → Broken → Bool
same_item a b = (rule_of a == rule_of b) && ((named_by a == named_by b) && (part_of a == part_of b))

-- a test that is turned round where another holds
abbrev pub turned : {X : Type 0} → (X → Bool) → (X → Bool) → X → Bool
turned here test x = if here x then not (test x) else test x

-- a summary with an edit made; the same takes it back
abbrev pub edited : Edit → Summary → Summary
edited (OfLeg plane rotation_leg) summary = record { rotation_legs = λ p. turned (λ t. (p == plane.0) && same_rotation_leg t rotation_leg) (summary.rotation_legs p); broken = summary.broken }
edited (OfItem item) summary = record { rotation_legs = summary.rotation_legs; broken = turned (λ other. same_item other item) summary.broken }

-- a summary with edits taken back, the last first
abbrev pub undone : Summary → List Edit → Summary
undone summary [] = summary
undone summary (edit ∷ edits) = edited edit (undone summary edits)

-- a summary for so many aircraft, and the edits that made it
pub record Edited : Type 0 where
  pub summary : Summary
  pub planes : ℕ
  pub edits : List Edit

-- with one edit more, and with all but the first n edits taken back
abbrev pub with_edit : Edit → Edited → Edited
with_edit edit e = record { summary = edited edit e.summary; planes = e.planes; edits = e.edits ++ edit ∷ [] }

abbrev pub back_to : ℕ → Edited → Edited
back_to n e = record { summary = undone e.summary (drop n e.edits); planes = e.planes; edits = take n e.edits }

-- edits led from one summary to another, so that they can be taken back
abbrev pub LedTo : Edited → Edited → Type 0
LedTo old new = back_to (length old.edits) new ≡ old

-- no aircraft flies, and nothing is broken
abbrev pub blank : Summary
blank = record { rotation_legs = λ p t. false; broken = λ item. false }

-- what is broken, with each of some items marked as broken or not
abbrev pub marked : List (Broken × Bool) → (Broken → Bool) → Broken → Bool
marked [] broken = broken
marked (mark ∷ marks) broken = marked marks (λ item. if same_item item mark.0 then mark.1 else broken item)
