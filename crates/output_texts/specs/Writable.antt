-- What can be reported of an instance: whatever is named is in range.
use Rattle.std.specs.Prelude.{◌<◌, All}
use Rattle.desk_data.specs.declared.broken.Broken.{Broken}
use Rattle.desk_data.specs.declared.broken.Broken.TheVariants.{C1, C2, C3, C4, C5, C6, C7, C8, C9, C10, C11, C12, C13, C14, C15}
use Rattle.desk_data.specs.Situation.{Situation, legs_of, planes_of, airports_of, reservations_of}
use Rattle.desk_model.specs.declared.answer.Answer.{Answer}
use Rattle.desk_model.specs.declared.answer.Answer.TheVariants.{Breaks, NoPlan}
use Rattle.desk_model.specs.declared.answer.Event.{Event}
use Rattle.desk_model.specs.declared.answer.Event.TheVariants as event
use Rattle.desk_model.specs.declared.answer.Entry.{Entry}
use Rattle.plan_moves.specs.Fits.{StepFits}

-- the item names a leg, an aircraft, an airport or a reservation that there is, and an hour within the hundred years from 2000
abbrev pub Names : Situation → Broken → Type 0
Names I (C1 leg) = leg.0 < legs_of I
Names I (C2 leg) = leg.0 < legs_of I
Names I (C3 leg) = leg.0 < legs_of I
Names I (C4 leg) = leg.0 < legs_of I
Names I (C5 leg) = leg.0 < legs_of I
Names I (C6 leg) = leg.0 < legs_of I
Names I (C7 leg) = leg.0 < legs_of I
Names I (C8 plane) = plane.0 < planes_of I
Names I (C9 plane) = plane.0 < planes_of I
Names I (C10 airport hour) = (airport.0 < airports_of I) × (hour < 876600)
Names I (C11 airport hour) = (airport.0 < airports_of I) × (hour < 876600)
Names I (C12 leg cabin) = leg.0 < legs_of I
Names I (C13 res) = res.0 < reservations_of I
Names I (C14 res) = res.0 < reservations_of I
Names I (C15 res) = res.0 < reservations_of I

-- the item of an answer, where it has one, names what there is
abbrev pub AnswerNames : Situation → Answer → Type 0
AnswerNames I (Breaks item) = Names I item
AnswerNames I (NoPlan item) = Names I item
AnswerNames I other = Unit {0}

-- each step of a move has numbers in range; of a batch its number alone is reported
abbrev pub EventNames : Situation → Event → Type 0
EventNames I (event.Batch B) = Unit {0}
EventNames I (event.Move m) = All (StepFits I) m.steps

-- the event and the answer name what there is
pub record CanBeWritten (I : Situation) (entry : Entry) : Type 0 where
  pub event : EventNames I entry.event
  pub answer : AnswerNames I entry.answer
