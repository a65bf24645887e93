-- The lines of a journal.
use Rattle.std.specs.Prelude.{List, ℕ, ◌++◌, Option, Some, None, codes, count_by, decimal, take}
use Rattle.std.specs.List.{enumerate_from, flat_map, join_by}
use Rattle.desk_units.specs.declared.numbers.Leg.{Leg}
use Rattle.plan_moves.specs.declared.moves.Step.{Step}
use Rattle.plan_moves.specs.declared.moves.Step.TheVariants.{Set, Push, Swap, Rebook, Tidy, Refill}
use Rattle.plan_moves.specs.declared.moves.Move.{Move}
use Rattle.desk_data.specs.Situation.{Situation, plane_at}
use Rattle.desk_model.specs.declared.fallbacks.Which.{Which}
use Rattle.desk_model.specs.declared.fallbacks.Which.TheVariants.{Keep, Shift, Ground}
use Rattle.desk_model.specs.declared.answer.Answer.{Answer}
use Rattle.desk_model.specs.declared.answer.Answer.TheVariants.{Taken, Accepted, Breaks, Dearer, NoPlan, Full}
use Rattle.desk_model.specs.declared.answer.Event.{Event}
use Rattle.desk_model.specs.declared.answer.Event.TheVariants as event
use Rattle.desk_model.specs.declared.answer.Entry.{Entry}
use Rattle.desk_model.specs.Histories.{is_batch}
use Rattle.desk_text.specs.Texts.{moment_text}
use Rattle.output_texts.specs.Items.{leg_text, row_text, reservation_text, path_text, broken_text}
use Rattle.output_texts.specs.Quoting.{quoted}

-- which legs are pushed: all, or those after FLIGHT DATE
abbrev pub after_text : Situation → Option Leg → List ℕ
after_text I None = codes "all"
after_text I (Some leg) = codes "after " ++ leg_text I leg.0

-- set FLIGHT DATE WAS NEW, push AIRCRAFT WHICH, swap AIRCRAFT AIRCRAFT DATE TIME, rebook RESERVATION TYPE COUNT PATH PATH, tidy, refill FLIGHT DATE
unfoldable pub step_text : Situation → Step → List ℕ
step_text I (Set leg was new) = codes "set " ++ leg_text I leg.0 ++ codes " " ++ row_text I was ++ codes " " ++ row_text I new
step_text I (Push plane after) = codes "push " ++ (plane_at I plane.0).name ++ codes " " ++ after_text I after
step_text I (Swap first second at) = codes "swap " ++ (plane_at I first.0).name ++ codes " " ++ (plane_at I second.0).name ++ codes " " ++ moment_text at.0
step_text I (Rebook res path to count) = codes "rebook " ++ reservation_text I res.0 ++ codes " " ++ decimal count ++ codes " " ++ path_text I path ++ codes " " ++ path_text I to
step_text I Tidy = codes "tidy"
step_text I (Refill leg) = codes "refill " ++ leg_text I leg.0

-- the steps, joined by one space
unfoldable pub move_text : Situation → Move → List ℕ
move_text I m = join_by (step_text I) (codes " ") m.steps

-- the word for the kind of an event
unfoldable pub kind_text : Event → List ℕ
kind_text (event.Batch B) = codes "batch"
kind_text (event.Move m) = codes "move"

-- what an event says: the number of a batch, or the steps of a move
unfoldable pub detail_text : Situation → ℕ → Event → List ℕ
detail_text I number (event.Batch B) = decimal number
detail_text I number (event.Move m) = move_text I m

-- what the desk falls back on
unfoldable pub which_text : Which → List ℕ
which_text Keep = codes "keep "
which_text Shift = codes "shift "
which_text Ground = codes "ground "

-- an answer; costs are in grains. A full journal takes no entry, so that its answer stands in none
unfoldable pub answer_text : Situation → Answer → List ℕ
answer_text I (Taken which cost) = which_text which ++ decimal cost.0
answer_text I (Accepted cost) = codes "accepted " ++ decimal cost.0
answer_text I (Breaks item) = codes "breaks " ++ broken_text I item
answer_text I (Dearer now would) = codes "dearer " ++ decimal now.0 ++ codes " " ++ decimal would.0
answer_text I (NoPlan item) = codes "no plan " ++ broken_text I item
answer_text I (Full entries) = codes "full " ++ decimal entries

-- CALLER,EVENT,DETAIL,REPLY, each as a field of a comma file is written; a batch has this number. A caller and a kind have no byte that calls for quotes
unfoldable pub line_text : Situation → ℕ → Entry → List ℕ
line_text I number entry =
    decimal entry.caller ++ codes "," ++ kind_text entry.event
    ++ codes "," ++ quoted (detail_text I number entry.event)
    ++ codes "," ++ quoted (answer_text I entry.answer) ++ codes "\n"

-- how many batches there are among entries
abbrev pub batches : List Entry → ℕ
batches h = count_by (λ entry. is_batch entry.event) h

-- the line of an entry that stands at this place of the history: a batch's number is how many batches stand before it
abbrev pub line_at : Situation → List Entry → ℕ × Entry → List ℕ
line_at I h placed = line_text I (batches (take placed.0 h)) placed.1

-- a line for each entry
unfoldable pub journal_text : Situation → List Entry → List ℕ
journal_text I h = flat_map (line_at I h) (enumerate_from 0 h)
