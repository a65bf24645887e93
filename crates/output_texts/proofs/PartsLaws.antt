-- Texts name what there is by the rows of a day alone: the orders taken and how far it has gone on make no difference to them.
use Rattle.std.proofs.Common.{◌≡◌, ℕ, List, ◌++◌, refl, ap, subst}
use Rattle.std.specs.Prelude.{Option, None, Some, codes}
use Rattle.std.specs.List.{flat_map, join_by, enumerate_from}
use Rattle.std.proofs.Math.Path.{fun_ext}
use Rattle.desk_units.specs.declared.numbers.Leg.{Leg}
use Rattle.desk_units.specs.declared.numbers.Cabin.{Cabin}
use Rattle.desk_data.specs.declared.parts.Parts.{Parts}
use Rattle.desk_data.specs.declared.row.Row.{Row}
use Rattle.desk_data.specs.declared.row.Row.TheVariants.{Flown, Cancelled}
use Rattle.desk_data.specs.declared.broken.Broken.{Broken}
use Rattle.desk_data.specs.declared.broken.Broken.TheVariants.{C1, C2, C3, C4, C5, C6, C7, C8, C9, C10, C11, C12, C13, C14, C15}
use Rattle.desk_data.specs.Situation.{Situation}
use Rattle.plan_moves.specs.declared.moves.Step.{Step}
use Rattle.plan_moves.specs.declared.moves.Step.TheVariants.{Set, Push, Swap, Rebook, Tidy, Refill}
use Rattle.plan_moves.specs.declared.moves.Move.{Move}
use Rattle.desk_model.specs.declared.answer.Answer.{Answer}
use Rattle.desk_model.specs.declared.answer.Answer.TheVariants.{Taken, Accepted, Breaks, Dearer, NoPlan, Full}
use Rattle.desk_model.specs.declared.answer.Event.{Event}
use Rattle.desk_model.specs.declared.answer.Event.TheVariants as event
use Rattle.desk_model.specs.declared.answer.Entry.{Entry}
use Rattle.output_texts.specs.Items.{leg_text, row_text, hour_text, seat_text, path_text, reservation_text, broken_text}
use Rattle.output_texts.specs.Lines.{after_text, step_text, move_text, detail_text, answer_text, line_text, journal_text}

-- the day of these rows that is else as another
abbrev day : Parts → Situation → Situation
day P I = record I { parts = P }

module _ (P : Parts) (a b : Situation) where
  leg_same : (x : ℕ) → leg_text (day P a) x ≡ leg_text (day P b) x
  unfolding leg_text
  leg_same x = refl

  hour_same : (airport hour : ℕ) → hour_text (day P a) airport hour ≡ hour_text (day P b) airport hour
  unfolding hour_text
  hour_same airport hour = refl

  reservation_same : (r : ℕ) → reservation_text (day P a) r ≡ reservation_text (day P b) r
  unfolding reservation_text
  reservation_same r = refl

  path_same : (path : List (Leg × Cabin)) → path_text (day P a) path ≡ path_text (day P b) path
  unfolding path_text seat_text leg_text
  path_same path = refl

  row_same : (row : Row) → row_text (day P a) row ≡ row_text (day P b) row
  unfolding row_text
  row_same (Flown plane dep) = refl
  row_same Cancelled = refl

  after_same : (after : Option Leg) → after_text (day P a) after ≡ after_text (day P b) after
  unfolding leg_text
  after_same None = refl
  after_same (Some leg) = refl

  step_same : (step : Step) → step_text (day P a) step ≡ step_text (day P b) step
  unfolding step_text
  step_same (Set leg was new) = rw (leg_same leg.0, row_same was, row_same new) refl
  step_same (Push plane after) = rw (after_same after) refl
  step_same (Swap first second at) = refl
  step_same (Rebook res path to count) = rw (reservation_same res.0, path_same path, path_same to) refl
  step_same Tidy = refl
  step_same (Refill leg) = rw (leg_same leg.0) refl

  move_same : (m : Move) → move_text (day P a) m ≡ move_text (day P b) m
  unfolding move_text
  move_same m = ap (λ (text : Step → List ℕ). join_by text (codes " ") m.steps) (fun_ext step_same)

  pub broken_same : (item : Broken) → broken_text (day P a) item ≡ broken_text (day P b) item
  unfolding broken_text leg_text hour_text reservation_text
  broken_same (C1 leg) = refl
  broken_same (C2 leg) = refl
  broken_same (C3 leg) = refl
  broken_same (C4 leg) = refl
  broken_same (C5 leg) = refl
  broken_same (C6 leg) = refl
  broken_same (C7 leg) = refl
  broken_same (C8 plane) = refl
  broken_same (C9 plane) = refl
  broken_same (C10 airport hour) = refl
  broken_same (C11 airport hour) = refl
  broken_same (C12 leg cabin) = refl
  broken_same (C13 res) = refl
  broken_same (C14 res) = refl
  broken_same (C15 res) = refl

  pub answer_same : (given : Answer) → answer_text (day P a) given ≡ answer_text (day P b) given
  unfolding answer_text
  answer_same (Taken which cost) = refl
  answer_same (Accepted cost) = refl
  answer_same (Breaks item) = ap (λ (t : List ℕ). codes "breaks " ++ t) (broken_same item)
  answer_same (Dearer now would) = refl
  answer_same (NoPlan item) = ap (λ (t : List ℕ). codes "no plan " ++ t) (broken_same item)
  answer_same (Full entries) = refl

  detail_same : (number : ℕ) (e : Event) → detail_text (day P a) number e ≡ detail_text (day P b) number e
  unfolding detail_text
  detail_same number (event.Batch B) = refl
  detail_same number (event.Move m) = move_same m

  line_same : (number : ℕ) (entry : Entry) → line_text (day P a) number entry ≡ line_text (day P b) number entry
  unfolding line_text
  line_same number entry = rw (detail_same number entry.event, answer_same entry.answer) refl

  journal_same : (h : List Entry) → journal_text (day P a) h ≡ journal_text (day P b) h
  unfolding journal_text
  journal_same h = ap (λ (text : ℕ × Entry → List ℕ). flat_map text (enumerate_from 0 h)) (fun_ext (λ placed. line_same _ placed.1))

pub journal-same : (I J : Situation) → I.parts ≡ J.parts → (h : List Entry) → journal_text I h ≡ journal_text J h
journal-same I J same h = subst (λ (P : Parts). journal_text I h ≡ journal_text (day P J) h) same (journal_same I.parts I J h)

pub answer-same : (I J : Situation) → I.parts ≡ J.parts → (given : Answer) → answer_text I given ≡ answer_text J given
answer-same I J same given = subst (λ (P : Parts). answer_text I given ≡ answer_text (day P J) given) same (answer_same I.parts I J given)
