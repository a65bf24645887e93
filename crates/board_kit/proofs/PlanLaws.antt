-- What another row of one leg changes.
use Rattle.std.proofs.Common.{◌≡◌, ℕ, suc, ◌+◌, ◌<◌, ◌≤◌, inl, inr, length, refl, sym, subst, arith}
use Rattle.std.proofs.lemmas.Bool.{cases_Bool}
use Rattle.desk_data.specs.declared.row.Row.{Row}
use Rattle.desk_data.specs.declared.row.Row.TheVariants.{Flown, Cancelled}
use Rattle.desk_data.specs.Situation.{Situation, legs_of, leg_at, plane_at}
use Rattle.desk_data.specs.PlanRows.{PlanRows, row_at, with_row}
use Rattle.desk_rules.specs.Numbers.{numbers}
use Rattle.std.proofs.lemmas.List.Sums.{count_by-le-length, sum_by_push}
use Rattle.desk_rules.proofs.HourLaws.{length-numbers}
use Rattle.hour_counts.specs.Counts.{one_if}
use Rattle.step_laws.proofs.RowLaws.{count_of_rows}
use Rattle.std.specs.Prelude.{Option}
use Rattle.board_kit.specs.declared.slot.SlotUse.{SlotUse}
use Rattle.board_kit.specs.declared.slot.By.{By}
use Rattle.board_kit.specs.declared.slot.By.TheVariants.{Flyer, Schedule}
use Rattle.hour_counts.specs.declared.slot.Slot.{Slot}
use Rattle.hour_counts.specs.declared.slot.Movement.{Movement}
use Rattle.hour_counts.specs.declared.slot.Movement.TheVariants.{Departure, Arrival}
use Rattle.board_kit.specs.Slots.{takes, takes_for, taken, taken_first, slots_of, among}

-- a leg takes the slots of its row
takes_by : (by : By) (m : Movement) (I : Situation) (a h x : ℕ) (row : Row) → one_if (takes_for by m I a h x row) ≡ among by (slots_of I x row) (record { movement = m; airport = record { 0 = a }; hour = h })
takes_by Flyer Departure I a h x Cancelled = refl
takes_by Flyer Arrival I a h x Cancelled = refl
takes_by Schedule Departure I a h x Cancelled = refl
takes_by Schedule Arrival I a h x Cancelled = refl
takes_by Flyer Departure I a h x (Flown plane dep) =
    elim (cases_Bool (plane_at I plane.0).surface) [
      | inl up ↦ rw up refl
      | inr down ↦ rw down (omega arith)
    ]
takes_by Flyer Arrival I a h x (Flown plane dep) =
    elim (cases_Bool (plane_at I plane.0).surface) [
      | inl up ↦ rw up refl
      | inr down ↦ rw down (omega arith)
    ]
takes_by Schedule Departure I a h x (Flown plane dep) =
    elim (cases_Bool (plane_at I (leg_at I x).plane.0).surface) [
      | inl up ↦ rw up refl
      | inr down ↦ rw down (omega arith)
    ]
takes_by Schedule Arrival I a h x (Flown plane dep) =
    elim (cases_Bool (plane_at I (leg_at I x).plane.0).surface) [
      | inl up ↦ rw up refl
      | inr down ↦ rw down (omega arith)
    ]

pub takes_among : (by : By) (I : Situation) (s : Slot) (x : ℕ) (row : Row) → one_if (takes by I s x row) ≡ among by (slots_of I x row) s
takes_among by I s x row = takes_by by s.movement I s.airport.0 s.hour x row

-- so how often a slot is taken changes by the leg's two rows alone
pub slots_change : (by : By) (I : Situation) (P : PlanRows) (s : Slot) (x : ℕ) (row : Row) → x < legs_of I → x < length P.rows → taken I (with_row P x row) by s + among by (slots_of I x (row_at P x)) s ≡ taken I P by s + among by (slots_of I x row) s
slots_change by I P s x row lt within =
    omega (arith, takes_among by I s x (row_at P x), takes_among by I s x row, count_of_rows (takes by I s) P (legs_of I) x row lt within)

-- a leg is among those that take its slots
pub taken_by : (by : By) (I : Situation) (P : PlanRows) (s : Slot) (x : ℕ) → x < legs_of I → x < length P.rows → among by (slots_of I x (row_at P x)) s ≤ taken I P by s
taken_by by I P s x lt within = omega (arith, slots_change by I P s x Cancelled lt within)

-- no more legs take a slot than there are
pub first_few : (n : ℕ) (I : Situation) (P : PlanRows) (by : By) (s : Slot) → taken_first n I P by s ≤ n
first_few n I P by s = omega (arith, count_by-le-length (λ (x : ℕ). takes by I s x (row_at P x)) (numbers n), length-numbers n)

-- one leg more
pub first_more : (n : ℕ) (I : Situation) (P : PlanRows) (by : By) (s : Slot) → taken_first n I P by s + among by (slots_of I n (row_at P n)) s ≡ taken_first (n + 1) I P by s
first_more n I P by s =
    let p = λ (y : ℕ). takes by I s y (row_at P y) in
    let one : suc n ≡ n + 1 = omega arith in
    subst (λ (m : ℕ). taken_first n I P by s + among by (slots_of I n (row_at P n)) s ≡ taken_first m I P by s) one
    (omega (arith, sum_by_push (λ y. one_if (p y)) (numbers n) n, takes_among by I s n (row_at P n)))

-- the same of the slots that a leg's row has
pub more_taken : (I : Situation) (P : PlanRows) (x : ℕ) (come : Option SlotUse) → come ≡ slots_of I x (row_at P x) → (by : By) (s : Slot) → taken_first x I P by s + among by come s ≡ taken_first (x + 1) I P by s
more_taken I P x come is by s = subst (λ (t : Option SlotUse). taken_first x I P by s + among by t s ≡ taken_first (x + 1) I P by s) (sym is) (first_more x I P by s)
