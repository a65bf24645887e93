-- What the desk falls back on when a disruption arrives: the plan as it stands; else the plan with the legs cancelled that come after one that is called off, and all others pushed; else the plan in which no movable leg is flown.
use Rattle.std.specs.Prelude.{◌≡◌, ◌↔◌, ℕ, ◌<◌, ◌⊎◌, Bool, true, false, ◌&&◌, ◌||◌, not, ◌==◌, if◌then◌else◌, Option, None, Some, unwrap_or, map, fold}
use Rattle.std.specs.List.{list_any}
use Rattle.desk_data.specs.declared.row.Row.{Row}
use Rattle.desk_data.specs.declared.row.Row.TheVariants.{Cancelled}
use Rattle.desk_data.specs.declared.broken.Broken.{Broken}
use Rattle.desk_data.specs.Situation.{Situation, legs_of, planes_of, fixed, called_off, due}
use Rattle.desk_data.specs.PlanRows.{PlanRows, row_at}
use Rattle.desk_rules.specs.Numbers.{numbers}
use Rattle.desk_rules.specs.Rotations.{precedes}
use Rattle.desk_rules.specs.Least.{least}
use Rattle.desk_rules.specs.Words.{Flies, Precedes, IsFeasible, IsLeast, MeetsC13, MeetsC14, MeetsC15}
use Rattle.desk_model.specs.declared.fallbacks.Which.{Which}
use Rattle.desk_model.specs.declared.fallbacks.Which.TheVariants.{Keep, Shift, Ground}
use Rattle.desk_model.specs.declared.fallbacks.Fallback.{Fallback}
use Rattle.desk_model.specs.declared.fallbacks.Fallback.TheVariants.{Chosen, NoPlan}
use Rattle.desk_model.specs.Push.{after_push}
use Rattle.desk_model.specs.Tidy.{after_tidy}

-- ---- rows of all legs

-- the plan with these rows of the day's legs. All groups stay
abbrev pub with_each_row : Situation → (ℕ → Row) → PlanRows → PlanRows
with_each_row I row P = record P { rows = map row (numbers (legs_of I)) }

-- each fixed leg has the row that it is due; a movable leg is due none, and keeps its row
unfoldable pub settled : Situation → PlanRows → PlanRows
settled I P = with_each_row I (λ x. unwrap_or (due I x) (row_at P x)) P

-- the legs of which a test holds are cancelled, and all others keep their rows
unfoldable pub cancelled : Situation → (ℕ → Bool) → PlanRows → PlanRows
cancelled I test P = with_each_row I (λ x. if test x then Cancelled else row_at P x) P

-- ---- shift

-- whether leg x is movable and called off
abbrev pub is_movable_off : Situation → ℕ → Bool
is_movable_off I x = not (fixed I x) && called_off I x

-- whether leg y is leg x, or comes before it on its aircraft
abbrev pub is_at_or_before : PlanRows → ℕ → ℕ → Bool
is_at_or_before P y x = (y == x) || precedes P y x

-- whether leg x is movable, and it or a leg before it on its aircraft is a movable leg called off: it is the first such leg of its aircraft, or comes after that
unfoldable pub is_stopped : Situation → PlanRows → ℕ → Bool
is_stopped I P x = not (fixed I x) && list_any (λ y. is_movable_off I y && is_at_or_before P y x) (numbers (legs_of I))

-- of each aircraft that flies a movable leg called off, the first such leg and all later movable legs are cancelled. All aircraft are judged on the plan as it is given
unfoldable pub stopped : Situation → PlanRows → PlanRows
stopped I P = cancelled I (is_stopped I P) P

-- the first n aircraft are pushed in ascending order, each with all its movable legs, and each in the plan as those before it left it
abbrev pub first_pushed : Situation → PlanRows → ℕ → PlanRows
first_pushed I P n = fold (λ Q p. after_push I Q p None) P (numbers n)

-- all aircraft are pushed so
unfoldable pub all_pushed : Situation → PlanRows → PlanRows
all_pushed I P = first_pushed I P (planes_of I)

-- Shift: the plan is settled; legs are cancelled from the first on that is called off; what is left is pushed; then a Tidy
unfoldable pub shifted : Situation → PlanRows → PlanRows
shifted I P = after_tidy I (all_pushed I (stopped I (settled I P)))

-- ---- ground

-- Ground: the plan is settled, each movable leg is cancelled, then a Tidy
unfoldable pub grounded : Situation → PlanRows → PlanRows
grounded I P = after_tidy I (cancelled I (λ x. not (fixed I x)) (settled I P))

-- ---- the choice

-- a plan by its name where it breaks no item, else what comes next
abbrev pub chosen_or : Which → PlanRows → Option Broken → Fallback → Fallback
chosen_or which Q None next = Chosen which Q
chosen_or which Q (Some item) next = next

-- the ground plan, or where it breaks an item no plan: its rows and the item
abbrev pub last_choice : PlanRows → Option Broken → Fallback
last_choice Q None = Chosen Ground Q
last_choice Q (Some item) = NoPlan item Q

-- the first that is feasible of the plan as it stands, Shift and Ground, with its name. Where none is, there is no plan: the rows are those of Ground, and the item is the first that they break
unfoldable pub fallback : Situation → PlanRows → Fallback
fallback I P =
    chosen_or Keep P (least I P)
    (chosen_or Shift (shifted I P) (least I (shifted I P))
    (last_choice (grounded I P) (least I (grounded I P))))

-- the rows of what was chosen, or those that are left where there is no plan
abbrev pub rows_of : Fallback → PlanRows
rows_of (Chosen which plan) = plan
rows_of (NoPlan broken plan) = plan

-- the rows that a name stands for
abbrev pub rows_named : Situation → PlanRows → Which → PlanRows
rows_named I P Keep = P
rows_named I P Shift = shifted I P
rows_named I P Ground = grounded I P

-- ---- in words

-- leg x is movable, and it, or a leg before it on its aircraft, is a movable leg called off
pub record IsStopped (I : Situation) (P : PlanRows) (x : ℕ) : Type 0 where
  pub movable : fixed I x ≡ false
  pub cause : ℕ
  pub leg : cause < legs_of I
  pub off_movable : fixed I cause ≡ false
  pub off : called_off I cause ≡ true
  pub place : (cause ≡ x) ⊎ Precedes P cause x

-- aircraft p flies leg x, whenever it departs
pub record IsFlownBy (P : PlanRows) (x p : ℕ) : Type 0 where
  pub dep : ℕ
  pub flown : Flies P x p dep

-- the carried paths of reservation r meet C13, C14 and C15
pub record CarriesFit (I : Situation) (P : PlanRows) (r : ℕ) : Type 0 where
  pub c13 : MeetsC13 I P r
  pub c14 : MeetsC14 I P r
  pub c15 : MeetsC15 I P r

-- there is no plan: the rows are those of Ground, and the item is the first that they break
pub record HasNoPlan (I : Situation) (P : PlanRows) : Type 0 where
  pub item : Broken
  pub is : fallback I P ≡ NoPlan item (grounded I P)
  pub least : IsLeast I (grounded I P) item

-- which of the four it is: the plan as it stands just where it is feasible; Shift just where that is not and Shift is; Ground just where neither is and Ground is; and no plan where none of the three is
pub record FallsBack (I : Situation) (P : PlanRows) : Type 0 where
  pub keep : fallback I P ≡ Chosen Keep P ↔ IsFeasible I P
  pub shift : fallback I P ≡ Chosen Shift (shifted I P) ↔ ((IsFeasible I P → ⊥) × IsFeasible I (shifted I P))
  pub ground : fallback I P ≡ Chosen Ground (grounded I P) ↔ ((IsFeasible I P → ⊥) × (IsFeasible I (shifted I P) → ⊥) × IsFeasible I (grounded I P))
  pub none : (IsFeasible I P → ⊥) → (IsFeasible I (shifted I P) → ⊥) → (IsFeasible I (grounded I P) → ⊥) → HasNoPlan I P
