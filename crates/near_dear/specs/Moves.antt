-- Moves that exchange the legs of two aircraft.
use Rattle.std.specs.Prelude.{◌≡◌, ◌≢◌, ℕ, ◌<◌, Bool, true, false, None, List, [], ◌∷◌, ◌++◌}
use Rattle.std.specs.List.{list_all}
use Rattle.desk_data.specs.Situation.{Situation, legs_of, plane_at}
use Rattle.desk_data.specs.PlanRows.{PlanRows}
use Rattle.plan_moves.specs.declared.moves.Move.{Move}
use Rattle.plan_moves.specs.declared.moves.Step.{Step}
use Rattle.plan_moves.specs.declared.moves.Step.TheVariants.{Set, Push, Swap, Rebook, Tidy, Refill}
use Rattle.desk_rules.specs.Maintenance.{flies}
use Rattle.desk_rules.specs.Rotations.{dep}
use Rattle.desk_model.specs.Steps.{after_steps}
use Rattle.near_moves.specs.MoveParts.{plane, minute}
use Rattle.near_priced.specs.Unpaid.{is_either}
use Rattle.near_priced.specs.Priced.{tidies}

-- whether a step pushes one of two aircraft
abbrev pub pushes_either : ℕ → ℕ → Step → Bool
pushes_either p q (Set leg was new) = false
pushes_either p q (Push plane after) = is_either p q plane.0
pushes_either p q (Swap first second at) = false
pushes_either p q (Rebook res path to count) = false
pushes_either p q Tidy = false
pushes_either p q (Refill leg) = false

-- the steps of an exchange that change rows
abbrev pub first_steps : ℕ → ℕ → ℕ → List Step → List Step
first_steps p q at pushes = Swap (plane p) (plane q) (minute at) ∷ pushes

-- a move exchanges the legs of aircraft p and q from a moment on, two aircraft and neither of them surface transport; then it pushes them; and then it tidies and refills
pub record IsExchange (I : Situation) (m : Move) (p q at : ℕ) (pushes others : List Step) : Type 0 where
  pub steps : m.steps ≡ first_steps p q at pushes ++ others
  pub pushed : list_all (pushes_either p q) pushes ≡ true
  pub tidied : list_all tidies others ≡ true
  pub other : p ≢ q
  pub air : (plane_at I p).surface ≡ false
  pub other_air : (plane_at I q).surface ≡ false

-- the plan that its first steps make
abbrev pub exchanged : Situation → PlanRows → ℕ → ℕ → ℕ → List Step → PlanRows
exchanged I P p q at pushes = after_steps I P (first_steps p q at pushes)

-- each leg of aircraft p departs before the window's end
abbrev pub IsInTime : Situation → PlanRows → ℕ → Type 0
IsInTime I P p = (x : ℕ) → x < legs_of I → flies P p x ≡ true → dep P x < I.parts.to.0

-- so do all legs of both, in plan P and in plan Q
pub record AreInTime (I : Situation) (P Q : PlanRows) (p q : ℕ) : Type 0 where
  pub first : IsInTime I P p
  pub second : IsInTime I P q
  pub first_then : IsInTime I Q p
  pub second_then : IsInTime I Q q

-- the pushes of a move of N2: all of the first aircraft, and then all of the second
abbrev pub both_pushed : ℕ → ℕ → List Step
both_pushed p q = Push (plane p) None ∷ Push (plane q) None ∷ []
