-- What a rebooking of a reservation hangs on, and where that is the same in a later plan.
--
-- P is the plan at which no rebooking was better, and Q the later one.
use Rattle.std.specs.Prelude.{◌≡◌, ℕ, ◌<◌, ◌≤◌, Bool, ◌&&◌, ◌||◌, ◌==◌, nat_lt, nat_le, List, All, true}
use Rattle.std.specs.List.{list_any}
use Rattle.desk_units.specs.declared.numbers.Leg.{Leg}
use Rattle.desk_units.specs.declared.numbers.Cabin.{Cabin}
use Rattle.desk_data.specs.Situation.{Situation, legs_of, leg_at}
use Rattle.desk_data.specs.Booked.{booked_path, dest_of}
use Rattle.desk_data.specs.PlanRows.{PlanRows, row_at, groups_at}
use Rattle.desk_rules.specs.Numbers.{numbers}
use Rattle.desk_rules.specs.Rotations.{dep, arr}
use Rattle.desk_rules.specs.Passengers.{aboard, is_flown}
use Rattle.near_moves.specs.Routes.{stems}
use Rattle.near_pax.specs.Start.{place_after, ready_after, due_before}

-- whether a path has leg x
abbrev pub is_on : List (Leg × Cabin) → ℕ → Bool
is_on path x = list_any (λ pair. pair.0.0 == x) path

-- whether some leg of the day goes from one airport to another, whoever flies it and when
abbrev pub goes_between : Situation → ℕ → ℕ → Bool
goes_between I from to = list_any (λ z. ((leg_at I z).origin.0 == from) && ((leg_at I z).dest.0 == to)) (numbers (legs_of I))

-- whether leg x leaves where passengers of reservation r stand after a stem, and arrives where they want to go, or where a leg goes on to there
abbrev pub may_begin : Situation → ℕ → List (Leg × Cabin) → ℕ → Bool
may_begin I r stem x =
    ((leg_at I x).origin.0 == place_after I r stem)
    && (((leg_at I x).dest.0 == dest_of I r) || goes_between I (leg_at I x).dest.0 (dest_of I r))

-- whether leg x arrives where they want to go, and leaves where a leg arrives from where they stand
abbrev pub may_end : Situation → ℕ → List (Leg × Cabin) → ℕ → Bool
may_end I r stem x = ((leg_at I x).dest.0 == dest_of I r) && goes_between I (place_after I r stem) (leg_at I x).origin.0

-- whether leg x is flown, no earlier than passengers of reservation r may go on after a stem, and arrives before they have to
abbrev pub is_in_time : Situation → PlanRows → ℕ → List (Leg × Cabin) → ℕ → Bool
is_in_time I Q r stem x = is_flown (row_at Q x) && (nat_le (ready_after I Q r stem) (dep Q x) && nat_lt (arr I Q x) (due_before I r))

-- whether leg x may be on a route that begins with a stem: the stem has it, or it may be the first or the second of two legs after it
abbrev pub may_use_after : Situation → PlanRows → ℕ → ℕ → List (Leg × Cabin) → Bool
may_use_after I Q r x stem = is_on stem x || (is_in_time I Q r stem x && (may_begin I r stem x || may_end I r stem x))

-- whether leg x may be on a route of reservation r in plan Q: the scheduled path has it, or it may be on a route that begins with one of the stems
unfoldable pub may_use : Situation → PlanRows → ℕ → ℕ → Bool
may_use I Q r x = is_on (booked_path I r) x || list_any (may_use_after I Q r x) (stems I r)

-- leg x is still: it has the same row, and in no cabin fewer passengers than it had
pub record IsStill (P Q : PlanRows) (x : ℕ) : Type 0 where
  pub row : row_at Q x ≡ row_at P x
  pub passengers : (c : Cabin) → aboard P x c ≤ aboard Q x c

-- each leg of a path has the same row in both plans
abbrev pub HasSameRows : PlanRows → PlanRows → List (Leg × Cabin) → Type 0
HasSameRows P Q path = All (λ pair. row_at P pair.0.0 ≡ row_at Q pair.0.0) path

-- nothing changed that a rebooking of reservation r hangs on: its groups are the same, the legs of their paths have the same rows, and each leg that may be on a route of it is still
pub record IsUntouched (I : Situation) (P Q : PlanRows) (r : ℕ) : Type 0 where
  pub groups : groups_at Q r ≡ groups_at P r
  pub paths : All (λ group. HasSameRows P Q group.path) (groups_at P r)
  pub legs : (x : ℕ) → x < legs_of I → may_use I Q r x ≡ true → IsStill P Q x
