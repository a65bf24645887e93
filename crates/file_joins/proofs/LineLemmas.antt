-- Lines of a plan's files: the numbers that they name are those of the day, and what stands where one is refused.
use Rattle.std.proofs.Common.{◌≡◌, ℕ, ◌+◌, ◌<◌, List, [], length, get_or, Option, None, Err, refl, sym, subst}
use Rattle.std.specs.Prelude.{IfOk, ok_or}
use Rattle.desk_units.specs.declared.numbers.Leg.{Leg}
use Rattle.desk_units.specs.declared.numbers.Res.{Res}
use Rattle.file_rows.specs.declared.cause.Cause.{Cause}
use Rattle.file_rows.specs.declared.cause.Cause.TheVariants as cause
use Rattle.desk_text.specs.declared.fault.ReadFault.{ReadFault}
use Rattle.desk_text.specs.declared.fault.RowFault.{RowFault}
use Rattle.desk_text.specs.declared.fault.RowFault.TheVariants as row_fault
use Rattle.desk_text.specs.Rows.{Gives, fault_at}
use Rattle.desk_data.specs.declared.row.Row.{Row}
use Rattle.desk_data.specs.declared.row.Group.{Group}
use Rattle.desk_data.specs.Situation.{Situation, legs_of, reservations_of}
use Rattle.file_joins.specs.Names.{leg_named, res_named}
use Rattle.file_joins.proofs.NameLaws.{leg_named-lt, res_named-lt}
use Rattle.file_readers.specs.declared.sol_row.PlannedLeg.{PlannedLeg}
use Rattle.file_readers.specs.declared.sol_row.PlannedGroup.{PlannedGroup}
use Rattle.file_joins.specs.Stated.{leg_of, row_of, is_in_time, stated_leg, path_of, group_of, stated_group}
use Rattle.file_joins.specs.Statement.{cause_of, Adds}
use Rattle.file_joins.specs.Groups.{Passengers, has_path, statement_of_groups, passengers_stated}
use Rattle.file_joins.specs.Parties.{Tried}
use Rattle.file_joins.proofs.Chains.{bind_ok, if_ok, ok_or_some, if_is_ok}
use Rattle.file_joins.proofs.StatementLemmas.{AreAfter, goes_on, stops}

-- the leg of a line is one of the day
pub stated_leg-within : (I : Situation) (line : PlannedLeg) → IfOk (stated_leg I line) (λ stated. stated.0.0 < legs_of I)
unfolding stated_leg
stated_leg-within I line = if_is_ok (stated_leg I line) (λ stated. stated.0.0 < legs_of I) (λ stated is.
    let leg = bind_ok (leg_of I line.flight line.day) _ stated is in
    let row = bind_ok (row_of I line.flown) _ stated leg.2 in
    let test = if_ok (is_in_time row.0) (leg.0, row.0) stated cause.Limit row.2 in
    subst (λ (t : Leg × Row). t.0.0 < legs_of I) test.1 (leg_named-lt I line.flight line.day leg.0 (ok_or_some (leg_named I line.flight line.day) cause.Unknown leg.0 leg.1)))

-- the reservation of a line is one of the day
pub stated_group-within : (I : Situation) (line : PlannedGroup) → IfOk (stated_group I line) (λ stated. stated.0.0 < reservations_of I)
unfolding stated_group
stated_group-within I line = if_is_ok (stated_group I line) (λ stated. stated.0.0 < reservations_of I) (λ stated is.
    let res = bind_ok (ok_or (res_named I line.name line.inbound) cause.Unknown) _ stated is in
    let path = bind_ok (path_of I line.legs) _ stated res.2 in
    let group = bind_ok (group_of line.count path.0) _ stated path.2 in
    let made : (res.0, group.0) ≡ stated = cc in
    subst (λ (t : Res × Group). t.0.0 < reservations_of I) made (res_named-lt I line.name line.inbound res.0 (ok_or_some (res_named I line.name line.inbound) cause.Unknown res.0 res.1)))

module _ (I : Situation) (lines : List PlannedGroup) (n : ℕ) (parties : List Passengers) (line : PlannedGroup) where
  -- why a line is refused after those passengers
  abbrev pub why : Option Cause
  why = cause_of (λ stated. has_path stated.1.path (get_or parties stated.0.0 [])) (stated_group I line)

  -- a line is put
  pub line_put : (parties' : List Passengers) → n < length lines → line ≡ get_or lines n line → why ≡ None → Adds (statement_of_groups I) (stated_group I line) parties parties'
      → AreAfter (statement_of_groups I) (reservations_of I) lines n parties → AreAfter (statement_of_groups I) (reservations_of I) lines (n + 1) parties'
  line_put parties' below is none adds after = goes_on (statement_of_groups I) (reservations_of I) lines n parties parties' line why below is (stated_group-within I line) refl none adds after

  -- a line is refused
  pub line_refused : {A : Type 0} (shown : A → List Passengers) (fault : RowFault) (answer : ReadFault) → n < length lines → line ≡ get_or lines n line → Tried {Answer = Unit {0}} (Err fault) why → answer ≡ fault_at line.line fault
      → AreAfter (statement_of_groups I) (reservations_of I) lines n parties → Gives {Answer = A} shown (Err answer) (passengers_stated I lines)
  line_refused shown (row_fault.Refused cause) answer below is tried stated after =
      subst (λ (a : ReadFault). Gives shown (Err a) (passengers_stated I lines)) (sym stated) (stops (statement_of_groups I) (reservations_of I) lines n parties line cause below is (stated_group-within I line) (sym tried) after)
  line_refused shown row_fault.Memory answer below is tried stated after = subst (λ (a : ReadFault). Gives shown (Err a) (passengers_stated I lines)) (sym stated) tt
