-- What flying and the positions cost after changes.
use Rattle.std.proofs.Common.{◌≡◌, ℕ, ◌+◌, ◌-◌, ◌*◌, ◌<◌, ◌≤◌, List, [], ◌∷◌, length, get_or, take, refl, sym, ap, subst, ◌∙◌, arith}
use Rattle.std.specs.Prelude.{sum_by}
use Rattle.std.proofs.Math.Nat.{mul-add}
use Rattle.std.proofs.Math.Path.{fun_ext}
use Rattle.std.proofs.lemmas.List.Elements.{All-get_or}
use Rattle.std.proofs.lemmas.List.Sums.{sum_by-cons}
use Rattle.desk_units.specs.declared.tariff.Term.TheVariants as term
use Rattle.tariff_prices.specs.Prices.{position_price}
use Rattle.desk_data.specs.declared.info.PositionInfo.{PositionInfo}
use Rattle.desk_data.specs.declared.row.Row.{Row}
use Rattle.desk_data.specs.declared.row.Row.TheVariants.{Cancelled}
use Rattle.desk_data.specs.Situation.{Situation, legs_of, planes_of}
use Rattle.desk_data.specs.PlanRows.{PlanRows, row_at, with_row}
use Rattle.desk_data.specs.Valid.{IsPlanFor, IsRowOf, IsValid}
use Rattle.desk_rules.specs.Cost.{weight, rows_of, by_item, at_hand, operating_of, operating_cost, missing_aircraft, position_cost}
use Rattle.desk_model.proofs.ValidLaws.{with_row-valid}
use Rattle.step_laws.proofs.RowLaws.{sum_of_rows}
use Rattle.near_draft.specs.declared.change.Change.{Change}
use Rattle.near_draft.specs.Drafts.{AreChanges, Drafted, IsChange, changed, drafted}
use Rattle.near_draft.proofs.ChangeLaws.{no_change, changes-at, front-valid}
use Rattle.near_priced.specs.Tables.{lacking}

-- ---- flying

-- what the leg of a change costs by the row that it gets, and by the one that it had
abbrev pub gets : Situation → Change → ℕ
gets I change = operating_of I change.leg.0 change.row

abbrev pub had : Situation → Change → ℕ
had I change = operating_of I change.leg.0 change.was

operating_balance : (I : Situation) (P : PlanRows) (x : ℕ) (row : Row) → x < legs_of I → x < length P.rows → operating_cost I (with_row P x row) + operating_of I x (row_at P x) ≡ operating_cost I P + operating_of I x row
unfolding operating_cost
operating_balance I P x row lt within = sum_of_rows (operating_of I) P (legs_of I) x row lt within

pub flown-changes : (I : Situation) (P : PlanRows) (changes : List Change) → AreChanges I P changes → IsPlanFor I P → operating_cost I (drafted P changes) + sum_by (had I) changes ≡ operating_cost I P + sum_by (gets I) changes
flown-changes I P [] are plan = refl
flown-changes I P (change ∷ changes) are plan =
    let x = change.leg.0 in
    let rest = flown-changes I (changed P change) changes are.1 (with_row-valid I P x change.row are.0.row plan) in
    let within : x < length P.rows = (let leg = are.0.leg in let rows = plan.legs in omega (arith, leg, rows)) in
    let one = operating_balance I P x change.row are.0.leg within in
    let was : had I change ≡ operating_of I x (row_at P x) = ap (operating_of I x) are.0.was in
    omega (arith, rest, one, was, sum_by-cons (had I) change changes, sum_by-cons (gets I) change changes)

-- the changes of a draft over plan P
pub changes-for : (I : Situation) (P : PlanRows) (D : Drafted) (changes : List Change) → D.inst ≡ I → D.rows ≡ P → changes ≡ D.changes → AreChanges D.inst D.rows changes → AreChanges I P D.changes
changes-for I P D changes day over all are =
    subst (λ (J : Situation). AreChanges J P D.changes) day (subst (λ (R : PlanRows). AreChanges D.inst R D.changes) over (subst (AreChanges D.inst D.rows) all are))

-- the rows of a change are rows for the day
pub had-fits : (I : Situation) (P : PlanRows) (changes : List Change) (i : ℕ) → AreChanges I P changes → IsPlanFor I P → i < length changes → IsRowOf (planes_of I) (get_or changes i no_change).was
had-fits I P changes i are plan lt =
    let is : IsChange I (drafted P (take i changes)) (get_or changes i no_change) = changes-at I P changes i are lt in
    let valid : IsPlanFor I (drafted P (take i changes)) = front-valid I P changes i are plan in
    let leg = is.leg in
    let rows = valid.legs in
    subst (IsRowOf (planes_of I)) (sym is.was) (All-get_or (IsRowOf (planes_of I)) (drafted P (take i changes)).rows (get_or changes i no_change).leg.0 Cancelled (omega (arith, leg, rows)) valid.rows)

pub gets-fits : (I : Situation) (P : PlanRows) (changes : List Change) (i : ℕ) → AreChanges I P changes → i < length changes → IsRowOf (planes_of I) (get_or changes i no_change).row
gets-fits I P changes i are lt = (changes-at I P changes i are lt).row

-- ---- positions

-- how many aircraft a position lacks
abbrev pub gap : Situation → PlanRows → PositionInfo → ℕ
gap I P position = position.count - at_hand I P position

pub scaled : {X : Type 0} (price : ℕ) (f : X → ℕ) (xs : List X) → sum_by (λ x. price * f x) xs ≡ price * sum_by f xs
scaled price f [] = omega arith
scaled price f (x ∷ xs) = sum_by-cons (λ y. price * f y) x xs ∙ ap (λ (n : ℕ). price * f x + n) (scaled price f xs) ∙ sym (ap (λ (n : ℕ). price * n) (sum_by-cons f x xs) ∙ mul-add price (f x) (sum_by f xs))

pub positions-is : (I : Situation) (P : PlanRows) → position_cost I P ≡ by_item (weight I term.Position) (position_price (rows_of I)) (lacking I P)
unfolding position_cost missing_aircraft
positions-is I P = scaled (60 * weight I term.Position * position_price (rows_of I)) (gap I P) I.parts.positions

pub gap-few : (I : Situation) (P : PlanRows) (position : PositionInfo) (g : ℕ) → IsValid I → g < length I.parts.positions → position ≡ get_or I.parts.positions g position → gap I P position ≤ 1000
gap-few I P position g valid lt is =
    let one = (valid.parts.positions g position lt).count in
    let same : position.count ≡ (get_or I.parts.positions g position).count = ap (λ (p : PositionInfo). p.count) is in
    omega (arith, one, same)

pub positions-stay : (I : Situation) (P Q : PlanRows) → ((position : PositionInfo) → at_hand I Q position ≡ at_hand I P position) → position_cost I Q ≡ position_cost I P
positions-stay I P Q same =
    let lack : lacking I Q ≡ lacking I P = ap (λ (f : PositionInfo → ℕ). sum_by f I.parts.positions) (fun_ext (λ (position : PositionInfo). ap (λ (n : ℕ). position.count - n) (same position))) in
    positions-is I Q ∙ ap (by_item (weight I term.Position) (position_price (rows_of I))) lack ∙ sym (positions-is I P)
