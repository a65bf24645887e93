-- The rows of a plan's rotations, by their names, are joined to the plan's rows.
use Rattle.std.proofs.Common.{◌≡◌, ℕ, ◌+◌, ◌<◌, true, cond, List, [], ◌∷◌, ◌++◌, length, map, drop, get_or, set, replicate, Option, Some, None, Ok, Err, refl, sym, ap, subst, ◌∙◌, arith, append_assoc}
use Rattle.std.specs.Prelude.{is_some, unwrap_or}
use Rattle.std.specs.List.{AllByRecursion, list_all, zip}
use Rattle.std.specs.Option.{option_or}
use Rattle.std.proofs.lemmas.Bool.{lt-ltb}
use Rattle.std.proofs.lemmas.List.{length-append, length-map, map-append}
use Rattle.desk_units.specs.declared.numbers.Leg.{Leg}
use Rattle.file_rows.specs.declared.cause.Cause.TheVariants as cause
use Rattle.desk_data.specs.declared.info.LegInfo.{LegInfo}
use Rattle.desk_data.specs.declared.row.Row.{Row}
use Rattle.desk_data.specs.declared.row.Row.TheVariants.{Flown, Cancelled}
use Rattle.desk_data.specs.Situation.{Situation, legs_of, planes_of, leg_at, no_leg}
use Rattle.desk_data.specs.Valid.{AreDistinct, IsRowOf}
use Rattle.file_readers.specs.Legs.{planned_leg}
use Rattle.file_joins.specs.Stated.{row_of, is_in_time, stated_leg}
use Rattle.file_joins.specs.Legs.{statement_of_legs, rows_stated, all_rows}
use Rattle.desk_top.proofs.TextLemmas.{numbered}
use Rattle.desk_top.proofs.LegRows.{leg_line, leg_stated, flown_stated}
use Rattle.desk_top.proofs.NameBack.{leg_back, plane_back}
use Rattle.desk_top.proofs.StatementBack.{get_after, set_after, first_left, within_left, left_then, Runs, runs_back}

append_none : {X : Type 0} (xs : List X) → xs ++ [] ≡ xs
append_none [] = refl
append_none (x ∷ xs) = ap (λ ys. x ∷ ys) (append_none xs)

all_some : {X : Type 0} (xs : List X) → list_all is_some (map (λ x. Some x) xs) ≡ true
all_some [] = refl
all_some (x ∷ xs) = all_some xs

module _ (I : Situation) (distinct : AreDistinct I.parts) where
  row_back : (row : Row) → IsRowOf (planes_of I) row → row_of I (flown_stated I row) ≡ Ok row
  unfolding row_of
  row_back (Flown plane dep) is = rw (plane_back I plane distinct is.0) refl
  row_back Cancelled is = refl

  early : (row : Row) → IsRowOf (planes_of I) row → is_in_time row ≡ true
  early (Flown plane dep) is = lt-ltb dep.0 52500000 is.1
  early Cancelled is = refl

  leg_is_stated : (n x : ℕ) (row : Row) → x < legs_of I → IsRowOf (planes_of I) row → stated_leg I (leg_stated I n (leg_at I x, row)) ≡ Ok (record { 0 = x }, row)
  unfolding stated_leg
  leg_is_stated n x row below is = rw (leg_back I (record { 0 = x }) distinct below) (rw (row_back row is) (rw (early row is) refl))

  -- the rows so far, and none for the legs after them
  legs_run : (n x : ℕ) (legs : List LegInfo) (rows done : List Row) → drop x I.parts.legs ≡ legs → length done ≡ x → length rows ≡ length legs → AllByRecursion (IsRowOf (planes_of I)) rows
      → Runs (statement_of_legs I) (legs_of I) (map (λ row. Some row) done ++ replicate (length legs) None) (numbered planned_leg (leg_line I) (leg_stated I) n (zip legs rows)) (map (λ row. Some row) (done ++ rows))
  legs_run n x [] [] done left at same good = append_none (map (λ row. Some row) done) ∙ ap (map (λ row. Some row)) (sym (append_none done))
  legs_run n x [] (row ∷ rows) done left at same good = absurd (omega (arith, same))
  legs_run n x (leg ∷ legs) [] done left at same good = absurd (omega (arith, same))
  legs_run n x (leg ∷ legs) (row ∷ rows) done left at same good =
      let some : Row → Option Row = λ row. Some row in
      let before : List (Option Row) = map some done in
      let later : List (Option Row) = replicate (length legs) None in
      let entries : List (Option Row) = before ++ None ∷ later in
      let size : length before ≡ x = length-map done some ∙ at in
      let below : x < legs_of I = within_left I.parts.legs x leg legs left in
      let is : leg ≡ leg_at I x = first_left I.parts.legs x leg legs no_leg left in
      let stated : Leg × Row = (record { 0 = x }, row) in
      let says : stated_leg I (leg_stated I n (leg, row)) ≡ Ok stated = subst (λ l. stated_leg I (leg_stated I n (l, row)) ≡ Ok stated) (sym is) (leg_is_stated n x row below good.0) in
      let here : get_or entries x None ≡ None = subst (λ k. get_or entries k None ≡ None) size (get_after before None later None) in
      let put : set entries x (Some row) ≡ before ++ Some row ∷ later = subst (λ k. set entries k (Some row) ≡ before ++ Some row ∷ later) size (set_after before None (Some row) later) in
      let moved : map some (done ++ row ∷ []) ++ later ≡ before ++ Some row ∷ later = ap (λ xs. xs ++ later) (map-append some done (row ∷ [])) ∙ append_assoc before (Some row ∷ []) later in
      let next : set entries x (option_or (get_or entries x None) (Some row)) ≡ map some (done ++ row ∷ []) ++ later = ap (λ e. set entries x (option_or e (Some row))) here ∙ put ∙ sym moved in
      let longer : length (done ++ row ∷ []) ≡ x + 1 = omega (arith, length-append done (row ∷ []), at) in
      let lines = numbered planned_leg (leg_line I) (leg_stated I) (n + 1) (zip legs rows) in
      let rest = legs_run (n + 1) (x + 1) legs rows (done ++ row ∷ []) (left_then I.parts.legs x leg legs left) longer (omega (arith, same)) good.1 in (
        stated,
        says,
        below,
        ap is_some here,
        subst (λ es. Runs (statement_of_legs I) (legs_of I) es lines (map some (done ++ row ∷ rows))) (sym next)
            (subst (λ rs. Runs (statement_of_legs I) (legs_of I) (map some (done ++ row ∷ []) ++ later) lines (map some rs)) (append_assoc done (row ∷ []) rows) rest),
      )

  -- all rows are read
  pub rows_back : (rows : List Row) → length rows ≡ legs_of I → AllByRecursion (IsRowOf (planes_of I)) rows
      → rows_stated I (numbered planned_leg (leg_line I) (leg_stated I) 1 (zip I.parts.legs rows)) ≡ Ok (map (λ row. Some row) rows)
  rows_back rows same good =
      runs_back (statement_of_legs I) (legs_of I) (numbered planned_leg (leg_line I) (leg_stated I) 1 (zip I.parts.legs rows)) (map (λ row. Some row) rows)
      (legs_run 1 0 I.parts.legs rows [] refl refl same good)

unwrapped : (rows : List Row) → map (λ row. unwrap_or row Cancelled) (map (λ row. Some row) rows) ≡ rows
unwrapped [] = refl
unwrapped (row ∷ rows) = ap (λ rs. row ∷ rs) (unwrapped rows)

-- each leg has one
pub all_rows_back : (rows : List Row) → all_rows (map (λ row. Some row) rows) ≡ Ok rows
unfolding all_rows
all_rows_back rows =
    ap (λ t. cond t (Ok (map (λ row. unwrap_or row Cancelled) (map (λ row. Some row) rows))) (Err (0, cause.Missing))) (all_some rows)
    ∙ ap Ok (unwrapped rows)
