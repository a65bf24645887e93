-- The rows of a history's entries are joined to its events.
use Rattle.std.proofs.Common.{◌≡◌, ◌<◌, true, List, [], ◌∷◌, length, map, Some, None, Option, Ok, refl}
use Rattle.std.specs.List.{AllByRecursion, list_all}
use Rattle.std.specs.Option.{ForSome}
use Rattle.std.proofs.lemmas.Bool.{le-leb, lt-ltb, and_from}
use Rattle.desk_units.specs.declared.numbers.Leg.{Leg}
use Rattle.desk_units.specs.declared.numbers.Plane.{Plane}
use Rattle.desk_units.specs.declared.numbers.Res.{Res}
use Rattle.desk_units.specs.declared.numbers.Cabin.{Cabin}
use Rattle.file_rows.specs.Limits.{end_of_time}
use Rattle.desk_data.specs.declared.row.Row.{Row}
use Rattle.desk_data.specs.declared.row.Row.TheVariants as row
use Rattle.desk_data.specs.Situation.{Situation, plane_at, legs_of, planes_of, reservations_of}
use Rattle.desk_data.specs.Valid.{AreDistinct, IsRowOf}
use Rattle.plan_moves.specs.declared.moves.Step.{Step}
use Rattle.plan_moves.specs.declared.moves.Step.TheVariants as step
use Rattle.plan_moves.specs.declared.moves.Move.{Move}
use Rattle.plan_moves.specs.Fits.{StepFits, IsPathIn, Fits}
use Rattle.std.proofs.lemmas.List.Elements.{recursion_from_All}
use Rattle.desk_model.specs.declared.answer.Event.TheVariants as event
use Rattle.desk_top.proofs.NameBack as names
use Rattle.file_joins.specs.Join.{all_of, leg_of, plane_of, res_of, after_of, seat_of, path_of, row_of, set_of, push_of, swap_of, rebook_of, refill_of, step_of, row_is_in_time, step_is_in_time, is_move, move_of, joined_move}
use Rattle.desk_top.specs.Named.{named_leg, named_row, named_after, named_seat, named_path, named_res, named_step}

-- ---- names

module _ (I : Situation) (distinct : AreDistinct I.parts) where
  leg_back : (leg : Leg) → leg.0 < legs_of I → leg_of I (named_leg I leg.0) ≡ Ok leg
  leg_back leg lt = rw (names.leg_back I leg distinct lt) refl

  plane_back : (plane : Plane) → plane.0 < planes_of I → plane_of I (plane_at I plane.0).name ≡ Ok plane
  plane_back plane lt = rw (names.plane_back I plane distinct lt) refl

  res_back : (res : Res) → res.0 < reservations_of I → res_of I (named_res I res.0) ≡ Ok res
  res_back res lt = rw (names.res_back I res distinct lt) refl

  -- ---- steps

  row_back : (r : Row) → IsRowOf (planes_of I) r → row_of I (named_row I r) ≡ Ok r
  unfolding row_of
  row_back (row.Flown plane dep) fits = rw (plane_back plane fits.0) refl
  row_back row.Cancelled fits = refl

  after_back : (after : Option Leg) → ForSome after (λ leg. leg.0 < legs_of I) → after_of I (named_after I after) ≡ Ok after
  unfolding after_of
  after_back None fits = refl
  after_back (Some leg) fits = rw (leg_back leg (fits leg refl)) refl

  seats_back : (path : List (Leg × Cabin)) → AllByRecursion (λ pair. pair.0.0 < legs_of I) path → all_of (seat_of I) (map (named_seat I) path) ≡ Ok path
  unfolding all_of seat_of
  seats_back [] among = refl
  seats_back (pair ∷ path) among = rw (leg_back pair.0 among.0, seats_back path among.1) refl

  path_back : (path : List (Leg × Cabin)) → IsPathIn (legs_of I) path → path_of I (named_path I path) ≡ Ok path
  path_back path fits = seats_back path (recursion_from_All (λ pair. pair.0.0 < legs_of I) path fits.among)

  step_back : (s : Step) → StepFits I s → step_of I (named_step I s) ≡ Ok s
  unfolding set_of push_of swap_of rebook_of refill_of
  step_back (step.Set leg was new) fits = rw (leg_back leg fits.0, row_back was fits.1, row_back new fits.2) refl
  step_back (step.Push plane after) fits = rw (plane_back plane fits.0, after_back after fits.1) refl
  step_back (step.Swap first second at) fits = rw (plane_back first fits.0, plane_back second fits.1) refl
  step_back (step.Rebook res path to count) fits = rw (res_back res fits.0, path_back path fits.1, path_back to fits.2) refl
  step_back step.Tidy fits = refl
  step_back (step.Refill leg) fits = rw (leg_back leg fits) refl

  steps_back : (steps : List Step) → AllByRecursion (StepFits I) steps → all_of (step_of I) (map (named_step I) steps) ≡ Ok steps
  unfolding all_of
  steps_back [] each = refl
  steps_back (s ∷ steps) each = rw (step_back s each.0, steps_back steps each.1) refl

  -- ---- moves

  row_in_time : (r : Row) → IsRowOf (planes_of I) r → row_is_in_time r ≡ true
  row_in_time (row.Flown plane dep) fits = lt-ltb dep.0 end_of_time fits.1
  row_in_time row.Cancelled fits = refl

  step_in_time : (s : Step) → StepFits I s → step_is_in_time s ≡ true
  step_in_time (step.Set leg was new) fits = and_from _ _ (row_in_time was fits.1) (row_in_time new fits.2)
  step_in_time (step.Push plane after) fits = refl
  step_in_time (step.Swap first second at) fits = lt-ltb at.0 end_of_time fits.2
  step_in_time (step.Rebook res path to count) fits = refl
  step_in_time step.Tidy fits = refl
  step_in_time (step.Refill leg) fits = refl

  all_in_time : (steps : List Step) → AllByRecursion (StepFits I) steps → list_all step_is_in_time steps ≡ true
  all_in_time [] each = refl
  all_in_time (s ∷ steps) each = and_from _ _ (step_in_time s each.0) (all_in_time steps each.1)

  -- a move that fits is joined to itself
  pub move_back : (m : Move) → Fits I m → joined_move I (map (named_step I) m.steps) ≡ Ok (event.Move m)
  unfolding joined_move move_of
  move_back m fits =
      let each = recursion_from_All (StepFits I) m.steps fits.each in
      let is : is_move m.steps ≡ true = and_from _ _ (and_from _ _ (le-leb 1 (length m.steps) fits.some) (le-leb (length m.steps) 16 fits.most)) (all_in_time m.steps each) in
      rw (steps_back m.steps each, is) refl
