-- The moves that the join gives fit the day.
use Rattle.std.proofs.Common.{◌≡◌, ℕ, suc, ◌<◌, ◌≤◌, true, List, [], ◌∷◌, length, refl, ap, subst, arith}
use Rattle.std.specs.Prelude.{Option, Some, None, Ok}
use Rattle.std.specs.List.{AllByRecursion}
use Rattle.std.specs.Option.{ForSome}
use Rattle.std.proofs.lemmas.Bool.{and_parts, leb-true, ltb-true}
use Rattle.std.proofs.lemmas.List.Elements.{All-from_recursion}
use Rattle.std.proofs.lemmas.List.Sums.{AllPass-from_list_all}
use Rattle.desk_units.specs.declared.numbers.Leg.{Leg}
use Rattle.desk_units.specs.declared.numbers.Plane.{Plane}
use Rattle.desk_units.specs.declared.numbers.Cabin.{Cabin}
use Rattle.file_rows.specs.declared.cause.Cause.TheVariants as cause
use Rattle.desk_data.specs.declared.row.Row.{Row}
use Rattle.desk_data.specs.declared.row.Row.TheVariants as row
use Rattle.desk_data.specs.Situation.{Situation, legs_of, planes_of, reservations_of}
use Rattle.desk_data.specs.Valid.{IsRowOf}
use Rattle.plan_moves.specs.declared.moves.Step.{Step}
use Rattle.plan_moves.specs.Fits.{Fits, IsPathIn, StepFits}
use Rattle.file_joins.specs.Names.{leg_named, plane_named, res_named}
use Rattle.file_joins.proofs.NameLaws.{leg_named-lt, plane_named-lt, res_named-lt}
use Rattle.desk_journal.specs.declared.rows.NamedLeg.{NamedLeg}
use Rattle.desk_journal.specs.declared.rows.NamedPath.{NamedPath}
use Rattle.desk_journal.specs.declared.rows.NamedRes.{NamedRes}
use Rattle.desk_journal.specs.declared.rows.NamedRow.{NamedRow}
use Rattle.desk_journal.specs.declared.rows.NamedRow.TheVariants as named_row
use Rattle.desk_journal.specs.declared.rows.NamedStep.{NamedStep}
use Rattle.desk_journal.specs.declared.rows.NamedStep.TheVariants as named
use Rattle.file_joins.specs.Join.{all_of, leg_of, plane_of, res_of, after_of, seat_of, path_of, row_of, set_of, push_of, swap_of, rebook_of, refill_of, step_of, row_is_in_time, step_is_in_time, is_move}
use Rattle.desk_top.specs.Due.{IsShort}
use Rattle.desk_top.proofs.Gives.{Gives, each, at_ok, weaker, ok_there}

module _ (I : Situation) where
  -- ---- what is found is there

  abbrev IsLeg : Leg → Type 0
  IsLeg leg = leg.0 < legs_of I

  abbrev IsPlane : Plane → Type 0
  IsPlane plane = plane.0 < planes_of I

  leg_there : (leg : NamedLeg) → Gives (leg_of I leg) IsLeg
  leg_there leg = ok_there (leg_named I leg.flight leg.day) cause.Unknown IsLeg (leg_named-lt I leg.flight leg.day)

  plane_there : (name : List ℕ) → Gives (plane_of I name) IsPlane
  plane_there name = ok_there (plane_named I name) cause.Unknown IsPlane (plane_named-lt I name)

  res_there : (res : NamedRes) → Gives (res_of I res) (λ r. r.0 < reservations_of I)
  res_there res = ok_there (res_named I res.name res.inbound) cause.Unknown (λ r. r.0 < reservations_of I) (res_named-lt I res.name res.inbound)

  abbrev IsAfter : Option Leg → Type 0
  IsAfter after = ForSome after IsLeg

  after_there : (after : Option NamedLeg) → Gives (after_of I after) IsAfter
  unfolding after_of
  after_there None = λ x is. absurd cc
  after_there (Some leg) = each (leg_of I leg) (λ x. Ok (Some x)) IsAfter (λ x is y same. (let equal : x ≡ y = cc in subst IsLeg equal (at_ok IsLeg (leg_of I leg) x is (leg_there leg))))

  -- ---- paths and rows

  abbrev IsSeat : Leg × Cabin → Type 0
  IsSeat seat = seat.0.0 < legs_of I

  seat_there : (seat : NamedLeg × Cabin) → Gives (seat_of I seat) IsSeat
  unfolding seat_of
  seat_there seat = each (leg_of I seat.0) (λ leg. Ok (leg, seat.1)) IsSeat (λ leg is. at_ok IsLeg (leg_of I seat.0) leg is (leg_there seat.0))

  abbrev AreSeats : ℕ → List (Leg × Cabin) → Type 0
  AreSeats n seats = (length seats ≡ n) × AllByRecursion IsSeat seats

  seats_there : (seats : List (NamedLeg × Cabin)) → Gives (all_of (seat_of I) seats) (AreSeats (length seats))
  unfolding all_of
  seats_there [] = (refl, tt)
  seats_there (seat ∷ seats) = each (seat_of I seat) _ (AreSeats (suc (length seats))) (λ x is. each (all_of (seat_of I) seats) _ (AreSeats (suc (length seats))) (λ xs also.
      (let rest = at_ok (AreSeats (length seats)) (all_of (seat_of I) seats) xs also (seats_there seats) in
      (ap suc rest.0, (at_ok IsSeat (seat_of I seat) x is (seat_there seat), rest.1)))))

  path_fits : (path : NamedPath) → length path.legs ≤ 8 → Gives (path_of I path) (IsPathIn (legs_of I))
  path_fits path few = weaker (AreSeats (length path.legs)) (IsPathIn (legs_of I)) (path_of I path) (λ seats are. record { short = omega (arith, few, are.0); among = All-from_recursion IsSeat seats are.1 }) (seats_there path.legs)

  abbrev RowFits : Row → Type 0
  RowFits r = row_is_in_time r ≡ true → IsRowOf (planes_of I) r

  row_fits : (r : NamedRow) → Gives (row_of I r) RowFits
  unfolding row_of
  row_fits (named_row.Flown name dep) = each (plane_of I name) (λ plane. Ok (row.Flown plane dep)) RowFits (λ plane is time. (at_ok IsPlane (plane_of I name) plane is (plane_there name), ltb-true dep.0 52500000 time))
  row_fits named_row.Cancelled = λ time. tt

  -- ---- steps that are in time fit

  abbrev FitsInTime : Step → Type 0
  FitsInTime step = step_is_in_time step ≡ true → StepFits I step

  step_fits : (s : NamedStep) → IsShort s → Gives (step_of I s) FitsInTime
  unfolding set_of push_of swap_of rebook_of refill_of
  step_fits (named.Set leg was new) short =
      each (leg_of I leg) _ FitsInTime (λ x is. each (row_of I was) _ FitsInTime (λ old first. each (row_of I new) _ FitsInTime (λ next second time.
      (let both = and_parts (row_is_in_time old) (row_is_in_time next) time in
      (at_ok IsLeg (leg_of I leg) x is (leg_there leg), at_ok RowFits (row_of I was) old first (row_fits was) both.0, at_ok RowFits (row_of I new) next second (row_fits new) both.1)))))
  step_fits (named.Push plane after) short =
      each (plane_of I plane) _ FitsInTime (λ p is. each (after_of I after) _ FitsInTime (λ a also time.
      (at_ok IsPlane (plane_of I plane) p is (plane_there plane), at_ok IsAfter (after_of I after) a also (after_there after))))
  step_fits (named.Swap one other at) short =
      each (plane_of I one) _ FitsInTime (λ p is. each (plane_of I other) _ FitsInTime (λ q also time.
      (at_ok IsPlane (plane_of I one) p is (plane_there one), at_ok IsPlane (plane_of I other) q also (plane_there other), ltb-true at.0 52500000 time)))
  step_fits (named.Rebook res path to count) short =
      each (res_of I res) _ FitsInTime (λ r is. each (path_of I path) _ FitsInTime (λ from first. each (path_of I to) _ FitsInTime (λ onto second time.
      (at_ok (λ r. r.0 < reservations_of I) (res_of I res) r is (res_there res), at_ok (IsPathIn (legs_of I)) (path_of I path) from first (path_fits path short.0), at_ok (IsPathIn (legs_of I)) (path_of I to) onto second (path_fits to short.1), short.2, short.3))))
  step_fits named.Tidy short = λ time. tt
  step_fits (named.Refill leg) short = each (leg_of I leg) _ FitsInTime (λ x is time. at_ok IsLeg (leg_of I leg) x is (leg_there leg))

  abbrev AreFitting : List Step → Type 0
  AreFitting steps = AllByRecursion FitsInTime steps

  steps_fit : (steps : List NamedStep) → AllByRecursion IsShort steps → Gives (all_of (step_of I) steps) AreFitting
  unfolding all_of
  steps_fit [] short = tt
  steps_fit (s ∷ steps) short = each (step_of I s) _ AreFitting (λ x is. each (all_of (step_of I) steps) _ AreFitting (λ xs also.
      (at_ok FitsInTime (step_of I s) x is (step_fits s short.0), at_ok AreFitting (all_of (step_of I) steps) xs also (steps_fit steps short.1))))

  -- 1 to 16 steps that are in time are a move that fits
  pub move_fits : (named : List NamedStep) (steps : List Step) → AllByRecursion IsShort named → all_of (step_of I) named ≡ Ok steps → is_move steps ≡ true → Fits I (record { steps = steps })
  move_fits named steps short joined is =
      let fit = All-from_recursion FitsInTime steps (at_ok AreFitting (all_of (step_of I) named) steps joined (steps_fit named short)) in
      let parts = and_parts _ _ is in
      let counts = and_parts _ _ parts.0 in
      record {
        some = leb-true 1 (length steps) counts.0;
        most = leb-true (length steps) 16 counts.1;
        each = λ k d below. fit k d below (AllPass-from_list_all step_is_in_time steps parts.1 k d below);
      }
