-- A move by which cancelled legs are flown again makes the plan no cheaper where that costs at least as much as it saves at most.
use Rattle.std.proofs.Common.{◌≡◌, ℕ, ◌+◌, ◌<◌, ◌≤◌, true, false, ◌&&◌, ◌||◌, not, List, [], ◌∷◌, ◌++◌, refl, sym, ap, subst, ◌∙◌, arith}
use Rattle.std.specs.Prelude.{Option, None, Some, map, sum_by}
use Rattle.std.specs.List.{All, AllByRecursion, list_all}
use Rattle.std.proofs.lemmas.Bool.{and_from, eq-eqb}
use Rattle.std.proofs.lemmas.List.{append_assoc}
use Rattle.std.proofs.lemmas.List.Elements.{All-nil, All-cons, All-head, All-tail, recursion_from_All}
use Rattle.std.proofs.lemmas.List.Sums.{sum_by-append}
use Rattle.desk_units.specs.declared.numbers.Leg.{Leg}
use Rattle.desk_data.specs.declared.row.Row.{Row}
use Rattle.desk_data.specs.declared.row.Row.TheVariants.{Cancelled}
use Rattle.desk_data.specs.Situation.{Situation, legs_of, earliest}
use Rattle.desk_data.specs.PlanRows.{PlanRows, row_at}
use Rattle.desk_data.specs.Valid.{IsPlanFor, IsValid}
use Rattle.plan_moves.specs.Fits.{Fits, StepFits}
use Rattle.plan_moves.specs.declared.moves.Move.{Move}
use Rattle.plan_moves.specs.declared.moves.Step.{Step}
use Rattle.plan_moves.specs.declared.moves.Step.TheVariants.{Push, Tidy, Refill}
use Rattle.desk_rules.specs.Least.{least}
use Rattle.desk_rules.specs.Passengers.{is_flown}
use Rattle.desk_rules.specs.Cost.{cost}
use Rattle.desk_model.specs.Steps.{after_move}
use Rattle.desk_model.proofs.MoveLaws.{after_steps-valid}
use Rattle.near_moves.specs.Descent.{is_better}
use Rattle.near_moves.specs.LegMoves.{back_departure, restoring_alone, restoring_both}
use Rattle.near_moves.specs.MoveParts.{leg, plane}
use Rattle.near_moves.specs.Units.{MoveUnit}
use Rattle.near_moves.specs.Out.{IsOut, dear}
use Rattle.near_moves.specs.Same.{is_of}
use Rattle.near_priced.specs.Unpaid.{flies_on, is_own_leg, is_either, saved_by_ending}
use Rattle.near_priced.proofs.DearLaws.{dear-worse}
use Rattle.near_priced.proofs.UnpaidLaws.{positions-all}
use Rattle.near_priced.specs.Priced.{paid_on, paid_booked, refilled}
use Rattle.near_priced.proofs.PricedLaws.{priced-dear}
use Rattle.near_dear.specs.Restored.{flown_legs, flying_step, flying, moved_legs, IsRestore, IsDearRestore}
use Rattle.near_dear.proofs.FlownLaws.{first_steps, are-gone, restored-cost, same-groups, all-changed, none-paid-all}

itself : (p : ℕ) → is_either p p p ≡ true
itself p = rw (eq-eqb p p refl) refl

-- its first steps fly legs of the aircraft on, or cancelled ones again
first-fly : (P : PlanRows) (p : ℕ) (flights : List (ℕ × ℕ)) (after : Option Leg) → All (λ x. row_at P x ≡ Cancelled) (flown_legs flights) → list_all (flies_on P p p) (first_steps p flights after) ≡ true
first-fly P p [] after gone = and_from (is_either p p p) true (itself p) refl
first-fly P p (flight ∷ flights) after gone =
    let x = flight.0 in
    let xs = flown_legs flights in
    let own : is_own_leg P p p x ≡ true = ap (λ (row : Row). is_of (is_either p p) row || not (is_flown row)) (All-head (λ (y : ℕ). row_at P y ≡ Cancelled) x xs gone) in
    and_from (is_own_leg P p p x && is_either p p p) (list_all (flies_on P p p) (first_steps p flights after))
    (and_from (is_own_leg P p p x) (is_either p p p) own (itself p))
    (first-fly P p flights after (All-tail (λ (y : ℕ). row_at P y ≡ Cancelled) x xs gone))

pub first-fit : (I : Situation) (first others : List Step) → AllByRecursion (StepFits I) (first ++ others) → AllByRecursion (StepFits I) first
first-fit I [] others fits = tt
first-fit I (step ∷ first) others fits = (fits.0, first-fit I first others fits.1)

legs-within : (I : Situation) (p : ℕ) (flights : List (ℕ × ℕ)) (after : Option Leg) → AllByRecursion (StepFits I) (first_steps p flights after) → All (λ x. x < legs_of I) (flown_legs flights)
legs-within I p [] after fits = All-nil (λ (x : ℕ). x < legs_of I)
legs-within I p (flight ∷ flights) after fits = All-cons (λ (x : ℕ). x < legs_of I) flight.0 (flown_legs flights) fits.0.0 (legs-within I p flights after fits.1)

pub restore-dear : (I : Situation) (P : PlanRows) (m : Move) (p at : ℕ) (flights : List (ℕ × ℕ)) (after : Option Leg) (others : List Step) → IsValid I → IsPlanFor I P → least I P ≡ None → Fits I m → IsRestore m p at flights after others → IsDearRestore I P p at (flown_legs flights) → cost I P ≤ cost I (after_move I P m)
restore-dear I P m p at flights after others valid plan feasible fits is known =
    let legs = flown_legs flights in
    let first = first_steps p flights after in
    let steps : m.steps ≡ first ++ others = is.steps ∙ sym (append_assoc (map (flying_step p) flights) (Push (plane p) after ∷ []) others) in
    let fit : AllByRecursion (StepFits I) first = first-fit I first others (subst (AllByRecursion (StepFits I)) steps (recursion_from_All (StepFits I) m.steps fits.each)) in
    let gone = are-gone P (legs_of I) flights (legs-within I p flights after fit) known.gone known.apart in
    let flown = restored-cost I P p flights after plan.legs gone in
    let positions = positions-all I P p p first (first-fly P p flights after known.gone) refl in
    let nobody = none-paid-all I P legs feasible known.gone in
    let booked : sum_by (paid_booked I P) (refilled others) ≡ sum_by (paid_booked I P) legs = ap (sum_by (paid_booked I P)) is.refills in
    let less : saved_by_ending I P p p + sum_by (paid_on I P) (moved_legs I P p at) + sum_by (paid_booked I P) legs ≤ sum_by (flying I p) legs = known.dear in
    priced-dear I P m first others (legs ++ moved_legs I P p at) valid (after_steps-valid I P first valid fit plan) feasible steps (same-groups I P p flights after) is.tidied (all-changed I P p at flights after plan gone is.pushed)
    (omega (arith, less, flown, positions, nobody, booked, sum_by-append (paid_on I P) legs (moved_legs I P p at)))

pub restore-out : (I : Situation) (P : PlanRows) (m : Move) (u : MoveUnit) (p at : ℕ) (flights : List (ℕ × ℕ)) (after : Option Leg) (others : List Step) → IsValid I → IsPlanFor I P → least I P ≡ None → Fits I m → IsRestore m p at flights after others → IsDearRestore I P p at (flown_legs flights) → IsOut I P u m
restore-out I P m u p at flights after others valid plan feasible fits is known = dear (restore-dear I P m p at flights after others valid plan feasible fits is known)

pub restore-worse : (I : Situation) (P : PlanRows) (m : Move) (p at : ℕ) (flights : List (ℕ × ℕ)) (after : Option Leg) (others : List Step) → IsValid I → IsPlanFor I P → least I P ≡ None → Fits I m → IsRestore m p at flights after others → IsDearRestore I P p at (flown_legs flights) → is_better I P m ≡ false
restore-worse I P m p at flights after others valid plan feasible fits is known = dear-worse I P m (restore-dear I P m p at flights after others valid plan feasible fits is known)

-- ---- the moves that restore legs

pub alone-restores : (I : Situation) (m : Move) (x p : ℕ) → m.steps ≡ restoring_alone I x p → IsRestore m p (earliest I x) ((x, earliest I x) ∷ []) (Some (leg x)) (Tidy ∷ Refill (leg x) ∷ [])
alone-restores I m x p is = record { steps = is; pushed = (refl, refl); tidied = refl; refills = refl }

pub both-restore : (I : Situation) (m : Move) (x p y : ℕ) → m.steps ≡ restoring_both I x p y → IsRestore m p 0 ((x, earliest I x) ∷ (y, back_departure I x p y) ∷ []) None (Tidy ∷ Refill (leg x) ∷ Refill (leg y) ∷ [])
both-restore I m x p y is = record { steps = is; pushed = refl; tidied = refl; refills = refl }
