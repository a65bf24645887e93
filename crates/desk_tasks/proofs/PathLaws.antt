-- Where each reservation keeps the rules of paths, no item of them is broken.
use Rattle.std.proofs.Common.{◌≡◌, ℕ, ◌<◌, ◌≤◌, ◌⊎◌, inl, inr, true, not, ◌&&◌, refl, sym, ap, ◌∙◌, arith}
use Rattle.std.specs.Prelude.{Option, Some, None, find}
use Rattle.std.specs.Option.{option_or}
use Rattle.std.proofs.lemmas.Bool.{and_parts}
use Rattle.desk_data.specs.declared.broken.Broken.TheVariants.{C12, C13, C14, C15}
use Rattle.desk_data.specs.Situation.{Situation, reservations_of}
use Rattle.desk_data.specs.PlanRows.{PlanRows}
use Rattle.desk_rules.specs.Carriage.{keeps_c13, keeps_c14, keeps_c15}
use Rattle.desk_rules.specs.Least.{breaks, each_cabin, each_res, least, least_pax, least_rot, least_slots, res}
use Rattle.desk_rules.proofs.FindLaws.{numbers_none}
use Rattle.desk_rules.proofs.LeastLaws.{least-split}
use Rattle.desk_data.specs.declared.broken.Broken.{Broken}
use Rattle.plan_checks.proofs.PassengerItemLaws.{least-by_rule}
use Rattle.desk_tasks.specs.Paths.{KeepPaths, first_of_paths, keeps_paths}

none_c13 : (I : Situation) (P : PlanRows) → ((r : ℕ) → r < reservations_of I → keeps_c13 I P r ≡ true) → find (breaks I P) (each_res I C13) ≡ None
unfolding breaks
none_c13 I P h = numbers_none (breaks I P) (λ r. C13 (res r)) (reservations_of I) (λ r lt. ap not (h r lt))

none_c14 : (I : Situation) (P : PlanRows) → ((r : ℕ) → r < reservations_of I → keeps_c14 I P r ≡ true) → find (breaks I P) (each_res I C14) ≡ None
unfolding breaks
none_c14 I P h = numbers_none (breaks I P) (λ r. C14 (res r)) (reservations_of I) (λ r lt. ap not (h r lt))

none_c15 : (I : Situation) (P : PlanRows) → ((r : ℕ) → r < reservations_of I → keeps_c15 I P r ≡ true) → find (breaks I P) (each_res I C15) ≡ None
unfolding breaks
none_c15 I P h = numbers_none (breaks I P) (λ r. C15 (res r)) (reservations_of I) (λ r lt. ap not (h r lt))

all_kept : (I : Situation) (P : PlanRows) → ((r : ℕ) → r < reservations_of I → keeps_paths I P r ≡ true) → first_of_paths I P ≡ None
all_kept I P h =
    let last : (r : ℕ) → r < reservations_of I → (keeps_c13 I P r && keeps_c14 I P r ≡ true) × (keeps_c15 I P r ≡ true) = λ r lt. and_parts (keeps_c13 I P r && keeps_c14 I P r) (keeps_c15 I P r) (h r lt) in
    let two : (r : ℕ) → r < reservations_of I → (keeps_c13 I P r ≡ true) × (keeps_c14 I P r ≡ true) = λ r lt. and_parts (keeps_c13 I P r) (keeps_c14 I P r) (last r lt).0 in
    rw (none_c13 I P (λ r lt. (two r lt).0), none_c14 I P (λ r lt. (two r lt).1), none_c15 I P (λ r lt. (last r lt).1)) refl

-- two pieces that keep the rules of paths make one
pub kept-both : (I : Situation) (P : PlanRows) (from at to : ℕ) → KeepPaths I P from at → KeepPaths I P at to → KeepPaths I P from to
kept-both I P from at to front back r above below within =
    let cases : (r < at) ⊎ (at ≤ r) = grind arith in
    elim cases [
      | inl before ↦ front r above before within
      | inr after ↦ back r after below within
    ]

-- where all reservations keep the rules of paths, in two pieces, no item of them is broken
pub none_in_pieces : (I : Situation) (P : PlanRows) (at : ℕ) → KeepPaths I P 0 at → KeepPaths I P at (reservations_of I) → first_of_paths I P ≡ None
none_in_pieces I P at front back =
    all_kept I P (λ r lt. kept-both I P 0 at (reservations_of I) front back r (omega arith) lt lt)

or_assoc : {X : Type 0} (a b c d : Option X) → option_or (option_or (option_or a b) c) d ≡ option_or a (option_or (option_or b c) d)
or_assoc (Some x) b c d = refl
or_assoc None b c d = refl

or_none : {X : Type 0} (a : Option X) → option_or a None ≡ a
or_none (Some x) = refl
or_none None = refl

-- where no item of paths is broken, the first item of passengers is that of seats
pub seats-alone : (I : Situation) (P : PlanRows) → first_of_paths I P ≡ None → least_pax I P ≡ find (breaks I P) (each_cabin I C12)
seats-alone I P none =
    let seats = find (breaks I P) (each_cabin I C12) in
    least-by_rule I P ∙ or_assoc seats _ _ _ ∙ ap (option_or seats) none ∙ or_none seats

-- where no item of rotations and none of hours is broken, the first item is that of passengers
pub passengers-alone : (I : Situation) (P : PlanRows) → least_rot I P ≡ None → least_slots I P ≡ None → least_pax I P ≡ least I P
passengers-alone I P rot hours =
    sym (least-split I P ∙ ap (λ (first : Option Broken). option_or first (option_or (least_slots I P) (least_pax I P))) rot ∙ ap (λ (first : Option Broken). option_or first (least_pax I P)) hours)
