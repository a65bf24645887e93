use Rattle.std.proofs.Common.{◌≡◌, ◌∷◌, [], ℕ, List, sym, arith}
use Rattle.desk_units.specs.declared.numbers.Cabin.TheVariants.{F, B, E}
use Rattle.desk_data.specs.declared.broken.Broken.{Broken}
use Rattle.desk_data.specs.declared.broken.Broken.TheVariants.{C12}
use Rattle.desk_data.specs.Situation.{legs_of}
use Rattle.desk_rules.specs.Least.{breaks, leg}
use Rattle.desk_rules.proofs.FindLaws.{first_of_lists, lists_none}
use Rattle.plan_checks.proofs.SeatLaws.{all_seated}
use Rattle.plan_checks.proofs.c12_seats.first_c12.Goals as goal

abbrev cabins : ℕ → List Broken
cabins x = C12 (leg x) F ∷ C12 (leg x) B ∷ C12 (leg x) E ∷ []

pub first_of_leg-requires-clause-taken : goal.first_of_leg-requires-clause-taken
first_of_leg-requires-clause-taken c =
    all_seated c.args.inst.now c.args.plan.now c.in_ok-taken.taken.items c.loop-x.x c.index.result.now c.requires.res c.in_ok-taken.ensures (omega arith) c.index.ensures

pub returns-in-Some : goal.returns-in-Some
returns-in-Some c =
    sym (first_of_lists (breaks c.args.inst.now c.args.plan.now) cabins (legs_of c.args.inst.now) c.loop-x.x c.in-Some.item (omega arith) (sym c.in-Some.ensures) c.loop-x.invariant)

pub returns : goal.returns
returns c =
    let all : c.loop-x.x ≡ legs_of c.args.inst.now = omega arith in
    sym (lists_none (breaks c.args.inst.now c.args.plan.now) cabins (legs_of c.args.inst.now) (λ x lt. c.loop-x.invariant x (omega arith)))
