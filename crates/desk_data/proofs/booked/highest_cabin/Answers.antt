use Rattle.std.proofs.Common.{◌+◌, ◌≤◌, drop, length, sym, ap, ◌∙◌, arith}
use Rattle.desk_units.specs.declared.numbers.Leg.{Leg}
use Rattle.desk_units.specs.declared.numbers.Cabin.{Cabin}
use Rattle.desk_units.specs.declared.numbers.Cabin.TheVariants as cabin
use Rattle.desk_data.specs.Booked.{higher_cabin, highest_cabin}
use Rattle.desk_data.proofs.HighestLaws.{cabin_more, cabin_all}
use Rattle.desk_data.proofs.booked.highest_cabin.Goals as goal

pub loop-cabin-preserved : goal.loop-cabin-preserved
loop-cabin-preserved c =
    let path = c.args.path.now in
    let i = c.loop-cabin.cabin-index in
    let none : Leg × Cabin = (record { 0 = 0 }, cabin.F) in
    ap (λ h. higher_cabin h (highest_cabin (drop (i + 1) path))) c.higher_cabin-highest.ensures ∙ cabin_more path i none c.loop-cabin.highest c.loop-cabin-test.true ∙ c.loop-cabin.invariant

pub returns : goal.returns
returns c =
    let all : length c.args.path.now ≤ c.loop-cabin.cabin-index = omega arith in
    sym (cabin_all c.args.path.now c.loop-cabin.cabin-index c.loop-cabin.highest all) ∙ c.loop-cabin.invariant
