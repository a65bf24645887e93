use Rattle.std.proofs.Common.{◌≡◌, true, false, not, leb, length, take, refl, sym, ◌∙◌, rules}
use Rattle.std.specs.List.{list_all}
use Rattle.std.proofs.lemmas.Bool.{le-leb}
use Rattle.desk_units.specs.declared.numbers.Leg.{Leg}
use Rattle.desk_data.specs.Situation.{fixed}
use Rattle.near_legs.proofs.RunLaws.{is_run-of, more_than}
use Rattle.near_legs.proofs.runs.is_run.Goals as goal

pub returns-then-count-legs : goal.returns-then-count-legs
returns-then-count-legs c =
    let I = c.args.inst.now in
    let legs = c.args.legs.now in
    let is = is_run-of I c.args.plan.now c.args.leg.0 c.args.count legs c.requires.most c.requires.legs in
    let test : leb c.args.count (length legs) ≡ true = le-leb c.args.count (length legs) c.if-count-legs.true in
    let all : c.are_movable.result ≡ list_all (λ (l : Leg). not (fixed I l.0)) (take c.args.count legs) = search rules in
    all ∙ sym (is ∙ rw test refl)

pub returns-else-count-legs : goal.returns-else-count-legs
returns-else-count-legs c =
    let legs = c.args.legs.now in
    let is = is_run-of c.args.inst.now c.args.plan.now c.args.leg.0 c.args.count legs c.requires.most c.requires.legs in
    let test : leb c.args.count (length legs) ≡ false = more_than c.args.count (length legs) c.if-count-legs.false in
    test ∙ sym (is ∙ rw test refl)
