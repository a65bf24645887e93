use Rattle.std.proofs.Common.{sym, ◌∙◌, arith}
use Rattle.desk_data.proofs.TallySteps.{place_after, place_last, place_more, place_there}
use Rattle.desk_data.proofs.tally.place_among.Goals as goal

pub returns-in-Equal : goal.returns-in-Equal
returns-in-Equal c = place_there c.args.lists.now c.args.one.now c.loop-place.place _ c.requires c.loop-place-test.true c.loop-place.invariant (sym c.path_order.ensures ∙ c.in-Equal.is)

pub returns-in-Greater : goal.returns-in-Greater
returns-in-Greater c = (omega arith, place_after c.args.lists.now c.args.one.now c.loop-place.place _ c.requires c.loop-place-test.true c.loop-place.invariant (sym c.path_order.ensures ∙ c.in-Greater.is))

pub loop-place-preserved : goal.loop-place-preserved
loop-place-preserved c = place_more c.args.lists.now c.args.one.now c.loop-place.place _ c.loop-place-test.true c.loop-place.invariant (sym c.path_order.ensures ∙ c.in-Less.is)

pub returns : goal.returns
returns c = (omega arith, place_last c.args.lists.now c.args.one.now c.loop-place.place c.loop-place-test.false c.loop-place.invariant)
