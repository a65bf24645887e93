use Rattle.std.proofs.Common.{ℕ, sym, subst}
use Rattle.desk_model.specs.declared.answer.Event.{Event}
use Rattle.desk_model.specs.States.{opening}
use Rattle.desk_model.specs.Histories.{IsAskable, run}
use Rattle.story_commands.proofs.RunLaws.{continues-next, continues-end}
use Rattle.story_commands.proofs.take_events.run_events.Goals as goal

pub take_event-requires : goal.take_event-requires
take_event-requires c =
    rw c.loop-asked.invariant.same
    (subst (λ (asked : ℕ × Event). IsAskable c.args.inst asked.1) (sym c.asked-item.is)
    (c.requires.asked c.loop-asked.asked-index c.asked-item.result c.loop-asked-test.true))

pub loop-asked-preserved : goal.loop-asked-preserved
loop-asked-preserved c =
    continues-next c.args.inst c.loop-asked.book c.take_event.new.book c.asked-item.result c.loop-asked.asked-index c.args.events.now (run (opening c.args.inst) c.args.events.now)
    c.loop-asked-test.true c.asked-item.is c.in_ok-take_event.ensures c.loop-asked.invariant

pub returns : goal.returns
returns c = continues-end c.args.inst c.loop-asked.book c.loop-asked.asked-index c.args.events.now (run (opening c.args.inst) c.args.events.now) c.loop-asked-test.false c.loop-asked.invariant
