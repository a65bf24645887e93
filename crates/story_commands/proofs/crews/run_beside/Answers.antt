use Rattle.std.proofs.Common.{ℕ, [], sym, ap, subst, ◌∙◌}
use Rattle.desk_data.specs.Situation.{Situation}
use Rattle.desk_model.specs.declared.answer.Event.{Event}
use Rattle.desk_model.specs.States.{opening}
use Rattle.desk_model.specs.Histories.{IsAskable, run}
use Rattle.desk_core.specs.Recorded.{Recorded}
use Rattle.crew_duty.specs.Board.{IsCrewBoard}
use Rattle.desk_tasks.specs.Crew.{crew_lines}
use Rattle.story_commands.proofs.RunLaws.{continues-start, continues-next, continues-end}
use Rattle.story_commands.proofs.CrewLaws.{lines_start}
use Rattle.story_commands.proofs.crews.run_beside.Goals as goal

pub take_beside-requires-clause-asked : goal.take_beside-requires-clause-asked
take_beside-requires-clause-asked c =
    rw c.loop-asked.invariant.run.same
    (subst (λ (asked : ℕ × Event). IsAskable c.args.inst asked.1) (sym c.asked-item.is)
    (c.requires.asked c.loop-asked.asked-index c.asked-item.result c.loop-asked-test.true))

pub loop-asked-init : goal.loop-asked-init
loop-asked-init c = record {
  run = continues-start c.args.inst c.in_ok-book.book c.args.events.now c.in_ok-book.ensures;
  board = c.in_ok-board.ensures.board;
  lines = lines_start c.args.inst c.args.crews.now c.in_ok-book.book c.new-lines.result.items c.in_ok-book.ensures c.new-lines.ensures.items;
}

pub loop-asked-preserved : goal.loop-asked-preserved
loop-asked-preserved c = record {
  run =
      continues-next c.args.inst c.loop-asked.book c.take_beside.new.book c.asked-item.result c.loop-asked.asked-index c.args.events.now (run (opening c.args.inst) c.args.events.now)
      c.loop-asked-test.true c.asked-item.is c.in_ok-take_beside.ensures.book c.loop-asked.invariant.run;
  board = subst (λ (I : Situation). IsCrewBoard I.parts c.args.crews.now c.take_beside.new.board) c.loop-asked.invariant.run.same c.in_ok-take_beside.ensures.board;
  lines = c.in_ok-take_beside.ensures.lines c.loop-asked.invariant.lines;
}

pub returns-clause-book : goal.returns-clause-book
returns-clause-book c = continues-end c.args.inst c.loop-asked.book c.loop-asked.asked-index c.args.events.now (run (opening c.args.inst) c.args.events.now) c.loop-asked-test.false c.loop-asked.invariant.run

pub returns-clause-lines : goal.returns-clause-lines
returns-clause-lines c =
    let h = run (opening c.args.inst) c.args.events.now in
    c.loop-asked.invariant.lines
    ∙ ap (λ (C : Recorded). crew_lines (opening C.opening) c.args.crews.now [] C.journal) (continues-end c.args.inst c.loop-asked.book c.loop-asked.asked-index c.args.events.now h c.loop-asked-test.false c.loop-asked.invariant.run)
