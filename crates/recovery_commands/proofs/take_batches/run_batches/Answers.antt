use Rattle.std.proofs.Common.{refl, sym, subst, arith}
use Rattle.desk_data.specs.Valid.{IsBatch}
use Rattle.recovery_commands.proofs.RecoverLaws.{continues-start, continues-taken, continues-next, continues-end}
use Rattle.recovery_commands.proofs.take_batches.run_batches.Goals as goal

pub loop-batch-init : goal.loop-batch-init
loop-batch-init g c = record {
  goes = continues-start c.args.inst c.args.moves c.in_ok-book.book _ c.args.batches.now c.in_ok-book.ensures;
  number = refl;
}

pub intake-requires : goal.intake-requires
intake-requires g c =
    rw c.loop-batch.invariant.goes.same
    (subst (IsBatch c.args.inst.parts) (sym c.batch-item.is)
    (c.requires.asked c.loop-batch.batch-index c.batch-item.result c.loop-batch-test.true))

pub descend-requires : goal.descend-requires
descend-requires g c =
    continues-taken c.args.inst c.args.moves c.loop-batch.book c.intake.new.self c.loop-batch.search c.batch-item.result c.loop-batch.batch-index c.loop-batch.number c.args.batches.now
    c.loop-batch-test.true c.requires.few c.in_ok-intake.ensures.after c.loop-batch.invariant.number c.loop-batch.invariant.goes

pub loop-batch-preserved : goal.loop-batch-preserved
loop-batch-preserved g c = record {
  goes = continues-next c.args.inst c.args.moves c.loop-batch.book c.intake.new.self c.descend.new.book c.loop-batch.search c.in_ok-search.search c.batch-item.result c.loop-batch.batch-index c.args.batches.now
      c.loop-batch-test.true c.requires.few c.batch-item.is c.in_ok-intake.ensures.after c.in_ok-search.ensures.ok c.in_ok-search.ensures.ended c.loop-batch.invariant.goes;
  number = let is = c.loop-batch.invariant.number in omega (arith, is);
}

pub returns : goal.returns
returns g c = continues-end c.args.inst c.args.moves c.loop-batch.book c.loop-batch.search c.loop-batch.batch-index c.args.batches.now
    c.requires.some c.loop-batch-test.false c.loop-batch.invariant.goes
