use Rattle.std.proofs.Common.{List, sym, subst, arith}
use Rattle.desk_pool.specs.declared.worker.Worker.{Worker}
use Rattle.desk_pool.proofs.Opening.{AreOpened, opened_more, opened_shards}
use Rattle.desk_pool.proofs.all_workers.open_workers.Goals as goal

pub loop-index-preserved : goal.loop-index-preserved
loop-index-preserved c =
    let at = c.loop-index.invariant.0 in
    let opened = c.in_ok-open.ensures in
    let number = opened.number.0 in (
      omega (arith, at, c.in_ok-push.ensures.len),
      subst (λ (l : List Worker). AreOpened c.args.count c.args.book.now.opening c.args.book.now.journal l) (sym c.in_ok-push.ensures.items)
          (opened_more c.args.count c.args.book.now.opening c.args.book.now.journal c.loop-index.workers.items c.in_ok-open.field-0 c.loop-index.invariant.1 (omega (arith, at, number)) opened.number.1 opened.ready opened.all opened.trail),
    )

pub returns-clause-numbers : goal.returns-clause-numbers
returns-clause-numbers c = c.loop-index.invariant.1.number

pub returns-clause-shards : goal.returns-clause-shards
returns-clause-shards c =
    opened_shards c.args.count c.args.book.now.opening c.args.book.now.journal c.loop-index.workers.items (omega (arith, c.loop-index.invariant.0, c.loop-index-test.false, c.loop-index.auto.index-end)) c.loop-index.invariant.1
