use Rattle.desk_pool.proofs.Following.{stands_at_book}
use Rattle.desk_pool.proofs.follower.Follower.of.Goals as goal

pub returns-clause-stands : goal.returns-clause-stands
returns-clause-stands c =
    let is = c.in_ok-eval.ensures in
    stands_at_book c.args.book.now c.eval.result.now _ is c.eval.ensures.inst c.eval.ensures.rows c.broken.ensures c.entries.ensures.count c.changes.ensures c.accepted.ensures
