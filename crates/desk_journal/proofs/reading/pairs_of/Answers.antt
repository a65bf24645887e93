use Rattle.std.proofs.Common.{◌≡◌, ◌++◌, ◌∷◌, []}
use Rattle.desk_journal.specs.Reading.{many, pair_at}
use Rattle.desk_journal.proofs.Loops.{goes_on, ends, is_done}
use Rattle.desk_journal.proofs.reading.pairs_of.Goals as goal

pub returns-in_default : goal.returns-in_default
returns-in_default c = ends pair_at c.loop.pairs.items c.args.count c.loop.counter c.loop.rest.now (many pair_at c.args.count c.args.bytes.now) c.loop-test.true c.in_default.ensures c.loop.invariant

pub loop-preserved : goal.loop-preserved
loop-preserved c =
    let e : c.push.new.self.items ≡ c.loop.pairs.items ++ c.in-Some.pair ∷ [] = c.in_ok-push.ensures.items in
    rw e (goes_on pair_at c.loop.pairs.items c.args.count c.loop.counter c.loop.rest.now c.in-Some.pair c.in-Some.after.now (many pair_at c.args.count c.args.bytes.now) c.loop-test.true c.in-Some.ensures c.loop.invariant)

pub returns : goal.returns
returns c = is_done pair_at c.loop.pairs.items c.args.count c.loop.counter c.loop.rest.now (many pair_at c.args.count c.args.bytes.now) c.loop-test.false c.loop.invariant
