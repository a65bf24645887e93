use Rattle.std.proofs.Common.{sym, ◌∙◌}
use Rattle.turn_book.specs.Passes.{known}
use Rattle.desk_pool.specs.Workers.{day_of}
use Rattle.recovery_commands.proofs.Taking.{reply_full, reply_taken, has_full, has_taken}
use Rattle.recovery_commands.proofs.batches.take_one.Goals as goal

pub returns-then-is_full-clause-taken : goal.returns-then-is_full-clause-taken
returns-then-is_full-clause-taken g c =
    has_full (day_of c.args.turn.now) c.args.batch.now (known c.args.pass.now) (known c.call.new.pass)
    (reply_full (day_of c.args.turn.now) (known c.args.pass.now) (known c.call.new.pass) c.args.batch.now c.in_ok-copied.copied c.in_ok-reply.reply c.in_ok-copied.ensures c.in_ok-reply.ensures.ok (sym c.is_full.ensures ∙ c.if-is_full.true))

pub returns-clause-taken : goal.returns-clause-taken
returns-clause-taken g c =
    has_taken (day_of c.args.turn.now) c.args.batch.now (known c.args.pass.now) (known c.call.new.pass)
    (reply_taken (day_of c.args.turn.now) (known c.args.pass.now) (known c.call.new.pass) c.args.batch.now c.in_ok-copied.copied c.in_ok-reply.reply c.in_ok-copied.ensures c.in_ok-reply.ensures.ok (sym c.is_full.ensures ∙ c.if-is_full.false))
