use Rattle.desk_core.proofs.KeptLaws.{kept_opening}
use Rattle.desk_core.proofs.book.Book.open.Goals as goal

pub invariant_of-result : goal.invariant_of-result
invariant_of-result c =
    rw (c.in_ok-eval.ensures, c.in_ok-plan.ensures.plan, c.new.ensures.items) (kept_opening c.args.inst c.requires)
