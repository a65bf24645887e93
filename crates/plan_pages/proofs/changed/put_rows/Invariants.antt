use Rattle.std.proofs.Common.{◌≡◌}
use Rattle.plan_pages.proofs.PageLaws.{with_first_rows}
use Rattle.plan_pages.proofs.changed.put_rows.Given as goal

-- the legs so far have the rows of the plan
abbrev pub invariant-loop-x : goal.invariant-loop-x
invariant-loop-x l = l.pages ≡ with_first_rows l.fn.pages l.plan l.x
