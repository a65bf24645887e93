use Rattle.desk_data.specs.declared.row.Row.TheVariants.{Cancelled}
use Rattle.near_untouched.proofs.SamePlanLaws.{AreSameUpTo}
use Rattle.near_untouched.proofs.same.has_same_rows.Given as goal

-- the legs so far have the same rows
abbrev pub invariant-loop-x : goal.invariant-loop-x
invariant-loop-x l = AreSameUpTo Cancelled l.one.rows l.other.rows l.x
