use Rattle.std.proofs.Common.{◌≡◌, drop}
use Rattle.build_refusals.specs.First.{refusal_from, first_refusal_in}
use Rattle.build_refusals.proofs.first.first_refusal_in.Given as goal

-- the first that is refused among the rows that are left is the first of all
abbrev pub invariant-loop-place : goal.invariant-loop-place
invariant-loop-place g l = refusal_from (g.C.Check.cause_of l.check) (λ n row. g.Row.Lined.line_of row) l.place (drop l.place l.rows) ≡ first_refusal_in (g.C.Check.cause_of l.check) g.Row.Lined.line_of l.rows
