use Rattle.std.proofs.Common.{◌≡◌, ℕ, ◌<◌}
use Rattle.std.specs.Prelude.{None}
use Rattle.ferry_legs.specs.Steps.{paying_of}
use Rattle.ferry_legs.proofs.kept.Kept.next.Given as goal

-- the aircraft so far have none
abbrev pub invariant-loop-p : goal.invariant-loop-p
invariant-loop-p g l = (q : ℕ) → q < l.p → paying_of l.inst l.plan g.added q ≡ None

abbrev pub ghost-first_of_plane : goal.ghost-first_of_plane
ghost-first_of_plane g a = g.added
