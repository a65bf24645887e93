use Rattle.std.proofs.Common.{◌≡◌, ℕ, ◌<◌}
use Rattle.std.specs.Prelude.{None}
use Rattle.ferry_legs.specs.Steps.{paying}
use Rattle.ferry_legs.proofs.kept.Kept.first_of_plane.Given as goal

-- the airports so far have none
abbrev pub invariant-loop-d : goal.invariant-loop-d
invariant-loop-d g l = (e : ℕ) → e < l.d → paying l.inst l.plan g.added l.plane.0 e ≡ None

abbrev pub ghost-paying : goal.ghost-paying
ghost-paying g a = g.added
