use Rattle.std.proofs.Common.{◌≡◌, ℕ, ◌<◌, length, get_or}
use Rattle.std.specs.Prelude.{None}
use Rattle.desk_data.specs.Situation.{planes_of}
use Rattle.added_legs.specs.Stands.{end_with}
use Rattle.added_legs.proofs.stands.put_ends.Given as goal

-- the ends of the aircraft so far
abbrev pub invariant-loop-p : goal.invariant-loop-p
invariant-loop-p l = record {
  planes : length l.stands ≡ planes_of l.inst;
  each : (k : ℕ) → k < l.p → get_or l.stands k None ≡ end_with l.inst l.plan k (get_or l.lasts k None) (get_or l.flights k None);
}
