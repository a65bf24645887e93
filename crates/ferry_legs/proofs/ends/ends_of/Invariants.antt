use Rattle.std.proofs.Common.{◌≡◌, ℕ, ◌<◌, length, get_or}
use Rattle.std.specs.Prelude.{None}
use Rattle.desk_data.specs.Situation.{airports_of}
use Rattle.plan_reads.specs.Last.{stand}
use Rattle.ferry_legs.specs.Prices.{nowhere}
use Rattle.ferry_legs.proofs.ends.ends_of.Given as goal

-- the ends of the aircraft so far
abbrev pub invariant-loop-p : goal.invariant-loop-p
invariant-loop-p l = record {
  planes : length l.ends.items ≡ l.p;
  each : (k : ℕ) → k < l.p → get_or l.ends.items k nowhere ≡ stand l.inst k (get_or l.lasts.items k None);
  within : (k : ℕ) → k < l.p → (get_or l.ends.items k nowhere).0 < airports_of l.inst;
}
