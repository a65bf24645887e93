use Rattle.std.proofs.Common.{◌≡◌, ◌<◌, ◌≤◌, ℕ, All, length}
use Rattle.std.specs.Prelude.{slice_index_or}
use Rattle.near_priced.specs.Unpaid.{services}
use Rattle.near_priced.proofs.services.services_after.Given as goal

-- of the aircraft so far
abbrev pub invariant-loop-p : goal.invariant-loop-p
invariant-loop-p l = record {
  planes : length l.all.items ≡ l.p;
  few : All (λ n. n ≤ 10000) l.all.items;
  serve : (k : ℕ) → k < l.p → services l.inst l._plan k ≤ slice_index_or l.all.items k 0;
}
