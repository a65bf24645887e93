-- What a sink in memory shows of itself.
use Rattle.std.specs.Prelude.{ℕ, ◌+◌, ◌-◌, ◌^◌, ◌==◌, min, Bool, List, Some}
use Rattle.std.specs.List.{list_any}
use Rattle.desk_folder.specs.Outside.{SinkSide}

-- the bytes written so far, how many calls failed and how many were made, and the numbers of those that fail
pub record MemorySink : Type 0 where
  pub written : List ℕ
  pub faults : ℕ
  pub calls : ℕ
  pub fail_put : List ℕ

-- a sink in memory shows all
abbrev pub sink_side : MemorySink → SinkSide
sink_side s = record { written = Some s.written; faults = s.faults }

-- the number of the next call, counted from 1
abbrev pub sink_call : MemorySink → ℕ
sink_call s = min (s.calls + 1) (2 ^ 64 - 1)

-- the next call is one of those that fail
abbrev pub sink_fails : MemorySink → Bool
sink_fails s = list_any (λ n. n == sink_call s) s.fail_put
