use Rattle.std.proofs.Common.{◌≡◌, ◌+◌, ◌≤◌, drop}
use Rattle.file_rows.specs.Limits.{most_tariff_rows}
use Rattle.build_refusals.specs.First.{refusal_from}
use Rattle.build_refusals.specs.Tariff.{tariff_cause, tariff_refusal}
use Rattle.build_refusals.proofs.tariff.tariff_refusal.Given as goal

-- the first that is refused among the rows that are left is the first of all, and no row past the limit is looked at
abbrev pub invariant-loop-place : goal.invariant-loop-place
invariant-loop-place l = record {
  so_far : refusal_from (tariff_cause l.rows) (λ n row. n + 1) l.place (drop l.place l.rows) ≡ tariff_refusal l.rows;
  few : l.place ≤ most_tariff_rows;
}
