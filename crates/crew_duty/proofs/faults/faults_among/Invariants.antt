use Rattle.std.proofs.Common.{◌≡◌, take}
use Rattle.std.specs.Prelude.{map}
use Rattle.crew_rules.specs.Broken.{crew_at}
use Rattle.crew_duty.specs.Faults.{faults_of}
use Rattle.crew_duty.proofs.faults.faults_among.Given as goal

abbrev pub invariant-loop-k : goal.invariant-loop-k
invariant-loop-k l = l.faults.items ≡ map (λ k. faults_of l.inst.parts l.rows (crew_at l.crews k)) (take l.k-index l.numbers)
