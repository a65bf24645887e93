use Rattle.std.proofs.Common.{◌≡◌, ◌≤◌, length, map}
use Rattle.desk_model.specs.States.{State}
use Rattle.story_commands.proofs.Comparing.{Reaches}
use Rattle.story_commands.proofs.compare.compare.Given as goal

abbrev pub invariant-loop-asked : goal.invariant-loop-asked
invariant-loop-asked l = record {
  each : (S : State) → Reaches S l.events (map (λ p. p.now) l.held) l.asked-index l.at.entries l.at.number;
  taken : l.taken ≡ l.asked-index;
  few : l.at.number ≤ l.at.entries;
  within : l.at.entries ≤ length l.held;
}
