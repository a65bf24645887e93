use Rattle.std.proofs.Common.{◌≡◌, true, drop}
use Rattle.near_priced.specs.Saved.{goes_on, tidies_once}
use Rattle.near_priced.proofs.once.tidies_once.Given as goal

-- it is so of all steps where it is of those that are left
abbrev pub invariant-loop-step : goal.invariant-loop-step
invariant-loop-step l = goes_on l.tidied (drop l.step-index l.steps) ≡ true → tidies_once l.steps ≡ true
