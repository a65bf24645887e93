use Rattle.std.proofs.Common.{◌≡◌, false, take}
use Rattle.std.specs.List.{All}
use Rattle.near_untouched.specs.Again.{leads_back}
use Rattle.near_untouched.proofs.again.lead_nowhere.Given as goal

abbrev pub invariant-loop-back : goal.invariant-loop-back
invariant-loop-back l = All (λ y. leads_back l.inst l.leg.0 y.0 ≡ false) (take l.back-index l.legs)
