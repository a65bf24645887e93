use Rattle.std.proofs.Common.{◌≡◌, length, take}
use Rattle.std.specs.List.{All}
use Rattle.desk_data.specs.Situation.{airports_of}
use Rattle.near_untouched.specs.Hours.{IsLegTold}
use Rattle.near_untouched.specs.Marks.{AreKept}
use Rattle.near_untouched.proofs.room.mark_tight.Given as goal

-- of the legs so far it is told
abbrev pub invariant-loop-leg : goal.invariant-loop-leg
invariant-loop-leg g l = record {
  tight : length l.tight.items ≡ airports_of l.plans.inst.now;
  kept : AreKept l.fn.tight.items l.tight.items;
  told : All (λ x. IsLegTold l.movement l.plans.inst.now l.plans.earlier.now l.plans.later.now l.plan l.tight.items x.0) (take l.leg-index l.legs);
}
