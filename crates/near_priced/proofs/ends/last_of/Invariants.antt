use Rattle.std.proofs.Common.{◌≡◌, take}
use Rattle.std.specs.Option.{ForSome}
use Rattle.desk_rules.specs.Rotations.{dep}
use Rattle.plan_reads.specs.AfterLeg.{leg_in}
use Rattle.near_draft.specs.Drafts.{plan_of}
use Rattle.near_draft.specs.Legs.{numbers_of}
use Rattle.near_priced.specs.Ends.{IsLastAmong}
use Rattle.near_priced.proofs.ends.last_of.Given as goal

-- the last of the legs so far
abbrev pub invariant-loop-leg : goal.invariant-loop-leg
invariant-loop-leg l = record {
  last : IsLastAmong (plan_of l.draft) l.plane.0 l.inst.parts.to.0 (numbers_of (take l.leg-index l.legs)) (leg_in l.last);
  departs : ForSome l.last (λ other. other.dep.0 ≡ dep (plan_of l.draft) other.leg.0);
}
