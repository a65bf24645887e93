use Rattle.std.proofs.Common.{◌≡◌, take}
use Rattle.std.specs.Prelude.{filter}
use Rattle.desk_rules.specs.Maintenance.{flies}
use Rattle.near_draft.specs.Drafts.{plan_of}
use Rattle.near_draft.specs.Legs.{numbers_of}
use Rattle.near_draft.proofs.legs.kept.Given as goal

abbrev pub invariant-loop-leg : goal.invariant-loop-leg
invariant-loop-leg l = numbers_of l.kept.items ≡ filter (flies (plan_of l.draft) l.plane.0) (numbers_of (take l.leg-index l.legs))
