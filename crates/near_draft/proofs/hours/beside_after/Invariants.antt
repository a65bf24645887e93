use Rattle.std.proofs.Common.{◌≡◌, take}
use Rattle.near_draft.specs.Drafts.{drafted}
use Rattle.near_draft.specs.Hours.{beside}
use Rattle.near_draft.proofs.hours.beside_after.Given as goal

abbrev pub invariant-loop-change : goal.invariant-loop-change
invariant-loop-change l = l.count ≡ beside l.movement l.base.inst (drafted l.base.rows (take l.change-index l.changes)) l.leg.0 l.airport.0 l.hour
