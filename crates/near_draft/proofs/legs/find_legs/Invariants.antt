use Rattle.std.proofs.Common.{◌≡◌, ℕ, ◌<◌, true, get_or}
use Rattle.std.specs.Prelude.{filter}
use Rattle.std.specs.List.{All, Contains}
use Rattle.desk_data.specs.Situation.{legs_of}
use Rattle.desk_rules.specs.Maintenance.{flies}
use Rattle.desk_model.specs.Push.{rotation}
use Rattle.near_draft.specs.Drafts.{plan_of}
use Rattle.near_draft.specs.Legs.{numbers_of}
use Rattle.near_draft.proofs.ChangeLaws.{no_change}
use Rattle.near_draft.proofs.legs.find_legs.Given as goal

abbrev pub invariant-loop-change : goal.invariant-loop-change
invariant-loop-change l = record {
  flown : All (λ z. (z < legs_of l.draft.inst) × (flies (plan_of l.draft) l.plane.0 z ≡ true)) (numbers_of l.legs.items);
  kept : (z : ℕ) → Contains (filter (flies (plan_of l.draft) l.plane.0) (rotation l.draft.inst l.draft.rows l.plane.0)) z → Contains (numbers_of l.legs.items) z;
  come : (j : ℕ) → j < l.change-index → flies (plan_of l.draft) l.plane.0 (get_or l.draft.changes j no_change).leg.0 ≡ true → Contains (numbers_of l.legs.items) (get_or l.draft.changes j no_change).leg.0;
}
