use Rattle.std.proofs.Common.{◌≡◌, ◌+◌, take}
use Rattle.std.specs.Prelude.{sum_by}
use Rattle.board_kit.specs.Users.{users_at}
use Rattle.near_draft.specs.Drafts.{plan_of}
use Rattle.near_priced.specs.Saved.{saved_by}
use Rattle.near_priced.proofs.saved.left_by_leg.Given as goal

-- what is left of the limit beside the reservations so far
abbrev pub invariant-loop-res : goal.invariant-loop-res
invariant-loop-res l = sum_by (λ res. saved_by l.inst l.plan (plan_of l.draft) res.0) (take l.res-index (users_at l.payments.users l.fn.leg.0)) + l.left ≡ l.limit
