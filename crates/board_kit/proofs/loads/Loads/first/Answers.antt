use Rattle.std.proofs.Common.{sym, subst, ap}
use Rattle.desk_rules.specs.Least.{breaks, slot_items, least_slots}
use Rattle.board_kit.proofs.MemberLaws.{slots_ascend}
use Rattle.board_kit.specs.Slots.{AreCounted, taken}
use Rattle.board_kit.proofs.LeastLaws.{overfull_are}
use Rattle.board_kit.proofs.loads.Loads.first.Goals as goal

pub returns : goal.returns
unfolding least_slots
returns c I P are =
    c.first.ensures (breaks I P) (slot_items I) (slots_ascend I)
    (overfull_are I P c.self.inside.loads.entries c.self.inside.over.items (subst (AreCounted I (taken I P)) (sym (ap (λ r. r.loads) c.self.view_is)) are) c.self.invariant)
