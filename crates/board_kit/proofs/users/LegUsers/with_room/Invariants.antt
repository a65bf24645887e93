use Rattle.std.proofs.Common.{◌≡◌, []}
use Rattle.std.specs.Prelude.{map, replicate}
use Rattle.board_kit.proofs.users.LegUsers.with_room.Given as goal

abbrev pub invariant-loop-count : goal.invariant-loop-count
invariant-loop-count l = map (λ kept. kept.items) l.lists.items ≡ replicate l.count-index []
