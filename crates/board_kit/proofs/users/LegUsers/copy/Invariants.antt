use Rattle.std.proofs.Common.{◌≡◌, take}
use Rattle.std.specs.Prelude.{map}
use Rattle.board_kit.proofs.users.LegUsers.copy.Given as goal

abbrev pub invariant-loop-kept : goal.invariant-loop-kept
invariant-loop-kept l = map (λ kept. kept.items) l.legs.items ≡ map (λ kept. kept.items) (take l.kept-index l.kept-items)
