use Rattle.std.proofs.Common.{◌≡◌, ◌++◌, ◌∷◌, [], map, take}
use Rattle.near_legs.specs.Choices.{later_choice}
use Rattle.near_legs.proofs.choose.add_later.Given as goal

abbrev pub invariant-loop-later : goal.invariant-loop-later
invariant-loop-later l = record {
  all : l.all.items ≡ l.fn.all.items ++ map (later_choice l.leg l.departs) (take l.later-index l.later-items);
  items : l.later-items ≡ 15 ∷ 30 ∷ 60 ∷ 120 ∷ 240 ∷ [];
}
