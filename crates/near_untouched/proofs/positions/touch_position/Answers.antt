use Rattle.std.proofs.Common.{inl, inr}
use Rattle.near_untouched.proofs.positions.touch_position.Goals as goal

pub returns-then-has_same_at_hand : goal.returns-then-has_same_at_hand
returns-then-has_same_at_hand c = record {
  touched = c.requires.touched;
  kept = λ k on. on;
  told = inl (c.has_same_at_hand.ensures c.if-has_same_at_hand.true);
}

pub returns : goal.returns
returns c = record {
  touched = c.mark_wanted.ensures.touched;
  kept = c.mark_wanted.ensures.kept;
  told = inr c.mark_wanted.ensures.marked;
}
