use Rattle.std.proofs.Common.{◌≡◌, ◌++◌, take}
use Rattle.desk_tasks.specs.Play.{seen_lines}
use Rattle.history_texts.proofs.texts.push_views.Given as goal

abbrev pub invariant-loop-view : goal.invariant-loop-view
invariant-loop-view l = l.text.items ≡ l.fn.text.items ++ seen_lines l.fn.inst (take l.view-index l.seen)
