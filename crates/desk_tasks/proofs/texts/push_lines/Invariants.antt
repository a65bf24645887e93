use Rattle.std.proofs.Common.{◌≡◌, ◌++◌, take}
use Rattle.std.specs.List.{flat_map}
use Rattle.desk_tasks.specs.Lines.{line_of}
use Rattle.desk_tasks.proofs.texts.push_lines.Given as goal

-- the lines of the legs so far
abbrev pub invariant-loop-added : goal.invariant-loop-added
invariant-loop-added l = l.text.items ≡ l.fn.text.items ++ flat_map (line_of l.inst l.plan) (take l.added-index l.list)
