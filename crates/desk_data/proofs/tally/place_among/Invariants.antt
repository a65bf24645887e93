use Rattle.std.proofs.Common.{◌≡◌, take, map}
use Rattle.std.specs.List.{All}
use Rattle.std.specs.declared.cmp.Ordering.TheVariants.{Less}
use Rattle.desk_data.specs.PlanRows.{path_cmp}
use Rattle.desk_data.proofs.tally.place_among.Given as goal

-- the lists so far come before it
abbrev pub invariant-loop-place : goal.invariant-loop-place
invariant-loop-place l = All (λ other. path_cmp other l.one ≡ Less) (take l.place (map (λ other. other.now) l.lists))
