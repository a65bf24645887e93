use Rattle.std.proofs.Common.{◌≡◌, take, map}
use Rattle.std.specs.Prelude.{filter, fold}
use Rattle.desk_data.specs.Paths.{is_carried}
use Rattle.desk_data.specs.Progress.{with_list}
use Rattle.desk_data.specs.Situation.{gone_in}
use Rattle.desk_data.proofs.tally.with_lists_left.Given as goal

abbrev pub invariant-loop-group : goal.invariant-loop-group
invariant-loop-group l = map (λ one. one.now) l.lists.items ≡ fold with_list (map (λ one. one.now) l.initial.lists.items) (map (λ group. gone_in l.frozen group.path) (filter (λ group. is_carried group.path) (take l.group-index l.groups)))
