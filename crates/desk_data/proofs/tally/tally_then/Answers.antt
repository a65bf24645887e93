use Rattle.std.proofs.Common.{◌≡◌, List, [], ◌++◌, map, ap, subst, ◌∙◌}
use Rattle.std.specs.Prelude.{filter, IfOk, fold}
use Rattle.std.specs.List.{filter_map}
use Rattle.desk_units.specs.declared.numbers.Cabin.{Cabin}
use Rattle.desk_units.specs.declared.numbers.Leg.{Leg}
use Rattle.desk_data.specs.declared.row.Group.{Group}
use Rattle.desk_data.specs.Paths.{is_carried}
use Rattle.desk_data.specs.Progress.{count_then, entry_of, lists_gone, with_list}
use Rattle.desk_data.specs.Situation.{PassengersGone, gone_in, tally_at}
use Rattle.desk_data.proofs.GoneLists.{IsBefore}
use Rattle.desk_data.proofs.PathOrder.{pairs_nil}
use Rattle.desk_data.proofs.TallySteps.{lent, lists_join, still_ascends}
use Rattle.desk_data.proofs.tally.tally_then.Goals as goal

pub with_lists_left-requires : goal.with_lists_left-requires
with_lists_left-requires c = still_ascends (lent c.in_ok-lists.lists.items) [] (map (λ (entry : PassengersGone). entry.0) c.tally.result.now) c.in_ok-lists.ensures (pairs_nil IsBefore)

pub returns : goal.returns
returns c =
    let were = λ (entries : List PassengersGone). map (λ (entry : PassengersGone). entry.0) entries in
    let left = λ (groups : List Group). map (λ (group : Group). gone_in c.args.frozen.now group.path) (filter (λ (group : Group). is_carried group.path) groups) in
    let joined : lent c.in_ok-lists-2.lists.items ≡ fold with_list [] (were c.tally.result.now ++ left c.groups.result.now) = lists_join (lent c.in_ok-lists-2.lists.items) (lent c.in_ok-lists.lists.items) (were c.tally.result.now) (left c.groups.result.now) c.in_ok-lists-2.ensures c.in_ok-lists.ensures in
    let is : lent c.as_slice.result.now ≡ lists_gone c.args.inst.now c.args.plan.now c.args.frozen.now c.args.res.0 =
    ap lent c.as_slice.ensures.value ∙ joined
    ∙ ap (λ (entries : List PassengersGone). fold with_list [] (were entries ++ left c.groups.result.now)) c.tally.ensures.entries
    ∙ ap (λ (groups : List Group). fold with_list [] (were (tally_at c.args.inst.now c.args.res.0) ++ left groups)) c.groups.ensures.groups in
    subst (λ (lists : List (List (Leg × Cabin))). IfOk c.entries_of.result (λ entries. entries.items ≡ filter_map (λ (legs : List (Leg × Cabin)). entry_of (count_then c.args.inst.now c.args.plan.now c.args.frozen.now c.args.res.0 legs) legs) lists)) is c.entries_of.ensures
