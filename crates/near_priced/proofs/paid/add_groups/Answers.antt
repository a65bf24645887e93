use Rattle.std.proofs.Common.{All, take, subst, ◌∙◌, arith}
use Rattle.std.proofs.lemmas.List.{take_all}
use Rattle.std.proofs.lemmas.List.Elements.{All-more}
use Rattle.desk_data.specs.declared.row.Group.{Group}
use Rattle.near_priced.specs.Tables.{AreGrown}
use Rattle.near_priced.proofs.TableLaws.{groups-later, path-sooner, kept-then}
use Rattle.near_priced.proofs.paid.add_groups.Goals as goal

pub loop-group-preserved : goal.loop-group-preserved
loop-group-preserved c =
    let cost = c.args.cost in
    let groups = c.args.groups.now in
    let i = c.loop-group.group-index in
    let old = c.args.on.now.items in
    let mid = c.loop-group.on.items in
    let new = c.add_legs.new.amounts.items in
    let kept = c.add_legs.ensures.kept in
    record {
      on = c.add_legs.ensures.amounts ∙ c.loop-group.invariant.on;
      kept = kept-then old mid new c.loop-group.invariant.kept kept;
      grown = All-more (λ (group : Group). AreGrown cost old new group.path) groups i c.group-item.result c.loop-group-test.true
          (groups-later cost old mid new (take i groups) c.loop-group.invariant.grown kept)
          (subst (λ (group : Group). AreGrown cost old new group.path) c.group-item.is
          (path-sooner cost old mid new c.group-item.result.path (rw c.as_slice.ensures at c.add_legs.ensures.grown) c.loop-group.invariant.kept));
    }

pub returns-clause-grown : goal.returns-clause-grown
returns-clause-grown c =
    subst (All (λ (group : Group). AreGrown c.args.cost c.args.on.now.items c.loop-group.on.items group.path)) (take_all c.loop-group.group-index c.args.groups.now (omega arith)) c.loop-group.invariant.grown
