use Rattle.std.proofs.Common.{◌≡◌, List, sym, ap, subst, ◌∙◌}
use Rattle.desk_rules.specs.Cost.{grains}
use Rattle.added_legs.specs.declared.added.Added.{Added}
use Rattle.added_legs.specs.Added.{cost_added}
use Rattle.added_legs.specs.Ferried.{with_added}
use Rattle.ferry_legs.specs.declared.ferried.Ferried.{Ferried}
use Rattle.ferry_legs.specs.Ferried.{added_of}
use Rattle.ferry_legs.specs.Steps.{AreSoFar, IsKeptOf}
use Rattle.ferry_legs.proofs.ListLaws.{one_more_ferried}
use Rattle.ferry_legs.proofs.KeptLaws.{kept_itself, new_itself, longer_list}
use Rattle.ferry_legs.proofs.adding.add.Goals as goal

pub add-requires : goal.add-requires
add-requires c =
    let I = c.args.inst.now in
    let P = c.args.plan.now in
    let A = added_of c.args.list.now.items in
    let kept = c.args.kept.now in
    (c.requires.plan, (kept_itself I P A kept c.requires.kept, new_itself I P A kept c.args.leg c.requires.kept c.requires.leg))

pub returns-clause-kept : goal.returns-clause-kept
returns-clause-kept c =
    let I = c.args.inst.now in
    let P = c.args.plan.now in
    let a = c.args.leg in
    let list = c.args.list.now.items in
    let f : Ferried = record { leg = a; cost = c.cost.result } in
    let longer : with_added c.args.kept.now.times.added a ≡ added_of c.push.new.self.items =
    ap (λ (B : List Added). with_added B a) c.requires.kept.times.added ∙ longer_list list f ∙ ap added_of (sym c.in_ok-push.ensures.items) in
    subst (λ (B : List Added). IsKeptOf I P B c.add.new.self) longer c.add.ensures.kept

pub returns-clause-so_far : goal.returns-clause-so_far
returns-clause-so_far c =
    let I = c.args.inst.now in
    let P = c.args.plan.now in
    let a = c.args.leg in
    let list = c.args.list.now.items in
    let f : Ferried = record { leg = a; cost = c.cost.result } in
    let cost : c.cost.result ≡ grains (cost_added I P (with_added (added_of list) a)) =
    c.cost.ensures I P (with_added c.args.kept.now.times.added a) c.add.ensures.kept
    ∙ ap (λ (B : List Added). grains (cost_added I P (with_added B a))) c.requires.kept.times.added in
    subst (AreSoFar I P) (sym c.in_ok-push.ensures.items)
    (one_more_ferried I P list f c.requires.so_far c.requires.next cost)
