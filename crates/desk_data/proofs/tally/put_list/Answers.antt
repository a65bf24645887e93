use Rattle.std.proofs.Common.{◌≡◌, List, sym, ap, subst, ◌∙◌, Bor}
use Rattle.std.specs.List.{insert}
use Rattle.desk_units.specs.declared.numbers.Cabin.{Cabin}
use Rattle.desk_units.specs.declared.numbers.Leg.{Leg}
use Rattle.desk_data.specs.Progress.{with_list}
use Rattle.desk_data.proofs.TallySteps.{lent, lent_insert}
use Rattle.desk_data.proofs.tally.put_list.Goals.{in-Some+in_ok-insert-in-Some, in-None}
use Rattle.desk_data.proofs.tally.put_list.Goals as goal

pub returns : goal.returns
returns c =
    elim c.match-place_among.branch [
      | in-Some+in_ok-insert-in-Some w ↦
          let placed : with_list (lent c.args.lists.items) c.args.one.now ≡ insert (lent c.args.lists.items) w.in-Some.place c.args.one.now = subst (λ (lists : List (Bor (List (Leg × Cabin)))). with_list (lent lists) c.args.one.now ≡ insert (lent lists) w.in-Some.place c.args.one.now) c.as_slice.ensures.value w.in-Some.ensures.1 in
          ap (λ v. lent v.items) w.lists-is ∙ ap lent w.in_ok-insert-in-Some.ensures.items ∙ lent_insert c.args.lists.items w.in-Some.place c.args.one ∙ sym placed
      | in-None w ↦
          let there : with_list (lent c.args.lists.items) c.args.one.now ≡ lent c.args.lists.items = subst (λ (lists : List (Bor (List (Leg × Cabin)))). with_list (lent lists) c.args.one.now ≡ lent lists) c.as_slice.ensures.value w.in-None.ensures in
          ap (λ v. lent v.items) w.lists-is ∙ sym there
    ]
