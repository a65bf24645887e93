use Rattle.std.proofs.Common.{not, ap, ◌∙◌}
use Rattle.std.specs.BTreeMap.{insert_entry}
use Rattle.desk_data.specs.PlanRows.{pair_cmp, path_cmp}
use Rattle.file_joins.specs.Groups.{Passengers, has_path}
use Rattle.file_joins.proofs.PartyLemmas.{pair_same, same_slices, put_new, put_in}
use Rattle.file_joins.proofs.party.Party.put.Goals as goal

pub returns-clause-new : goal.returns-clause-new
returns-clause-new c =
    put_new _ (λ a b. same_slices _ pair_cmp pair_same a.items b.items) c.self.inside.by_path c.legs.inside.0 c.args.path c.in_ok-before.before c.is_none.result
    (cc) c.in_ok-before.ensures.old c.is_none.ensures
    ∙ ap (λ (ps : Passengers). not (has_path c.args.path ps)) c.self.view_is

pub returns-clause-put : goal.returns-clause-put
returns-clause-put c =
    put_in _ (λ a b. same_slices _ pair_cmp pair_same a.items b.items) c.self.inside.by_path c.legs.inside.0 c.args.path c.insert.new.self c.args.count
    (cc) c.in_ok-before.ensures.entries
    ∙ ap (λ (ps : Passengers). insert_entry path_cmp ps c.args.path c.args.count) c.self.view_is
