use Rattle.std.proofs.Common.{◌≡◌, true, rules, sym, ◌∙◌}
use Rattle.std.specs.List.{list_all}
use Rattle.near_priced.specs.Payers.{spares}
use Rattle.near_priced.proofs.PayerLaws.{payers-dear}
use Rattle.near_priced.proofs.payers.Payers.rules_out.Goals as goal

pub returns : goal.returns
returns c = λ known m fits steps feasible.
    (let on : c.fly_on.result ≡ true = search rules in
    let spared : c.spare_all.result ≡ true = search rules in
    let all : list_all (spares c.args.self.now.booked.items) c.args.others.now ≡ true = sym c.spare_all.ensures ∙ spared in
    payers-dear c.args.inst.now c.args.plan.now c.args.self.now m c.args.first.now c.args.others.now c.args.one.0 c.args.other.0
    c.parts-rows.ensures.valid c.requires.plan c.requires.payers fits steps (c.fly_on.ensures on) all
    (c.have_none_to_save.ensures.hourly known) (c.have_none_to_save.ensures.first known) (c.have_none_to_save.ensures.second known) (c.have_none_to_save.ensures.less known) feasible)
