use Rattle.std.specs.Prelude.{None}
use Rattle.desk_rules.specs.Cost.{grains}
use Rattle.desk_model.specs.declared.view.View.{View}
use Rattle.history_texts.proofs.SeenLaws.{seen-start, seen-more}
use Rattle.history_texts.proofs.texts.push_views.Goals as goal

pub loop-view-init : goal.loop-view-init
loop-view-init c = seen-start c.args.inst.now c.args.text.now.items c.args.seen.now

pub loop-view-preserved : goal.loop-view-preserved
loop-view-preserved c =
    let d : View = record { entries = 0; changes = 0; cost = grains 0; broken = None } in
    seen-more c.args.inst.now c.args.text.now.items c.loop-view.text.items c.push_seen.new.text.items c.loop-view.view-index c.args.seen.now d
    c.loop-view-test.true c.in_ok-push_seen.ensures c.loop-view.invariant
