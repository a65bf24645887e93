use Rattle.std.proofs.Common.{◌≡◌, ap, sym, subst, ◌∙◌, List}
use Rattle.std.proofs.Math.Path.{fun_ext}
use Rattle.desk_data.specs.declared.broken.Broken.{Broken}
use Rattle.std.specs.Prelude.{if◌then◌else◌}
use Rattle.kept_set.specs.Kept.{AreSet}
use Rattle.board_rot.specs.declared.edit.Edit.TheVariants.{OfItem}
use Rattle.board_rot.specs.Summaries.{LedTo, same_item, with_edit}
use Rattle.board_rot.specs.Kept.{Lists, seen, has_item}
use Rattle.board_rot.proofs.TestLaws.{has_is, same_set, set_test, turned_set, same_bool, other_bool}
use Rattle.board_rot.proofs.ItemLaws.{items_same}
use Rattle.board_rot.proofs.EditLaws.{led_one}
use Rattle.board_rot.proofs.LogLaws.{item_seen}
use Rattle.board_rot.proofs.undo_log.UndoLog.mark.Goals as goal

pub returns-then-has-is_broken-clause-broken : goal.returns-then-has-is_broken-clause-broken
returns-then-has-is_broken-clause-broken c =
    let s = c.self.inside in
    let items : s.broken.items ≡ c.args.self.now.broken = ap (λ (l : Lists). l.broken) c.self.view_is in
    let was = has_is same_item s.broken.items c.args.item c.has.result items_same c.has.ensures ∙ same_bool c.has.result c.args.is_broken c.if-has-is_broken.true in
    subst (λ (xs : List Broken). has_item xs ≡ (λ other. if same_item other c.args.item then c.args.is_broken else has_item xs other)) items
    (fun_ext (same_set same_item s.broken.items c.args.item c.args.is_broken items_same was))

pub returns-clause-led : goal.returns-clause-led
returns-clause-led c =
    let s = c.self.inside in
    let was = has_is same_item s.broken.items c.args.item c.has.result items_same c.has.ensures ∙ other_bool c.has.result c.args.is_broken c.if-has-is_broken.false in
    let set = subst (λ (xs : List Broken). AreSet xs c.set.new.self.items c.args.item c.args.is_broken) c.in_ok-reserve.ensures.items c.set.ensures.set in
    let here = turned_set same_item s.broken.items c.set.new.self.items c.args.item c.args.is_broken items_same set was in
    let is : seen (record { rotations = s.rotations.items; broken = c.set.new.self.items; edits = c.push.new.self.items }) ≡ with_edit (OfItem c.args.item) (seen c.args.self.now) =
    item_seen s.rotations.items s.broken.items c.set.new.self.items s.edits.items c.push.new.self.items c.args.item here c.in_ok-push.ensures.items
    ∙ ap (λ (l : Lists). with_edit (OfItem c.args.item) (seen l)) c.self.view_is in
    subst (LedTo (seen c.args.self.now)) (sym is) (led_one (OfItem c.args.item) (seen c.args.self.now))

pub returns-clause-broken : goal.returns-clause-broken
returns-clause-broken c =
    let s = c.self.inside in
    let items : c.reserve.new.self.items ≡ c.args.self.now.broken = c.in_ok-reserve.ensures.items ∙ ap (λ (l : Lists). l.broken) c.self.view_is in
    fun_ext (set_test same_item c.args.self.now.broken c.set.new.self.items c.args.item c.args.is_broken items_same
    (subst (λ (xs : List Broken). AreSet xs c.set.new.self.items c.args.item c.args.is_broken) items c.set.ensures.set))
