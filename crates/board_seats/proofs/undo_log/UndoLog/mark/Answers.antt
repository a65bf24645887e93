use Rattle.std.proofs.Common.{◌≡◌, ap, subst, ◌∙◌, List}
use Rattle.desk_data.specs.declared.broken.Broken.{Broken}
use Rattle.kept_set.specs.Kept.{AreSet}
use Rattle.board_seats.specs.Summaries.{LedTo, marked_at}
use Rattle.board_seats.specs.Kept.{Lists, seen, has_item}
use Rattle.board_seats.proofs.TestLaws.{has_is, marked_set, marked_same, turned_mark, same_bool, other_bool}
use Rattle.board_seats.proofs.LogLaws.{item_led}
use Rattle.board_seats.proofs.undo_log.UndoLog.mark.Goals as goal

pub returns-then-has-is_broken-clause-broken : goal.returns-then-has-is_broken-clause-broken
returns-then-has-is_broken-clause-broken c =
    let s = c.self.inside in
    let items : s.broken.items ≡ c.args.self.now.broken = ap (λ (l : Lists). l.broken) c.self.view_is in
    let was = has_is s.broken.items c.args.item c.has.result c.has.ensures ∙ same_bool c.has.result c.args.is_broken c.if-has-is_broken.true in
    subst (λ (xs : List Broken). has_item xs ≡ marked_at c.args.item c.args.is_broken (has_item xs)) items
    (marked_same (has_item s.broken.items) c.args.item c.args.is_broken was)

pub returns-clause-led : goal.returns-clause-led
returns-clause-led c =
    let s = c.self.inside in
    let l : Lists = record { taken = s.taken.items; faults = s.faults.items; broken = s.broken.items; users = s.users; edits = s.edits.items } in
    let new : Lists = record { taken = s.taken.items; faults = s.faults.items; broken = c.set.new.self.items; users = s.users; edits = c.push.new.self.items } in
    let was = has_is s.broken.items c.args.item c.has.result c.has.ensures ∙ other_bool c.has.result c.args.is_broken c.if-has-is_broken.false in
    let set = subst (λ (xs : List Broken). AreSet xs c.set.new.self.items c.args.item c.args.is_broken) c.in_ok-reserve.ensures.items c.set.ensures.set in
    let here = marked_set s.broken.items c.set.new.self.items c.args.item c.args.is_broken set ∙ turned_mark (has_item s.broken.items) c.args.item c.args.is_broken was in
    subst (λ (old : Lists). LedTo (seen old) (seen new)) c.self.view_is (item_led l c.set.new.self.items c.args.item c.push.new.self.items here c.in_ok-push.ensures.items)

pub returns-clause-broken : goal.returns-clause-broken
returns-clause-broken c =
    let items : c.reserve.new.self.items ≡ c.args.self.now.broken = c.in_ok-reserve.ensures.items ∙ ap (λ (l : Lists). l.broken) c.self.view_is in
    marked_set c.args.self.now.broken c.set.new.self.items c.args.item c.args.is_broken
    (subst (λ (xs : List Broken). AreSet xs c.set.new.self.items c.args.item c.args.is_broken) items c.set.ensures.set)
