use Rattle.std.proofs.Common.{rules, ◌≡◌, true, false, ap, sym, subst, ◌∙◌, arith, length, List, [], ◌∷◌, length-append}
use Rattle.desk_data.specs.declared.broken.Broken.{Broken}
use Rattle.board_kit.specs.Users.{has_user}
use Rattle.board_seats.specs.declared.edit.Edit.{Edit}
use Rattle.board_seats.specs.declared.edit.Edit.TheVariants.{OfUser}
use Rattle.board_seats.specs.Summaries.{LedTo}
use Rattle.board_seats.specs.Kept.{Lists, seen}
use Rattle.board_seats.proofs.LogLaws.{user_led}
use Rattle.board_seats.proofs.UserLaws.{is_not, popped, user_kept}
use Rattle.board_seats.proofs.undo_log.UndoLog.add_user.Goals as goal

pub returns-in-Ok-true-clause-led : goal.returns-in-Ok-true-clause-led
returns-in-Ok-true-clause-led c =
    let s = c.self.inside in
    let x = c.args.leg.0 in
    let r = c.args.res.0 in
    let l : Lists = record { taken = s.taken.items; faults = s.faults.items; broken = s.broken.items; users = s.users; edits = s.edits.items } in
    let new : Lists = record { taken = s.taken.items; faults = s.faults.items; broken = c.reserve.new.self.items; users = c.add.new.self; edits = c.push.new.self.items } in
    let given : c.in-Ok-true.field-0 ≡ true = search rules in
    subst (λ (old : Lists). LedTo (seen old) (seen new)) c.self.view_is
    (subst (λ (xs : List Broken). LedTo (seen l) (seen (record new { broken = xs }))) (sym c.in_ok-reserve.ensures.items)
    (user_led l c.add.new.self c.args.leg c.args.res c.push.new.self.items c.in-Ok-true.ensures.ok (is_not (has_user s.users x r) true (sym given ∙ c.in-Ok-true.ensures.added)) c.in_ok-push.ensures.items))

pub returns-in-Ok-false-clause-led : goal.returns-in-Ok-false-clause-led
returns-in-Ok-false-clause-led c =
    let s = c.self.inside in
    let x = c.args.leg.0 in
    let r = c.args.res.0 in
    let l : Lists = record { taken = s.taken.items; faults = s.faults.items; broken = s.broken.items; users = s.users; edits = s.edits.items } in
    let new : Lists = record { taken = s.taken.items; faults = s.faults.items; broken = c.reserve.new.self.items; users = c.add.new.self; edits = c.pop.new.self.items } in
    let some = c.pop.ensures.variant.1 (omega (arith, c.push.new.self.ok.0, ap (λ (es : List Edit). length es) c.in_ok-push.ensures.items, length-append s.edits.items (OfUser c.args.leg c.args.res ∷ []))) in
    let edits : c.pop.new.self.items ≡ s.edits.items = popped s.edits.items c.pop.new.self.items c.push.new.self.items (OfUser c.args.leg c.args.res) c.pop.result c.in_ok-push.ensures.items c.pop.ensures.items some in
    let given : c.in-Ok-false.field-0 ≡ false = search rules in
    subst (λ (old : Lists). LedTo (seen old) (seen new)) c.self.view_is
    (subst (λ (xs : List Broken). LedTo (seen l) (seen (record new { broken = xs }))) (sym c.in_ok-reserve.ensures.items)
    (user_kept l c.add.new.self c.args.leg c.args.res c.pop.new.self.items c.in-Ok-false.ensures.ok (is_not (has_user s.users x r) false (sym given ∙ c.in-Ok-false.ensures.added)) edits))
