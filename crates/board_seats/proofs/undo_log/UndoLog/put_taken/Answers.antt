use Rattle.std.proofs.Common.{◌<◌, ap, sym, subst, ◌∙◌, arith, length, get_or, set, List}
use Rattle.std.proofs.lemmas.List.{get_or_default}
use Rattle.desk_data.specs.declared.broken.Broken.{Broken}
use Rattle.board_seats.specs.Summaries.{LedTo, with_at}
use Rattle.board_seats.specs.Kept.{Lists, no_seats, seen}
use Rattle.board_seats.proofs.TestLaws.{set_at}
use Rattle.board_seats.proofs.LogLaws.{taken_led}
use Rattle.board_seats.proofs.undo_log.UndoLog.put_taken.Goals as goal

pub returns-clause-led : goal.returns-clause-led
returns-clause-led c =
    let s = c.self.inside in
    let l : Lists = record { taken = s.taken.items; faults = s.faults.items; broken = s.broken.items; users = s.users; edits = s.edits.items } in
    let within : c.args.leg.0 < length s.taken.items = omega (arith, c.requires, ap (λ (o : Lists). length o.taken) c.self.view_is) in
    let before = c.index.result.now in
    let new : Lists = record { taken = set s.taken.items c.args.leg.0 c.args.seats; faults = s.faults.items; broken = c.reserve.new.self.items; users = s.users; edits = c.push.new.self.items } in
    subst (λ (old : Lists). LedTo (seen old) (seen new)) c.self.view_is
    (subst (λ (xs : List Broken). LedTo (seen l) (seen (record new { broken = xs }))) (sym c.in_ok-reserve.ensures.items)
    (taken_led l c.args.leg before c.args.seats c.push.new.self.items within
    (c.index.ensures ∙ get_or_default s.taken.items c.args.leg.0 before no_seats within)
    c.in_ok-push.ensures.items))

pub returns-clause-taken : goal.returns-clause-taken
returns-clause-taken c =
    let s = c.self.inside in
    let within : c.args.leg.0 < length s.taken.items = omega (arith, c.requires, ap (λ (o : Lists). length o.taken) c.self.view_is) in
    set_at s.taken.items c.args.leg.0 c.args.seats no_seats within
    ∙ ap (λ (l : Lists). with_at c.args.leg.0 c.args.seats (λ x. get_or l.taken x no_seats)) c.self.view_is
