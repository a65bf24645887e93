use Rattle.std.proofs.Common.{◌<◌, ap, sym, subst, ◌∙◌, arith, length, get_or, set, List}
use Rattle.std.proofs.lemmas.List.{get_or_default}
use Rattle.desk_data.specs.declared.broken.Broken.{Broken}
use Rattle.board_seats.specs.Summaries.{LedTo, with_at}
use Rattle.board_seats.specs.Kept.{Lists, seen}
use Rattle.board_seats.specs.PathFaults.{no_faults}
use Rattle.board_seats.proofs.TestLaws.{set_at}
use Rattle.board_seats.proofs.LogLaws.{faults_led}
use Rattle.board_seats.proofs.undo_log.UndoLog.put_faults.Goals as goal

pub returns-clause-led : goal.returns-clause-led
returns-clause-led c =
    let s = c.self.inside in
    let l : Lists = record { taken = s.taken.items; faults = s.faults.items; broken = s.broken.items; users = s.users; edits = s.edits.items } in
    let within : c.args.res.0 < length s.faults.items = omega (arith, c.requires, ap (λ (o : Lists). length o.faults) c.self.view_is) in
    let before = c.index.result.now in
    let new : Lists = record { taken = s.taken.items; faults = set s.faults.items c.args.res.0 c.args.faults; broken = c.reserve.new.self.items; users = s.users; edits = c.push.new.self.items } in
    subst (λ (old : Lists). LedTo (seen old) (seen new)) c.self.view_is
    (subst (λ (xs : List Broken). LedTo (seen l) (seen (record new { broken = xs }))) (sym c.in_ok-reserve.ensures.items)
    (faults_led l c.args.res before c.args.faults c.push.new.self.items within
    (c.index.ensures ∙ get_or_default s.faults.items c.args.res.0 before no_faults within)
    c.in_ok-push.ensures.items))

pub returns-clause-faults : goal.returns-clause-faults
returns-clause-faults c =
    let s = c.self.inside in
    let within : c.args.res.0 < length s.faults.items = omega (arith, c.requires, ap (λ (o : Lists). length o.faults) c.self.view_is) in
    set_at s.faults.items c.args.res.0 c.args.faults no_faults within
    ∙ ap (λ (l : Lists). with_at c.args.res.0 c.args.faults (λ x. get_or l.faults x no_faults)) c.self.view_is
