use Rattle.std.proofs.Common.{◌≡◌, ◌-◌, ap, ◌∙◌, arith, length, [], ◌∷◌, ◌++◌}
use Rattle.board_seats.specs.declared.edit.Edit.{Edit}
use Rattle.board_seats.specs.declared.edit.Edit.TheVariants.{OfSeats, OfFaults}
use Rattle.board_seats.specs.Summaries.{back_to}
use Rattle.board_seats.specs.Kept.{Lists, seen}
use Rattle.board_seats.proofs.LogLaws.{last_place, taken_undone, faults_undone}
use Rattle.board_seats.proofs.undo_log.UndoLog.undo_last.Goals as goal

pub returns-in-OfSeats : goal.returns-in-OfSeats
returns-in-OfSeats c =
    let s = c.self.inside in
    let l : Lists = record { taken = s.taken.items; faults = s.faults.items; broken = s.broken.items; users = s.users; edits = s.edits.items } in
    let edits = c.pop.new.self.items in
    let last = length c.args.self.now.edits - 1 in
    let was : s.edits.items ≡ edits ++ OfSeats c.in-OfSeats.leg c.in-OfSeats.seats ∷ [] = c.in-Some.ensures.items ∙ ap (λ (e : Edit). edits ++ e ∷ []) c.in-OfSeats.is in
    let all : length s.edits.items ≡ length c.args.self.now.edits = ap (λ (o : Lists). length o.edits) c.self.view_is in
    let within = last_place (length s.taken.items) (length s.faults.items) s.broken edits s.edits.items (OfSeats c.in-OfSeats.leg c.in-OfSeats.seats) c.self.invariant.0 was in
    taken_undone l c.in-OfSeats.leg c.in-OfSeats.seats edits last within was (omega (arith, all, c.requires))
    ∙ ap (λ (o : Lists). back_to last (seen o)) c.self.view_is

pub returns-in-OfFaults : goal.returns-in-OfFaults
returns-in-OfFaults c =
    let s = c.self.inside in
    let l : Lists = record { taken = s.taken.items; faults = s.faults.items; broken = s.broken.items; users = s.users; edits = s.edits.items } in
    let edits = c.pop.new.self.items in
    let last = length c.args.self.now.edits - 1 in
    let was : s.edits.items ≡ edits ++ OfFaults c.in-OfFaults.res c.in-OfFaults.faults ∷ [] = c.in-Some.ensures.items ∙ ap (λ (e : Edit). edits ++ e ∷ []) c.in-OfFaults.is in
    let all : length s.edits.items ≡ length c.args.self.now.edits = ap (λ (o : Lists). length o.edits) c.self.view_is in
    let within = last_place (length s.taken.items) (length s.faults.items) s.broken edits s.edits.items (OfFaults c.in-OfFaults.res c.in-OfFaults.faults) c.self.invariant.0 was in
    faults_undone l c.in-OfFaults.res c.in-OfFaults.faults edits last within was (omega (arith, all, c.requires))
    ∙ ap (λ (o : Lists). back_to last (seen o)) c.self.view_is
