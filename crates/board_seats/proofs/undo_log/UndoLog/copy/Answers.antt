use Rattle.std.proofs.Common.{List, length, sym, ap, ◌∙◌}
use Rattle.desk_units.specs.declared.numbers.Res.{Res}
use Rattle.desk_units.specs.declared.numbers.Seats.{Seats}
use Rattle.board_seats.specs.Kept.{Lists}
use Rattle.board_seats.proofs.CopyLaws.{copied_logged, copied_lists}
use Rattle.board_seats.proofs.undo_log.UndoLog.copy.Goals as goal

pub invariant_of-result : goal.invariant_of-result
invariant_of-result c = (
  copied_logged (length c.in_ok-taken.taken.items) (length c.in_ok-faults.faults.items) c.in_ok-broken.broken c.new.result.items c.in_ok-broken.ensures.room c.new.ensures.items,
  ap (λ (users : List (List Res)). length users) c.in_ok-users.ensures
      ∙ c.self.invariant.1
      ∙ sym (ap (λ (taken : List Seats). length taken) (c.in_ok-taken.ensures.items ∙ c.as_slice.ensures.value)),
)

pub returns : goal.returns
returns c =
    let s = c.self.inside in
    let l : Lists = record { taken = s.taken.items; faults = s.faults.items; broken = s.broken.items; users = s.users; edits = s.edits.items } in
    copied_lists l c.args.self.now c.in_ok-taken.taken.items c.in_ok-faults.faults.items c.in_ok-broken.broken.items c.in_ok-users.users c.new.result.items c.self.view_is
    (c.in_ok-taken.ensures.items ∙ c.as_slice.ensures.value) (c.in_ok-faults.ensures.items ∙ c.as_slice-2.ensures.value) c.in_ok-broken.ensures.items c.in_ok-users.ensures c.new.ensures.items
