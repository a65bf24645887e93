use Rattle.std.proofs.Common.{◌≡◌, ◌∙◌, ◌+◌, ℕ, ap, arith}
use Rattle.desk_data.specs.PlanRows.{row_at}
use Rattle.board_kit.specs.declared.slot.By.{By}
use Rattle.hour_counts.specs.declared.slot.Slot.{Slot}
use Rattle.board_kit.specs.Slots.{among, slots_of, taken_first}
use Rattle.board_kit.proofs.CountLaws.{counted_same}
use Rattle.board_kit.proofs.PlanLaws.{first_few, more_taken}
use Rattle.board_kit.proofs.slot_board.SlotBoard.open.Goals as goal

pub loop-x-preserved : goal.loop-x-preserved
loop-x-preserved g c =
    let I = c.args.inst.now in
    let P = g.P.ReadPlan.plan_of c.args.plan.now in
    let x = c.loop-x.x in
    let n : By → Slot → ℕ = taken_first x I P in
    let come : c.slots_of-come.result ≡ slots_of I x (row_at P x) = c.slots_of-come.ensures.slots ∙ ap (slots_of I x) c.read_row.ensures.row in
    counted_same I (λ by s. n by s + among by c.slots_of-come.result s) (taken_first (x + 1) I P) c.enter.new.self.loads
    (c.enter.ensures.entered I n (c.in_ok-make_ready.ensures.ready.counted n c.loop-x.invariant) c.in_ok-make_ready.ensures.come (λ by s. omega (arith, first_few x I P by s)))
    (more_taken I P x c.slots_of-come.result come)
