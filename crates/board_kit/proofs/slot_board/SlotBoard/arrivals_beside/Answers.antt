use Rattle.std.proofs.Common.{rules, ◌≡◌, ℕ, ◌-◌, subst, sym, ap, ◌∙◌}
use Rattle.hour_counts.proofs.CountLaws.{arrivals_are, arrives_among}
use Rattle.board_kit.specs.declared.slot.By.TheVariants.{Schedule}
use Rattle.hour_counts.specs.declared.slot.Movement.TheVariants.{Arrival}
use Rattle.board_kit.specs.Board.{IsBoardOf}
use Rattle.board_kit.proofs.slot_board.SlotBoard.arrivals_beside.Goals as goal

pub returns : goal.returns
returns c P Ps here is =
    let I = c.args.inst.now in
    let x = c.args.leg.0 in
    let a = c.args.airport.0 in
    let h = c.args.hour in
    let own = c.own_arrival-own.ensures ∙ arrives_among I a h x c.args.row in
    let board = subst (IsBoardOf I P Ps) (sym c.self.view_is) is in
    let all = c.scheduled_at.ensures ∙ board.loads.counts Schedule (record { movement = Arrival; airport = c.args.airport; hour = h }) in
    let less : c.saturating_sub.result ≡ c.scheduled_at.result - c.own_arrival-own.result = search rules in
    less ∙ ap (λ (n : ℕ). c.scheduled_at.result - n) own ∙ arrivals_are I P x a h c.scheduled_at.result c.args.row c.requires.leg here all
