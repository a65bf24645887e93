use Rattle.std.proofs.Common.{rules, ◌≡◌, ℕ, ◌-◌, subst, sym, ap, ◌∙◌}
use Rattle.hour_counts.proofs.CountLaws.{departures_are, departs_among}
use Rattle.board_kit.specs.declared.slot.By.TheVariants.{Schedule}
use Rattle.hour_counts.specs.declared.slot.Movement.TheVariants.{Departure}
use Rattle.board_kit.specs.Board.{IsBoardOf}
use Rattle.board_kit.proofs.slot_board.SlotBoard.departures_beside.Goals as goal

pub returns : goal.returns
returns c P Ps here is =
    let I = c.args.inst.now in
    let x = c.args.leg.0 in
    let a = c.args.airport.0 in
    let h = c.args.hour in
    let own = c.own_departure-own.ensures ∙ departs_among I a h x c.args.row in
    let board = subst (IsBoardOf I P Ps) (sym c.self.view_is) is in
    let all = c.scheduled_at.ensures ∙ board.loads.counts Schedule (record { movement = Departure; airport = c.args.airport; hour = h }) in
    let less : c.saturating_sub.result ≡ c.scheduled_at.result - c.own_departure-own.result = search rules in
    less ∙ ap (λ (n : ℕ). c.scheduled_at.result - n) own ∙ departures_are I P x a h c.scheduled_at.result c.args.row c.requires.leg here all
