use Rattle.std.proofs.Common.{rules, ◌≡◌, ℕ, ◌-◌, ap, ◌∙◌}
use Rattle.std.specs.Prelude.{Option}
use Rattle.hour_counts.specs.Counts.{Counted, among, count_at, departure_of}
use Rattle.hour_counts.proofs.CountLaws.{departures_are}
use Rattle.hour_counts.proofs.counts.HourCountsKnowsHours.departures_beside.Goals as goal

pub returns : goal.returns
returns c = λ Q here are.
    let I = c.args.inst.now in
    let x = c.args.leg.0 in
    let a = c.args.airport.0 in
    let h = c.args.hour in
    let own : c.one_at-own.result ≡ among (departure_of I x c.args.row) a h = c.one_at-own.ensures ∙ ap (λ (slot : Option (ℕ × ℕ)). among slot a h) c.departure_of.ensures in
    let all = c.at.ensures ∙ ap (λ (counts : Counted). count_at counts.departures a h) c.self.view_is ∙ are.departures a h in
    let less : c.saturating_sub.result ≡ c.at.result - c.one_at-own.result = search rules in
    less ∙ ap (λ (n : ℕ). c.at.result - n) own ∙ departures_are I Q x a h c.at.result c.args.row c.requires.leg here all
