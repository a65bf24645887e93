use Rattle.std.proofs.Common.{rules, ◌≡◌, ℕ, ◌-◌, ap, ◌∙◌}
use Rattle.std.specs.Prelude.{Option}
use Rattle.hour_counts.specs.Counts.{Counted, among, count_at, arrival_of}
use Rattle.hour_counts.proofs.CountLaws.{arrivals_are}
use Rattle.hour_counts.proofs.counts.HourCountsKnowsHours.arrivals_beside.Goals as goal

pub returns : goal.returns
returns c = λ Q here are.
    let I = c.args.inst.now in
    let x = c.args.leg.0 in
    let a = c.args.airport.0 in
    let h = c.args.hour in
    let own : c.one_at-own.result ≡ among (arrival_of I x c.args.row) a h = c.one_at-own.ensures ∙ ap (λ (slot : Option (ℕ × ℕ)). among slot a h) c.arrival_of.ensures in
    let all = c.at.ensures ∙ ap (λ (counts : Counted). count_at counts.arrivals a h) c.self.view_is ∙ are.arrivals a h in
    let less : c.saturating_sub.result ≡ c.at.result - c.one_at-own.result = search rules in
    less ∙ ap (λ (n : ℕ). c.at.result - n) own ∙ arrivals_are I Q x a h c.at.result c.args.row c.requires.leg here all
