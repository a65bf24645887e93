use Rattle.std.proofs.Common.{ap, ◌∙◌, get_or, arith}
use Rattle.std.specs.List.{filter_map}
use Rattle.day_orders.specs.LastOrders.{span_after}
use Rattle.desk_data.proofs.KeepsLemmas.{keeps_more}
use Rattle.desk_data.proofs.instance.Instance.news_with.Goals as goal

pub spans_left-requires-clause-few : goal.spans_left-requires-clause-few
spans_left-requires-clause-few c = omega (arith, c.requires.landings, c.news-news.ensures.valid.parts.few.planes)

pub returns-clause-kept : goal.returns-clause-kept
returns-clause-kept c = keeps_more c.args.self.now c.args.orders.now c.news-news.result.now.kept c.in_ok-kept.kept c.news-news.ensures.kept c.in_ok-kept.ensures

pub returns-clause-spans : goal.returns-clause-spans
returns-clause-spans c =
    let keeps = keeps_more c.args.self.now c.args.orders.now c.news-news.result.now.kept c.in_ok-kept.kept c.news-news.ensures.kept c.in_ok-kept.ensures in
    λ p within.
    c.in_ok-spans.ensures.spans p (omega (arith, within, c.requires.landings))
    ∙ ap (filter_map (span_after (get_or c.args.landings.now p (record { 0 = 0 })).0)) (keeps.spans p within)
