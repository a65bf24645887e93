use Rattle.std.proofs.Common.{◌≡◌, ℕ, Some, None, take, sym, ap, ◌∙◌, arith}
use Rattle.std.specs.Prelude.{unwrap_or}
use Rattle.std.specs.List.{count_by}
use Rattle.file_rows.specs.declared.disruptions.AltRow.{AltRow}
use Rattle.build_tables.proofs.BatchLemmas.{number_of_next, moment_of_next}
use Rattle.build_refusals.specs.First.{first_refusal_in}
use Rattle.build_refusals.specs.Orders.{line_of, is_order}
use Rattle.build_refusals.specs.Feed.{fed_cause, feed_cause}
use Rattle.build_refusals.proofs.FirstLemmas.{of_row, refused_more, refused_here, refused_end}
use Rattle.build_refusals.proofs.OrderLemmas.{room_more, no_room}
use Rattle.build_refusals.proofs.feed.feed_refusal.Goals as goal

pub returns-in-Some : goal.returns-in-Some
returns-in-Some c =
    let x = c.args.tables.now.files.now in
    let rows = c.args.rows.now in
    let at = c.loop-fed.fed-index in
    let fed = c.fed-item.result in
    let cause = feed_cause x c.args.room rows in
    let line = λ (f : ℕ × AltRow). line_of f.1 in
    let full = no_room c.args.room (count_by (λ (f : ℕ × AltRow). is_order f.1) (take at rows)) c.loop-fed.left c.loop-fed.invariant.more in
    let why : Some c.in-Some.cause ≡ cause at fed = c.in-Some.ensures ∙ (λ i. fed_cause x (c.loop-fed.invariant.last i) (c.loop-fed.invariant.moment i) (full i) fed) in
    ap (λ n. Some (n, c.in-Some.cause)) c.line_of.ensures
    ∙ refused_here cause (of_row line) rows at fed c.in-Some.cause (first_refusal_in cause line rows) c.loop-fed-test.true c.fed-item.is why c.loop-fed.invariant.so_far

pub loop-fed-preserved : goal.loop-fed-preserved
loop-fed-preserved c =
    let x = c.args.tables.now.files.now in
    let rows = c.args.rows.now in
    let at = c.loop-fed.fed-index in
    let fed = c.fed-item.result in
    let cause = feed_cause x c.args.room rows in
    let line = λ (f : ℕ × AltRow). line_of f.1 in
    let full = no_room c.args.room (count_by (λ (f : ℕ × AltRow). is_order f.1) (take at rows)) c.loop-fed.left c.loop-fed.invariant.more in
    let why : None ≡ cause at fed = c.in_default.ensures ∙ (λ i. fed_cause x (c.loop-fed.invariant.last i) (c.loop-fed.invariant.moment i) (full i) fed) in
    record {
      so_far = refused_more cause (of_row line) rows at fed (first_refusal_in cause line rows) c.loop-fed-test.true c.fed-item.is why c.loop-fed.invariant.so_far;
      more = c.room_after_row-left.ensures ∙ room_more (λ (f : ℕ × AltRow). is_order f.1) rows c.args.room at c.loop-fed.left fed c.loop-fed-test.true c.fed-item.is c.loop-fed.invariant.more;
      last = sym (number_of_next rows at fed c.loop-fed-test.true c.fed-item.is);
      moment = c.unwrap_or-moment.ensures ∙ (λ i. unwrap_or (c.moment.ensures i) (c.loop-fed.invariant.moment i)) ∙ sym (moment_of_next x.config.from rows at fed c.loop-fed-test.true c.fed-item.is);
    }

pub returns : goal.returns
returns c =
    let rows = c.args.rows.now in
    let cause = feed_cause c.args.tables.now.files.now c.args.room rows in
    let line = λ (f : ℕ × AltRow). line_of f.1 in
    refused_end cause (of_row line) rows c.loop-fed.fed-index (first_refusal_in cause line rows) (omega arith) c.loop-fed.invariant.so_far
