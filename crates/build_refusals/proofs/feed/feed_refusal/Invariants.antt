use Rattle.std.proofs.Common.{◌≡◌, ◌-◌, take, drop}
use Rattle.std.specs.List.{count_by}
use Rattle.build_tables.specs.Batches.{number_of_last, moment_before}
use Rattle.build_refusals.specs.First.{refusal_from, first_refusal_in}
use Rattle.build_refusals.specs.Orders.{line_of, is_order}
use Rattle.build_refusals.specs.Feed.{feed_cause}
use Rattle.build_refusals.proofs.feed.feed_refusal.Given as goal

-- the first that is refused among the rows that are left is the first of all; so many more may come after the rows so far, the last of them is of this batch, and this is the last moment that one of them tells
abbrev pub invariant-loop-fed : goal.invariant-loop-fed
invariant-loop-fed l = record {
  so_far : refusal_from (feed_cause l.tables.files.now l.room l.rows) (λ n fed. line_of fed.1) l.fed-index (drop l.fed-index l.rows) ≡ first_refusal_in (feed_cause l.tables.files.now l.room l.rows) (λ fed. line_of fed.1) l.rows;
  more : l.left ≡ l.room - count_by (λ f. is_order f.1) (take l.fed-index l.rows);
  last : l.before ≡ number_of_last (take l.fed-index l.rows);
  moment : l.moment ≡ moment_before l.tables.files.now.config.from (take l.fed-index l.rows);
}
