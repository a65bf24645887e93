use Rattle.std.proofs.Common.{eqb}
use Rattle.desk_folder.proofs.FeedLemmas.{first_is_position}
use Rattle.desk_folder.proofs.puts.line_feed_place.Goals as goal

pub returns-clause-first : goal.returns-clause-first
returns-clause-first c = first_is_position (λ byte. eqb byte 10) c.args.text.now c.memchr.result c.memchr.ensures
