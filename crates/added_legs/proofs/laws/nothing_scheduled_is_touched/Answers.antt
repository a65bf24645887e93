use Rattle.added_legs.proofs.MergedLaws.{is_untouched}
use Rattle.added_legs.proofs.laws.nothing_scheduled_is_touched.Goals as goal

pub returns : goal.returns
returns c = is_untouched
