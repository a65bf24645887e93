use Rattle.plan_pages.proofs.VersionLaws.{all_stay}
use Rattle.plan_pages.proofs.versions.a_version_stays_whatever_is_done_with_others.Goals as goal

pub returns : goal.returns
returns c = all_stay
