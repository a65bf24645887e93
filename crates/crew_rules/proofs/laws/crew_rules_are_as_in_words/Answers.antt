use Rattle.crew_rules.proofs.RuleLaws.{k1-holds, k2-holds, k4-holds}
use Rattle.crew_rules.proofs.DutyLaws.{k3-holds}
use Rattle.crew_rules.proofs.laws.crew_rules_are_as_in_words.Goals as goal

pub returns : goal.returns
returns c = record { k1 = k1-holds; k2 = k2-holds; k3 = k3-holds; k4 = k4-holds }
