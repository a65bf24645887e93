use Rattle.added_legs.proofs.FerriedLaws.{only_one}
use Rattle.added_legs.proofs.laws.only_one_list_is_ferried.Goals as goal

pub returns : goal.returns
returns c = only_one
