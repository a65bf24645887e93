use Rattle.desk_disk.proofs.Unique.{opens_one_way}
use Rattle.desk_disk.proofs.laws.a_file_opens_in_one_way.Goals as goal

pub returns : goal.returns
returns c = opens_one_way
