use Rattle.desk_disk.proofs.Unique.{whole_opens}
use Rattle.desk_disk.proofs.laws.a_whole_file_opens.Goals as goal

pub returns : goal.returns
returns c = whole_opens
