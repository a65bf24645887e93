use Rattle.desk_rules.proofs.BookedLaws.{haul_of-holds, reference_of-holds}
use Rattle.desk_rules.proofs.laws.the_haul_and_the_cabin_are_the_highest_booked.Goals as goal

pub returns : goal.returns
returns c = record { haul = haul_of-holds; cabin = reference_of-holds }
