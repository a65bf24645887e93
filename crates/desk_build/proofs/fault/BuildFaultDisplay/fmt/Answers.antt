use Rattle.desk_build.proofs.fault.BuildFaultDisplay.fmt.Goals as goal

pub returns-in-Refused-clause-writes : goal.returns-in-Refused-clause-writes
returns-in-Refused-clause-writes g c plain ok = rw c.in-Refused.is (rw (← c.name-name.ensures) (c.write.ensures.writes plain ok))
