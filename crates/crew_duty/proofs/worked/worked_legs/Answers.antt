use Rattle.std.proofs.Common.{ap, ◌∙◌}
use Rattle.std.proofs.lemmas.List.Sorted.{All-permutation}
use Rattle.crew_rules.specs.Crews.{flown_among}
use Rattle.crew_duty.specs.Faults.{ArrivesInTime}
use Rattle.crew_duty.proofs.SortLaws.{sorted_worked}
use Rattle.crew_duty.proofs.worked.worked_legs.Goals as goal

pub returns-clause-exact : goal.returns-clause-exact
returns-clause-exact c = sorted_worked c.args.inst.now.parts c.args.rows.now c.args.crew.now c.in_ok-legs.legs.items c.sort.new.self.items c.requires.crew.apart (c.in_ok-legs.ensures.exact ∙ ap (flown_among c.args.inst.now.parts c.args.rows.now) c.as_slice.ensures) c.in_ok-sort.ensures.permutation c.in_ok-sort.ensures.sorted

pub returns-clause-time : goal.returns-clause-time
returns-clause-time c = All-permutation ArrivesInTime c.in_ok-legs.legs.items c.sort.new.self.items c.in_ok-sort.ensures.permutation c.in_ok-legs.ensures.time
