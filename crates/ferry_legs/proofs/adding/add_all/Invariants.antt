use Rattle.std.specs.Prelude.{sum_by}
use Rattle.ferry_legs.specs.Ferried.{added_of}
use Rattle.ferry_legs.specs.Steps.{AreSoFar, IsKeptOf}
use Rattle.ferry_legs.proofs.ListLaws.{is_free}
use Rattle.ferry_legs.proofs.adding.add_all.Given as goal

-- what is added so far, and what is kept of it
abbrev pub invariant-loop-leg : goal.invariant-loop-leg
invariant-loop-leg l = record {
  so_far : AreSoFar l.inst l.plan l.list.items;
  kept : IsKeptOf l.inst l.plan (added_of l.list.items) l.kept;
}

-- how many aircraft have no added leg
abbrev pub decreases-loop-leg : goal.decreases-loop-leg
decreases-loop-leg l = sum_by is_free l.kept.taken.items

abbrev pub ghost-next : goal.ghost-next
ghost-next a = a.self.now.times.added
