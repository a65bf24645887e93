use Rattle.std.proofs.Common.{take}
use Rattle.desk_model.specs.Choices.{IsGreatestWithin}
use Rattle.desk_model.specs.Refill.{has_seats_for}
use Rattle.plan_reads.proofs.free_seats.fitting.Given as goal

abbrev pub invariant-loop-k : goal.invariant-loop-k
invariant-loop-k g l = IsGreatestWithin l.waiting (has_seats_for l.inst (g.P.ReadPlan.plan_of l.plan) (take l.k l.path)) l.most
