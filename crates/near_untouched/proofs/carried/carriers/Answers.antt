use Rattle.std.proofs.Common.{ap, length, ◌∙◌}
use Rattle.std.proofs.lemmas.List.{length-replicate}
use Rattle.near_untouched.proofs.CarriedLaws.{told-first}
use Rattle.near_untouched.proofs.carried.carriers.Goals as goal

pub loop-r-init : goal.loop-r-init
loop-r-init c =
    told-first c.args.inst.now c.args.earlier.now c.args.later.now c.in_ok-marks.marks.items
    (ap length c.in_ok-marks.ensures ∙ length-replicate _ _ ∙ c.planes.ensures.count)
