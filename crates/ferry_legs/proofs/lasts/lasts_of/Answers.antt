use Rattle.std.proofs.Common.{◌≡◌, List, length, drop, sym, subst, arith}
use Rattle.std.specs.Prelude.{Option}
use Rattle.std.proofs.lemmas.List.{take_at}
use Rattle.desk_units.specs.declared.numbers.Leg.{Leg}
use Rattle.desk_data.specs.Situation.{legs_of}
use Rattle.plan_reads.specs.Last.{AreLasts}
use Rattle.ferry_legs.proofs.lasts.lasts_of.Goals as goal

pub returns : goal.returns
returns g c =
    let I = c.args.inst.now in
    let made = c.put_lasts.new.lasts in
    let long : length made ≡ c.in_ok-lasts.lasts.len = omega (arith, c.put_lasts.ensures.planes, c.planes.ensures.count, c.in_ok-lasts.ensures.len) in
    subst (λ (lasts : List (Option Leg)). AreLasts I c.args.plan.now (g.M.Moments.moment_of c.args.moments.now I) (legs_of I) lasts)
    (sym (take_at made (drop (length made) c.in_ok-lasts.lasts.items) c.in_ok-lasts.lasts.len long)) c.put_lasts.ensures
