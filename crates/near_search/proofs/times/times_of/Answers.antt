use Rattle.std.proofs.Common.{◌≡◌, ◌+◌, [], ◌∷◌, ◌++◌, sym, subst, rules}
use Rattle.near_search.specs.Rotations.{AreTimes}
use Rattle.near_search.proofs.TimesLaws.{times-more}
use Rattle.near_search.proofs.times.times_of.Goals as goal

pub loop-p-preserved : goal.loop-p-preserved
loop-p-preserved c =
    let I = c.args.inst.now in
    let P = c.args.plan.now in
    let old = c.loop-p.times.items in
    let time = c.time_of.result in
    let items : c.push.new.self.items ≡ old ++ time ∷ [] = search rules in
    subst (AreTimes I P (c.loop-p.p + 1)) (sym items) (times-more I P c.loop-p.p old time c.loop-p.invariant c.time_of.ensures)
