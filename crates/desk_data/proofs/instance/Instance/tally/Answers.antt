use Rattle.std.proofs.Common.{◌<◌, [], length, subst, arith}
use Rattle.std.specs.Arc.{arc_value}
use Rattle.std.proofs.lemmas.List.{length-map, get_or-map}
use Rattle.desk_data.specs.Insides.{entries_in}
use Rattle.desk_data.specs.Valid.{AreTallied}
use Rattle.desk_data.proofs.instance.Instance.tally.Goals as goal

pub returns-clause-ranges : goal.returns-clause-ranges
returns-clause-ranges c =
    let left = arc_value c.self.inside.left in
    let valid = c.self.invariant.valid in
    let within = rw (← c.self.view_is) at c.requires in
    let some : c.args.res.0 < length left.tally.items = omega (arith, within, valid.progress.res, length-map left.tally.items entries_in) in
    let at_res = get_or-map entries_in left.tally.items c.args.res.0 c.index.result.now [] some in
    let own = valid.progress.tallied c.args.res.0 [] (omega (arith, within, valid.progress.res)) in
    rw (← c.self.view_is) (subst (AreTallied left.frozen.items) (cc) own)
