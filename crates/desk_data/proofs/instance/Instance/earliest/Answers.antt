use Rattle.std.proofs.Common.{rules, ◌≡◌, subst}
use Rattle.desk_data.specs.Situation.{earliest}
use Rattle.desk_data.specs.Valid.{IsValid}
use Rattle.desk_data.proofs.DepartureLaws.{earliest-le}
use Rattle.desk_data.proofs.instance.Instance.earliest.Goals as goal

pub returns-clause-limit : goal.returns-clause-limit
unfolding earliest
returns-clause-limit c =
    let is : c.max.result.0 ≡ earliest c.args.self.now c.args.leg.0 = search rules in
    rw is (earliest-le c.args.self.now c.args.leg.0 (subst IsValid c.self.view_is c.self.invariant.valid))
