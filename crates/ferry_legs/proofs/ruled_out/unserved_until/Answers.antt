use Rattle.std.proofs.Common.{◌≡◌, ◌∙◌, sym, ap}
use Rattle.std.specs.Prelude.{Some}
use Rattle.desk_data.specs.Situation.{plane_at}
use Rattle.ferry_legs.proofs.ruled_out.unserved_until.Goals as goal

pub unserved_by-requires-clause-upkeep : goal.unserved_by-requires-clause-upkeep
unserved_by-requires-clause-upkeep c =
    let is : (plane_at c.args.inst.now c.args.way.plane.0).maint ≡ Some c.in-Some.maint = ap (λ p. p.maint) (sym c.plane.ensures.row) ∙ c.in-Some.is in
    c.requires.upkeep c.in-Some.maint is
