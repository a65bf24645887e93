use Rattle.std.proofs.Common.{ℕ, ap, ◌∙◌}
use Rattle.std.specs.Prelude.{Option, is_some}
use Rattle.desk_data.specs.Situation.{distance}
use Rattle.ferry_legs.proofs.kept.Kept.has_way.Goals as goal

pub returns : goal.returns
returns g c =
    c.is_some.ensures
    ∙ ap (λ (o : Option ℕ). is_some o) (c.distance.ensures.value ∙ ap (λ a. distance c.args.inst.now a.0 c.args.dest.0) (c.end-from.ensures c.args.inst.now c.args.plan.now g.added c.requires.0.prices))
