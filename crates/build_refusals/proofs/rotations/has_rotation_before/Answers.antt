use Rattle.std.proofs.Common.{bytes_eq, ◌&&◌, eqb, ltb, false, ap, ◌∙◌}
use Rattle.std.specs.Option.{option_map_or}
use Rattle.build_refusals.proofs.BeforeLemmas.{stood_before}
use Rattle.build_refusals.proofs.rotations.has_rotation_before.Goals as goal

pub returns : goal.returns
returns c =
    c.is_before.ensures
    ∙ ap (λ first. option_map_or (λ k. ltb k c.args.place) first false) c.rotation_place.ensures
    ∙ stood_before (λ row. bytes_eq c.args.flight.now row.flight && eqb c.args.day row.day) c.args.place c.args.tables.now.files.now.rotations
