use Rattle.std.proofs.Common.{◌≡◌, reverse, subst, sym, ap, ◌∙◌}
use Rattle.std.specs.Prelude.{Some}
use Rattle.std.proofs.lemmas.List.{reverse-reverse}
use Rattle.near_legs.specs.Walk.{MoveWalk, IsUnitWalk, IsNextUnit, units_left}
use Rattle.near_legs.proofs.WalkLaws.{skip-walk, made-fit}
use Rattle.near_legs.proofs.moves.LegMoves.make.Goals as goal

pub returns-clause-walk : goal.returns-clause-walk
returns-clause-walk c =
    let I = c.args.inst.now in
    let P = c.args.plan.now in
    let W = c.peek.new.self in
    let u = c.in-Some.unit in
    let next : IsNextUnit I P W (Some u) = subst (IsNextUnit I P W) c.in-Some.is c.in_ok-unit.ensures.ok in
    let same : units_left I P W ≡ units_left I P c.args.self.now.units = c.in_ok-unit.ensures.left ∙ ap (λ (w : MoveWalk). units_left I P w.units) c.self.view_is in
    let made : reverse c.reverse.new.self.items ≡ c.in_ok-made.made.items = ap reverse c.reverse.ensures.items ∙ reverse-reverse c.in_ok-made.made.items in
    record {
      units = subst (IsUnitWalk I P) (sym c.skip.ensures) (skip-walk I P W c.in_ok-unit.ensures.walk);
      fits = made-fit I P c.args.self.now W c.skip.new.self u (reverse c.reverse.new.self.items) c.requires.walk.fits c.requires.empty same next.1 c.skip.ensures (made ∙ c.in_ok-made.ensures);
    }
