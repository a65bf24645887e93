use Rattle.std.proofs.Common.{◌≡◌, true, ◌&&◌, eqb, ap, sym, ◌∙◌}
use Rattle.desk_rules.specs.Maintenance.{is_free_for, is_left_at}
use Rattle.plan_reads.specs.Last.{stand}
use Rattle.plan_reads.proofs.LastLaws.{left_asked}
use Rattle.ferry_legs.proofs.ruled_out.serves.Goals as goal

pub returns-then-upkeep : goal.returns-then-upkeep
returns-then-upkeep c =
    let I = c.args.inst.now in
    let P = c.args.plan.now in
    let p = c.args.way.plane.0 in
    let maint = c.args.maint in
    let free : is_free_for I P p maint ≡ true = sym c.requires.upkeep.free ∙ c.if-upkeep.true in
    let left : is_left_at I P p maint.from.0 maint.airport.0 ≡ eqb (stand I p c.args.start).0 maint.airport.0 = left_asked I P p maint.from.0 maint.airport.0 c.args.start c.requires.start in
    ap (λ s. eqb s.0 maint.airport.0) c.stand_of-there.ensures
    ∙ sym left
    ∙ sym (ap (λ b. b && is_left_at I P p maint.from.0 maint.airport.0) free)
