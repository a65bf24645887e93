use Rattle.std.proofs.Common.{Bool, ◌&&◌, ap, ◌∙◌}
use Rattle.desk_data.specs.Situation.{plane_at}
use Rattle.desk_rules.specs.Cost.{is_wanted}
use Rattle.near_priced.proofs.PayerLaws.{ends-is}
use Rattle.near_priced.proofs.hands.is_hand.Goals as goal

pub returns : goal.returns
returns c =
    let I = c.args.inst.now in
    let position = c.args.position.now in
    let p = c.args.plane.0 in
    c.stands_ready.ensures ∙ ap (λ (e : Bool). is_wanted position (plane_at I p) && e) (ends-is I c.args._plan.now p position.airport.0 c.args.last c.requires.last)
