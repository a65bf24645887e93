use Rattle.std.proofs.Common.{◌≡◌, ℕ, ◌+◌, false, ◌&&◌, get_or, sym, ap, ◌∙◌, arith}
use Rattle.std.specs.Prelude.{None}
use Rattle.std.proofs.lemmas.Bool.{and_left, and_right}
use Rattle.desk_data.specs.Situation.{plane_at}
use Rattle.desk_rules.specs.Cost.{is_wanted}
use Rattle.plan_checks.specs.Stands.{is_there}
use Rattle.added_legs.proofs.EndLaws.{hand_yes, hand_no}
use Rattle.added_legs.proofs.position.at_hand.Goals as goal
use Rattle.added_legs.proofs.position.at_hand.Goals.{then-is_wanted+then-is_there, else-is_wanted, else-is_wanted-via-then-is_wanted+else-is_there, else-is_wanted-via-else-is_wanted}

pub loop-p-preserved : goal.loop-p-preserved
loop-p-preserved c =
    let I = c.args.inst.now in
    let stands = c.args.stands.now in
    let position = c.args.position.now in
    let n = c.loop-p.p in
    let wanted : c.is_wanted.result ≡ is_wanted position (plane_at I n) = c.is_wanted.ensures ∙ ap (is_wanted position) c.plane.ensures.row in
    elim c.if-is_wanted.branch [
      | then-is_wanted+then-is_there w ↦
          let more = hand_yes I stands position n (sym wanted ∙ w.if-is_wanted.true) (sym w.is_there.ensures ∙ w.if-is_there.true) in
          record {
            count = w.count-is ∙ ap (λ (k : ℕ). k + 1) c.loop-p.invariant.count ∙ sym more;
            limit = omega (arith, w.count-is, c.loop-p.invariant.limit);
          }
      | else-is_wanted w ↦
          let off : (is_wanted position (plane_at I n) && is_there (get_or stands n None) position.airport.0) ≡ false = elim w.else-is_wanted.branch [
            | else-is_wanted-via-then-is_wanted+else-is_there v ↦ and_right (is_wanted position (plane_at I n)) (is_there (get_or stands n None) position.airport.0) (sym v.is_there.ensures ∙ v.if-is_there.false)
            | else-is_wanted-via-else-is_wanted v ↦ and_left (is_wanted position (plane_at I n)) (is_there (get_or stands n None) position.airport.0) (sym wanted ∙ v.if-is_wanted.false)
          ] in
          record {
            count = w.count-is ∙ c.loop-p.invariant.count ∙ sym (hand_no I stands position n off);
            limit = omega (arith, w.count-is, c.loop-p.invariant.limit);
          }
    ]
