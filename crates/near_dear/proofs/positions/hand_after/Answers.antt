use Rattle.std.proofs.Common.{◌≡◌, ℕ, ◌+◌, ap, ◌∙◌, arith}
use Rattle.near_dear.specs.Exchanged.{serves, stand_then}
use Rattle.near_priced.proofs.EndLaws.{hands-few}
use Rattle.near_dear.proofs.AtLaws.{stands-then}
use Rattle.near_dear.proofs.positions.hand_after.Goals as goal

pub returns : goal.returns
returns c =
    let I = c.args.inst.now in
    let P = c.args._plan.now in
    let p = c.args.planes.0.0 in
    let q = c.args.planes.1.0 in
    let at = c.args._at in
    let position = c.args.position.now in
    let s = c.args.stands in
    let are = c.requires.stands in
    let first : c.end_then-first.result.0 ≡ stand_then I P p q at = c.end_then-first.ensures ∙ stands-then I P p q at s.before.0 s.other_before.0 s.end.0 s.other_end.0 are.before are.other_before are.end are.other_end in
    let second : c.end_then-second.result.0 ≡ stand_then I P q p at = c.end_then-second.ensures ∙ stands-then I P q p at s.other_before.0 s.before.0 s.other_end.0 s.end.0 are.other_before are.before are.other_end are.end in
    let one = c.serves.ensures.is ∙ ap (λ (a : ℕ). serves I p a position) first in
    let two = c.serves-2.ensures.is ∙ ap (λ (a : ℕ). serves I q a position) second in
    let three = c.serves-3.ensures.is ∙ ap (λ (a : ℕ). serves I p a position) are.end in
    let four = c.serves-4.ensures.is ∙ ap (λ (a : ℕ). serves I q a position) are.other_end in
    let hand = c.requires.hand in
    let few = hands-few I P position c.parts-rows.ensures.valid in
    let come = c.serves.ensures.few in
    let come_too = c.serves-2.ensures.few in
    let added : c.saturating_add.result ≡ c.args.hand + (c.serves.result + c.serves-2.result) = omega (arith, c.saturating_add.ensures, hand, few, come, come_too) in
    omega (arith, one, two, three, four, hand, added, c.saturating_sub.ensures)
