use Rattle.std.proofs.Common.{◌≡◌, ℕ, ◌-◌, ◌<◌, rules, ap, ◌∙◌, arith}
use Rattle.std.proofs.lemmas.Bool.{ltb-true}
use Rattle.near_untouched.specs.Hours.{place_of, beside, cap}
use Rattle.near_untouched.proofs.RoomLaws.{roomy-some, roomy-none}
use Rattle.near_untouched.proofs.room.is_roomy.Goals as goal

pub returns-in-Some : goal.returns-in-Some
returns-in-Some g c = λ is.
    (let m = c.args.movement in
    let I = c.args.inst.now in
    let R = c.args.plan.now in
    let z = c.args.leg.0 in
    let h = c.args.hour in
    let place = c.place_of-airport.ensures.place in
    let less : c.saturating_sub.result ≡ c.in-Some.cap - 17 = search rules in
    let below : c.beside-others.result < c.saturating_sub.result = ltb-true c.beside-others.result c.saturating_sub.result is in
    roomy-some m I R z (place_of m I z) h c.beside-others.result c.in-Some.cap c.requires.leg
    (c.in-Some.ensures ∙ ap (λ (a : ℕ). cap m I a h) place)
    (c.beside-others.ensures ∙ ap (λ (a : ℕ). beside m I R z a h) place)
    (omega (arith, less, below)))

pub returns-in-None : goal.returns-in-None
returns-in-None g c = λ is.
    (let m = c.args.movement in
    let I = c.args.inst.now in
    let h = c.args.hour in
    roomy-none m I c.args.plan.now (place_of m I c.args.leg.0) h (c.in-None.ensures ∙ ap (λ (a : ℕ). cap m I a h) c.place_of-airport.ensures.place))
