use Rattle.std.proofs.Common.{rules, ◌≡◌, ℕ, ◌+◌, ◌*◌, ◌≤◌, max, ap, ◌∙◌, arith}
use Rattle.std.proofs.lemmas.Bool.{ltb-true}
use Rattle.near_dear.specs.Calm.{ground}
use Rattle.near_dear.proofs.MonoLaws.{done-by}
use Rattle.near_dear.proofs.times.are_done.Goals as goal

pub returns : goal.returns
returns c =
    let I = c.args.inst.now in
    let p = c.args.planes.0.0 in
    let q = c.args.planes.1.0 in
    let one = c.args.first in
    let two = c.args.second in
    let from : c.from-5.result ≡ max one.by two.by = search rules in
    let mine : c.from.result ≡ one.minutes = search rules in
    let theirs : c.from-2.result ≡ two.minutes = search rules in
    let legs : c.from-3.result ≡ one.count + two.count = search rules in
    let stands : c.from-4.result ≡ max (ground I p) (ground I q) = search rules in
    let end : c.from-6.result ≡ I.parts.to.0 = search rules in
    let product : c.from-3.result * c.from-4.result ≡ (one.count + two.count) * max (ground I p) (ground I q) =
    ap (λ (n : ℕ). n * c.from-4.result) legs ∙ ap (λ (n : ℕ). (one.count + two.count) * n) stands in
    let few : one.count + two.count ≤ 16 = search rules in
    λ less.
    let before = ltb-true _ _ less in
    done-by I c.args._plan.now p q one two c.requires.first c.requires.second few (omega (arith, before, from, mine, theirs, product, end))
