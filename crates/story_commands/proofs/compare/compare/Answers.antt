use Rattle.std.proofs.Common.{◌≡◌, ℕ, ◌+◌, ◌<◌, ◌≤◌, List, length, map, refl, sym, ap, subst, add-one, arith}
use Rattle.std.specs.Prelude.{Option}
use Rattle.std.proofs.lemmas.List.{length-map}
use Rattle.story_commands.specs.declared.compare.Reached.{Reached}
use Rattle.story_commands.specs.Compared.{IsOther, Steps}
use Rattle.story_commands.proofs.Comparing.{reaches-start, reaches-next, reaches-stops, reaches-short, few-next, within-next}
use Rattle.story_commands.proofs.compare.compare.Goals as goal

pub loop-asked-init : goal.loop-asked-init
loop-asked-init c = record { each = λ S. reaches-start S c.args.events.now (map (λ p. p.now) c.args.held.now); taken = refl; few = omega arith; within = omega arith }

pub returns-in-None : goal.returns-in-None
returns-in-None c S =
    let held : List (List ℕ) = map (λ p. p.now) c.args.held.now in
    let inv = c.loop-asked.invariant in
    let more : c.loop-asked.at.entries < length held = omega (arith, inv.within, c.if-at-held.false, length-map c.args.held.now (λ p. p.now)) in
    let stops = subst (λ (o : Option Reached). Steps held c.loop-asked.at c.asked-item.result o) c.in-None.is c.in_ok-next.ensures in
    rw add-one (subst (IsOther S c.args.events.now held) (sym inv.taken)
    (reaches-stops S c.args.events.now held c.loop-asked.asked-index c.loop-asked.at c.asked-item.result c.loop-asked-test.true c.asked-item.is more stops (inv.each S)))

pub loop-asked-preserved : goal.loop-asked-preserved
loop-asked-preserved c =
    let held : List (List ℕ) = map (λ p. p.now) c.args.held.now in
    let inv = c.loop-asked.invariant in
    let size : length held ≡ length c.args.held.now = length-map c.args.held.now (λ p. p.now) in
    let more : c.loop-asked.at.entries < length held = omega (arith, inv.within, c.if-at-held.false, size) in
    let goes = subst (λ (o : Option Reached). Steps held c.loop-asked.at c.asked-item.result o) c.in-Some.is c.in_ok-next.ensures in
    record {
      each = λ S. reaches-next S c.args.events.now held c.loop-asked.asked-index c.loop-asked.at c.in-Some.next c.asked-item.result c.loop-asked-test.true c.asked-item.is more goes (inv.each S);
      taken = ap (λ (n : ℕ). n + 1) inv.taken;
      few = few-next held c.loop-asked.at c.in-Some.next c.asked-item.result goes inv.few;
      within = omega (arith, within-next held c.loop-asked.at c.in-Some.next c.asked-item.result goes more, size);
    }

pub returns-then-at-held-2 : goal.returns-then-at-held-2
returns-then-at-held-2 c S =
    let held : List (List ℕ) = map (λ p. p.now) c.args.held.now in
    let more : c.loop-asked.at.entries < length held = omega (arith, c.if-at-held-2.true, length-map c.args.held.now (λ p. p.now)) in
    reaches-short S c.args.events.now held c.loop-asked.asked-index c.loop-asked.at.entries c.loop-asked.at.number c.loop-asked-test.false more (c.loop-asked.invariant.each S)
