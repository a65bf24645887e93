use Rattle.std.proofs.Common.{◌≡◌, ℕ, inl, inr, true, false, set, subst, ◌∙◌, arith}
use Rattle.std.proofs.lemmas.List.{length-set, get_or-set_same}
use Rattle.near_untouched.specs.Marks.{is_marked}
use Rattle.near_untouched.proofs.MarkLaws.{mark-kept}
use Rattle.near_untouched.proofs.room.mark_hour.Goals as goal

pub returns-then-is_roomy-clause-told : goal.returns-then-is_roomy-clause-told
returns-then-is_roomy-clause-told g c =
    rw c.in-Some.is (inr (c.is_roomy.ensures c.if-is_roomy.true))

pub returns : goal.returns
returns g c =
    let I = c.args.inst.now in
    let x = c.args.leg.0 in
    let old = c.args.tight.now.items in
    let a = c.place_of.result.0 in
    let there = c.place_of.ensures.there in
    let many = c.requires.tight in
    let on : is_marked (set old a true) a ≡ true = get_or-set_same old a true false (omega (arith, there, many)) in
    record {
      tight = length-set old a true ∙ many;
      kept = mark-kept old a;
      told = rw c.in-Some.is (inl (subst (λ (k : ℕ). is_marked (set old a true) k ≡ true) c.place_of.ensures.place on));
    }
