use Rattle.std.proofs.Common.{◌≡◌, ℕ, sym, subst, ◌∙◌, arith}
use Rattle.std.proofs.lemmas.List.{length_push}
use Rattle.desk_data.specs.Situation.{legs_of}
use Rattle.near_untouched.specs.Marks.{HoldsOf}
use Rattle.near_untouched.specs.Again.{AreRestorable, IsAgain}
use Rattle.near_untouched.proofs.AgainLaws.{holds-more}
use Rattle.near_untouched.proofs.again.touched_again.Goals as goal

pub is_touched-requires-clause-restorable : goal.is_touched-requires-clause-restorable
is_touched-requires-clause-restorable c =
    subst (AreRestorable c.args.plans.now.inst.now c.args.plans.now.earlier.now) (sym c.as_slice-restorable.ensures.value) c.in_ok-list.ensures

pub loop-x-preserved : goal.loop-x-preserved
loop-x-preserved c =
    let I = c.args.plans.now.inst.now in
    let P = c.args.plans.now.earlier.now in
    let Q = c.args.plans.now.later.now in
    let old = c.loop-x.touched.items in
    let many = c.loop-x.invariant.all in
    rw c.in_ok-push.ensures.items
    (record {
      all = omega (arith, many, length_push old c.is_touched.result);
      again = holds-more c.loop-x.x old c.is_touched.result (IsAgain I P Q) many c.loop-x.invariant.again c.is_touched.ensures;
    })

pub returns : goal.returns
returns c =
    let I = c.args.plans.now.inst.now in
    let P = c.args.plans.now.earlier.now in
    let Q = c.args.plans.now.later.now in
    let whole : c.loop-x.x ≡ legs_of I = omega (arith, c.legs-x-end.ensures.count, c.loop-x-test.false, c.loop-x.auto.x-end) in
    record {
      all = c.loop-x.invariant.all ∙ whole;
      again = subst (λ (n : ℕ). HoldsOf n c.loop-x.touched.items (IsAgain I P Q)) whole c.loop-x.invariant.again;
    }
