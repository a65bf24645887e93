use Rattle.std.proofs.Common.{ℕ, ◌^◌, ◌<◌, ◌≤◌, lit<, arith}
use Rattle.std.proofs.Math.Nat.{pow-le-pow_right}
use Rattle.desk_text.proofs.values.weight_from.Goals as goal

-- what at most six digits spell
below : (n digits : ℕ) → n < 10 ^ digits → digits ≤ 6 → n < 1000000
below n digits small few = let most : 10 ^ digits ≤ 10 ^ 6 = pow-le-pow_right (lit< tt) few in omega arith

pub overflow_mul-result : goal.overflow_mul-result
overflow_mul-result c = omega (arith, below c.in_ok-digits-in-None.field-0 _ c.in_ok-digits-in-None.ensures.below c.in_ok-digits-in-None.ensures.size.1)

pub overflow_mul-result-in-Some : goal.overflow_mul-result-in-Some
overflow_mul-result-in-Some c = omega (arith, below c.in_ok-whole-in-Some.whole _ c.in_ok-whole-in-Some.ensures.below c.in_ok-whole-in-Some.ensures.size.1)

pub overflow_add-result : goal.overflow_add-result
overflow_add-result c = omega (arith, c.in_ok-thousandths-in-Some.ensures.small, below c.in_ok-whole-in-Some.whole _ c.in_ok-whole-in-Some.ensures.below c.in_ok-whole-in-Some.ensures.size.1)

pub returns-in_ok-digits-in-None-clause-most : goal.returns-in_ok-digits-in-None-clause-most
returns-in_ok-digits-in-None-clause-most c = omega (arith, below c.in_ok-digits-in-None.field-0 _ c.in_ok-digits-in-None.ensures.below c.in_ok-digits-in-None.ensures.size.1)

pub returns-in_ok-thousandths-in-Some-clause-most : goal.returns-in_ok-thousandths-in-Some-clause-most
returns-in_ok-thousandths-in-Some-clause-most c = omega (arith, c.in_ok-thousandths-in-Some.ensures.small, below c.in_ok-whole-in-Some.whole _ c.in_ok-whole-in-Some.ensures.below c.in_ok-whole-in-Some.ensures.size.1)
