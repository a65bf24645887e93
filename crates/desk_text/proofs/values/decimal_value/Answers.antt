use Rattle.std.proofs.Common.{ℕ, ◌^◌, ◌≤◌, lit<, arith}
use Rattle.std.proofs.Math.Nat.{pow-le-pow_right}
use Rattle.desk_text.proofs.values.decimal_value.Goals as goal

-- at most eight digits were before
small : (i : ℕ) → i ≤ 8 → 10 ^ i ≤ 10 ^ 8
small i le = pow-le-pow_right (lit< tt) le

pub overflow_mul-value : goal.overflow_mul-value
overflow_mul-value c = omega (arith, small c.loop-byte.byte-index (omega arith))

pub overflow_add-value : goal.overflow_add-value
overflow_add-value c = omega (arith, small c.loop-byte.byte-index (omega arith))
