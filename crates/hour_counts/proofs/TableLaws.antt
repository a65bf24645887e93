-- Numbers by airport and hour.
use Rattle.std.proofs.Common.{◌≡◌, ℕ, Bool, true, false, cond, List, refl, ap, ◌∙◌, arith}
use Rattle.std.specs.Prelude.{◌&&◌, ◌==◌, Option, Some, cond}
use Rattle.std.specs.Map.{lookup}
use Rattle.std.specs.Ordering.{nat_cmp, ordering_then, is_eq}
use Rattle.std.specs.declared.cmp.Ordering.{Ordering}
use Rattle.std.specs.declared.cmp.Ordering.TheVariants.{Less, Equal, Greater}
use Rattle.std.proofs.lemmas.Bool.Decides.{nat_tests}
use Rattle.hour_counts.specs.Counts.{is_slot, or_zero, count_at, IsWritten}

eq_then : (a b : Ordering) → is_eq (ordering_then a b) ≡ (is_eq a && is_eq b)
eq_then Less b = refl
eq_then Equal b = refl
eq_then Greater b = refl

eq_cmp : (a b : ℕ) → is_eq (nat_cmp a b) ≡ (a == b)
eq_cmp a b = grind (arith, nat_tests)

pub same_place : (a b h k : ℕ) → is_eq (ordering_then (nat_cmp a b) (nat_cmp h k)) ≡ ((a == b) && (h == k))
same_place a b h k = eq_then (nat_cmp a b) (nat_cmp h k) ∙ rw (eq_cmp a b, eq_cmp h k) refl

or_cond : (b : Bool) (x : ℕ) (o : Option ℕ) → or_zero (cond b (Some x) o) ≡ cond b x (or_zero o)
or_cond true x o = refl
or_cond false x o = refl

-- what an insert into a map says
pub written_from : (old new : List ((ℕ × ℕ) × ℕ)) (a h count : ℕ) → ((q : ℕ × ℕ) → lookup (λ k. is_eq (ordering_then (nat_cmp q.0 k.0) (nat_cmp q.1 k.1))) new ≡ cond (is_eq (ordering_then (nat_cmp a q.0) (nat_cmp h q.1))) (Some count) (lookup (λ k. is_eq (ordering_then (nat_cmp q.0 k.0) (nat_cmp q.1 k.1))) old)) → IsWritten old new a h count
written_from old new a h count updates b k =
    ap or_zero (updates (b, k))
    ∙ or_cond (is_eq (ordering_then (nat_cmp a b) (nat_cmp h k))) count (lookup (is_slot b k) old)
    ∙ ap (λ (t : Bool). cond t count (count_at old b k)) (same_place a b h k)
