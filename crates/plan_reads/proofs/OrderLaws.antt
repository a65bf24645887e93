-- Rotation legs are in a strict order: by aircraft, then by departure, then by leg.
use Rattle.std.proofs.Common.{◌⊎◌, refl, sym, ◌∙◌, ◌≡◌, ℕ, Bool, true, false, ◌&&◌, ◌||◌, eqb, ltb, arith, is_lt, nat_cmp}
use Rattle.std.specs.Ordering.{ordering_then}
use Rattle.std.specs.declared.cmp.Ordering.{Ordering}
use Rattle.std.proofs.lemmas.Bool.{true≢false}
use Rattle.std.proofs.lemmas.Bool.Decides.{nat_tests}
use Rattle.desk_data.specs.declared.row.Row.{Row}
use Rattle.desk_data.specs.declared.row.Row.TheVariants.{Flown, Cancelled}
use Rattle.desk_rules.specs.Rotations.{is_earlier, comes_before}

pub not_both : (b : Bool) → b ≡ true → b ≡ false → ⊥
not_both b t f = true≢false (sym t ∙ f)

pub same_tests : (a b : Bool) → (a ≡ true → b ≡ true) → (b ≡ true → a ≡ true) → a ≡ b
same_tests true b h k = sym (h refl)
same_tests false true h k = absurd (true≢false (sym (k refl)))
same_tests false false h k = refl

pub and_true : (a : Bool) → (a && true) ≡ a
and_true true = refl
and_true false = refl

-- the order of leg x of aircraft p at d and leg y of aircraft q at e: as sorted, and as tests
abbrev pub rotation_legs_cmp : ℕ → ℕ → ℕ → ℕ → ℕ → ℕ → Ordering
rotation_legs_cmp p x d q y e = ordering_then (nat_cmp p q) (ordering_then (nat_cmp d e) (nat_cmp x y))

abbrev pub is_ahead : ℕ → ℕ → ℕ → ℕ → ℕ → ℕ → Bool
is_ahead p x d q y e = ltb p q || (eqb p q && is_earlier x d y e)

-- the test of two flown rows of one aircraft
abbrev pub in_order : ℕ → ℕ → ℕ → ℕ → ℕ → ℕ → Bool
in_order p x d q y e = eqb p q && is_earlier x d y e

pub ahead-from_cmp : (p x d q y e : ℕ) → is_lt (rotation_legs_cmp q y e p x d) ≡ false → eqb x y ≡ false → is_ahead p x d q y e ≡ true
ahead-from_cmp p x d q y e h apart = grind (arith, nat_tests)

pub ahead-asymmetric : (p x d q y e : ℕ) → is_ahead p x d q y e ≡ true → is_ahead q y e p x d ≡ false
ahead-asymmetric p x d q y e h = grind (arith, nat_tests)

pub ahead-from_order : (p x d q y e : ℕ) → in_order p x d q y e ≡ true → is_ahead p x d q y e ≡ true
ahead-from_order p x d q y e h = grind (arith, nat_tests)

pub order-from_ahead : (p x d q y e : ℕ) → is_ahead p x d q y e ≡ true → eqb p q ≡ true → in_order p x d q y e ≡ true
order-from_ahead p x d q y e h same = grind (arith, nat_tests)

pub ahead-irreflexive : (p x d : ℕ) → is_ahead p x d p x d ≡ false
ahead-irreflexive p x d = grind (arith, nat_tests)

-- a rotation leg ahead of one that is ahead of a rotation leg of its aircraft: all three are of that aircraft
pub between : (p x d q y e r z f : ℕ) → is_ahead p x d q y e ≡ true → is_ahead q y e r z f ≡ true → eqb p r ≡ true → eqb q r ≡ true
between p x d q y e r z f h k same = grind (arith, nat_tests)

in_order-total : (p x d q y e r z f : ℕ) → in_order p x d r z f ≡ true → in_order q y e r z f ≡ true → in_order p x d q y e ≡ false → (x ≡ y) ⊎ (in_order q y e p x d ≡ true)
in_order-total p x d q y e r z f h k n = grind (arith, nat_tests)

-- of two legs that come before a third, one comes before the other
pub comes_before-total : (x y z : ℕ) (r s t : Row) → comes_before x r z t ≡ true → comes_before y s z t ≡ true → comes_before x r y s ≡ false → (x ≡ y) ⊎ (comes_before y s x r ≡ true)
comes_before-total x y z (Flown p d) (Flown q e) (Flown o f) h k n = in_order-total p.0 x d.0 q.0 y e.0 o.0 z f.0 h k n
comes_before-total x y z (Flown p d) (Flown q e) Cancelled h k n = absurd (true≢false (sym h))
comes_before-total x y z (Flown p d) Cancelled t h k n = absurd (true≢false (sym k))
comes_before-total x y z Cancelled s t h k n = absurd (true≢false (sym h))
