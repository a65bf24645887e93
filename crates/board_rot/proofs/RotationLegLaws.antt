-- Rotation legs: when two are one, and their order.
use Rattle.std.proofs.Common.{◌≡◌, ℕ, true, ◌&&◌, eqb, ap, ◌∙◌, arith, nat_cmp}
use Rattle.std.specs.Ordering.{ordering_then}
use Rattle.std.specs.declared.cmp.Ordering.{Ordering}
use Rattle.std.specs.declared.cmp.Ordering.TheVariants.{Equal}
use Rattle.std.proofs.lemmas.Bool.Decides.{nat_tests}
use Rattle.kept_set.specs.Kept.{IsExact}
use Rattle.plan_reads.specs.declared.rotation_leg.RotationLeg.{RotationLeg}
use Rattle.board_rot.specs.Summaries.{same_rotation_leg}
use Rattle.board_rot.proofs.TestLaws.{IsSame}

abbrev pub rotation_leg_cmp : RotationLeg → RotationLeg → Ordering
rotation_leg_cmp s t = ordering_then (nat_cmp s.dep.0 t.dep.0) (nat_cmp s.leg.0 t.leg.0)

rotation_leg : ℕ → ℕ → RotationLeg
rotation_leg d x = record { dep = record { 0 = d }; leg = record { 0 = x } }

same_numbers : (d x e y : ℕ) → (eqb d e && eqb x y) ≡ true → (d ≡ e) × (x ≡ y)
same_numbers d x e y h = (grind (arith, nat_tests), grind (arith, nat_tests))

itself : (d x : ℕ) → (eqb d d && eqb x x) ≡ true
itself d x = grind (arith, nat_tests)

one_rotation_leg : (s t : RotationLeg) → s.dep.0 ≡ t.dep.0 → s.leg.0 ≡ t.leg.0 → s ≡ t
unfolding rotation_leg
one_rotation_leg s t dep leg = ap (λ (d : ℕ). rotation_leg d s.leg.0) dep ∙ ap (λ (x : ℕ). rotation_leg t.dep.0 x) leg

pub rotation_legs_same : IsSame same_rotation_leg
rotation_legs_same = record {
  exact = λ s t h. let both = same_numbers s.dep.0 s.leg.0 t.dep.0 t.leg.0 h in one_rotation_leg s t both.0 both.1;
  itself = λ s. itself s.dep.0 s.leg.0;
}

tied : (d x e y : ℕ) → ordering_then (nat_cmp d e) (nat_cmp x y) ≡ Equal → (d ≡ e) × (x ≡ y)
tied d x e y h = (grind (arith, nat_tests), grind (arith, nat_tests))

pub rotation_legs_exact : IsExact rotation_leg_cmp
rotation_legs_exact s t h = let both = tied s.dep.0 s.leg.0 t.dep.0 t.leg.0 h in one_rotation_leg s t both.0 both.1
