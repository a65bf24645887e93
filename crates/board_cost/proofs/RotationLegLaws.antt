-- Rotation legs of rows, and what another row changes of them.
use Rattle.std.proofs.Common.{◌≡◌, ◌≢◌, ℕ, ◌<◌, ◌⊎◌, inl, inr, Bool, true, false, ◌&&◌, cond, eqb, ltb, refl, sym, ap, subst, ◌∙◌, arith}
use Rattle.std.specs.Prelude.{Option, None, Some}
use Rattle.std.specs.Ordering.{nat_cmp, ordering_then}
use Rattle.std.specs.declared.cmp.Ordering.TheVariants.{Less, Equal}
use Rattle.std.proofs.lemmas.Bool.{cases_Bool, true≢false, and_parts, and_from, eqb-true, eq-eqb}
use Rattle.std.proofs.lemmas.Bool.Decides.{nat_tests}
use Rattle.kept_set.specs.Kept.{IsExact}
use Rattle.desk_data.specs.declared.row.Row.{Row}
use Rattle.desk_data.specs.declared.row.Row.TheVariants.{Flown, Cancelled}
use Rattle.desk_data.specs.Situation.{Situation, legs_of, leg_at}
use Rattle.desk_data.specs.PlanRows.{PlanRows, row_at}
use Rattle.desk_rules.specs.Rotations.{departure, dep, is_earlier, comes_before}
use Rattle.desk_rules.specs.Maintenance.{is_flown_by, departs_before}
use Rattle.board_cost.specs.declared.rotation_leg.ArrivingLeg.{ArrivingLeg}
use Rattle.board_cost.specs.declared.rotation_leg.Placed.{Placed}
use Rattle.board_cost.specs.RotationLegs.{placed_of, IsArrivingLegOf, IsPlacedSet, rotation_leg_cmp}
use Rattle.board_cost.specs.Passengers.{IsBut}

pub nat_cases : (p q : ℕ) → (p ≡ q) ⊎ (p ≢ q)
nat_cases p q = grind (arith, nat_tests)

pub lt_true : (y n : ℕ) → y < n → ltb y n ≡ true
lt_true y n lt = grind (arith, nat_tests)

pub lt_from : (y n : ℕ) → ltb y n ≡ true → y < n
lt_from y n lt = grind (arith, nat_tests)

pub eq_apart : (y x : ℕ) → y ≢ x → eqb y x ≡ false
eq_apart y x apart = elim (cases_Bool (eqb y x)) [
  | inl same ↦ absurd (apart (eqb-true y x same))
  | inr other ↦ other
]

pub eq_itself : (x : ℕ) → eqb x x ≡ true
eq_itself x = eq-eqb x x refl

-- ---- two rotation legs are one where their numbers are

rotation_leg_by : ℕ → ℕ → ℕ → ArrivingLeg
rotation_leg_by d x a = record { dep = record { 0 = d }; leg = record { 0 = x }; dest = record { 0 = a } }

pub one_rotation_leg : (s t : ArrivingLeg) → s.dep.0 ≡ t.dep.0 → s.leg.0 ≡ t.leg.0 → s.dest.0 ≡ t.dest.0 → s ≡ t
unfolding rotation_leg_by
one_rotation_leg s t dep leg dest =
    ap (λ (d : ℕ). rotation_leg_by d s.leg.0 s.dest.0) dep ∙ ap (λ (x : ℕ). rotation_leg_by t.dep.0 x s.dest.0) leg ∙ ap (λ (a : ℕ). rotation_leg_by t.dep.0 t.leg.0 a) dest

pub rotation_leg_cases : (s t : ArrivingLeg) → (s ≡ t) ⊎ (s ≢ t)
rotation_leg_cases s t = elim (nat_cases s.dep.0 t.dep.0) [
  | inr apart ↦ inr (λ e. apart (ap (λ (u : ArrivingLeg). u.dep.0) e))
  | inl dep ↦ elim (nat_cases s.leg.0 t.leg.0) [
    | inr apart ↦ inr (λ e. apart (ap (λ (u : ArrivingLeg). u.leg.0) e))
    | inl leg ↦ elim (nat_cases s.dest.0 t.dest.0) [
      | inr apart ↦ inr (λ e. apart (ap (λ (u : ArrivingLeg). u.dest.0) e))
      | inl dest ↦ inl (one_rotation_leg s t dep leg dest)
    ]
  ]
]

tied : (d x a e y b : ℕ) → ordering_then (nat_cmp d e) (ordering_then (nat_cmp x y) (nat_cmp a b)) ≡ Equal → (d ≡ e) × (x ≡ y) × (a ≡ b)
tied d x a e y b h = (grind (arith, nat_tests), grind (arith, nat_tests), grind (arith, nat_tests))

pub rotation_legs_exact : IsExact rotation_leg_cmp
rotation_legs_exact s t h = let all = tied s.dep.0 s.leg.0 s.dest.0 t.dep.0 t.leg.0 t.dest.0 h in one_rotation_leg s t all.0 all.1 all.2

-- what is below a rotation leg does not come after it
pub not_after : (d x a e y b : ℕ) → ordering_then (nat_cmp e d) (ordering_then (nat_cmp y x) (nat_cmp b a)) ≡ Less → is_earlier x d y e ≡ false
not_after d x a e y b h = grind (arith, nat_tests)

pub not_itself : (d x : ℕ) → is_earlier x d x d ≡ false
not_itself d x = grind (arith, nat_tests)

-- ---- rotation legs and rows

some_same : {X : Type 0} (x y : X) → Some x ≡ Some y → x ≡ y
some_same x y e = cc

none_some : {X : Type 0} (x : X) → None ≡ Some x → ⊥
none_some x e = absurd cc

-- the rotation leg of a row has the row's leg
of_row : (I : Situation) (x : ℕ) (row : Row) (placed : Placed) → placed_of I x row ≡ Some placed → (placed.rotation_leg.leg.0 ≡ x) × (is_flown_by placed.plane.0 row ≡ true) × (departure row ≡ placed.rotation_leg.dep.0) × (ltb (departure row) I.parts.to.0 ≡ true) × (placed.rotation_leg.dest ≡ (leg_at I x).dest)
of_row I x Cancelled placed is = absurd (none_some placed is)
of_row I x (Flown plane at) placed is = elim (cases_Bool (ltb at.0 I.parts.to.0)) [
  | inl early ↦
      let rotation_leg : ArrivingLeg = record { dep = at; leg = record { 0 = x }; dest = (leg_at I x).dest } in
      let made : Placed = record { plane = plane; rotation_leg = rotation_leg } in
      let same : made ≡ placed = some_same made placed (sym (ap (λ (b : Bool). cond b (Some made) None) early) ∙ is) in (
        ap (λ (p : Placed). p.rotation_leg.leg.0) (sym same),
        eq-eqb plane.0 placed.plane.0 (ap (λ (p : Placed). p.plane.0) same),
        ap (λ (p : Placed). p.rotation_leg.dep.0) same,
        early,
        ap (λ (p : Placed). p.rotation_leg.dest) (sym same),
      )
  | inr late ↦
      let rotation_leg : ArrivingLeg = record { dep = at; leg = record { 0 = x }; dest = (leg_at I x).dest } in
      let made : Placed = record { plane = plane; rotation_leg = rotation_leg } in
      absurd (none_some placed (sym (ap (λ (b : Bool). cond b (Some made) None) late) ∙ is))
]

pub leg_of_placed : (I : Situation) (x : ℕ) (row : Row) (placed : Placed) → placed_of I x row ≡ Some placed → placed.rotation_leg.leg.0 ≡ x
leg_of_placed I x row placed is = (of_row I x row placed is).0

-- a leg that an aircraft flies before the window's end is one of its rotation legs
abbrev pub the_rotation_leg : Situation → PlanRows → ℕ → ArrivingLeg
the_rotation_leg I P x = record { dep = record { 0 = dep P x }; leg = record { 0 = x }; dest = (leg_at I x).dest }

by_row : (I : Situation) (p x : ℕ) (row : Row) → (is_flown_by p row && ltb (departure row) I.parts.to.0) ≡ true → placed_of I x row ≡ Some (record { plane = record { 0 = p }; rotation_leg = record { dep = record { 0 = departure row }; leg = record { 0 = x }; dest = (leg_at I x).dest } })
by_row I p x (Flown plane at) h =
    let parts = and_parts (eqb plane.0 p) (ltb at.0 I.parts.to.0) h in
    let rotation_leg : ArrivingLeg = record { dep = at; leg = record { 0 = x }; dest = (leg_at I x).dest } in
    let made : ℕ → Placed = λ q. record { plane = record { 0 = q }; rotation_leg = rotation_leg } in
    ap (λ (b : Bool). cond b (Some (made plane.0)) None) parts.1 ∙ ap (λ (q : ℕ). Some (made q)) (eqb-true plane.0 p parts.0)
by_row I p x Cancelled h = absurd (true≢false (sym h))

pub rotation_leg_of_leg : (I : Situation) (P : PlanRows) (p x : ℕ) → x < legs_of I → departs_before P p I.parts.to.0 x ≡ true → IsArrivingLegOf I P p (the_rotation_leg I P x)
rotation_leg_of_leg I P p x lt h = record { within = lt; is = by_row I p x (row_at P x) h }

pub leg_of_rotation_leg : (I : Situation) (P : PlanRows) (p : ℕ) (t : ArrivingLeg) → IsArrivingLegOf I P p t → (departs_before P p I.parts.to.0 t.leg.0 ≡ true) × (dep P t.leg.0 ≡ t.dep.0) × (t.dest ≡ (leg_at I t.leg.0).dest)
leg_of_rotation_leg I P p t is =
    let all = of_row I t.leg.0 (row_at P t.leg.0) (record { plane = record { 0 = p }; rotation_leg = t }) is.is in
    (and_from (is_flown_by p (row_at P t.leg.0)) (ltb (dep P t.leg.0) I.parts.to.0) all.1 all.3, all.2, all.4)

and_wrong : (a : Bool) → (a && false) ≡ false
and_wrong true = refl
and_wrong false = refl

-- of two rows the later is not before the earlier
pub rows_not_before : (x y : ℕ) (r s : Row) → is_earlier x (departure r) y (departure s) ≡ false → comes_before x r y s ≡ false
rows_not_before x y (Flown a d) (Flown b e) h = ap (λ (c : Bool). eqb a.0 b.0 && c) h ∙ and_wrong (eqb a.0 b.0)
rows_not_before x y (Flown a d) Cancelled h = refl
rows_not_before x y Cancelled s h = refl

-- ---- another row

-- the rotation legs of other legs are the same
same_rotation_legs : (I : Situation) (P Q : PlanRows) (p : ℕ) (t : ArrivingLeg) → row_at Q t.leg.0 ≡ row_at P t.leg.0 → IsArrivingLegOf I Q p t → IsArrivingLegOf I P p t
same_rotation_legs I P Q p t same is = record { within = is.within; is = sym (ap (placed_of I t.leg.0) same) ∙ is.is }

-- a leg that is cancelled is no rotation leg
no_rotation_leg_of : (I : Situation) (P : PlanRows) (p x : ℕ) (t : ArrivingLeg) → row_at P x ≡ Cancelled → t.leg.0 ≡ x → IsArrivingLegOf I P p t → ⊥
no_rotation_leg_of I P p x t off here is =
    none_some (record { plane = record { 0 = p }; rotation_leg = t }) (sym (ap (placed_of I t.leg.0) (ap (row_at P) here ∙ off)) ∙ is.is)

-- a rotation leg of leg x is that of its row
rotation_leg_is : (I : Situation) (P : PlanRows) (p x : ℕ) (t : ArrivingLeg) → t.leg.0 ≡ x → IsArrivingLegOf I P p t → placed_of I x (row_at P x) ≡ Some (record { plane = record { 0 = p }; rotation_leg = t })
rotation_leg_is I P p x t here is = subst (λ (y : ℕ). placed_of I y (row_at P y) ≡ Some (record { plane = record { 0 = p }; rotation_leg = t })) here is.is

-- plan R is plan P with leg x cancelled: a rotation leg of R is one of P, and a rotation leg of P that is not that of leg x is one of R
down : (I : Situation) (P R : PlanRows) (x p : ℕ) (t : ArrivingLeg) → IsBut P R x → row_at R x ≡ Cancelled → IsArrivingLegOf I R p t → IsArrivingLegOf I P p t
down I P R x p t but off is = elim (nat_cases t.leg.0 x) [
  | inl here ↦ absurd (no_rotation_leg_of I R p x t off here is)
  | inr there ↦ same_rotation_legs I P R p t (but t.leg.0 there) is
]

up : (I : Situation) (P R : PlanRows) (x p : ℕ) (t : ArrivingLeg) → IsBut P R x → (placed_of I x (row_at P x) ≡ Some (record { plane = record { 0 = p }; rotation_leg = t }) → ⊥) → IsArrivingLegOf I P p t → IsArrivingLegOf I R p t
up I P R x p t but other is = elim (nat_cases t.leg.0 x) [
  | inl here ↦ absurd (other (rotation_leg_is I P p x t here is))
  | inr there ↦ same_rotation_legs I R P p t (sym (but t.leg.0 there)) is
]

apart : (placed : Placed) (p : ℕ) (t : ArrivingLeg) → (p ≢ placed.plane.0) ⊎ (t ≢ placed.rotation_leg) → placed ≡ record { plane = record { 0 = p }; rotation_leg = t } → ⊥
apart placed p t (inl other) same = other (ap (λ (q : Placed). q.plane.0) (sym same))
apart placed p t (inr other) same = other (ap (λ (q : Placed). q.rotation_leg) (sym same))

off_for : (I : Situation) (P R : PlanRows) (x : ℕ) (gone : Option Placed) → placed_of I x (row_at P x) ≡ gone → IsBut P R x → row_at R x ≡ Cancelled → IsPlacedSet I P R gone false
off_for I P R x None is but off = λ p t. (down I P R x p t but off, up I P R x p t but (λ some. none_some (record { plane = record { 0 = p }; rotation_leg = t }) (sym is ∙ some)))
off_for I P R x (Some placed) is but off = record {
  here = (λ none. absurd cc, λ rotation_leg. absurd (no_rotation_leg_of I R placed.plane.0 x placed.rotation_leg off (leg_of_placed I x (row_at P x) placed is) rotation_leg));
  others = λ p t other. (
    down I P R x p t but off,
    up I P R x p t but (λ some. apart placed p t other (some_same placed (record { plane = record { 0 = p }; rotation_leg = t }) (sym is ∙ some))),
  );
}

-- leg x is cancelled: its rotation leg goes
pub off_row : (I : Situation) (P R : PlanRows) (x : ℕ) → IsBut P R x → row_at R x ≡ Cancelled → IsPlacedSet I P R (placed_of I x (row_at P x)) false
off_row I P R x but off = off_for I P R x (placed_of I x (row_at P x)) refl but off

on_for : (I : Situation) (R Q : PlanRows) (x : ℕ) (come : Option Placed) → placed_of I x (row_at Q x) ≡ come → x < legs_of I → IsBut Q R x → row_at R x ≡ Cancelled → IsPlacedSet I R Q come true
on_for I R Q x None is lt but off = λ p t. (up I Q R x p t but (λ some. none_some (record { plane = record { 0 = p }; rotation_leg = t }) (sym is ∙ some)), down I Q R x p t but off)
on_for I R Q x (Some placed) is lt but off = record {
  here = (
    λ _.
        let here = leg_of_placed I x (row_at Q x) placed is in
        record { within = subst (λ (y : ℕ). y < legs_of I) (sym here) lt; is = subst (λ (y : ℕ). placed_of I y (row_at Q y) ≡ Some placed) (sym here) is },
    λ _. refl,
  );
  others = λ p t other. (
    up I Q R x p t but (λ some. apart placed p t other (some_same placed (record { plane = record { 0 = p }; rotation_leg = t }) (sym is ∙ some))),
    down I Q R x p t but off,
  );
}

-- leg x is flown again: its rotation leg comes
pub on_row : (I : Situation) (R Q : PlanRows) (x : ℕ) → x < legs_of I → IsBut Q R x → row_at R x ≡ Cancelled → IsPlacedSet I R Q (placed_of I x (row_at Q x)) true
on_row I R Q x lt but off = on_for I R Q x (placed_of I x (row_at Q x)) refl lt but off
