use Rattle.std.proofs.Common.{◌≡◌, ℕ, ◌<◌, arith, sym, ap, ◌∙◌, subst, length, get_or, set}
use Rattle.std.specs.Prelude.{None}
use Rattle.std.proofs.lemmas.List.{get_or_default, length-set}
use Rattle.plan_reads.specs.Before.{IsLegBefore}
use Rattle.plan_reads.specs.Order.{rotation_leg_at, no_rotation_leg, neighbour}
use Rattle.plan_reads.proofs.RotationLegLaws.{sorted_rotation_legs, link_right, link_blank, linked, rotation_legs_of_all}
use Rattle.plan_reads.proofs.order.legs_before.Goals as goal

pub index_mut-requires : goal.index_mut-requires
index_mut-requires g c =
    let rows = (g.P.ReadPlan.plan_of c.args.plan.now).rows in
    let order = sorted_rotation_legs rows (length rows) c.in_ok-flown.flown.items c.sort.new.self.items (rotation_legs_of_all rows c.args.legs c.in_ok-flown.flown.items c.requires.rows c.in_ok-flown.ensures) c.in_ok-sort.ensures.permutation c.in_ok-sort.ensures.sorted in
    let lt : c.loop-k.k < length c.sort.new.self.items = omega arith in
    let at = order.sound c.loop-k.k c.index.result.now lt in
    let within : c.index.result.now.at.leg.0 < length rows = subst (λ t. t.at.leg.0 < length rows) (sym c.index.ensures) at.within in
    omega arith

pub loop-k-preserved : goal.loop-k-preserved
loop-k-preserved g c =
    let rows = (g.P.ReadPlan.plan_of c.args.plan.now).rows in
    let ts = c.sort.new.self.items in
    let order = sorted_rotation_legs rows (length rows) c.in_ok-flown.flown.items ts (rotation_legs_of_all rows c.args.legs c.in_ok-flown.flown.items c.requires.rows c.in_ok-flown.ensures) c.in_ok-sort.ensures.permutation c.in_ok-sort.ensures.sorted in
    let lt : c.loop-k.k < length ts = omega arith in
    let here : (rotation_leg_at ts c.loop-k.k).at.leg.0 ≡ c.index.result.now.at.leg.0 = ap (λ t. t.at.leg.0) (get_or_default ts c.loop-k.k no_rotation_leg c.index.result.now lt ∙ sym c.index.ensures) in
    let last : neighbour ts c.loop-k.k ≡ c.left_neighbour.result = ap (λ ts. neighbour ts c.loop-k.k) (sym c.as_slice.ensures.value) ∙ sym c.left_neighbour.ensures in
    let written : set c.loop-k.before.items (rotation_leg_at ts c.loop-k.k).at.leg.0 (neighbour ts c.loop-k.k) ≡ set c.loop-k.before.items c.index.result.now.at.leg.0 c.left_neighbour.result =
    ap (λ (x : ℕ). set c.loop-k.before.items x (neighbour ts c.loop-k.k)) here ∙ ap (set c.loop-k.before.items c.index.result.now.at.leg.0) last in
    record {
      legs = length-set c.loop-k.before.items c.index.result.now.at.leg.0 c.left_neighbour.result ∙ c.loop-k.invariant.legs;
      right = λ j below.
          subst (λ before. IsLegBefore rows (length rows) (rotation_leg_at ts j).at.leg.0 (get_or before (rotation_leg_at ts j).at.leg.0 None)) written
          (link_right rows (length rows) ts c.loop-k.k c.loop-k.before.items order lt c.loop-k.invariant.legs c.loop-k.invariant.right j below);
      blank = λ y within off.
          subst (λ before. get_or before y None ≡ None) written
          (link_blank rows (length rows) ts c.loop-k.k c.loop-k.before.items order lt y off (c.loop-k.invariant.blank y within off));
    }

pub returns : goal.returns
returns g c =
    let rows = (g.P.ReadPlan.plan_of c.args.plan.now).rows in
    let order = sorted_rotation_legs rows (length rows) c.in_ok-flown.flown.items c.sort.new.self.items (rotation_legs_of_all rows c.args.legs c.in_ok-flown.flown.items c.requires.rows c.in_ok-flown.ensures) c.in_ok-sort.ensures.permutation c.in_ok-sort.ensures.sorted in
    linked rows c.sort.new.self.items c.loop-k.before.items order c.loop-k.invariant.legs (λ j lt. c.loop-k.invariant.right j (omega arith)) c.loop-k.invariant.blank
