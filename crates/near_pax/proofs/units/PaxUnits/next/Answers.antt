use Rattle.std.proofs.Common.{◌≡◌, ◌+◌, ◌≤◌, true, false, ℕ, ◌∷◌, refl, sym, ap, ◌∙◌, arith}
use Rattle.desk_data.specs.Situation.{reservations_of}
use Rattle.near_pax.specs.declared.units.PaxUnits.{PaxUnits}
use Rattle.near_pax.specs.Units.{unit_at, left_units, has_path}
use Rattle.near_pax.proofs.UnitLaws.{unit-given, unit-passed, units-none}
use Rattle.near_pax.proofs.units.PaxUnits.next.Goals as goal

pub returns-then-has_path-clause-some : goal.returns-then-has_path-clause-some
returns-then-has_path-clause-some c =
    let I = c.args.inst.now in
    let P = c.args.plan.now in
    let u = c.loop-r.self in
    let v : PaxUnits = record { shard = u.shard; shards = u.shards; res = u.res; place = u.place + 1 } in
    let at = c.loop-r.invariant.res in
    let has : has_path P u u.res ≡ true = rw at (sym c.has_path.ensures.path ∙ c.if-has_path.true) in
    sym c.loop-r.invariant.left ∙ unit-given I P u v has refl refl refl refl ∙ ap (λ (r : ℕ). unit_at P r u.place ∷ left_units I P v) at

pub loop-r-preserved : goal.loop-r-preserved
loop-r-preserved c =
    let I = c.args.inst.now in
    let P = c.args.plan.now in
    let u = c.loop-r.self in
    let v : PaxUnits = record { shard = u.shard; shards = u.shards; res = c.loop-r.r + 1; place = 0 } in
    let at = c.loop-r.invariant.res in
    let has : has_path P u u.res ≡ false = rw at (sym c.has_path.ensures.path ∙ c.if-has_path.false) in
    record {
      res = refl;
      shards = c.loop-r.invariant.shards;
      left = sym (unit-passed I P u v c.requires.plan has refl refl (ap (λ (r : ℕ). r + 1) (sym at)) refl) ∙ c.loop-r.invariant.left;
    }

pub returns-clause-none : goal.returns-clause-none
returns-clause-none c =
    let past : reservations_of c.args.inst.now ≤ c.loop-r.self.res = omega (arith, c.loop-r.invariant.res, c.reservations-r-end.ensures.count) in
    sym c.loop-r.invariant.left ∙ units-none c.args.inst.now c.args.plan.now c.loop-r.self c.requires.plan past

pub returns-clause-spent : goal.returns-clause-spent
returns-clause-spent c =
    let past : reservations_of c.args.inst.now ≤ c.loop-r.self.res = omega (arith, c.loop-r.invariant.res, c.reservations-r-end.ensures.count) in
    units-none c.args.inst.now c.args.plan.now c.loop-r.self c.requires.plan past
