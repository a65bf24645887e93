use Rattle.std.proofs.Common.{◌≡◌, ◌-◌, true, false, eqb, get_or, refl, sym, ap, ◌∙◌, arith}
use Rattle.std.specs.Prelude.{None, is_none}
use Rattle.std.proofs.lemmas.Bool.{eq-eqb}
use Rattle.desk_units.specs.declared.numbers.Leg.{Leg}
use Rattle.desk_data.specs.declared.info.LegInfo.{LegInfo}
use Rattle.desk_data.specs.Situation.{leg_at}
use Rattle.near_moves.specs.MoveParts.{is_run}
use Rattle.near_legs.proofs.RunLaws.{run-enough, comes_round-at, no_round, apart_test, none_test}
use Rattle.near_legs.proofs.runs.comes_round.Goals as goal

pub returns-then-not-is_run : goal.returns-then-not-is_run
returns-then-not-is_run c = sym (no_round c.args.inst.now c.args.plan.now c.args.leg.0 c.args.count (sym c.is_run.ensures ∙ c.if-not-is_run.true))

pub bounds-legs-count : goal.bounds-legs-count
bounds-legs-count c =
    let runs : is_run c.args.inst.now c.args.plan.now c.args.leg.0 c.args.count ≡ true = sym c.is_run.ensures ∙ c.if-not-is_run.false in
    let enough = run-enough c.args.inst.now c.args.plan.now c.args.leg.0 c.args.count c.args.legs.now c.requires.most c.requires.legs runs in
    let some = c.requires.some in
    omega (arith, enough, some)

pub returns-then-leg : goal.returns-then-leg
returns-then-leg c =
    let I = c.args.inst.now in
    let runs : is_run I c.args.plan.now c.args.leg.0 c.args.count ≡ true = sym c.is_run.ensures ∙ c.if-not-is_run.false in
    let last : Leg = get_or c.args.legs.now (c.args.count - 1) (record { 0 = 0 }) in
    let at = comes_round-at I c.args.plan.now c.args.tables.now.after c.args.leg.0 c.args.count c.args.legs.now (record { 0 = 0 }) c.requires.lists.after c.requires.leg c.requires.some c.requires.most c.requires.legs runs in
    let back : (leg_at I last.0).dest.0 ≡ (leg_at I c.args.leg.0).origin.0 =
    ap (λ (i : LegInfo). i.dest.0) (sym c.leg.ensures.row) ∙ c.if-leg.true ∙ ap (λ (i : LegInfo). i.origin.0) c.leg-2.ensures.row in
    let test : eqb (leg_at I last.0).dest.0 (leg_at I c.args.leg.0).origin.0 ≡ true = eq-eqb (leg_at I last.0).dest.0 (leg_at I c.args.leg.0).origin.0 back in
    eq-eqb c.leg.result.now.dest.0 c.leg-2.result.now.origin.0 c.if-leg.true ∙ sym (at ∙ rw test refl)

pub returns-else-leg : goal.returns-else-leg
returns-else-leg c =
    let I = c.args.inst.now in
    let runs : is_run I c.args.plan.now c.args.leg.0 c.args.count ≡ true = sym c.is_run.ensures ∙ c.if-not-is_run.false in
    let last : Leg = get_or c.args.legs.now (c.args.count - 1) (record { 0 = 0 }) in
    let after = c.args.tables.now.after in
    let at = comes_round-at I c.args.plan.now after c.args.leg.0 c.args.count c.args.legs.now (record { 0 = 0 }) c.requires.lists.after c.requires.leg c.requires.some c.requires.most c.requires.legs runs in
    let apart : (leg_at I last.0).dest.0 ≡ (leg_at I c.args.leg.0).origin.0 → ⊥ = λ e.
    c.if-leg.false (ap (λ (i : LegInfo). i.dest.0) c.leg.ensures.row ∙ e ∙ ap (λ (i : LegInfo). i.origin.0) (sym c.leg-2.ensures.row)) in
    let test : eqb (leg_at I last.0).dest.0 (leg_at I c.args.leg.0).origin.0 ≡ false = apart_test (leg_at I last.0).dest.0 (leg_at I c.args.leg.0).origin.0 apart in
    let none : c.is_none.result ≡ is_none (get_or after last.0 None) = none_test c.after.result c.is_none.result c.is_none.ensures ∙ ap is_none c.after.ensures in
    none ∙ sym (at ∙ rw test refl)
