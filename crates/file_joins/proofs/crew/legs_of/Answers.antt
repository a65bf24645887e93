use Rattle.std.proofs.Common.{sym, arith}
use Rattle.std.proofs.lemmas.List.Elements.{All-push}
use Rattle.desk_units.specs.declared.numbers.Leg.{Leg}
use Rattle.desk_data.specs.Situation.{legs_of as day_legs}
use Rattle.std.proofs.Common.{◌<◌}
use Rattle.file_joins.specs.CrewJoin.{legs_of}
use Rattle.file_joins.proofs.LegLemmas.{begins, goes_on, stops, ends}
use Rattle.file_joins.proofs.crew.legs_of.Goals as goal

pub loop-row-init : goal.loop-row-init
loop-row-init c = rw c.in_ok-legs.ensures.items (record {
  joined = begins c.args.names.now c.args.rows.now;
  within = λ k d below. absurd (omega (arith, below));
})

pub loop-row-preserved : goal.loop-row-preserved
loop-row-preserved c =
    let I = c.args.names.now in
    let rows = c.args.rows.now in
    let here = c.loop-row in
    rw c.in_ok-push.ensures.items (record {
      joined = goes_on I rows here.legs.items here.row-index c.row-item.result c.in_ok-leg_of.field-0 (legs_of I rows) c.loop-row-test.true c.row-item.is (sym c.in_ok-leg_of.ensures.exact) here.invariant.joined;
      within = All-push (λ (leg : Leg). leg.0 < day_legs I) here.legs.items c.in_ok-leg_of.field-0 here.invariant.within c.in_ok-leg_of.ensures.within;
    })

pub returns-in_err-leg_of-clause-exact : goal.returns-in_err-leg_of-clause-exact
returns-in_err-leg_of-clause-exact c =
    let I = c.args.names.now in
    let rows = c.args.rows.now in
    let here = c.loop-row in
    stops I rows c.from_residual-in_err-leg_of.result here.legs.items here.row-index c.row-item.result c.in_err-leg_of.field-0.0 (legs_of I rows) c.loop-row-test.true c.row-item.is (sym c.in_err-leg_of.ensures.exact) c.from_residual-in_err-leg_of.ensures.1 here.invariant.joined

pub returns-clause-exact : goal.returns-clause-exact
returns-clause-exact c =
    let I = c.args.names.now in
    let rows = c.args.rows.now in
    let here = c.loop-row in
    ends I rows here.legs.items here.row-index (legs_of I rows) (omega arith) here.invariant.joined
