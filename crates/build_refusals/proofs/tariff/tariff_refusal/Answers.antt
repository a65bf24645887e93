use Rattle.std.proofs.Common.{◌+◌, arith}
use Rattle.build_refusals.specs.Tariff.{tariff_cause, tariff_refusal}
use Rattle.build_refusals.proofs.FirstLemmas.{refused_more, refused_here, refused_end}
use Rattle.build_refusals.proofs.TariffLemmas.{below_limit}
use Rattle.build_refusals.proofs.tariff.tariff_refusal.Goals as goal

pub returns-in-Some : goal.returns-in-Some
returns-in-Some c =
    let rows = c.args.rows.now in
    refused_here (tariff_cause rows) (λ n row. n + 1) rows c.loop-place.place c.index-rows-place.result c.in-Some.cause (tariff_refusal rows) c.loop-place-test.true c.index-rows-place.is c.in-Some.ensures c.loop-place.invariant.so_far

pub loop-place-preserved : goal.loop-place-preserved
loop-place-preserved c =
    let rows = c.args.rows.now in
    record {
      so_far = refused_more (tariff_cause rows) (λ n row. n + 1) rows c.loop-place.place c.index-rows-place.result (tariff_refusal rows) c.loop-place-test.true c.index-rows-place.is c.in_default.ensures c.loop-place.invariant.so_far;
      few = omega (arith, below_limit rows c.loop-place.place c.index-rows-place.result c.in_default.ensures);
    }

pub returns : goal.returns
returns c =
    let rows = c.args.rows.now in
    refused_end (tariff_cause rows) (λ n row. n + 1) rows c.loop-place.place (tariff_refusal rows) (omega arith) c.loop-place.invariant.so_far
