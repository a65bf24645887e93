use Rattle.std.proofs.Common.{◌≡◌, ℕ, ◌≤◌, length, get_or, subst, sym, ap, ◌∙◌, None, arith}
use Rattle.desk_data.specs.declared.info.LegInfo.{LegInfo}
use Rattle.desk_data.specs.Valid.{IsRowOf}
use Rattle.desk_data.proofs.LeftLemmas.{last_landing-more, last_landing-all, written-over}
use Rattle.desk_data.proofs.left.landings_of.Goals as goal

pub land-requires : goal.land-requires
land-requires c =
    let legs = c.args.parts.now.legs in
    let leg = c.leg-item.result in
    let at : leg ≡ get_or legs c.loop-x.x leg = rw c.as_slice-leg-items.ensures at c.leg-item.is in
    let within = rw c.as_slice-leg-items.ensures at c.loop-x-test.true in
    let planes : length c.as_mut_slice.result.now ≡ length c.args.parts.now.planes = ap length c.as_mut_slice.ensures.value ∙ c.loop-x.invariant.all in
    record {
      block = subst (λ (l : LegInfo). l.block ≤ 2880) (sym at) (c.requires.parts.legs c.loop-x.x leg within).block;
      row = λ row is. subst (λ (n : ℕ). IsRowOf n row) (sym planes) (c.requires.rows c.loop-x.x None (omega (arith, within, c.requires.legs)) row is);
    }

pub loop-x-preserved : goal.loop-x-preserved
loop-x-preserved c =
    let legs = c.args.parts.now.legs in
    let leg = c.leg-item.result in
    let at : leg ≡ get_or legs c.loop-x.x leg = rw c.as_slice-leg-items.ensures at c.leg-item.is in
    let within = rw c.as_slice-leg-items.ensures at c.loop-x-test.true in
    let value = c.as_mut_slice.ensures.value in
    let long : length c.as_mut_slice.result.now ≡ length c.loop-x.landings.items = ap length value in
    let over : c.loop-x.landings.len ≡ length c.land.new.landings = omega (arith, c.land.ensures.all, long, c.loop-x.landings.ok.0) in
    rw (written-over c.loop-x.landings.len c.land.new.landings _ over)
    (record {
      all = omega (arith, c.land.ensures.all, long, c.loop-x.invariant.all);
      landed = λ p below.
          last_landing-more p c.loop-x.x legs c.args.frozen.now leg _ _ c.requires.legs within at (c.loop-x.invariant.landed p below)
          (rw value at (c.land.ensures.landed p (omega (arith, below, long, c.loop-x.invariant.all))));
    })

pub returns-clause-landed : goal.returns-clause-landed
returns-clause-landed c =
    let past = rw c.as_slice-leg-items.ensures at c.loop-x-test.false in
    λ p below. c.loop-x.invariant.landed p below ∙ last_landing-all p c.loop-x.x c.args.parts.now.legs c.args.frozen.now past
