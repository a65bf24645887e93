use Rattle.std.proofs.Common.{◌≡◌, ℕ, ◌<◌, get_or, length, sym, ap, ◌∙◌, subst, arith}
use Rattle.std.specs.Prelude.{Some, IsSome, Option}
use Rattle.std.proofs.lemmas.List.{get_or_default}
use Rattle.turn_book.specs.Passes.{known, seen}
use Rattle.turn_book.specs.SplitPasses.{AreSplit}
use Rattle.desk_model.specs.States.{opening}
use Rattle.desk_model.specs.Histories.{IsLegal}
use Rattle.desk_core.proofs.TurnedLaws.{desk_legal}
use Rattle.desk_pool.specs.declared.worker.Worker.{Worker}
use Rattle.desk_pool.specs.Workers.{day_of}
use Rattle.desk_pool.proofs.Lapping.{LapSoFar, lap_start, lap_next, lapped, one_lapped, lap_gained, lap_returned, lap_ready, lap_shards, lap_reported, if_known, the_first, not_none}
use Rattle.desk_pool.proofs.laps.lap.Goals.{in-Some, in_default}
use Rattle.desk_pool.proofs.laps.lap.Goals as goal

pub loop-i-init : goal.loop-i-init
loop-i-init g c =
    let v = known c.args.pass.now in
    let lens : length c.args.workers.now ≡ length c.side_by_side.new.workers = omega (arith, c.split_passes.auto.workers, c.side_by_side.auto.workers) in
    record {
      of = c.split_passes.ensures.of;
      legal = λ lt. absurd (omega (arith, lt));
      far = lap_start v (known c.split_passes.new.pass) c.side_by_side.new.workers (subst (λ (n : ℕ). AreSplit n v (known c.split_passes.new.pass)) lens c.split_passes.ensures.split);
    }

pub loop-i-preserved : goal.loop-i-preserved
loop-i-preserved g c =
    let v = known c.args.pass.now in
    let I = day_of c.args.turn.now in
    let mid = c.side_by_side.new.workers in
    let now = c.loop-i.workers in
    let i = c.loop-i.i in
    let far = c.loop-i.invariant.far in
    let idx = c.index-workers-i.result in
    let lt : i < length now = omega (arith, c.loop-i-test.true) in
    let low : i < length mid = omega (arith, lt, far.len) in
    let first : i < length c.split_passes.new.workers = omega (arith, low, c.side_by_side.auto.workers) in
    let old : i < length c.args.workers.now = omega (arith, first, c.split_passes.auto.workers) in
    elim c.match-take.branch [
      | in-Some w ↦
          let one = w.in-Some.one in
          let a : Worker = record { searcher = (get_or now i idx).searcher; pass = c.take.new.self; report = (get_or now i idx).report } in
          let same : get_or now i idx ≡ get_or now i a = get_or_default now i idx a lt in
          let there : (get_or mid i a).pass ≡ Some one = sym (far.rest i a (omega arith) low) ∙ ap (λ (x : Worker). x.pass) (sym same) ∙ sym c.take.ensures.value ∙ w.in-Some.is in
          let knew = if_known known (get_or mid i a).pass one there in
          let lap = one_lapped c.args.budget c.args.turn.now v (known one) i (get_or c.split_passes.new.workers i a) (get_or mid i a) (c.split_passes.ensures.each i a old) (c.side_by_side.ensures i a first) knew in
          record {
            of = (ap (λ p. p.seat.table_id) w.pass-is ∙ w.join.ensures.of.0, ap (λ p. p.seat.me.0.from) w.pass-is ∙ w.join.ensures.of.1);
            legal = λ up. subst (λ (p : _). IsLegal (opening I) (seen p)) (sym w.pass-is) (desk_legal I (seen w.join.new.pass) w.join.ensures.legal);
            far = lap_next v (known c.loop-i.pass) (known c.match-take.pass) mid now i a (known one) far low knew lap.from w.join.ensures.nested w.join.ensures.apart (ap known w.pass-is ∙ w.join.ensures.joined)
                (record { searcher = ap (λ (x : Worker). x.searcher) same; report = ap (λ (x : Worker). x.report) same });
          }
      | in_default w ↦ absurd (not_none (get_or now i idx).pass c.take.result (subst (λ (o : Option _). IsSome o) (sym (far.rest i idx (omega arith) low)) (c.side_by_side.ensures i idx first).some) c.take.ensures.value (λ x e. w.in_default.not-Some x e))
    ]

pub returns-clause-shards : goal.returns-clause-shards
returns-clause-shards g c =
    let v = known c.args.pass.now in
    let w = known c.loop-i.pass in
    let mid = c.side_by_side.new.workers in
    let far = c.loop-i.invariant.far in
    let e : c.loop-i.i ≡ length mid = omega (arith, far.len, c.loop-i-test.false) in
    let all = lapped c.args.budget c.args.turn.now v w c.args.workers.now c.split_passes.new.workers mid c.loop-i.workers c.split_passes.auto.workers c.side_by_side.auto.workers c.split_passes.ensures.same c.split_passes.ensures.each c.side_by_side.ensures (subst (λ (n : ℕ). LapSoFar v n mid c.loop-i.workers w) e far) in
    lap_shards c.args.budget (day_of c.args.turn.now) v w c.args.workers.now c.loop-i.workers all c.requires.shards

pub returns-clause-ready : goal.returns-clause-ready
returns-clause-ready g c =
    let v = known c.args.pass.now in
    let w = known c.loop-i.pass in
    let mid = c.side_by_side.new.workers in
    let far = c.loop-i.invariant.far in
    let e : c.loop-i.i ≡ length mid = omega (arith, far.len, c.loop-i-test.false) in
    let all = lapped c.args.budget c.args.turn.now v w c.args.workers.now c.split_passes.new.workers mid c.loop-i.workers c.split_passes.auto.workers c.side_by_side.auto.workers c.split_passes.ensures.same c.split_passes.ensures.each c.side_by_side.ensures (subst (λ (n : ℕ). LapSoFar v n mid c.loop-i.workers w) e far) in
    lap_ready c.args.budget (day_of c.args.turn.now) v w c.args.workers.now c.loop-i.workers all

pub returns-clause-gained : goal.returns-clause-gained
returns-clause-gained g c =
    let v = known c.args.pass.now in
    let w = known c.loop-i.pass in
    let mid = c.side_by_side.new.workers in
    let far = c.loop-i.invariant.far in
    let e : c.loop-i.i ≡ length mid = omega (arith, far.len, c.loop-i-test.false) in
    let all = lapped c.args.budget c.args.turn.now v w c.args.workers.now c.split_passes.new.workers mid c.loop-i.workers c.split_passes.auto.workers c.side_by_side.auto.workers c.split_passes.ensures.same c.split_passes.ensures.each c.side_by_side.ensures (subst (λ (n : ℕ). LapSoFar v n mid c.loop-i.workers w) e far) in
    lap_gained c.args.budget (day_of c.args.turn.now) v w c.args.workers.now c.loop-i.workers all (the_first c.args.workers.now c.requires.some)

pub returns-clause-returned : goal.returns-clause-returned
returns-clause-returned g c =
    let v = known c.args.pass.now in
    let w = known c.loop-i.pass in
    let mid = c.side_by_side.new.workers in
    let far = c.loop-i.invariant.far in
    let e : c.loop-i.i ≡ length mid = omega (arith, far.len, c.loop-i-test.false) in
    let all = lapped c.args.budget c.args.turn.now v w c.args.workers.now c.split_passes.new.workers mid c.loop-i.workers c.split_passes.auto.workers c.side_by_side.auto.workers c.split_passes.ensures.same c.split_passes.ensures.each c.side_by_side.ensures (subst (λ (n : ℕ). LapSoFar v n mid c.loop-i.workers w) e far) in
    lap_returned c.args.budget (day_of c.args.turn.now) v w c.args.workers.now c.loop-i.workers all c.requires.some

pub returns-clause-reports : goal.returns-clause-reports
returns-clause-reports g c =
    let v = known c.args.pass.now in
    let w = known c.loop-i.pass in
    let mid = c.side_by_side.new.workers in
    let far = c.loop-i.invariant.far in
    let e : c.loop-i.i ≡ length mid = omega (arith, far.len, c.loop-i-test.false) in
    let all = lapped c.args.budget c.args.turn.now v w c.args.workers.now c.split_passes.new.workers mid c.loop-i.workers c.split_passes.auto.workers c.side_by_side.auto.workers c.split_passes.ensures.same c.split_passes.ensures.each c.side_by_side.ensures (subst (λ (n : ℕ). LapSoFar v n mid c.loop-i.workers w) e far) in
    lap_reported c.args.budget (day_of c.args.turn.now) v w c.args.workers.now c.loop-i.workers all c.requires.some c.requires.shards

pub returns-clause-legal : goal.returns-clause-legal
returns-clause-legal g c =
    let far = c.loop-i.invariant.far in
    let e : c.loop-i.i ≡ length c.side_by_side.new.workers = omega (arith, far.len, c.loop-i-test.false) in
    c.loop-i.invariant.legal (omega (arith, e, c.requires.some, c.split_passes.auto.workers, c.side_by_side.auto.workers))
