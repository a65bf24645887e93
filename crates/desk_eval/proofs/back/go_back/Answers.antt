use Rattle.std.proofs.Common.{◌<◌, ◌≤◌, length, refl, sym, ap, ◌∙◌, arith}
use Rattle.desk_eval.proofs.BackLaws.{back_to-before, back_to-shallow}
use Rattle.desk_eval.proofs.back.go_back.Goals as goal

pub loop-init : goal.loop-init
loop-init c = record { left = omega arith; same = refl }

pub back-requires : goal.back-requires
back-requires c =
    let left = c.loop.invariant.left in
    omega (arith, left)

pub loop-preserved : goal.loop-preserved
loop-preserved c =
    let E = c.loop.eval in
    let F = c.back.new.self in
    let left = c.loop.invariant.left in
    let deep : c.args.depth < length E.past = omega (arith, left) in
    let past = c.back.ensures.plan in
    record {
      left = omega (arith, left, ap length past);
      same = sym (back_to-before c.args.depth E F past c.back.ensures.inst deep) ∙ c.loop.invariant.same;
    }

pub returns : goal.returns
returns c =
    let left = c.loop.invariant.left in
    let few : length c.loop.eval.past ≤ c.args.depth = omega (arith, left) in
    sym (back_to-shallow c.args.depth c.loop.eval few) ∙ c.loop.invariant.same
