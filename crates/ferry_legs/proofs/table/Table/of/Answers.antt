use Rattle.std.proofs.Common.{◌≡◌, ℕ, ◌≤◌, subst, sym, arith}
use Rattle.std.specs.Prelude.{Option}
use Rattle.desk_data.specs.Situation.{legs_of}
use Rattle.hour_counts.specs.Counts.{Enters}
use Rattle.ferry_legs.proofs.TableLaws.{table_more, table_whole}
use Rattle.ferry_legs.proofs.table.Table.of.Goals as goal

pub loop-x-preserved : goal.loop-x-preserved
loop-x-preserved c =
    let few : c.loop-x.x ≤ 20000 = omega (arith, c.legs-x-end.ensures.limit) in
    table_more c.args.movement c.args.inst.now c.args.plan.now c.loop-x.x c.read_row-row.result c.loop-x.table c.enter.new.self few (sym c.read_row-row.ensures.row) c.loop-x.invariant
    (subst (λ (come : Option (ℕ × ℕ)). Enters c.loop-x.table c.enter.new.self come) c.slot_by.ensures c.in_ok-enter.ensures)

pub returns : goal.returns
returns c =
    let all : c.loop-x.x ≡ legs_of c.args.inst.now = omega arith in
    table_whole c.args.movement c.args.inst.now c.args.plan.now c.loop-x.x c.loop-x.table all c.loop-x.invariant
