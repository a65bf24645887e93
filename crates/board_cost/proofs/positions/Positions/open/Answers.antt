use Rattle.std.proofs.Common.{◌≡◌, ◌<◌, ◌∙◌, length, get_or}
use Rattle.std.proofs.lemmas.List.{get_or_default}
use Rattle.board_cost.specs.Positions.{no_wanted}
use Rattle.board_cost.proofs.RowLaws.{one_row}
use Rattle.board_cost.proofs.positions.Positions.open.Goals as goal

pub loop-position-preserved : goal.loop-position-preserved
loop-position-preserved c =
    let all = c.args.inst.now.parts.positions in
    let n = c.loop-position.position-index in
    let own : c.position-item.result ≡ get_or all n c.position-item.result = rw c.positions-position-items.ensures at c.position-item.is in
    let within : n < length all = rw c.positions-position-items.ensures at c.loop-position-test.true in
    let is = own ∙ get_or_default all n c.position-item.result no_wanted.position within in
    record {
      rows = one_row c.args.inst.now n c.loop-position.positions.rows c.add.new.self.rows c.loop-position.positions.heads c.position-item.result is c.in_ok-add.ensures.rows c.loop-position.invariant.rows;
      heads = c.in_ok-add.ensures.heads ∙ c.loop-position.invariant.heads;
    }
