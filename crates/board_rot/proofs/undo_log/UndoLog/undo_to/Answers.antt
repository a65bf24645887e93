use Rattle.std.proofs.Common.{◌≡◌, ◌-◌, ◌<◌, ◌≤◌, ap, sym, ◌∙◌, arith, length}
use Rattle.std.proofs.lemmas.List.{length-take-le}
use Rattle.board_rot.specs.Summaries.{Edited, back_to}
use Rattle.board_rot.specs.Kept.{Lists, seen}
use Rattle.board_rot.proofs.EditLaws.{back_twice, back_none}
use Rattle.board_rot.proofs.undo_log.UndoLog.undo_to.Goals as goal

pub loop-preserved : goal.loop-preserved
loop-preserved c =
    let now = seen c.loop.self in
    let last = length c.loop.self.edits - 1 in
    let all : length c.self.inside.edits.items ≡ length c.args.self.now.edits = ap (λ (l : Lists). length l.edits) c.self.view_is in
    let sum = c.loop.invariant.1 in
    let below : c.loop.counter < length c.args.self.now.edits = omega (arith, c.loop-test.true, c.len-end.ensures, c.self.inside.edits.ok.0, all) in
    let some : c.args.left ≤ last = omega (arith, sum, below) in
    let less : last ≤ length c.loop.self.edits = omega arith in
    let len : length c.undo_last.new.self.edits ≡ last = ap (λ (e : Edited). length e.edits) c.undo_last.ensures ∙ length-take-le last c.loop.self.edits less in
    (ap (back_to c.args.left) c.undo_last.ensures ∙ back_twice c.args.left last now some less ∙ c.loop.invariant.0, omega (arith, len, sum, some, below))

pub returns : goal.returns
returns c =
    let all : length c.self.inside.edits.items ≡ length c.args.self.now.edits = ap (λ (l : Lists). length l.edits) c.self.view_is in
    let sum = c.loop.invariant.1 in
    let end : c.loop.counter ≡ length c.args.self.now.edits =
    omega (arith, c.loop-test.false, c.loop.auto.counter-end (omega (arith, c.requires, c.len-end.ensures, c.self.inside.edits.ok.0, all)), c.len-end.ensures, c.self.inside.edits.ok.0, all) in
    let left : length c.loop.self.edits ≡ c.args.left = omega (arith, sum, end) in
    sym (back_none (seen c.loop.self)) ∙ ap (λ n. back_to n (seen c.loop.self)) left ∙ c.loop.invariant.0
