use Rattle.std.proofs.Common.{◌≡◌, true, false, sym, arith}
use Rattle.std.specs.Prelude.{nat_lt, ◌++◌}
use Rattle.std.proofs.lemmas.Bool.Decides.{nat_tests}
use Rattle.std.proofs.lemmas.List.{append-nil}
use Rattle.desk_model.specs.Histories.{changes}
use Rattle.desk_core.specs.Recorded.{state_of}
use Rattle.desk_tasks.specs.Crew.{plan_line}
use Rattle.story_commands.specs.Crews.{AreMoreLines}
use Rattle.story_commands.proofs.CrewLaws.{lines_step, on_ok}
use Rattle.story_commands.proofs.crews.take_beside.Goals as goal

pub returns-then-changes-before-clause-lines : goal.returns-then-changes-before-clause-lines
returns-then-changes-before-clause-lines c =
    let cs = c.args.crews.now in
    let B = c.args.book.now in
    let C = c.take_event.new.book in
    let lines = c.args.lines.now.items in
    let more = c.push_change.new.lines.items in
    let rose : nat_lt (changes B.journal) (changes C.journal) ≡ true =
    let test = c.if-changes-before.true in
    let was = c.changes-before.ensures in
    let is = c.changes.ensures in
    grind (arith, nat_tests, test, was, is) in
    on_ok c.push_change.result (more ≡ lines ++ plan_line cs (changes C.journal) (state_of C) (state_of C).broken) (AreMoreLines cs B C lines more)
    (λ text. lines_step cs B C c.args.asked.now.0 c.args.asked.now.1 lines more true c.in_ok-take_event.ensures rose text) c.push_change.ensures.lines

pub returns-clause-lines : goal.returns-clause-lines
returns-clause-lines c =
    let B = c.args.book.now in
    let C = c.take_event.new.book in
    let lines = c.args.lines.now.items in
    let stays : nat_lt (changes B.journal) (changes C.journal) ≡ false =
    let test = c.if-changes-before.false in
    let was = c.changes-before.ensures in
    let is = c.changes.ensures in
    grind (arith, nat_tests, test, was, is) in
    lines_step c.args.crews.now B C c.args.asked.now.0 c.args.asked.now.1 lines lines false c.in_ok-take_event.ensures stays (sym (append-nil lines))
