use Rattle.std.proofs.Common.{◌≡◌, List, ◌++◌, length, sym, ap, ◌∙◌, subst, refl}
use Rattle.std.specs.Prelude.{Option}
use Rattle.turn_book.specs.Histories.{items_at}
use Rattle.turn_book.specs.Passes.{first_book, known, seen, made}
use Rattle.desk_model.specs.declared.answer.Entry.{Entry}
use Rattle.desk_pool.specs.Workers.{day_of}
use Rattle.near_moves.specs.declared.ended.SearchEnd.{SearchEnd}
use Rattle.recovery_commands.specs.Closing.{IsTeamBook}
use Rattle.recovery_commands.specs.Running.{IsTeamRun}
use Rattle.recovery_commands.proofs.Closing.{closed_full, closed_book, ended_so}
use Rattle.recovery_commands.proofs.team.close_day.Goals as goal

pub unreachable-requires : goal.unreachable-requires
unreachable-requires c =
    let turn = c.args.turn in
    let v = known c.args.pass in
    let none : length (first_book turn).journal ≡ 0 = ap (λ (l : List Entry). length l) c.requires.empty in
    closed_full c.args.team.workers c.args.team.moves c.args.team.live (day_of turn) c.close-book.result.opening c.args.batches.now v c.close-book.result.journal (length (first_book turn).journal)
    c.requires.few c.close-book.ensures.seen c.close-book.ensures.opening c.entries-legal.ensures.legal none c.close-book.ensures.places (subst (IsTeamRun c.args.team.workers c.args.team.moves c.args.team.live (day_of turn) c.args.batches.now v) c.in-Full.is c.requires.run)

pub returns-clause-made : goal.returns-clause-made
returns-clause-made c = c.close-book.ensures.made ∙ ap (λ (l : List Entry). l ++ items_at (seen c.args.pass) (made c.args.pass)) c.requires.empty

pub returns-clause-day : goal.returns-clause-day
returns-clause-day c =
    let turn = c.args.turn in
    let v = known c.args.pass in
    let none : length (first_book turn).journal ≡ 0 = ap (λ (l : List Entry). length l) c.requires.empty in
    let run = subst (IsTeamRun c.args.team.workers c.args.team.moves c.args.team.live (day_of turn) c.args.batches.now v) c.in-Voted.is c.requires.run in
    subst (λ (e : Option SearchEnd). IsTeamBook (day_of turn) c.args.batches.now c.args.team c.close-book.result e) (sym c.end_of-ended.ensures)
    (closed_book c.args.team.workers (day_of turn) (day_of turn) c.args.batches.now c.args.team v c.close-book.result (length (first_book turn).journal) c.in-Voted.vote refl refl
    c.close-book.ensures.opening c.close-book.ensures.seen c.entries-legal.ensures.legal none c.close-book.ensures.places run)

pub returns-clause-ended : goal.returns-clause-ended
returns-clause-ended c = λ vote is. c.end_of-ended.ensures ∙ ended_so c.in-Voted.vote vote (sym c.in-Voted.is ∙ is)
