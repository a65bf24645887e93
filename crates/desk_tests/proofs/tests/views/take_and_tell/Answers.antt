use Rattle.std.proofs.Common.{sym, ◌∙◌}
use Rattle.desk_model.specs.declared.answer.Event.TheVariants as event
use Rattle.desk_core.specs.Told.{told_to}
use Rattle.desk_tests.proofs.Going.{told_on}
use Rattle.desk_tests.proofs.tests.views.take_and_tell.Goals as goal

pub tell_rest-requires : goal.tell_rest-requires
tell_rest-requires g c =
    let t = c.requires.told in
    record { told = (t.0, t.1 ∙ sym c.intake.ensures.opening, told_on t.0 c.args.book.now c.intake.new.self 0 (event.Batch c.args.batch.now) (told_to c.args.telling.now) c.in_ok-intake.ensures.after t.2) }

pub returns : goal.returns
returns g c =
    let t = c.requires.told in
    let on = told_on t.0 c.args.book.now c.intake.new.self 0 (event.Batch c.args.batch.now) (told_to c.args.telling.now) c.in_ok-intake.ensures.after t.2 in
    record { told = (t.0, t.1 ∙ sym c.intake.ensures.opening, c.tell_rest.ensures.told t.0 on) }
