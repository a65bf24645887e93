use Rattle.std.proofs.Common.{◌≡◌, sym, subst, ◌∙◌}
use Rattle.std.specs.Prelude.{None}
use Rattle.desk_data.specs.PlanRows.{PlanRows}
use Rattle.near_moves.specs.Descent.{first_better}
use Rattle.near_notes.specs.Notes.{AreUnitNotesAt}
use Rattle.near_search.specs.Noted.{AreUnitsNotedAt}
use Rattle.near_search.proofs.units.note_quiet.Goals as goal

pub returns-in-Some : goal.returns-in-Some
returns-in-Some c =
    let I = c.args.eval.now.inst in
    let P = c.args.eval.now.rows in
    let at : AreUnitNotesAt I P c.in-Some.notes = subst (AreUnitsNotedAt I P) c.in-Some.is c.requires.notes in
    record {
      notes = c.note_quiet.ensures.notes I at.notes (subst (λ (R : PlanRows). first_better I R c.args.shard c.args.shards ≡ None) (sym at.plan) c.requires.quiet);
      plan = c.note_quiet.ensures.plan ∙ at.plan;
    }
