use Rattle.std.proofs.Common.{sym, ◌∙◌}
use Rattle.std.proofs.lemmas.Result.{on_ok_weaker}
use Rattle.near_notes.specs.Notes.{IsUnitOut}
use Rattle.near_notes.proofs.NotesLaws.{noted-more}
use Rattle.near_notes.proofs.notes.UnitNotes.note.Goals as goal

pub returns-in-Some-clause-notes : goal.returns-in-Some-clause-notes
returns-in-Some-clause-notes c = λ I are known.
    (let notes = c.args.self.now in
    on_ok_weaker c.put.result
    (λ now. record {
      valid = are.valid;
      feasible = are.feasible;
      out = noted-more I notes.plan notes.search (IsUnitOut I notes.plan) notes.out c.put.new.self c.args.unit c.in-Some.there (sym c.place_of.ensures ∙ c.in-Some.is) now are.out known;
      by_rows = are.by_rows;
      quiet = are.quiet;
    })
    c.put.ensures)
