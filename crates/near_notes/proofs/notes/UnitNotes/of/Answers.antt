use Rattle.std.proofs.Common.{◌≡◌, sym, ap, subst, ◌∙◌}
use Rattle.desk_data.specs.Valid.{IsPlanFor}
use Rattle.desk_rules.specs.Least.{least}
use Rattle.near_notes.specs.Notes.{IsUnitOut, IsUnitOutByRows}
use Rattle.near_notes.proofs.NotesLaws.{nothing-known}
use Rattle.near_notes.proofs.notes.UnitNotes.of.Goals as goal

pub returns : goal.returns
returns c =
    let I = c.args.inst.now in
    let P = c.in_ok-plan.plan in
    let same : P ≡ c.args.plan.now = c.in_ok-plan.ensures in
    record {
      notes = record {
        valid = subst (IsPlanFor I) (sym same) c.requires.plan;
        feasible = ap (least I) same ∙ c.requires.feasible;
        out = nothing-known I P 1 (IsUnitOut I P) c.in_ok-out.out c.in_ok-out.ensures;
        by_rows = nothing-known I P 1 (IsUnitOutByRows I P) c.in_ok-by_rows.by_rows c.in_ok-by_rows.ensures;
        quiet = λ s is. absurd cc;
      };
      plan = same;
    }
