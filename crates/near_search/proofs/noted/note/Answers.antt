use Rattle.std.proofs.Common.{◌≡◌, ℕ, ◌<◌, length, get_or, sym, subst, ◌∙◌}
use Rattle.std.proofs.lemmas.List.{get_or_default}
use Rattle.desk_data.specs.declared.row.Group.{Group}
use Rattle.desk_data.specs.Situation.{Situation}
use Rattle.desk_data.specs.PlanRows.{PlanRows, groups_at}
use Rattle.near_pax.specs.Units.{group_at, no_group}
use Rattle.near_notes.specs.DayNotes.{IsInVain}
use Rattle.near_notes.specs.Later.{AreNotesAt}
use Rattle.near_search.specs.Noted.{AreNotedAt}
use Rattle.near_search.proofs.noted.note.Goals as goal

vain_at : (I : Situation) (P Q : PlanRows) (r place : ℕ) (none : Group) → Q ≡ P → place < length (groups_at P r) → IsInVain I P r (group_at P r place) → IsInVain I Q r (get_or (groups_at Q r) place none)
vain_at I P Q r place none is lt vain =
    subst (λ (R : PlanRows). IsInVain I R r (get_or (groups_at R r) place none)) (sym is)
    (subst (IsInVain I P r) (get_or_default (groups_at P r) place no_group none lt) vain)

pub returns-in-Some : goal.returns-in-Some
returns-in-Some c =
    let I = c.args.eval.now.inst in
    let P = c.args.eval.now.rows in
    let at : AreNotesAt I P c.in-Some.notes = subst (AreNotedAt I P) c.in-Some.is c.requires.notes in
    record {
      notes = c.note.ensures.notes I at.notes (λ none. vain_at I P c.in-Some.notes.plan c.args.res.0 c.args.place none at.plan c.requires.place c.requires.vain);
      plan = c.note.ensures.plan ∙ at.plan;
    }
