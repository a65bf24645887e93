use Rattle.std.proofs.Common.{◌∷◌, map, take}
use Rattle.std.specs.Prelude.{filter}
use Rattle.std.specs.List.{All}
use Rattle.near_moves.specs.Routes.{begun_path, is_other_stem}
use Rattle.near_notes.specs.Onward.{IsClear}
use Rattle.near_notes.proofs.untouched.has_clear_stems.Given as goal

abbrev pub invariant-loop-entry : goal.invariant-loop-entry
invariant-loop-entry l =
    let first = begun_path l.plans.inst.now l.res.0 in
    All (IsClear l.plans.inst.now l.plans.plan.now l.plans.changes.now l.res.0) (first ∷ filter (is_other_stem first) (map (λ entry. entry.0) (take l.entry-index l.entry-items)))
