use Rattle.std.proofs.Common.{List, length, map, sym, ap, subst, ◌∙◌}
use Rattle.std.specs.Prelude.{Option}
use Rattle.std.specs.List.{All}
use Rattle.std.specs.Option.{ForSome}
use Rattle.std.proofs.lemmas.Result.{IfOk-weaker}
use Rattle.desk_data.specs.Insides.{entries_in}
use Rattle.desk_data.specs.declared.parts.Parts.{Parts}
use Rattle.desk_data.specs.declared.row.Row.{Row}
use Rattle.desk_data.specs.Keeps.{KeepsLeft}
use Rattle.desk_data.specs.Situation.{planes_of}
use Rattle.desk_data.specs.Valid.{AreParts, IsRowOf}
use Rattle.desk_data.proofs.LeftLemmas.{progress-later}
use Rattle.desk_data.proofs.ProgressLaws.{length-frozen_by, frozen_ranged}
use Rattle.desk_data.proofs.left.Left.at.Goals as goal

pub known-requires-clause-parts : goal.known-requires-clause-parts
known-requires-clause-parts c = subst AreParts (sym c.parts.ensures.parts) c.parts.ensures.valid.parts

pub known-requires-clause-legs : goal.known-requires-clause-legs
known-requires-clause-legs c =
    ap length c.in_ok-frozen.ensures ∙ (length-frozen_by c.args.inst.now c.args.plan.now c.args.at.0 ∙ ap (λ (parts : Parts). length parts.legs) (sym c.parts.ensures.parts))

pub known-requires-clause-rows : goal.known-requires-clause-rows
known-requires-clause-rows c =
    let I = c.args.inst.now in
    let frozen = c.in_ok-frozen.frozen.items in
    let ranged : All (λ (row : Option Row). ForSome row (IsRowOf (planes_of I))) frozen =
    subst (λ (rows : List (Option Row)). All (λ (row : Option Row). ForSome row (IsRowOf (planes_of I))) rows) (sym c.in_ok-frozen.ensures) (frozen_ranged I c.args.plan.now c.args.at.0 c.parts.ensures.valid.progress c.requires.plan) in
    subst (λ (parts : Parts). All (λ (row : Option Row). ForSome row (IsRowOf (length parts.planes))) frozen) (sym c.parts.ensures.parts) ranged

pub returns-clause-progress : goal.returns-clause-progress
returns-clause-progress c =
    let tally = map entries_in c.in_ok-tally.tally.items in
    let later = progress-later c.args.inst.now c.args.plan.now c.args.at c.in_ok-frozen.frozen.items tally c.requires.later c.in_ok-frozen.ensures (rw c.as_slice.ensures.value at c.in_ok-tally.ensures) in
    IfOk-weaker c.known.result _ _ (λ left is. is ∙ later) c.known.ensures.progress

pub returns-clause-kept : goal.returns-clause-kept
returns-clause-kept c =
    let I = c.args.inst.now in
    IfOk-weaker c.known.result _ _
    (λ left kept. subst (λ (parts : Parts). KeepsLeft (record { parts = parts; orders = I.orders; progress = record { now = left.now; frozen = left.frozen.items; tally = map entries_in left.tally.items } }) left.departures left.arrivals left.landings.items) c.parts.ensures.parts (kept I.orders))
    c.known.ensures.kept
