use Rattle.std.proofs.Common.{[], ap, ◌∙◌}
use Rattle.std.specs.Prelude.{map}
use Rattle.board_rot.specs.Summaries.{Edited}
use Rattle.board_rot.specs.Kept.{Lists, seen, without_edits}
use Rattle.board_rot.proofs.CopyLaws.{copied_logged, copied_seen}
use Rattle.board_rot.proofs.undo_log.UndoLog.copy.Goals as goal

-- what is seen of lists, with no edit to take back
abbrev seen_unedited : Lists → Edited
seen_unedited lists = record (seen lists) { edits = [] }

pub invariant_of-result : goal.invariant_of-result
invariant_of-result c =
    copied_logged c.self.inside.rotations.items c.in_ok-rotations.rotations.items c.in_ok-broken.broken c.new.result.items
    (c.in_ok-rotations.ensures ∙ ap (map without_edits) c.as_slice.ensures.value) c.in_ok-broken.ensures.room c.new.ensures.items

pub returns : goal.returns
returns c =
    let s = c.self.inside in
    let lists : Lists = record { rotations = s.rotations.items; broken = s.broken.items; edits = s.edits.items } in
    copied_seen lists c.in_ok-rotations.rotations.items c.in_ok-broken.broken.items c.new.result.items
    (c.in_ok-rotations.ensures ∙ ap (map without_edits) c.as_slice.ensures.value) c.in_ok-broken.ensures.items c.new.ensures.items
    ∙ ap seen_unedited c.self.view_is
