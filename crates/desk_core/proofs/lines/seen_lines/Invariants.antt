use Rattle.std.proofs.Common.{◌≡◌, ◌≤◌, length}
use Rattle.std.specs.Prelude.{Some}
use Rattle.desk_model.specs.States.{opening}
use Rattle.desk_core.specs.Recorded.{Recorded}
use Rattle.live_board.specs.Histories.{history, origin}
use Rattle.live_board.specs.Watched.{AreRising}
use Rattle.live_board.specs.Words.{stands_for}
use Rattle.desk_model.proofs.SightLaws.{AreSightsBelow}
use Rattle.desk_core.proofs.LineLaws.{AreLined}
use Rattle.desk_core.proofs.lines.seen_lines.Given as goal

abbrev pub invariant-loop-note : goal.invariant-loop-note
invariant-loop-note g l = (l.least ≤ l.whole.entries) × (length l.lines.items ≤ 63)
    × ((B : Recorded) → origin (stands_for l.last) ≡ Some B → AreSightsBelow (opening B.opening) (history (stands_for l.last)) l.least l.lines.items)
    × (length l.lines.items ≤ l.note-index)
    × ((B : Recorded) → origin (stands_for l.last) ≡ Some B → AreRising stands_for l.notes → length l.notes ≤ 63
    → AreLined (opening B.opening) (history (stands_for l.last)) (λ n. history (stands_for n)) l.notes l.note-index l.least l.lines.items)
