-- A book that goes on, and its board.
use Rattle.std.proofs.Common.{◌≡◌, ℕ, Bool, true, false, List, [], ◌∷◌, ◌++◌, length, refl, sym, subst}
use Rattle.std.specs.Prelude.{if◌then◌else◌}
use Rattle.std.proofs.lemmas.List.{append-nil}
use mathlib.Core.List.{IsPrefix}
use Rattle.desk_model.specs.declared.answer.Event.{Event}
use Rattle.desk_model.specs.declared.answer.Entry.{Entry}
use Rattle.desk_model.specs.Histories.{has_room, entry_of}
use Rattle.desk_core.specs.Recorded.{Recorded, state_of, with_entry}
use Rattle.live_board.specs.declared.told.Told.{Told}
use Rattle.live_board.specs.Histories.{history, opens}
use Rattle.live_board.proofs.Beginnings.{prefix_trans}
use Rattle.desk_core.specs.Posts.{HasTold}

by_room : (room : Bool) (B : Recorded) (entry : Entry) → IsPrefix B.journal (if room then record B { journal = B.journal ++ entry ∷ [] } else B).journal
by_room true B entry = (entry ∷ [], refl)
by_room false B entry = ([], append-nil B.journal)

longer_by : (B : Recorded) (caller : ℕ) (event : Event) → IsPrefix B.journal (with_entry B caller event).journal
longer_by B caller event = by_room (has_room (length B.journal) event) B (entry_of (state_of B) caller event)

-- what was told of a book was told of it once it has answered an event
pub told_on : (A B C : Recorded) (caller : ℕ) (event : Event) (log : List (Told Recorded Entry)) → C ≡ with_entry B caller event → HasTold A B.journal log → HasTold A C.journal log
told_on A B C caller event log after told =
    let longer : IsPrefix B.journal C.journal = subst (λ (D : Recorded). IsPrefix B.journal D.journal) (sym after) (longer_by B caller event) in
    (told.0, prefix_trans (history log) B.journal C.journal told.1 longer)

-- and of a board that was just opened the opening alone
pub told_first : (B : Recorded) (log : List (Told Recorded Entry)) → log ≡ opens B [] ∷ [] → HasTold B B.journal log
told_first B log is = subst (λ (l : List (Told Recorded Entry)). HasTold B B.journal l) (sym is) (refl, (B.journal, refl))
