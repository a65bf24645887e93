-- What a turn learns of a book.
use Rattle.std.specs.Prelude.{◌≡◌, ℕ, Bool, true, false, not, if◌then◌else◌, List, [], ◌∷◌, ◌++◌, length, Option, Some, None}
use mathlib.Core.List.{IsPrefix}
use Rattle.desk_data.specs.Situation.{Situation}
use Rattle.desk_model.specs.declared.answer.Answer.{Answer}
use Rattle.desk_model.specs.declared.answer.Answer.TheVariants.{Full}
use Rattle.desk_model.specs.declared.answer.Event.{Event}
use Rattle.desk_model.specs.declared.answer.Entry.{Entry}
use Rattle.desk_model.specs.States.{opening, answer}
use Rattle.desk_model.specs.Histories.{state, has_room, entry_of}
use Rattle.turn_book.specs.declared.view.View.{View}
use Rattle.desk_core.specs.Recorded.{Recorded, reply}

-- the day that a book was opened with, before any batch: its opening, as turns know it
abbrev pub opening_of : Recorded → Situation
opening_of B = B.opening

-- whether an answer is that there is no room
abbrev pub is_full : Answer → Bool
is_full (Full entries) = true
is_full other = false

-- an answer says that an entry was added unless it is Full
abbrev pub tells_entry : Answer → Bool
tells_entry given = not (is_full given)

-- the entry that an event adds after a history, or none where there is no room for it
abbrev pub entry_added : Situation → List Entry → ℕ → Event → Option Entry
entry_added I g caller e = if has_room (length g) e then Some (entry_of (state (opening I) g) caller e) else None

-- at the history g from the opening of an instance a caller's event is answered with this, and this entry is added, or none
pub record Replies (I : Situation) (g : List Entry) (caller : ℕ) (e : Event) (given : Answer) (added : Option Entry) : Type 0 where
  pub answered : given ≡ reply (record { opening = I; journal = g }) e
  pub recorded : added ≡ entry_added I g caller e

-- what a pass learns by a call, and what it then has seen and made
pub record GetsAnswer (I : Situation) (v : View Situation Entry) (caller : ℕ) (e : Event) (given : Answer) (w : View Situation Entry) : Type 0 where
  -- the history that stood at its turn
  pub history : List Entry
  pub began : IsPrefix v.seen history
  -- where there is room, the answer is that of the state of that history, the entry comes after it, and its place is made
  pub room : has_room (length history) e ≡ true → (given ≡ answer (state (opening I) history) e) × (w.seen ≡ history ++ entry_of (state (opening I) history) caller e ∷ []) × (w.made ≡ v.made ++ length history ∷ [])
  -- where there is none, the answer is Full with the length of that history, and nothing is made
  pub none : has_room (length history) e ≡ false → (given ≡ Full (length history)) × (w.seen ≡ history) × (w.made ≡ v.made)
  -- the answer says which of the two it is
  pub tells : is_full given ≡ not (has_room (length history) e)
