-- What a board of the desk shows.
use Rattle.std.specs.Prelude.{◌≡◌, ◌⊎◌, ℕ, ◌+◌, ◌<◌, ◌≤◌, List, [], ◌∷◌, ◌++◌, length, slice_get, Some}
use Rattle.desk_model.specs.declared.answer.Entry.{Entry}
use Rattle.desk_model.specs.States.{State, opening}
use Rattle.desk_core.specs.Recorded.{Recorded}
use Rattle.desk_model.specs.declared.view.View.{View}
use Rattle.desk_model.specs.Views.{view_of}
use Rattle.desk_core.specs.declared.sight.Sight.{Sight}

-- what is shown of a history of a board that was opened on a book
abbrev pub sights : Recorded → List Entry → Sight
sights B h = record { view = view_of (opening B.opening) h }

-- a view is one more of the lines where it has at least so many entries, and fewer than the last one, and 63 are not there yet. The next one then has to have more entries
abbrev pub AddsSight : ℕ → View → View → ℕ → List View → List View → Type 0
AddsSight least view last next lines later =
    ((later ≡ lines ++ view ∷ []) × (next ≡ view.entries + 1)) ⊎ ((later ≡ lines) × (next ≡ least) × ((view.entries < least) ⊎ ((last.entries ≤ view.entries) ⊎ (63 ≤ length lines))))

-- the view of a history is one of the lines
abbrev pub HasLine : State → List Entry → List View → Type 0
HasLine S h lines = (i : ℕ) × (slice_get lines i ≡ Some (view_of S h))

-- of what each of these stands for the view is one of the lines, where that has fewer entries than the whole
abbrev pub HaveLines : {N : Type 0} → State → List Entry → (N → List Entry) → List N → List View → Type 0
HaveLines {N} S h stands notes lines = (k : ℕ) (n : N) → slice_get notes k ≡ Some n → length (stands n) < length h → HasLine S (stands n) lines
