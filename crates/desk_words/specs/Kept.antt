-- A sink with a copy of what it took.
use Rattle.std.specs.Prelude.{◌≡◌, ℕ, List, ◌++◌, Option, Some, None, IfSome}
use Rattle.desk_folder.specs.Outside.{SinkSide}

-- what the sink shows, and the copy; none where not all is kept
pub record CopySide : Type 0 where
  pub side : SinkSide
  pub copy : Option (List ℕ)

-- a copy goes on with what was taken or refused, or is given up; what was given up stays so
abbrev pub Copies : Option (List ℕ) → Option (List ℕ) → List ℕ → Type 0
Copies None now taken = now ≡ None
Copies (Some was) now taken = IfSome now (λ bytes. bytes ≡ was ++ taken)
