-- Numbers in rows, 0 where none was put.
use Rattle.std.specs.Prelude.{◌≡◌, ℕ, ◌&&◌, ◌==◌, if◌then◌else◌, List, [], length, slice_index_or}

-- the number in a row and a column
abbrev pub number_at : List (List ℕ) → ℕ → ℕ → ℕ
number_at rows row column = slice_index_or (slice_index_or rows row []) column 0

-- a number is put there, and all others stay
pub record IsPut (old new : List (List ℕ)) (row column number : ℕ) : Type 0 where
  pub rows : length new ≡ length old
  pub each : (r c : ℕ) → number_at new r c ≡ (if (r == row) && (c == column) then number else number_at old r c)
