-- How many groups the first rows of position.csv have.
use Rattle.std.proofs.Common.{◌≡◌, ℕ, ◌+◌, ◌<◌, ◌≤◌, leb, ltb, List, length, take, get_or, sym, ap, subst, ◌∙◌, arith, inl, inr}
use Rattle.std.specs.List.{sum_by}
use Rattle.std.proofs.lemmas.Bool.{cases_lt, lt-ltb, le-ltb, le-leb, lt-leb}
use Rattle.std.proofs.lemmas.List.{take-take}
use Rattle.std.proofs.lemmas.List.Sums.{sum_by_more, sum_by-take-le}
use Rattle.file_rows.specs.declared.fleet.PositionRow.{PositionRow}
use Rattle.file_rows.specs.Limits.{most_groups}
use Rattle.build_refusals.specs.Position.{groups_in}

-- more rows have no fewer groups
fewer : (rows : List PositionRow) (m n : ℕ) → m ≤ n → groups_in m rows ≤ groups_in n rows
fewer rows m n le = subst (λ (front : List PositionRow). sum_by (λ row. length row.groups) front ≤ groups_in n rows) (take-take m n rows le) (sum_by-take-le (λ row. length row.groups) (take n rows) m)

-- the row that holds the first group past the limit
pub past_at : (rows : List PositionRow) (k left : ℕ) (row : PositionRow) → k < length rows → row ≡ get_or rows k row → groups_in k rows + left ≡ most_groups → left < length row.groups
    → (n : ℕ) → leb k n ≡ ltb most_groups (groups_in (n + 1) rows)
past_at rows k left row below is so_far past n =
    let here : groups_in (k + 1) rows ≡ groups_in k rows + length row.groups = sum_by_more (λ (r : PositionRow). length r.groups) rows k row below ∙ ap (λ (r : PositionRow). groups_in k rows + length r.groups) (sym is) in
    elim (cases_lt n k) [
      | inl before ↦ (let few : groups_in (n + 1) rows ≤ groups_in k rows = fewer rows (n + 1) k (omega arith) in lt-leb k n before ∙ sym (le-ltb most_groups (groups_in (n + 1) rows) (omega arith)))
      | inr later ↦ (let many : groups_in (k + 1) rows ≤ groups_in (n + 1) rows = fewer rows (k + 1) (n + 1) (omega arith) in le-leb k n later ∙ sym (lt-ltb most_groups (groups_in (n + 1) rows) (omega arith)))
    ]
