-- How many orders may come, from one row to the next.
use Rattle.std.proofs.Common.{◌≡◌, ℕ, ◌+◌, ◌-◌, ◌<◌, Bool, cond, List, length, take, get_or, eqb, leb, sym, ap, ◌∙◌, arith, inl, inr}
use Rattle.std.specs.List.{count_by}
use Rattle.std.proofs.lemmas.Bool.{cases_lt, lt-leb, le-leb, eq-eqb, ne_eqb}
use Rattle.std.proofs.lemmas.List.Sums.{sum_by_more}

-- how many more may come after one row more
pub room_more : {Row : Type 0} (p : Row → Bool) (rows : List Row) (room i left : ℕ) (row : Row) → i < length rows → row ≡ get_or rows i row → left ≡ room - count_by p (take i rows)
    → left - cond (p row) 1 0 ≡ room - count_by p (take (i + 1) rows)
room_more p rows room i left row below is so_far =
    let more : count_by p (take (i + 1) rows) ≡ count_by p (take i rows) + cond (p row) 1 0 = sum_by_more (λ r. cond (p r) 1 0) rows i row below ∙ ap (λ r. count_by p (take i rows) + cond (p r) 1 0) (sym is) in
    omega (arith, more, so_far)

-- none may come exactly where as many came as may
pub no_room : (room came left : ℕ) → left ≡ room - came → eqb left 0 ≡ leb room came
no_room room came left so_far = elim (cases_lt came room) [
  | inl more ↦ ne_eqb left 0 (λ none. absurd (omega (arith, none, so_far))) ∙ sym (lt-leb room came more)
  | inr full ↦ eq-eqb left 0 (omega (arith, so_far)) ∙ sym (le-leb room came full)
]
