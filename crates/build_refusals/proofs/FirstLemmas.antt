-- The first row that is refused, from one row to the next.
use Rattle.std.proofs.Common.{◌≡◌, ℕ, suc, ◌+◌, ◌<◌, ◌≤◌, List, [], ◌∷◌, length, drop, get_or, Option, Some, None, refl, sym, ap, ◌∙◌, arith, drop-cons}
use Rattle.std.proofs.Math.ListN.{drop_of_length-le}
use Rattle.std.specs.Option.{option_map_or}
use Rattle.file_rows.specs.declared.cause.Cause.{Cause}
use Rattle.build_refusals.specs.First.{refusal_from}

-- a line that stands in the row, whatever stands before it
abbrev pub of_row : {Row : Type 0} → (Row → ℕ) → ℕ → Row → ℕ
of_row line n row = line row

module _ {Row : Type 0} (cause : ℕ → Row → Option Cause) (line : ℕ → Row → ℕ) where
  refused_row : (n : ℕ) (row : Row) (rows : List Row) → refusal_from cause line n (row ∷ rows) ≡ option_map_or (λ why. Some (line n row, why)) (cause n row) (refusal_from cause line (n + 1) rows)
  unfolding refusal_from
  refused_row n row rows = refl

  refused_none : (n : ℕ) → refusal_from cause line n [] ≡ None
  unfolding refusal_from
  refused_none n = refl

  rest_at : (rows : List Row) (n : ℕ) (row : Row) → n < length rows → row ≡ get_or rows n row → drop n rows ≡ row ∷ drop (n + 1) rows
  rest_at rows n row below is =
      let next : suc n ≡ n + 1 = omega arith in
      drop-cons rows n row below ∙ (λ i. sym is i ∷ drop (next i) rows)

  -- the row at place n, and those after it
  refused_at : (rows : List Row) (n : ℕ) (row : Row) (o : Option Cause) → n < length rows → row ≡ get_or rows n row → o ≡ cause n row
      → refusal_from cause line n (drop n rows) ≡ option_map_or (λ why. Some (line n row, why)) o (refusal_from cause line (n + 1) (drop (n + 1) rows))
  refused_at rows n row o below is why =
      ap (refusal_from cause line n) (rest_at rows n row below is)
      ∙ refused_row n row (drop (n + 1) rows)
      ∙ ap (λ o. option_map_or (λ why. Some (line n row, why)) o (refusal_from cause line (n + 1) (drop (n + 1) rows))) (sym why)

  -- a row that is not refused
  pub refused_more : (rows : List Row) (n : ℕ) (row : Row) (whole : Option (ℕ × Cause)) → n < length rows → row ≡ get_or rows n row → None ≡ cause n row → refusal_from cause line n (drop n rows) ≡ whole
      → refusal_from cause line (n + 1) (drop (n + 1) rows) ≡ whole
  refused_more rows n row whole below is why so_far = sym (refused_at rows n row None below is why) ∙ so_far

  -- a row that is refused
  pub refused_here : (rows : List Row) (n : ℕ) (row : Row) (why : Cause) (whole : Option (ℕ × Cause)) → n < length rows → row ≡ get_or rows n row → Some why ≡ cause n row → refusal_from cause line n (drop n rows) ≡ whole
      → Some (line n row, why) ≡ whole
  refused_here rows n row why whole below is is_why so_far = sym (refused_at rows n row (Some why) below is is_why) ∙ so_far

  -- no more rows
  pub refused_end : (rows : List Row) (n : ℕ) (whole : Option (ℕ × Cause)) → length rows ≤ n → refusal_from cause line n (drop n rows) ≡ whole → None ≡ whole
  refused_end rows n whole past so_far = sym (ap (refusal_from cause line n) (drop_of_length-le rows {i = n} past) ∙ refused_none n) ∙ so_far
