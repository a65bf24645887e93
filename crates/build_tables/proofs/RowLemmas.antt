-- What the first rows of a file make, part by part.
use Rattle.std.proofs.Common.{◌≡◌, ℕ, suc, ◌+◌, ◌<◌, ◌≤◌, List, [], ◌∷◌, ◌++◌, length, take, drop, get_or, sym, ap, ◌∙◌, arith, drop-cons}
use Rattle.std.proofs.Math.Seq.{take-append_seam, drop-append_seam}
use Rattle.std.specs.List.{flat_map}
use Rattle.std.proofs.lemmas.List.{take_more, flat_map_more, length-append}

-- the parts of the rows from here on are that of the first of them, and those of the others
pub parts_from : {X A : Type 0} (f : X → List A) (rows : List X) (i : ℕ) (row : X) → i < length rows → row ≡ get_or rows i row → flat_map f (drop i rows) ≡ f row ++ flat_map f (drop (i + 1) rows)
parts_from f rows i row below is =
    let next : suc i ≡ i + 1 = omega arith in
    ap (flat_map f) (drop-cons rows i row below ∙ (λ j. sym is j ∷ drop (next j) rows))

-- so many of them are those of the first, and the others follow
module _ {X A : Type 0} (f : X → List A) (rows : List X) (i : ℕ) (row : X) (below : i < length rows) (is : row ≡ get_or rows i row) (parts : List A) (all : parts ≡ flat_map f (drop i rows)) (n : ℕ) (many : n ≡ length (f row)) where
  pub parts_fit : n ≤ length parts
  parts_fit =
      let long : length parts ≡ length (f row) + length (flat_map f (drop (i + 1) rows)) = ap length (all ∙ parts_from f rows i row below is) ∙ length-append (f row) (flat_map f (drop (i + 1) rows)) in
      omega (arith, long, many)

  pub parts_first : take n parts ≡ f row
  parts_first = (λ j. take (many j) (all j)) ∙ ap (take (length (f row))) (parts_from f rows i row below is) ∙ take-append_seam (f row) (flat_map f (drop (i + 1) rows))

  pub parts_after : drop n parts ≡ flat_map f (drop (i + 1) rows)
  parts_after = (λ j. drop (many j) (all j)) ∙ ap (drop (length (f row))) (parts_from f rows i row below is) ∙ drop-append_seam (f row) (flat_map f (drop (i + 1) rows))

-- the parts of the first rows, and that of the next row
pub flat_map_next : {X A : Type 0} (f : X → List A) (rows : List X) (i : ℕ) (row : X) → i < length rows → row ≡ get_or rows i row → flat_map f (take i rows) ++ f row ≡ flat_map f (take (i + 1) rows)
flat_map_next f rows i row below is =
    flat_map_more f [] (take i rows) row
    ∙ ap (flat_map f) (sym (take_more rows i row below ∙ ap (λ r. take i rows ++ r ∷ []) (sym is)))
