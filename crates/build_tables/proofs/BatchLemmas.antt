-- The number of the batch of the last row of the feed, and the last moment that is told, from one row to the next.
use Rattle.std.proofs.Common.{◌≡◌, ℕ, ◌+◌, ◌<◌, List, [], ◌∷◌, ◌++◌, length, take, get_or, Option, Some, None, refl, sym, ap, ◌∙◌}
use Rattle.std.specs.Prelude.{option_map, unwrap_or}
use Rattle.std.specs.List.{last_or, filter_map, cons_option}
use Rattle.std.specs.Option.{option_or}
use Rattle.std.proofs.lemmas.List.{take_more, append-nil}
use Rattle.std.proofs.lemmas.List.Elements.{filter_map-append}
use Rattle.desk_units.specs.declared.numbers.Minute.{Minute}
use Rattle.file_rows.specs.declared.disruptions.AltRow.{AltRow}
use Rattle.file_rows.specs.Moments.{moment_in}
use Rattle.build_tables.specs.Batches.{number_of_last, last_moment_in, moment_before}

last_or-push : {A : Type 0} (o : Option A) (xs : List A) (x : A) → last_or o (xs ++ x ∷ []) ≡ Some x
last_or-push o [] x = refl
last_or-push o (y ∷ ys) x = last_or-push (Some y) ys x

-- the first rows, and the next one
pub rows_more : {Row : Type 0} (rows : List Row) (i : ℕ) (row : Row) → i < length rows → row ≡ get_or rows i row → take (i + 1) rows ≡ take i rows ++ row ∷ []
rows_more rows i row below is = take_more rows i row below ∙ ap (λ r. take i rows ++ r ∷ []) (sym is)

-- after one row more, the last number is that of this row
pub number_of_next : (feed : List (ℕ × AltRow)) (i : ℕ) (fed : ℕ × AltRow) → i < length feed → fed ≡ get_or feed i fed → number_of_last (take (i + 1) feed) ≡ Some fed.0
number_of_next feed i fed below is =
    ap number_of_last (rows_more feed i fed below is)
    ∙ ap (option_map (λ (f : ℕ × AltRow). f.0)) (last_or-push None (take i feed) fed)

last_or-more : {A : Type 0} (o : Option A) (xs : List A) (more : Option A) → last_or o (xs ++ cons_option more []) ≡ option_or more (last_or o xs)
last_or-more o xs None = ap (last_or o) (append-nil xs)
last_or-more o xs (Some x) = last_or-push o xs x

-- after one row more, the last moment is that of this row, where it tells one
pub last_moment_more : (feed : List (ℕ × AltRow)) (fed : ℕ × AltRow) → last_moment_in (feed ++ fed ∷ []) ≡ option_or (moment_in fed.1) (last_moment_in feed)
last_moment_more feed fed =
    let tells = λ (f : ℕ × AltRow). moment_in f.1 in
    ap (last_or None) (filter_map-append tells feed (fed ∷ []))
    ∙ last_or-more None (filter_map tells feed) (moment_in fed.1)

unwrap_or-or : {A : Type 0} (a b : Option A) (x : A) → unwrap_or (option_or a b) x ≡ unwrap_or a (unwrap_or b x)
unwrap_or-or None b x = refl
unwrap_or-or (Some y) b x = refl

pub moment_of_next : (opening : Minute) (feed : List (ℕ × AltRow)) (i : ℕ) (fed : ℕ × AltRow) → i < length feed → fed ≡ get_or feed i fed
    → moment_before opening (take (i + 1) feed) ≡ unwrap_or (moment_in fed.1) (moment_before opening (take i feed))
moment_of_next opening feed i fed below is =
    ap (moment_before opening) (rows_more feed i fed below is)
    ∙ ap (λ o. unwrap_or o opening) (last_moment_more (take i feed) fed)
    ∙ unwrap_or-or (moment_in fed.1) (last_moment_in (take i feed)) opening
