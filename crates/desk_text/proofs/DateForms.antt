-- A date of eight bytes, dd/mm/yy.
use Rattle.std.proofs.Common.{◌≡◌, ℕ, ◌+◌, ◌<◌, ◌≤◌, Bool, true, false, cond, not, eqb, leb, ltb, ◌&&◌, List, [], ◌∷◌, length, get_or, Option, Some, None, refl, sym, ap, ◌∙◌, arith, position}
use Rattle.std.specs.List.{position_or_len}
use Rattle.std.specs.Char.{is_ascii_digit}
use Rattle.std.proofs.lemmas.Bool.{and_parts, leb-true, ne_eqb, cond-true, lt-ltb}
use Rattle.desk_text.specs.Cuts.{cut}
use Rattle.desk_text.specs.Days.{day_of}
use Rattle.desk_text.specs.Fields.{◌>>=◌, only_if, digits_of, year_from, day_from}
use Rattle.desk_text.proofs.CutLemmas.{cut_at_place}

no_slash : (byte : ℕ) → is_ascii_digit byte ≡ true → eqb byte 47 ≡ false
no_slash byte digit = let low = leb-true 48 byte (and_parts (leb 48 byte) (leb byte 57) digit).0 in ne_eqb byte 47 (λ is. absurd (omega (arith, is, low)))

both_by : (a b : Bool) (value n : ℕ) → only_if (a && (b && true)) value ≡ Some n → (a ≡ true) × (b ≡ true)
both_by true true value n e = (refl, refl)
both_by true false value n e = absurd cc
both_by false b value n e = absurd cc

both_digits : (a b n : ℕ) → digits_of 2 (a ∷ b ∷ []) ≡ Some n → (is_ascii_digit a ≡ true) × (is_ascii_digit b ≡ true)
unfolding digits_of
both_digits a b n e = both_by (is_ascii_digit a) (is_ascii_digit b) _ n e

-- two bytes before a slash
cut_two : (a b : ℕ) (rest : List ℕ) → eqb a 47 ≡ false → eqb b 47 ≡ false → cut 47 (a ∷ b ∷ 47 ∷ rest) ≡ Some (a ∷ b ∷ [], rest)
cut_two a b rest no_a no_b =
    let bytes = a ∷ b ∷ 47 ∷ rest in
    let two : position_or_len (λ byte. eqb byte 47) bytes ≡ 2 = ap (λ t. cond (not t) (1 + cond (not (eqb b 47)) (1 + 0) 0) 0) no_a ∙ ap (λ t. 1 + cond (not t) (1 + 0) 0) no_b in
    let place : position (λ byte. eqb byte 47) bytes ≡ Some 2 = ap (λ n. cond (ltb n (length bytes)) (Some n) None) two ∙ cond-true (ltb 2 (length bytes)) (Some 2) None (lt-ltb 2 (length bytes) (omega arith)) in
    sym (cut_at_place (λ byte. eqb byte 47) 2 bytes (a ∷ b ∷ []) rest (sym place) refl refl)

two_of_four : (e f n : ℕ) → digits_of 2 (e ∷ f ∷ []) ≡ Some n → year_from (e ∷ f ∷ []) ≡ Some n
unfolding year_from digits_of
two_of_four e f n is = by_value (only_if (is_ascii_digit e && (is_ascii_digit f && true)) _) is
  where
    by_value : (o : Option ℕ) → o ≡ Some n → (o >>= λ m. Some m) ≡ Some n
    by_value o e = ap (λ r. r >>= λ m. Some m) e

-- the day of a date of eight bytes
pub day_of_eight : (a b c d e f day month year : ℕ) → digits_of 2 (a ∷ b ∷ []) ≡ Some day → digits_of 2 (c ∷ d ∷ []) ≡ Some month → digits_of 2 (e ∷ f ∷ []) ≡ Some year → day_from (a ∷ b ∷ 47 ∷ c ∷ d ∷ 47 ∷ e ∷ f ∷ []) ≡ day_of day month year
unfolding day_from
day_of_eight a b c d e f day month year is_day is_month is_year =
    let first = both_digits a b day is_day in
    let second = both_digits c d month is_month in
    rw (cut_two a b (c ∷ d ∷ 47 ∷ e ∷ f ∷ []) (no_slash a first.0) (no_slash b first.1), cut_two c d (e ∷ f ∷ []) (no_slash c second.0) (no_slash d second.1), is_day, is_month, two_of_four e f year is_year) refl

-- the same of any eight bytes with two slashes among them
pub day_of_eight_bytes : (bytes : List ℕ) (day month year : ℕ) → 8 ≤ length bytes → length bytes < 9 → get_or bytes 2 0 ≡ 47 → get_or bytes 5 0 ≡ 47
    → Some day ≡ digits_of 2 (get_or bytes 0 0 ∷ get_or bytes 1 0 ∷ []) → Some month ≡ digits_of 2 (get_or bytes 3 0 ∷ get_or bytes 4 0 ∷ []) → Some year ≡ digits_of 2 (get_or bytes 6 0 ∷ get_or bytes 7 0 ∷ [])
    → day_from bytes ≡ day_of day month year
day_of_eight_bytes (a ∷ b ∷ s ∷ c ∷ d ∷ t ∷ e ∷ f ∷ []) day month year least most first second is_day is_month is_year =
    (λ i. day_from (a ∷ b ∷ first i ∷ c ∷ d ∷ second i ∷ e ∷ f ∷ [])) ∙ day_of_eight a b c d e f day month year (sym is_day) (sym is_month) (sym is_year)
day_of_eight_bytes (a ∷ b ∷ s ∷ c ∷ d ∷ t ∷ e ∷ f ∷ g ∷ bytes) day month year least most first second is_day is_month is_year = absurd (omega (arith, most))
day_of_eight_bytes (a ∷ b ∷ s ∷ c ∷ d ∷ t ∷ e ∷ []) day month year least most first second is_day is_month is_year = absurd (omega (arith, least))
day_of_eight_bytes (a ∷ b ∷ s ∷ c ∷ d ∷ t ∷ []) day month year least most first second is_day is_month is_year = absurd (omega (arith, least))
day_of_eight_bytes (a ∷ b ∷ s ∷ c ∷ d ∷ []) day month year least most first second is_day is_month is_year = absurd (omega (arith, least))
day_of_eight_bytes (a ∷ b ∷ s ∷ c ∷ []) day month year least most first second is_day is_month is_year = absurd (omega (arith, least))
day_of_eight_bytes (a ∷ b ∷ s ∷ []) day month year least most first second is_day is_month is_year = absurd (omega (arith, least))
day_of_eight_bytes (a ∷ b ∷ []) day month year least most first second is_day is_month is_year = absurd (omega (arith, least))
day_of_eight_bytes (a ∷ []) day month year least most first second is_day is_month is_year = absurd (omega (arith, least))
day_of_eight_bytes [] day month year least most first second is_day is_month is_year = absurd (omega (arith, least))
