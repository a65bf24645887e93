-- Numbers, dates, times and names, as they are written, are read.
use Rattle.std.proofs.Common.{◌≡◌, ℕ, zero, suc, ◌+◌, ◌-◌, ◌*◌, ◌/◌, ◌%◌, ◌^◌, ◌<◌, ◌≤◌, Bool, true, false, cond, ◌&&◌, eqb, leb, ltb, List, [], ◌∷◌, ◌++◌, length, get_or, Option, Some, None, Ok, Err, refl, ap, ◌∙◌, arith, length-append}
use Rattle.std.specs.Prelude.{codes, decimal, fold, ok_or}
use Rattle.std.specs.List.{list_all}
use Rattle.std.specs.Char.{is_ascii_digit}
use Rattle.std.proofs.lemmas.Bool.{le-leb, leb-true, lt-ltb, and_from, and_parts, ne_eqb}
use Rattle.std.proofs.lemmas.Fmt.{decimal_by_steps, length-decimal-le}
use Rattle.std.proofs.lemmas.List.Folds.{list_all-append}
use Rattle.desk_units.specs.Padded.{IsNameLength}
use Rattle.file_rows.specs.declared.cause.Cause.TheVariants.{Date, Size, Time}
use Rattle.desk_text.specs.Days.{day_of, is_leap, month_lengths}
use Rattle.desk_text.specs.Texts.{two_digits, date_text, time_text, year_of, month_of, day_in_month}
use Rattle.desk_text.specs.Seen.{is_seen}
use Rattle.desk_text.specs.Fields.{◌>>=◌, only_if, name_of, decimal_value, digits_of, number_from, number_of, year_from, day_from, date_of, minutes_and_days, minute_from, time_of}
use Rattle.desk_text.specs.Moments.{minute_of}
use Rattle.desk_text.proofs.DateLemmas.{reads_back, two_digit_year}

-- ---- digits

-- a digit as it is written
digit_is : (d : ℕ) → d < 10 → is_ascii_digit (48 + d) ≡ true
digit_is d lt = and_from _ _ (le-leb 48 (48 + d) (omega arith)) (le-leb (48 + d) 57 (omega arith))

fold_push : (n : ℕ) (xs : List ℕ) (d : ℕ) → fold (λ n digit. 10 * n + (digit - 48)) n (xs ++ d ∷ []) ≡ 10 * fold (λ n digit. 10 * n + (digit - 48)) n xs + (d - 48)
fold_push n [] d = refl
fold_push n (x ∷ xs) d = fold_push (10 * n + (x - 48)) xs d

-- digits that spell a number
pub record AreDigitsOf (n : ℕ) (ds : List ℕ) : Type 0 where
  pub digits : list_all is_ascii_digit ds ≡ true
  pub value : decimal_value ds ≡ n
  pub some : 1 ≤ length ds

one_digit : (n : ℕ) → n < 10 → AreDigitsOf n ((48 + n) ∷ [])
one_digit n lt = record {
  digits = and_from _ _ (digit_is n lt) refl;
  value = omega arith;
  some = omega arith;
}

more_digits : (n : ℕ) (ds : List ℕ) → 10 ≤ n → AreDigitsOf (n / 10) ds → AreDigitsOf n (ds ++ ((48 + n % 10) ∷ []))
more_digits n ds le h = record {
  digits = list_all-append is_ascii_digit ds ((48 + n % 10) ∷ []) ∙ and_from _ _ h.digits (and_from _ _ (digit_is (n % 10) (omega arith)) refl);
  value = omega (arith, fold_push 0 ds (48 + n % 10), h.value);
  some = omega (arith, length-append ds ((48 + n % 10) ∷ []));
}

pub decimal_digits : (n : ℕ) → n < 2 ^ 64 → AreDigitsOf n (decimal n)
decimal_digits n lt = decimal_by_steps AreDigitsOf one_digit more_digits n lt

-- so many digits at most
digits_back : (longest n : ℕ) (ds : List ℕ) → AreDigitsOf n ds → length ds ≤ longest → digits_of longest ds ≡ Some n
unfolding digits_of
digits_back longest n ds h short =
    let test : ((leb 1 (length ds) && leb (length ds) longest) && list_all is_ascii_digit ds) ≡ true = and_from _ _ (and_from _ _ (le-leb 1 (length ds) h.some) (le-leb (length ds) longest short)) h.digits in
    rw test (ap Some h.value)

-- a number in its range
pub number_back : (low high n : ℕ) → low ≤ n → n ≤ high → high < 1000000000 → number_of low high (decimal n) ≡ Ok n
unfolding number_from
number_back low high n from to small =
    let is = digits_back 9 n (decimal n) (decimal_digits n (omega arith)) (length-decimal-le 9 n (omega arith) (omega arith) (omega arith)) in
    let test : (leb low n && leb n high) ≡ true = and_from _ _ (le-leb low n from) (le-leb n high to) in
    rw (is, test) refl

-- ---- two digits

two_are : (n : ℕ) → n < 100 → AreDigitsOf n (two_digits n)
two_are n lt = record {
  digits = and_from _ _ (digit_is (n / 10) (omega arith)) (and_from _ _ (digit_is (n % 10) (omega arith)) refl);
  value = omega arith;
  some = omega arith;
}

two_back : (longest n : ℕ) → n < 100 → 2 ≤ longest → digits_of longest (two_digits n) ≡ Some n
two_back longest n lt le = digits_back longest n (two_digits n) (two_are n lt) le

not_byte : (d b : ℕ) → b < 48 → eqb (48 + d) b ≡ false
not_byte d b lt = ne_eqb (48 + d) b (λ e. omega (arith, e))

not_later : (d b : ℕ) → d < 10 → 58 ≤ b → eqb (48 + d) b ≡ false
not_later d b lt le = ne_eqb (48 + d) b (λ e. omega (arith, e))

-- ---- bytes that can be seen

digits_seen : (ds : List ℕ) → list_all is_ascii_digit ds ≡ true → is_seen ds ≡ true
digits_seen [] h = refl
digits_seen (d ∷ ds) h =
    let both = and_parts _ _ h in
    let range = and_parts _ _ both.0 in
    let low : 48 ≤ d = leb-true 48 d range.0 in
    let high : d ≤ 57 = leb-true d 57 range.1 in
    and_from _ _ (and_from _ _ (le-leb 33 d (omega arith)) (le-leb d 126 (omega arith))) (digits_seen ds both.1)

seen_both : (a b : List ℕ) → is_seen a ≡ true → is_seen b ≡ true → is_seen (a ++ b) ≡ true
seen_both a b ha hb = list_all-append (λ byte. leb 33 byte && leb byte 126) a b ∙ and_from _ _ ha hb

pub decimal_some : (n : ℕ) → n < 2 ^ 64 → 1 ≤ length (decimal n)
decimal_some n lt = (decimal_digits n lt).some

pub decimal_seen : (n : ℕ) → n < 2 ^ 64 → is_seen (decimal n) ≡ true
decimal_seen n lt = digits_seen (decimal n) (decimal_digits n lt).digits

two_seen : (n : ℕ) → n < 100 → is_seen (two_digits n) ≡ true
two_seen n lt = digits_seen (two_digits n) (two_are n lt).digits

-- ---- dates

year_back : (year : ℕ) → year < 100 → year_from (two_digits year) ≡ Some year
unfolding year_from
year_back year lt = rw (two_back 4 year lt (omega arith)) refl

cond_true : {X : Type 0} (test : Bool) (x y : X) → cond test (Some x) None ≡ Some y → test ≡ true
cond_true true x y e = refl
cond_true false x y e = absurd cc

at_most : (xs : List ℕ) (k : ℕ) → list_all (λ n. leb n 31) xs ≡ true → get_or xs k 0 ≤ 31
at_most [] k h = omega arith
at_most (x ∷ xs) zero h = leb-true x 31 (and_parts _ _ h).0
at_most (x ∷ xs) (suc k) h = at_most xs k (and_parts _ _ h).1

month_lengths_most : (leap : Bool) → list_all (λ n. leb n 31) (month_lengths leap) ≡ true
unfolding month_lengths
month_lengths_most true = refl
month_lengths_most false = refl

small_parts : (day month year n : ℕ) → day_of day month year ≡ Some n → (day < 100) × (month < 100)
unfolding day_of
small_parts day month year n e =
    let tests = and_parts _ _ (cond_true _ _ n e) in
    let month_is = leb-true month 12 (and_parts _ _ tests.0).1 in
    let day_is = leb-true day (get_or (month_lengths (is_leap year)) (month - 1) 0) (and_parts _ _ tests.1).1 in
    (omega (arith, day_is, at_most (month_lengths (is_leap year)) (month - 1) (month_lengths_most (is_leap year))), omega (arith, month_is))

day_cut : (a b c d e f : ℕ) → eqb a 47 ≡ false → eqb b 47 ≡ false → eqb c 47 ≡ false → eqb d 47 ≡ false
    → day_from (a ∷ b ∷ 47 ∷ c ∷ d ∷ 47 ∷ e ∷ f ∷ []) ≡ (digits_of 2 (a ∷ b ∷ []) >>= λ day. digits_of 2 (c ∷ d ∷ []) >>= λ month. year_from (e ∷ f ∷ []) >>= λ year. day_of day month year)
unfolding day_from
day_cut a b c d e f ha hb hc hd = rw (ha, hb, hc, hd) refl

pub date_back : (day : ℕ) → day < 36525 → date_of (date_text day) ≡ Ok day
unfolding date_text
date_back day lt =
    let small = small_parts (day_in_month day) (month_of day) (year_of day) day (reads_back day lt) in
    let cut = day_cut (48 + day_in_month day / 10) (48 + day_in_month day % 10) (48 + month_of day / 10) (48 + month_of day % 10) (48 + year_of day / 10) (48 + year_of day % 10)
    (not_byte (day_in_month day / 10) 47 (omega arith)) (not_byte (day_in_month day % 10) 47 (omega arith)) (not_byte (month_of day / 10) 47 (omega arith)) (not_byte (month_of day % 10) 47 (omega arith)) in
    let parts : (digits_of 2 (two_digits (day_in_month day)) >>= λ d. digits_of 2 (two_digits (month_of day)) >>= λ m. year_from (two_digits (year_of day)) >>= λ y. day_of d m y) ≡ Some day =
    rw (two_back 2 (day_in_month day) small.0 (omega arith), two_back 2 (month_of day) small.1 (omega arith), year_back (year_of day) (two_digit_year day lt)) (reads_back day lt) in
    ap (λ (o : Option ℕ). ok_or o Date) (cut ∙ parts)

pub date_some : (day : ℕ) → 1 ≤ length (date_text day)
unfolding date_text
date_some day = omega arith

pub date_seen : (day : ℕ) → day < 36525 → is_seen (date_text day) ≡ true
unfolding date_text
date_seen day lt =
    let small = small_parts (day_in_month day) (month_of day) (year_of day) day (reads_back day lt) in
    let year = seen_both (codes "/") (two_digits (year_of day)) refl (two_seen (year_of day) (two_digit_year day lt)) in
    let month = seen_both (codes "/") (two_digits (month_of day) ++ codes "/" ++ two_digits (year_of day)) refl (seen_both (two_digits (month_of day)) (codes "/" ++ two_digits (year_of day)) (two_seen (month_of day) small.1) year) in
    seen_both (two_digits (day_in_month day)) (codes "/" ++ two_digits (month_of day) ++ codes "/" ++ two_digits (year_of day)) (two_seen (day_in_month day) small.0) month

-- ---- times

minutes_back : (a b n : ℕ) → is_ascii_digit a ≡ true → is_ascii_digit b ≡ true → 10 * (a - 48) + (b - 48) ≡ n → n < 60 → minutes_and_days (a ∷ b ∷ []) ≡ Some (n, None)
unfolding minutes_and_days
minutes_back a b n ha hb value lt = rw (ha, hb, value, lt-ltb n 60 lt) refl

time_cut : (a b c d : ℕ) → eqb a 58 ≡ false → eqb b 58 ≡ false
    → minute_from (a ∷ b ∷ 58 ∷ c ∷ d ∷ []) ≡ (digits_of 2 (a ∷ b ∷ []) >>= λ hours. minutes_and_days (c ∷ d ∷ []) >>= λ later. only_if (ltb hours 24) (60 * hours + later.0, later.1))
unfolding minute_from
time_cut a b c d ha hb = rw (ha, hb) refl

pub time_back : (minute : ℕ) → minute < 1440 → minute_of (time_text minute) ≡ Ok minute
unfolding time_text minute_of
time_back minute lt =
    let h = minute / 60 in
    let m = minute % 60 in
    let cut = time_cut (48 + h / 10) (48 + h % 10) (48 + m / 10) (48 + m % 10) (not_later (h / 10) 58 (omega arith) (omega arith)) (not_later (h % 10) 58 (omega arith) (omega arith)) in
    let later = minutes_back (48 + m / 10) (48 + m % 10) m (digit_is (m / 10) (omega arith)) (digit_is (m % 10) (omega arith)) (omega arith) (omega arith) in
    let parts : (digits_of 2 (two_digits h) >>= λ hours. minutes_and_days (two_digits m) >>= λ later. only_if (ltb hours 24) (60 * hours + later.0, later.1)) ≡ Some (60 * h + m, None) =
    rw (two_back 2 h (omega arith) (omega arith), later, lt-ltb h 24 (omega arith)) refl in
    let whole : 60 * h + m ≡ minute = omega arith in
    let time : time_of (time_text minute) ≡ Ok (60 * h + m, None) = ap (λ (o : Option (ℕ × Option ℕ)). ok_or o Time) (cut ∙ parts) in
    rw time (ap (λ (n : ℕ). Ok n) whole)

pub time_some : (minute : ℕ) → 1 ≤ length (time_text minute)
unfolding time_text
time_some minute = omega arith

pub time_seen : (minute : ℕ) → minute < 1440 → is_seen (time_text minute) ≡ true
unfolding time_text
time_seen minute lt =
    seen_both (two_digits (minute / 60)) (codes ":" ++ two_digits (minute % 60)) (two_seen (minute / 60) (omega arith))
    (seen_both (codes ":") (two_digits (minute % 60)) refl (two_seen (minute % 60) (omega arith)))

-- ---- names

pub name_back : (name : List ℕ) → IsNameLength (length name) → name_of name ≡ Ok name
name_back name size = ap (λ t. cond t (Ok name) (Err Size)) (and_from (leb 1 (length name)) (leb (length name) 32) (le-leb 1 (length name) size.least) (le-leb (length name) 32 size.most))
