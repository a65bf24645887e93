-- Written numbers, days and times are fields, and written moments read back.
use Rattle.std.proofs.Common.{◌≡◌, ℕ, ◌+◌, ◌*◌, ◌/◌, ◌%◌, ◌<◌, ◌≤◌, Ok, ap, arith}
use Rattle.std.specs.Prelude.{decimal}
use Rattle.desk_units.specs.declared.numbers.Minute.{Minute}
use Rattle.desk_text.specs.Texts.{date_text, time_text}
use Rattle.desk_text.specs.Moments.{moment_of}
use Rattle.desk_top.proofs.Spelled.{date_back, time_back, decimal_some, decimal_seen, date_some, date_seen, time_some, time_seen}
use Rattle.desk_top.proofs.TextLemmas.{IsField, seen_from}

pub number_field : (n : ℕ) → n ≤ 1000 → IsField (decimal n)
number_field n most = record { some = decimal_some n (omega (arith, most)); seen = seen_from (decimal n) (decimal_seen n (omega (arith, most))) }

pub date_field : (day : ℕ) → day < 36525 → IsField (date_text day)
date_field day lt = record { some = date_some day; seen = seen_from (date_text day) (date_seen day lt) }

pub time_field : (minute : ℕ) → minute < 1440 → IsField (time_text minute)
time_field minute lt = record { some = time_some minute; seen = seen_from (time_text minute) (time_seen minute lt) }

pub moment_back : (at : ℕ) → at < 52596000 → moment_of (date_text (at / 1440)) (time_text (at % 1440)) ≡ Ok (record { 0 = at })
unfolding moment_of
moment_back at lt =
    let whole : 1440 * (at / 1440) + at % 1440 ≡ at = omega arith in
    rw (date_back (at / 1440) (omega (arith, lt))) (rw (time_back (at % 1440) (omega arith)) (ap (λ n. let moment : Minute = record { 0 = n } in Ok moment) whole))
