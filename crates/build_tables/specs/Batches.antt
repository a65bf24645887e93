-- The batches of the feed, by the numbers and the moments of its rows.
use Rattle.std.specs.Prelude.{ℕ, List, Option, None, option_map, unwrap_or}
use Rattle.std.specs.List.{last_or, filter_map}
use Rattle.desk_units.specs.declared.numbers.Minute.{Minute}
use Rattle.file_rows.specs.declared.disruptions.AltRow.{AltRow}
use Rattle.file_rows.specs.Moments.{moment_in}

-- the number of the batch of the last of these rows, where there is one
abbrev pub number_of_last : List (ℕ × AltRow) → Option ℕ
number_of_last feed = option_map (λ fed. fed.0) (last_or None feed)

-- the number of the last batch, 0 where there is none
abbrev pub last_batch : List (ℕ × AltRow) → ℕ
last_batch feed = unwrap_or (number_of_last feed) 0

-- the moment that the last of these rows tells that tells one
abbrev pub last_moment_in : List (ℕ × AltRow) → Option Minute
last_moment_in feed = last_or None (filter_map (λ fed. moment_in fed.1) feed)

-- the moment of the batch before, after these rows of the feed: the last moment that one of them tells, and where none does that of the opening
abbrev pub moment_before : Minute → List (ℕ × AltRow) → Minute
moment_before opening feed = unwrap_or (last_moment_in feed) opening
