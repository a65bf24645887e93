-- Why a row of feed.csv is refused.
use Rattle.std.specs.Prelude.{ℕ, ◌+◌, Bool, false, not, ◌&&◌, ◌||◌, ◌==◌, List, take, Option, Some, None, nat_lt, nat_le, if◌then◌else◌}
use Rattle.std.specs.List.{count_by}
use Rattle.std.specs.Option.{option_map_or, option_or}
use Rattle.desk_units.specs.declared.numbers.Minute.{Minute}
use Rattle.file_rows.specs.declared.cause.Cause.{Cause}
use Rattle.file_rows.specs.declared.cause.Cause.TheVariants.{Batch, Limit, BadWindow}
use Rattle.file_rows.specs.declared.disruptions.AltRow.{AltRow}
use Rattle.file_rows.specs.Limits.{most_batches, latest_moment}
use Rattle.file_rows.specs.Moments.{moment_in}
use Rattle.build_tables.specs.declared.files.Files.{Files}
use Rattle.build_tables.specs.Batches.{number_of_last, moment_before}
use Rattle.build_refusals.specs.Orders.{is_order, order_cause}

-- whether a batch comes in turn: the first row is of batch 1, and each other of the batch of the row before it or of the next one
abbrev pub is_in_turn : Option ℕ → ℕ → Bool
is_in_turn None number = number == 1
is_in_turn (Some before) number = number == before || (number == before + 1)

-- whether the row before, where there is one, is of this batch too
abbrev pub is_begun : Option ℕ → ℕ → Bool
is_begun before number = option_map_or (λ last. last == number) before false

-- the moment of a batch stands behind another row of it, is past the latest one, or is before that of the batch before
unfoldable pub moment_cause : Option ℕ → Minute → ℕ → Minute → Option Cause
moment_cause before earlier number at =
    if is_begun before number then Some Batch
    else (if nat_lt latest_moment at.0 then Some Limit
    else (if nat_lt at.0 earlier.0 then Some BadWindow
    else None))

-- what is refused of the moment of a row, where it tells one
abbrev pub told_cause : Option ℕ → Minute → ℕ × AltRow → Option Cause
told_cause before earlier fed = option_map_or (moment_cause before earlier fed.0) (moment_in fed.1) None

-- a batch out of turn or past the limit, then what is refused of a moment, and then what is refused of any order
unfoldable pub fed_cause : Files → Option ℕ → Minute → Bool → ℕ × AltRow → Option Cause
fed_cause x before earlier full fed =
    if not (is_in_turn before fed.0 && nat_le fed.0 most_batches) then Some Batch
    else option_or (told_cause before earlier fed) (order_cause x full fed.1)

-- the cause of a row of the feed, in which so many orders may come; the moment of the opening is the window's start
abbrev pub feed_cause : Files → ℕ → List (ℕ × AltRow) → ℕ → ℕ × AltRow → Option Cause
feed_cause x room rows n fed = fed_cause x (number_of_last (take n rows)) (moment_before x.config.from (take n rows)) (nat_le room (count_by (λ f. is_order f.1) (take n rows))) fed
