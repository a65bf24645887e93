-- What stands inside an instance, and the day that it shows.
use Rattle.std.specs.Prelude.{List, [], ◌∷◌, map}
use Rattle.desk_units.specs.declared.tariff.TariffRow.{TariffRow}
use Rattle.desk_data.specs.declared.booked.Booked.{Booked}
use Rattle.desk_data.specs.declared.left.Left.{Left}
use Rattle.desk_data.specs.declared.news.News.{News}
use Rattle.desk_data.specs.declared.parts.Parts.{Parts}
use Rattle.desk_data.specs.declared.tally.Tally.{Tally}
use Rattle.desk_data.specs.declared.tally.Tally.TheVariants.{One, Several}
use Rattle.desk_data.specs.Keeps.{Keeps, KeepsLeft, KeepsSpans, KeepsRows}
use Rattle.desk_data.specs.Situation.{PassengersGone, Progress, Situation}
use Rattle.desk_data.specs.Valid.{IsValid}

-- the entries of a reservation: one alone stands by itself
abbrev pub entries_in : Tally → List PassengersGone
entries_in (One entry) = entry ∷ []
entries_in (Several entries) = entries.items

-- how far the day has gone on
abbrev pub progress_of : Left → Progress
progress_of left = record { now = left.now; frozen = left.frozen.items; tally = map entries_in left.tally.items }

-- the day
abbrev pub day_of : Parts → News → Left → Situation
day_of parts news left = record { parts = parts; orders = news.orders.items; progress = progress_of left }

-- what is kept of the orders, and of the spans out of service as they are left
pub record KeepsNews (I : Situation) (news : News) : Type 0 where
  pub said : Keeps I news.kept
  pub out : KeepsSpans I (map (λ of_one. of_one.items) news.spans.items)

-- the day is valid, and all that is kept agrees with it
pub record IsWhole (I : Situation) (news : News) (left : Left) (prices : List TariffRow) (bookings : List Booked) : Type 0 where
  pub valid : IsValid I
  pub news_kept : KeepsNews I news
  pub left_kept : KeepsLeft I left.departures left.arrivals left.landings.items
  pub booked : KeepsRows I prices bookings
