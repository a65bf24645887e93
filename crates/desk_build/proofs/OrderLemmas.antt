-- The orders of the day are about its legs, aircraft and airports.
use Rattle.std.proofs.Common.{◌≡◌, ℕ, ◌+◌, ◌<◌, ◌≤◌, List, [], ◌∷◌, ◌++◌, length, take, get_or, Option, Some, None, refl, sym, ap, subst, arith, ◌∙◌, All}
use Rattle.std.specs.List.{filter_map, range_with_len, cons_option, last_or}
use Rattle.std.specs.Option.{ForSome}
use Rattle.std.proofs.lemmas.List.{length-map}
use Rattle.std.proofs.lemmas.List.FromFn.{length-map-range_with_len}
use Rattle.std.proofs.lemmas.List.Elements.{All-nil, All-cons, All-head, All-tail, All-map, All-append, All-filter, filter_map-append}
use Rattle.desk_units.specs.declared.numbers.Minute.{Minute}
use Rattle.day_orders.specs.declared.orders.Order.{Order}
use Rattle.day_orders.specs.declared.orders.Order.TheVariants as order
use Rattle.desk_data.specs.Valid.{IsOrder, IsBatch}
use Rattle.file_rows.specs.declared.disruptions.AltRow.{AltRow}
use Rattle.file_rows.specs.declared.disruptions.AltRow.TheVariants as alt
use Rattle.file_rows.specs.Facts.{IsAlt}
use Rattle.file_rows.specs.Limits.{most_batches}
use Rattle.file_rows.specs.Moments.{moment_in}
use Rattle.build_tables.specs.declared.files.Files.{Files}
use Rattle.build_tables.specs.Facts.{AreFileRows}
use Rattle.build_tables.specs.Fitting.{AreFew, IsAboutKnown, FitTogether}
use Rattle.build_tables.specs.Batches.{last_batch}
use Rattle.build_tables.proofs.BatchLemmas.{rows_more}
use Rattle.desk_build.specs.Legs.{airport_of, leg_at, leg_of}
use Rattle.desk_build.specs.Day.{airport_info, plane_info, parts_of}
use Rattle.desk_build.specs.Batches.{plane_of, order_of, orders_of, opening_orders, rows_in_batch, orders_in_batch, moment_of_batch, batch_with, batch_in, batches_of}
use Rattle.desk_build.proofs.FoundLemmas.{known_within}

-- the orders of one row more
pub orders_more : {Row : Type 0} (f : Row → Option Order) (rows : List Row) (i : ℕ) (row : Row) → i < length rows → row ≡ get_or rows i row → filter_map f (take i rows) ++ filter_map f (row ∷ []) ≡ filter_map f (take (i + 1) rows)
orders_more f rows i row below is = sym (ap (filter_map f) (rows_more rows i row below is) ∙ filter_map-append f (take i rows) (row ∷ []))

-- what holds of what each row gives holds of all that is given
given_by : {Y : Type 0} (Q : Y → Type 0) (o : Option Y) (rest : List Y) → ((y : Y) → o ≡ Some y → Q y) → All Q rest → All Q (cons_option o rest)
given_by Q None rest one more = more
given_by Q (Some y) rest one more = All-cons Q y rest (one y refl) more

all_given : {Row Y : Type 0} (P : Row → Type 0) (Q : Y → Type 0) (f : Row → Option Y) → ((row : Row) (y : Y) → P row → f row ≡ Some y → Q y) → (rows : List Row) → All P rows → All Q (filter_map f rows)
all_given P Q f each [] h = All-nil Q
all_given P Q f each (row ∷ rows) h = given_by Q (f row) (filter_map f rows) (λ y e. each row y (All-head P row rows h) e) (all_given P Q f each rows (All-tail P row rows h))

-- what holds of each holds of the last
last_good : {Y : Type 0} (Q : Y → Type 0) (o : Option Y) (items : List Y) → ForSome o Q → All Q items → ForSome (last_or o items) Q
last_good Q o [] some each = some
last_good Q o (y ∷ items) some each = last_good Q (Some y) items (λ v is. let same : y ≡ v = cc in subst Q same (All-head Q y items each)) (All-tail Q y items each)

-- batch 0, and the batches of the feed
pub few_batches : (x : Files) → AreFew x → length (batches_of x) ≤ most_batches + 1
unfolding batches_of
few_batches x few = omega (arith, few.batches, length-map-range_with_len (batch_in x x.feed) 1 (last_batch x.feed))

-- a row whose names are known and whose numbers are in their ranges
abbrev IsGood : Files → AltRow → Type 0
IsGood x row = IsAboutKnown x row × IsAlt row

is_order : (x : Files) (row : AltRow) (y : Order) → IsGood x row → order_of x row ≡ Some y → IsOrder (parts_of x) y
unfolding parts_of
is_order x (alt.Flight line flight day delay) y good e =
    let same : order.Flight (leg_at x.rotations flight day) delay ≡ y = cc in
    subst (IsOrder (parts_of x)) same (rw (length-map x.rotations (leg_of x)) (known_within _ x.rotations good.0), good.1.1)
is_order x (alt.Aircraft line aircraft from to) y good e =
    let same : order.Aircraft (plane_of x.aircraft aircraft) from to ≡ y = cc in
    subst (IsOrder (parts_of x)) same (rw (length-map x.aircraft (plane_info x)) (known_within _ x.aircraft good.0))
is_order x (alt.Field line airport from to deps arrs) y good e =
    let same : order.Field (airport_of x.airports airport) from to deps arrs ≡ y = cc in
    subst (IsOrder (parts_of x)) same (rw (length-map x.airports airport_info) (known_within _ x.airports good.0))
is_order x (alt.Nothing line) y good e = absurd cc
is_order x (alt.At line at) y good e = absurd cc

module _ (x : Files) (rows : AreFileRows x) (fit : FitTogether x) where
  are_orders : (alts : List AltRow) → All IsAlt alts → All (IsAboutKnown x) alts → All (IsOrder (parts_of x)) (orders_of x alts)
  are_orders alts alt known = all_given (IsGood x) (IsOrder (parts_of x)) (order_of x) (is_order x) alts (λ k d below. (known k d below, alt k d below))

  opening_good : All (IsOrder (parts_of x)) (opening_orders x)
  opening_good = All-append (IsOrder (parts_of x)) _ _ (are_orders x.alt_flights rows.alt_flights fit.alt_flights)
      (All-append (IsOrder (parts_of x)) _ _ (are_orders x.alt_aircraft rows.alt_aircraft fit.alt_aircraft) (are_orders x.alt_airports rows.alt_airports fit.alt_airports))

  feed_good : All (λ fed. IsGood x fed.1) x.feed
  feed_good = λ k d below. (fit.feed k d below, (rows.feed k d below).row)

  batch_good : (k : ℕ) → All (IsOrder (parts_of x)) (orders_in_batch x x.feed k)
  batch_good k = all_given (λ (fed : ℕ × AltRow). IsGood x fed.1) (IsOrder (parts_of x)) (λ (fed : ℕ × AltRow). order_of x fed.1) (λ fed y. is_order x fed.1 y) (rows_in_batch x.feed k) (All-filter _ (λ (fed : ℕ × AltRow). IsGood x fed.1) x.feed feed_good)

  -- a moment that a batch may have
  abbrev IsSoon : Minute → Type 0
  IsSoon at = at.0 ≤ 52480000

  feed_soon : All (λ fed. ForSome (moment_in fed.1) IsSoon) x.feed
  feed_soon = λ k d below at is. (fit.moments k d below at is).most

  moment_soon : (k : ℕ) → ForSome (moment_of_batch x.feed k) IsSoon
  moment_soon k = last_good IsSoon None (filter_map (λ (fed : ℕ × AltRow). moment_in fed.1) (rows_in_batch x.feed k)) (λ at is. absurd cc)
      (all_given (λ (fed : ℕ × AltRow). ForSome (moment_in fed.1) IsSoon) IsSoon (λ (fed : ℕ × AltRow). moment_in fed.1) (λ fed at soon is. soon at is) (rows_in_batch x.feed k) (All-filter _ (λ (fed : ℕ × AltRow). ForSome (moment_in fed.1) IsSoon) x.feed feed_soon))

  batch_of : (at : Option Minute) (orders : List Order) → ForSome at IsSoon → All (IsOrder (parts_of x)) orders → IsBatch (parts_of x) (batch_with at orders)
  batch_of at orders soon good = record { orders = good; at = soon }

  pub batches_good : All (IsBatch (parts_of x)) (batches_of x)
  unfolding batches_of
  batches_good = All-cons (IsBatch (parts_of x)) (batch_with None (opening_orders x)) _ (batch_of _ _ (λ at is. absurd cc) opening_good)
      (All-map (IsBatch (parts_of x)) (batch_in x x.feed) (range_with_len 1 (last_batch x.feed)) (λ k d below. batch_of _ _ (moment_soon _) (batch_good _)))
