-- What stands inside an instance agrees with its day, before any batch and after each.
use Rattle.std.proofs.Common.{◌≡◌, ℕ, ◌<◌, ◌≤◌, List, [], ◌++◌, length, map, get_or, refl, sym, ap, subst, ◌∙◌, arith}
use Rattle.std.specs.Prelude.{Option, Some, None}
use Rattle.std.specs.List.{filter_map}
use Rattle.std.proofs.lemmas.Bool.{le-ltb}
use Rattle.std.proofs.lemmas.List.{length-map}
use Rattle.desk_units.specs.declared.numbers.Minute.{Minute}
use Rattle.desk_units.specs.declared.tariff.TariffRow.{TariffRow}
use Rattle.day_orders.specs.KeptLists.{KeptLists}
use Rattle.day_orders.specs.LastOrders.{span_after}
use Rattle.day_orders.specs.declared.orders.Batch.{Batch}
use Rattle.day_orders.specs.declared.orders.Order.{Order}
use Rattle.desk_data.specs.declared.booked.Booked.{Booked}
use Rattle.desk_data.specs.declared.left.Left.{Left}
use Rattle.desk_data.specs.declared.news.News.{News}
use Rattle.desk_data.specs.declared.parts.Parts.{Parts}
use Rattle.desk_data.specs.Booked.{AreBookings}
use Rattle.desk_data.specs.Insides.{IsWhole, KeepsNews, day_of, progress_of}
use Rattle.desk_data.specs.Keeps.{Keeps, KeepsLeft}
use Rattle.desk_data.specs.PlanRows.{PlanRows}
use Rattle.desk_data.specs.Progress.{moment_or_now, progress_at}
use Rattle.desk_data.specs.Situation.{Progress, Situation, first_progress, fresh_day, landed, now_of, ordered_spans, planes_of, spans}
use Rattle.desk_data.specs.Valid.{AreParts, IsBatch, IsPlanFor, IsValid}
use Rattle.desk_data.proofs.BatchLaws.{fresh_day-valid, with_batch-valid}
use Rattle.desk_data.proofs.BookedLemmas.{bookings-rows}

-- what is kept of the orders does not hang on how far the day has gone on
keeps_on : (I : Situation) (progress : Progress) (kept : KeptLists) → Keeps I kept → Keeps (record { parts = I.parts; orders = I.orders; progress = progress }) kept
unfolding ordered_spans
keeps_on I progress kept h = record {
  all_legs = h.all_legs;
  all_planes = h.all_planes;
  all_airports = h.all_airports;
  legs = h.legs;
  spans = h.spans;
  in_order = h.in_order;
  hours = h.hours;
}

-- what is kept of the spans, by where each aircraft has landed
keeps_news : (I : Situation) (progress : Progress) (news : News) (landings : List Minute) → Keeps I news.kept → length news.spans.items ≡ planes_of I → ((p : ℕ) → p < planes_of I → get_or (map (λ of_one. of_one.items) news.spans.items) p [] ≡ filter_map (span_after (get_or landings p (record { 0 = 0 })).0) (ordered_spans I p)) → ((p : ℕ) → p < planes_of I → (get_or landings p (record { 0 = 0 })).0 ≡ landed (record { parts = I.parts; orders = I.orders; progress = progress }) p) → KeepsNews (record { parts = I.parts; orders = I.orders; progress = progress }) news
unfolding spans ordered_spans
keeps_news I progress news landings kept all said lands = record {
  said = keeps_on I progress news.kept kept;
  out = record {
    all_planes = length-map news.spans.items (λ of_one. of_one.items) ∙ all;
    spans = λ p within. said p within ∙ ap (λ (at : ℕ). filter_map (span_after at) (ordered_spans I p)) (lands p within);
  };
}

-- ---- before any batch

pub whole_fresh : (parts : Parts) (news : News) (left : Left) (prices : List TariffRow) (bookings : List Booked) → AreParts parts → news.orders.items ≡ [] → KeepsNews (fresh_day parts) news → progress_of left ≡ first_progress parts → KeepsLeft (fresh_day parts) left.departures left.arrivals left.landings.items → prices ≡ parts.tariff.rows → AreBookings (fresh_day parts) bookings → IsWhole (day_of parts news left) news left prices bookings
whole_fresh parts news left prices bookings valid none kept progress gone priced booked =
    let fresh : IsWhole (fresh_day parts) news left prices bookings = record {
      valid = fresh_day-valid parts valid;
      news_kept = kept;
      left_kept = gone;
      booked = record { priced = priced; booked = booked };
    } in
    let same : fresh_day parts ≡ day_of parts news left =
    ap (λ (orders : List Order). let day : Situation = record { parts = parts; orders = orders; progress = first_progress parts } in day) (sym none)
    ∙ ap (λ (on : Progress). let day : Situation = record { parts = parts; orders = news.orders.items; progress = on } in day) (sym progress) in
    subst (λ (day : Situation). IsWhole day news left prices bookings) same fresh

-- ---- with a batch

pub day_with : (I : Situation) (P : PlanRows) (B : Batch) (parts : Parts) (news : News) (left : Left) → parts ≡ I.parts → news.orders.items ≡ I.orders ++ B.orders → progress_of left ≡ progress_at I P (moment_or_now (now_of I) B.at) → day_of parts news left ≡ record { parts = I.parts; orders = I.orders ++ B.orders; progress = progress_at I P (moment_or_now (now_of I) B.at) }
day_with I P B parts news left rows orders progress =
    ap (λ (p : Parts). day_of p news left) rows
    ∙ (ap (λ (list : List Order). let day : Situation = record { parts = I.parts; orders = list; progress = progress_of left } in day) orders
    ∙ ap (λ (on : Progress). let day : Situation = record { parts = I.parts; orders = I.orders ++ B.orders; progress = on } in day) progress)

pub whole_with : (I : Situation) (P : PlanRows) (B : Batch) (parts : Parts) (old news : News) (was left : Left) (prices : List TariffRow) (bookings : List Booked) → IsWhole I old was prices bookings → IsPlanFor I P → IsBatch I.parts B → parts ≡ I.parts → news.orders.items ≡ I.orders ++ B.orders → progress_of left ≡ progress_at I P (moment_or_now (now_of I) B.at) → Keeps (record { parts = I.parts; orders = I.orders ++ B.orders; progress = I.progress }) news.kept → length news.spans.items ≡ planes_of I → ((p : ℕ) → p < planes_of I → get_or (map (λ of_one. of_one.items) news.spans.items) p [] ≡ filter_map (span_after (get_or left.landings.items p (record { 0 = 0 })).0) (ordered_spans (record { parts = I.parts; orders = I.orders ++ B.orders; progress = I.progress }) p)) → KeepsLeft (record { parts = I.parts; orders = I.orders; progress = progress_of left }) left.departures left.arrivals left.landings.items → IsWhole (day_of parts news left) news left prices bookings
whole_with I P B parts old news was left prices bookings whole plan batch rows orders progress kept all said gone =
    let taken : Situation = record { parts = I.parts; orders = I.orders ++ B.orders; progress = I.progress } in
    let here : IsWhole (record { parts = I.parts; orders = I.orders ++ B.orders; progress = progress_of left }) news left prices bookings = record {
      valid = subst (λ (p : Progress). IsValid (record { parts = I.parts; orders = I.orders ++ B.orders; progress = p })) (sym progress) (with_batch-valid I P B whole.valid plan batch);
      news_kept = keeps_news taken (progress_of left) news left.landings.items kept all said gone.landed;
      left_kept = record { departures = gone.departures; arrivals = gone.arrivals; all_planes = gone.all_planes; landed = gone.landed };
      booked = record { priced = whole.booked.priced; booked = bookings-rows I (I.orders ++ B.orders) (progress_of left) bookings whole.booked.booked };
    } in
    let same : record { parts = I.parts; orders = I.orders ++ B.orders; progress = progress_of left } ≡ day_of parts news left =
    ap (λ (list : List Order). let day : Situation = record { parts = I.parts; orders = list; progress = progress_of left } in day) (sym orders)
    ∙ ap (λ (p : Parts). day_of p news left) (sym rows) in
    subst (λ (day : Situation). IsWhole day news left prices bookings) same here

-- the moment up to which the day goes on, by what a batch tells
pub moment_later : (now : ℕ) (told : Option Minute) (at : Minute) → told ≡ Some at → now < at.0 → moment_or_now now told ≡ at.0
moment_later now told at is later = rw is (omega (arith, later))

pub moment_not_later : (now : ℕ) (told : Option Minute) (at : Minute) → told ≡ Some at → at.0 ≤ now → moment_or_now now told ≡ now
moment_not_later now told at is past = rw is (omega (arith, past))

pub moment_none : (now : ℕ) (told : Option Minute) → told ≡ None → moment_or_now now told ≡ now
moment_none now told is = rw is refl

-- where no time passes, the day stays as far as it was
pub stays : (I : Situation) (P : PlanRows) (at : ℕ) → at ≡ now_of I → progress_at I P at ≡ I.progress
stays I P at same = rw (le-ltb (now_of I) at (omega (arith, same))) refl

pub whole_taken : (I : Situation) (P : PlanRows) (B : Batch) (parts : Parts) (old news : News) (left : Left) (prices : List TariffRow) (bookings : List Booked) → IsWhole I old left prices bookings → IsPlanFor I P → IsBatch I.parts B → parts ≡ I.parts → progress_of left ≡ I.progress → moment_or_now (now_of I) B.at ≡ now_of I → news.orders.items ≡ I.orders ++ B.orders → Keeps (record { parts = I.parts; orders = I.orders ++ B.orders; progress = I.progress }) news.kept → length news.spans.items ≡ planes_of I → ((p : ℕ) → p < planes_of I → get_or (map (λ of_one. of_one.items) news.spans.items) p [] ≡ filter_map (span_after (get_or left.landings.items p (record { 0 = 0 })).0) (ordered_spans (record { parts = I.parts; orders = I.orders ++ B.orders; progress = I.progress }) p)) → IsWhole (day_of parts news left) news left prices bookings
whole_taken I P B parts old news left prices bookings whole plan batch rows was moment orders kept all said =
    whole_with I P B parts old news left left prices bookings whole plan batch rows orders (was ∙ sym (stays I P (moment_or_now (now_of I) B.at) moment)) kept all said
    (subst (λ (p : Progress). KeepsLeft (record { parts = I.parts; orders = I.orders; progress = p }) left.departures left.arrivals left.landings.items) (sym was) whole.left_kept)
