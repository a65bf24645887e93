-- What is kept of the orders agrees with them, and goes on doing so.
use Rattle.std.proofs.Common.{length, List, [], ◌++◌, None, replicate, sym, ap, ◌∙◌, get_or, arith}
use Rattle.std.specs.Option.{option_or}
use Rattle.std.specs.List.{All, filter_map}
use Rattle.std.proofs.lemmas.List.{length-replicate, get_or-replicate}
use Rattle.std.proofs.lemmas.List.Elements.{All-replicate, filter_map-append}
use Rattle.std.proofs.lemmas.List.Sorted.{IsNonDecreasingBy-short}
use Rattle.day_orders.specs.declared.hours.CapChange.{CapChange}
use Rattle.day_orders.specs.declared.orders.Order.{Order}
use Rattle.day_orders.specs.declared.orders.Order.TheVariants.{Flight, Aircraft, Field}
use Rattle.day_orders.specs.LastOrders.{last_order_on_leg, span_of, last_word, order_on_hour}
use Rattle.day_orders.specs.KeptLists.{KeptLists, AreInOrder, kept_cap, HasPlace, Adds, nothing_kept}
use Rattle.day_orders.proofs.LastLemmas.{last_word-append}
use Rattle.day_orders.proofs.KeptLemmas.{last_order_on_leg-append}
use Rattle.desk_data.specs.declared.parts.Parts.{Parts}
use Rattle.desk_data.specs.Keeps.{Keeps, KeepsSpans}
use Rattle.desk_data.specs.Situation.{Situation, fresh_day, ordered_spans, spans}
use Rattle.desk_data.specs.Valid.{IsOrder}

pub keeps_nothing : (parts : Parts) → Keeps (fresh_day parts) (nothing_kept (length parts.legs) (length parts.planes) (length parts.airports))
unfolding last_order_on_leg last_word ordered_spans kept_cap
keeps_nothing parts = record {
  all_legs = length-replicate (length parts.legs) None;
  all_planes = length-replicate (length parts.planes) [];
  all_airports = length-replicate (length parts.airports) [];
  legs = λ x within. get_or-replicate (length parts.legs) x None None within;
  spans = λ p within. get_or-replicate (length parts.planes) p [] [] within;
  in_order = All-replicate AreInOrder (length parts.airports) [] (IsNonDecreasingBy-short (λ (c : CapChange). c.hour) [] (omega arith));
  hours = λ a h within. ap (λ (l : List CapChange). kept_cap l h) (get_or-replicate (length parts.airports) a [] [] within);
}

-- and so do the spans that are left, where no order gives any
pub keeps_no_spans : (parts : Parts) → KeepsSpans (fresh_day parts) (replicate (length parts.planes) [])
unfolding spans ordered_spans
keeps_no_spans parts = record {
  all_planes = length-replicate (length parts.planes) [];
  spans = λ p within. get_or-replicate (length parts.planes) p [] [] within;
}

pub keeps_more : (I : Situation) (orders : List Order) (old new : KeptLists) → Keeps I old → Adds orders old new → Keeps (record I { orders = I.orders ++ orders }) new
unfolding ordered_spans
keeps_more I orders old new keeps adds = record {
  all_legs = adds.all_legs ∙ keeps.all_legs;
  all_planes = adds.all_planes ∙ keeps.all_planes;
  all_airports = adds.all_airports ∙ keeps.all_airports;
  legs = λ x within. adds.legs x ∙ (ap (λ o. option_or (last_order_on_leg x orders) o) (keeps.legs x within) ∙ sym (last_order_on_leg-append x I.orders orders));
  spans = λ p within. adds.spans p ∙ (ap (λ s. s ++ filter_map (span_of p) orders) (keeps.spans p within) ∙ sym (filter_map-append (span_of p) I.orders orders));
  in_order = adds.in_order;
  hours = λ a h within. adds.hours a h ∙ (ap (λ o. option_or (last_word (order_on_hour a h) orders) o) (keeps.hours a h within) ∙ sym (last_word-append (order_on_hour a h) I.orders orders));
}

-- orders that an instance can take have a place
has_place : (I : Situation) (kept : KeptLists) (order : Order) → Keeps I kept → IsOrder I.parts order → HasPlace kept order
has_place I kept (Flight leg delay) keeps h = omega (arith, h.0, keeps.all_legs)
has_place I kept (Aircraft plane from to) keeps h = omega (arith, h, keeps.all_planes)
has_place I kept (Field airport from to deps arrs) keeps h = omega (arith, h, keeps.all_airports)

pub have_places : (I : Situation) (kept : KeptLists) (orders : List Order) → Keeps I kept → All (IsOrder I.parts) orders → All (HasPlace kept) orders
have_places I kept orders keeps h = λ k d below. has_place I kept (get_or orders k d) keeps (h k d below)
