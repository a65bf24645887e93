-- What is kept agrees with the orders, one order at a time.
use Rattle.std.proofs.Common.{◌≡◌, ◌≢◌, ℕ, ◌<◌, Bool, true, false, ◌&&◌, eqb, leb, ltb, length, List, [], ◌∷◌, ◌++◌, append_assoc, Option, Some, None, refl, sym, ap, ◌∙◌, set, get_or, subst, ⊎_elim, get_or-set_same, get_or-set_other, length-set}
use Rattle.std.specs.Option.{option_or}
use Rattle.std.specs.Bool.{if◌then◌else◌}
use Rattle.std.specs.List.{All, filter_map}
use Rattle.std.proofs.lemmas.Bool.{cases_eq, eq-eqb, ne_eqb, and_right}
use Rattle.std.proofs.lemmas.List.{append-nil}
use Rattle.std.proofs.lemmas.List.Elements.{All-set, filter_map-append}
use Rattle.desk_units.specs.declared.numbers.Airport.{Airport}
use Rattle.desk_units.specs.declared.numbers.Leg.{Leg}
use Rattle.desk_units.specs.declared.numbers.Minute.{Minute}
use Rattle.desk_units.specs.declared.numbers.Plane.{Plane}
use Rattle.day_orders.specs.declared.hours.CapChange.{CapChange}
use Rattle.day_orders.specs.declared.hours.HourCap.{HourCap}
use Rattle.day_orders.specs.declared.orders.Order.{Order}
use Rattle.day_orders.specs.declared.orders.Order.TheVariants.{Flight, Aircraft, Field}
use Rattle.day_orders.specs.LastOrders.{order_on_leg, last_order_on_leg, span_of, last_word, touches, order_on_hour}
use Rattle.day_orders.specs.KeptLists.{KeptLists, AreInOrder, kept_cap, kept_leg, kept_spans, kept_hours, Adds}
use Rattle.day_orders.proofs.LastLemmas.{or_assoc, last_word-append}

-- a row that was put, where it is asked for and where another is
put_same : {X : Type 0} (xs : List X) (i j : ℕ) (x d : X) → i < length xs → i ≡ j → get_or (set xs i x) j d ≡ x
put_same xs i j x d within same = subst (λ (k : ℕ). get_or (set xs i x) k d ≡ x) same (get_or-set_same xs i x d within)

put_other : {X : Type 0} (xs : List X) (i j : ℕ) (x d : X) → (i ≡ j → ⊥) → get_or (set xs i x) j d ≡ get_or xs j d
put_other xs i j x d other = let apart : j ≢ i = λ e. other (sym e) in get_or-set_other xs i j x d apart

pub adds_flight : (old : KeptLists) (leg : Leg) (delay : Option ℕ) → leg.0 < length old.legs → All AreInOrder old.hours → Adds (Flight leg delay ∷ []) old (record old { legs = set old.legs leg.0 (Some delay) })
unfolding last_order_on_leg last_word
adds_flight old leg delay within order = record {
  all_legs = length-set old.legs leg.0 (Some delay);
  all_planes = refl;
  all_airports = refl;
  legs = λ x.
      ⊎_elim
      (λ (same : leg.0 ≡ x). rw (eq-eqb leg.0 x same, put_same old.legs leg.0 x (Some delay) None within same))
      (λ (other : leg.0 ≡ x → ⊥). rw (ne_eqb leg.0 x other, put_other old.legs leg.0 x (Some delay) None other))
      (cases_eq leg.0 x);
  spans = λ p. sym (append-nil (kept_spans old p));
  in_order = order;
  hours = λ a h. refl;
}

pub adds_aircraft : (old : KeptLists) (plane : Plane) (from to : Minute) → plane.0 < length old.spans → All AreInOrder old.hours → Adds (Aircraft plane from to ∷ []) old (record old { spans = set old.spans plane.0 (kept_spans old plane.0 ++ (from, to) ∷ []) })
unfolding last_order_on_leg last_word
adds_aircraft old plane from to within order = record {
  all_legs = refl;
  all_planes = length-set old.spans plane.0 (kept_spans old plane.0 ++ (from, to) ∷ []);
  all_airports = refl;
  legs = λ x. refl;
  spans = λ p.
      ⊎_elim
      (λ (same : plane.0 ≡ p). rw (eq-eqb plane.0 p same, put_same old.spans plane.0 p (kept_spans old plane.0 ++ (from, to) ∷ []) [] within same) (ap (λ (k : ℕ). kept_spans old k ++ (from, to) ∷ []) same))
      (λ (other : plane.0 ≡ p → ⊥). rw (ne_eqb plane.0 p other, put_other old.spans plane.0 p (kept_spans old plane.0 ++ (from, to) ∷ []) [] other) (sym (append-nil (kept_spans old p))))
      (cases_eq plane.0 p);
  in_order = order;
  hours = λ a h. refl;
}

-- a cap in some of the hours, over what was kept
over : (b : Bool) (cap : HourCap) (kept : Option HourCap) → (if b then Some cap else kept) ≡ option_or (if b then Some cap else None) kept
over true cap kept = refl
over false cap kept = refl

pub adds_field : (old : KeptLists) (airport : Airport) (from to : Minute) (cap : HourCap) (first after_last : ℕ) (changes : List CapChange) → airport.0 < length old.hours → All AreInOrder old.hours → ((h : ℕ) → touches h from.0 to.0 ≡ (leb first h && ltb h after_last)) → AreInOrder changes → ((h : ℕ) → kept_cap changes h ≡ (if leb first h && ltb h after_last then Some cap else kept_cap (kept_hours old airport.0) h)) → Adds (Field airport from to cap.deps cap.arrs ∷ []) old (record old { hours = set old.hours airport.0 changes })
unfolding last_order_on_leg last_word
adds_field old airport from to cap first after_last changes within order hours up caps = record {
  all_legs = refl;
  all_planes = refl;
  all_airports = length-set old.hours airport.0 changes;
  legs = λ x. refl;
  spans = λ p. sym (append-nil (kept_spans old p));
  in_order = All-set AreInOrder old.hours airport.0 changes up order;
  hours = λ a h.
      ⊎_elim
      (λ (same : airport.0 ≡ a).
      rw (eq-eqb airport.0 a same, put_same old.hours airport.0 a changes [] within same, hours h)
      (caps h ∙ (over (leb first h && ltb h after_last) cap (kept_cap (kept_hours old airport.0) h) ∙ ap (λ (k : ℕ). option_or (if leb first h && ltb h after_last then Some cap else None) (kept_cap (kept_hours old k) h)) same)))
      (λ (other : airport.0 ≡ a → ⊥). rw (ne_eqb airport.0 a other, put_other old.hours airport.0 a changes [] other))
      (cases_eq airport.0 a);
}

-- an order whose span touches no hour
pub adds_nothing : (old : KeptLists) (airport : Airport) (from to : Minute) (deps arrs : ℕ) → All AreInOrder old.hours → ((h : ℕ) → touches h from.0 to.0 ≡ false) → Adds (Field airport from to deps arrs ∷ []) old old
unfolding last_order_on_leg last_word
adds_nothing old airport from to deps arrs order hours = record {
  all_legs = refl;
  all_planes = refl;
  all_airports = refl;
  legs = λ x. refl;
  spans = λ p. sym (append-nil (kept_spans old p));
  in_order = order;
  hours = λ a h. rw (hours h, and_right (eqb airport.0 a) false refl);
}

pub adds_none : (kept : KeptLists) → All AreInOrder kept.hours → Adds [] kept kept
unfolding last_order_on_leg last_word
adds_none kept order = record {
  all_legs = refl;
  all_planes = refl;
  all_airports = refl;
  legs = λ x. refl;
  spans = λ p. sym (append-nil (kept_spans kept p));
  in_order = order;
  hours = λ a h. refl;
}

last_said_is : (x : ℕ) (orders : List Order) → last_order_on_leg x orders ≡ last_word (order_on_leg x) orders
unfolding last_order_on_leg last_word
last_said_is x [] = refl
last_said_is x (order ∷ orders) = ap (λ o. option_or o (order_on_leg x order)) (last_said_is x orders)

pub last_order_on_leg-append : (x : ℕ) (xs ys : List Order) → last_order_on_leg x (xs ++ ys) ≡ option_or (last_order_on_leg x ys) (last_order_on_leg x xs)
last_order_on_leg-append x xs ys = rw (last_said_is x (xs ++ ys), last_said_is x ys, last_said_is x xs) (last_word-append (order_on_leg x) xs ys)

-- one answer over another over what was there
over_both : {Y : Type 0} (both late early was mid new : Option Y) → both ≡ option_or late early → mid ≡ option_or early was → new ≡ option_or late mid → new ≡ option_or both was
over_both both late early was mid new b m n = n ∙ (ap (λ o. option_or late o) m ∙ (sym (or_assoc late early was) ∙ ap (λ o. option_or o was) (sym b)))

-- one order after others
pub adds_more : (xs : List Order) (y : Order) (a b c : KeptLists) → Adds xs a b → Adds (y ∷ []) b c → Adds (xs ++ y ∷ []) a c
adds_more xs y a b c first next = record {
  all_legs = next.all_legs ∙ first.all_legs;
  all_planes = next.all_planes ∙ first.all_planes;
  all_airports = next.all_airports ∙ first.all_airports;
  legs = λ x. over_both (last_order_on_leg x (xs ++ y ∷ [])) (last_order_on_leg x (y ∷ [])) (last_order_on_leg x xs) (kept_leg a x) (kept_leg b x) (kept_leg c x) (last_order_on_leg-append x xs (y ∷ [])) (first.legs x) (next.legs x);
  spans = λ p.
      next.spans p
      ∙ (ap (λ s. s ++ filter_map (span_of p) (y ∷ [])) (first.spans p)
      ∙ (append_assoc (kept_spans a p) (filter_map (span_of p) xs) (filter_map (span_of p) (y ∷ []))
      ∙ ap (λ s. kept_spans a p ++ s) (sym (filter_map-append (span_of p) xs (y ∷ [])))));
  in_order = next.in_order;
  hours = λ a' h. over_both (last_word (order_on_hour a' h) (xs ++ y ∷ [])) (last_word (order_on_hour a' h) (y ∷ [])) (last_word (order_on_hour a' h) xs) (kept_cap (kept_hours a a') h) (kept_cap (kept_hours b a') h) (kept_cap (kept_hours c a') h) (last_word-append (order_on_hour a' h) xs (y ∷ [])) (first.hours a' h) (next.hours a' h);
}
