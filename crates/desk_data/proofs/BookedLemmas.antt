-- What reservations booked, one reservation at a time, whatever the orders are and however far the day has gone on.
use Rattle.std.proofs.Common.{◌≡◌, ℕ, ◌+◌, ◌<◌, inl, inr, List, [], ◌∷◌, ◌++◌, length, get_or, refl, sym, ap, subst, ◌∙◌, arith}
use Rattle.std.proofs.Math.ListN.{get_or-append}
use Rattle.std.proofs.Math.Seq.{get_or-append_seam}
use Rattle.std.proofs.lemmas.Bool.{cases_eq}
use Rattle.desk_units.specs.declared.numbers.Leg.{Leg}
use Rattle.desk_units.specs.declared.numbers.Cabin.{Cabin}
use Rattle.day_orders.specs.declared.orders.Order.{Order}
use Rattle.desk_data.specs.declared.booked.Booked.{Booked}
use Rattle.desk_data.specs.Booked.{origin_of, dest_of, booked_departure, booked_arrival, booked_path, higher_haul, highest_haul, haul_of, reference_of, IsBooked, AreBookings}
use Rattle.desk_data.specs.Situation.{Progress, Situation, leg_at}

-- one reservation more
pub bookings_more : (I : Situation) (table : List Booked) (booked : Booked) (r : ℕ) → length table ≡ r → ((k : ℕ) (other : Booked) → k < r → IsBooked I k (get_or table k other)) → IsBooked I r booked → (k : ℕ) (other : Booked) → k < r + 1 → IsBooked I k (get_or (table ++ booked ∷ []) k other)
bookings_more I table booked r all before last k other below =
    elim (cases_eq k r) [
      | inl same ↦
          let at : length table ≡ k = omega arith in
          let here : IsBooked I (length table) (get_or (table ++ booked ∷ []) (length table) other) =
          subst (IsBooked I (length table)) (sym (get_or-append_seam table booked [] other)) (subst (λ (j : ℕ). IsBooked I j booked) (sym all) last) in
          subst (λ (j : ℕ). IsBooked I j (get_or (table ++ booked ∷ []) j other)) at here
      | inr apart ↦
          let lt : k < r = omega arith in
          let within : k < length table = omega arith in
          subst (IsBooked I k) (sym (get_or-append table (booked ∷ []) other k within)) (before k other lt)
    ]

-- the hauls of legs hang on the rows alone
highest_haul-rows : (I : Situation) (orders : List Order) (progress : Progress) (path : List (Leg × Cabin)) → highest_haul I path ≡ highest_haul (record { parts = I.parts; orders = orders; progress = progress }) path
unfolding highest_haul
highest_haul-rows I orders progress [] = refl
highest_haul-rows I orders progress (pair ∷ path) = ap (higher_haul (leg_at I pair.0.0).haul) (highest_haul-rows I orders progress path)

booked-rows : (I : Situation) (orders : List Order) (progress : Progress) (r : ℕ) (booked : Booked) → IsBooked I r booked → IsBooked (record { parts = I.parts; orders = orders; progress = progress }) r booked
unfolding origin_of dest_of booked_departure booked_arrival haul_of reference_of
booked-rows I orders progress r booked h = record {
  origin = h.origin;
  dest = h.dest;
  departs = h.departs;
  arrives = h.arrives;
  soon = h.soon;
  hauls = h.hauls ∙ highest_haul-rows I orders progress (booked_path I r);
  cabins = h.cabins;
}

-- so the bookings stay when orders come in and time passes
pub bookings-rows : (I : Situation) (orders : List Order) (progress : Progress) (table : List Booked) → AreBookings I table → AreBookings (record { parts = I.parts; orders = orders; progress = progress }) table
bookings-rows I orders progress table h = record {
  all = h.all;
  each = λ r other below. booked-rows I orders progress r (get_or table r other) (h.each r other below);
}
