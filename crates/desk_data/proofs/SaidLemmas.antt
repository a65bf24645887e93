-- The last flight order of a leg, one order at a time.
use Rattle.std.proofs.Common.{◌≡◌, ℕ, ◌≤◌, Bool, true, false, eqb, List, [], ◌∷◌, ◌++◌, Option, Some, None, refl, ap, ◌∙◌, arith}
use Rattle.std.specs.Bool.{if◌then◌else◌}
use Rattle.std.specs.Option.{option_or, ForSome}
use Rattle.std.specs.List.{All}
use Rattle.std.proofs.lemmas.List.Elements.{All-head, All-tail}
use Rattle.day_orders.specs.declared.orders.Order.{Order}
use Rattle.day_orders.specs.declared.orders.Order.TheVariants.{Flight, Aircraft, Field}
use Rattle.desk_data.specs.declared.parts.Parts.{Parts}
use Rattle.day_orders.specs.LastOrders.{order_on_leg, last_order_on_leg}
use Rattle.desk_data.specs.Situation.{delay_of}
use Rattle.desk_data.specs.Valid.{IsOrder}

none_or : (o : Option (Option ℕ)) → o ≡ option_or o None
none_or None = refl
none_or (Some x) = refl

option_or_assoc : (a b c : Option (Option ℕ)) → option_or (option_or a b) c ≡ option_or a (option_or b c)
option_or_assoc None b c = refl
option_or_assoc (Some x) b c = refl

-- a later order decides before the earlier ones
pub last_order_on_leg-push : (x : ℕ) (orders : List Order) (order : Order) → last_order_on_leg x (orders ++ order ∷ []) ≡ option_or (order_on_leg x order) (last_order_on_leg x orders)
unfolding last_order_on_leg
last_order_on_leg-push x [] order = none_or (order_on_leg x order)
last_order_on_leg-push x (first ∷ orders) order =
    ap (λ o. option_or o (order_on_leg x first)) (last_order_on_leg-push x orders order) ∙ option_or_assoc (order_on_leg x order) (last_order_on_leg x orders) (order_on_leg x first)

-- the delay of the first of two, where it says anything
delay_of-or : (a b : Option (Option ℕ)) → delay_of a ≤ 2880 → delay_of b ≤ 2880 → delay_of (option_or a b) ≤ 2880
delay_of-or None b h k = k
delay_of-or (Some x) b h k = h

delay_of-said : (b : Bool) (delay : Option ℕ) → ForSome delay (λ minutes. minutes ≤ 2880) → delay_of (if b then Some delay else None) ≤ 2880
unfolding delay_of
delay_of-said true None h = omega arith
delay_of-said true (Some d) h = h d refl
delay_of-said false delay h = omega arith

delay_of-order_on_leg : (parts : Parts) (x : ℕ) (order : Order) → IsOrder parts order → delay_of (order_on_leg x order) ≤ 2880
unfolding delay_of
delay_of-order_on_leg parts x (Flight leg delay) h = delay_of-said (eqb leg.0 x) delay h.1
delay_of-order_on_leg parts x (Aircraft plane from to) h = omega arith
delay_of-order_on_leg parts x (Field airport from to deps arrs) h = omega arith

-- no order delays a leg by more than 2,880 minutes
pub delay_of-last_order_on_leg : (parts : Parts) (x : ℕ) (orders : List Order) → All (IsOrder parts) orders → delay_of (last_order_on_leg x orders) ≤ 2880
unfolding last_order_on_leg delay_of
delay_of-last_order_on_leg parts x [] h = omega arith
delay_of-last_order_on_leg parts x (order ∷ orders) h =
    delay_of-or (last_order_on_leg x orders) (order_on_leg x order) (delay_of-last_order_on_leg parts x orders (All-tail (IsOrder parts) order orders h)) (delay_of-order_on_leg parts x order (All-head (IsOrder parts) order orders h))
