use Rattle.std.proofs.Common.{◌≡◌, ℕ, ◌<◌, [], length, map, get_or}
use Rattle.std.specs.List.{filter_map}
use Rattle.day_orders.specs.KeptLists.{kept_spans}
use Rattle.day_orders.specs.LastOrders.{span_after}
use Rattle.desk_data.proofs.news.spans_left.Given as goal

-- of the aircraft so far, their spans as they are left
abbrev pub invariant-loop-p : goal.invariant-loop-p
invariant-loop-p l = record {
  all : length l.left.items ≡ l.p;
  spans : (k : ℕ) → k < l.p → get_or (map (λ of_one. of_one.items) l.left.items) k [] ≡ filter_map (span_after (get_or l.landings k (record { 0 = 0 })).0) (kept_spans l.kept k);
}
