-- How much of a reservation's path has begun.
use Rattle.std.proofs.Common.{◌≡◌, ℕ, ◌<◌, ◌≤◌, true, false, ltb, List, length, get_or, sym, ap, ◌∙◌}
use Rattle.std.specs.List.{prefix_len}
use Rattle.std.proofs.lemmas.List.Sums.{prefix_len_is}
use Rattle.desk_units.specs.declared.numbers.Leg.{Leg}
use Rattle.desk_units.specs.declared.numbers.Cabin.{Cabin}
use Rattle.desk_data.specs.Situation.{Situation, leg_at, res_at, begun}

-- as many legs as have begun, up to one that has not, or up to the path's end
pub begun_is : (I : Situation) (r n : ℕ) (path : List (Leg × Cabin)) (none : Leg × Cabin) → path ≡ (res_at I r).path → n ≤ length path → ((k : ℕ) → k < n → ltb (leg_at I (get_or path k none).0.0).sched.0 I.parts.from.0 ≡ true) → (n < length path → ltb (leg_at I (get_or path n none).0.0).sched.0 I.parts.from.0 ≡ false) → n ≡ begun I r
unfolding begun
begun_is I r n path none same within before stops =
    sym (prefix_len_is (λ (pair : Leg × Cabin). ltb (leg_at I pair.0.0).sched.0 I.parts.from.0) path n none within before stops) ∙ ap (prefix_len (λ (pair : Leg × Cabin). ltb (leg_at I pair.0.0).sched.0 I.parts.from.0)) same
