-- What holds from a moment on holds from each later one on.
use Rattle.std.proofs.Common.{◌≡◌, ℕ, ◌+◌, ◌*◌, ◌<◌, ◌≤◌, max, List, [], ◌∷◌, length, sym, ap, subst, ◌∙◌, arith}
use Rattle.std.proofs.Common.{length-append}
use Rattle.std.specs.Prelude.{Option, None, Some, sum_by}
use Rattle.std.proofs.lemmas.List.Elements.{All-append, All-weaker}
use Rattle.std.proofs.lemmas.List.Sums.{sum_by-cons, sum_by-append}
use Rattle.desk_units.specs.declared.numbers.Minute.{Minute}
use Rattle.desk_data.specs.Situation.{Situation, leg_at, spans}
use Rattle.desk_data.specs.Hours.{dep_cap, arr_cap}
use Rattle.desk_data.specs.PlanRows.{PlanRows}
use Rattle.desk_model.specs.Push.{rotation, departures_beside, arrivals_beside}
use Rattle.near_dear.specs.Exchanged.{minutes}
use Rattle.near_dear.specs.Calm.{HasRoomFor, IsBetween, IsCalmAt, IsCalmFor, IsFreeFrom, ground, both, busy, DepartsBy, AreDoneInTime}
use Rattle.near_dear.specs.Times.{most_legs, ArePlaneTimes}
use Rattle.near_dear.specs.declared.times.PlaneTimes.{PlaneTimes}

room-fewer : (m n taken : ℕ) (cap : Option ℕ) → m ≤ n → HasRoomFor n taken cap → HasRoomFor m taken cap
room-fewer m n taken None le room = tt
room-fewer m n taken (Some cap) le room = omega (arith, le, room)

between-earlier : (I : Situation) (c d h : ℕ) → c ≤ d → IsBetween I d h → IsBetween I c h
between-earlier I c d h le is = record { from = (let from = is.from in omega (arith, le, from)); to = is.to }

pub calm-at-later : (m n : ℕ) (I : Situation) (P : PlanRows) (a c d : ℕ) → m ≤ n → c ≤ d → IsCalmAt n I P a c → IsCalmAt m I P a d
calm-at-later m n I P a c d fewer later is = record {
  departures = λ x h between. room-fewer m n (departures_beside I P x a h) (dep_cap I a h) fewer (is.departures x h (between-earlier I c d h later between));
  arrivals = λ x h between. room-fewer m n (arrivals_beside I P x a h) (arr_cap I a h) fewer (is.arrivals x h (between-earlier I c d h later between));
}

pub calm-for-later : (m n : ℕ) (I : Situation) (P : PlanRows) (c d x : ℕ) → m ≤ n → c ≤ d → IsCalmFor n I P c x → IsCalmFor m I P d x
calm-for-later m n I P c d x fewer later is = record {
  origin = calm-at-later m n I P (leg_at I x).origin.0 c d fewer later is.origin;
  dest = calm-at-later m n I P (leg_at I x).dest.0 c d fewer later is.dest;
}

pub free-later : (I : Situation) (p c d : ℕ) → c ≤ d → IsFreeFrom I p c → IsFreeFrom I p d
free-later I p c d later is = record {
  service = All-weaker (λ (s : Minute × Minute). s.1.0 ≤ c) (λ (s : Minute × Minute). s.1.0 ≤ d) (λ s by. omega (arith, by, later)) (spans I p) is.service;
  maintenance = λ maint one. (let by = is.maintenance maint one in omega (arith, by, later));
}

departs-later : (I : Situation) (P : PlanRows) (p c d : ℕ) → c ≤ d → DepartsBy I P p c → DepartsBy I P p d
departs-later I P p c d later is x lt on = (let by = is x lt on in omega (arith, by, later))

-- minutes with as many on the ground after each leg
with-ground : (I : Situation) (g : ℕ) (legs : List ℕ) → sum_by (λ x. (leg_at I x).block + g) legs ≡ minutes I legs + length legs * g
with-ground I g [] = omega arith
with-ground I g (x ∷ legs) =
    let rest = with-ground I g legs in
    let more : length (x ∷ legs) * g ≡ g + length legs * g = omega arith in
    omega (arith, rest, more, sum_by-cons (λ y. (leg_at I y).block + g) x legs, sum_by-cons (λ y. (leg_at I y).block) x legs)

pub busy-is : (I : Situation) (P : PlanRows) (p q : ℕ) → busy I P p q ≡ minutes I (rotation I P p) + minutes I (rotation I P q) + (length (rotation I P p) + length (rotation I P q)) * max (ground I p) (ground I q)
busy-is I P p q =
    with-ground I (max (ground I p) (ground I q)) (both I P p q)
    ∙ ap (λ (n : ℕ). n + length (both I P p q) * max (ground I p) (ground I q)) (sum_by-append (λ x. (leg_at I x).block) (rotation I P p) (rotation I P q))
    ∙ ap (λ (n : ℕ). minutes I (rotation I P p) + minutes I (rotation I P q) + n * max (ground I p) (ground I q)) (length-append (rotation I P p) (rotation I P q))

pub done-by : (I : Situation) (P : PlanRows) (p q : ℕ) (one two : PlaneTimes) → ArePlaneTimes I P p one → ArePlaneTimes I P q two → one.count + two.count ≤ most_legs → max one.by two.by + (one.minutes + two.minutes + (one.count + two.count) * max (ground I p) (ground I q)) < I.parts.to.0 → AreDoneInTime I P p q (max one.by two.by)
done-by I P p q one two first second few end =
    let c = max one.by two.by in
    let g = max (ground I p) (ground I q) in
    let n = length (both I P p q) in
    let long : n ≡ one.count + two.count = length-append (rotation I P p) (rotation I P q) ∙ ap (λ (k : ℕ). k + length (rotation I P q)) (sym first.count) ∙ ap (λ (k : ℕ). one.count + k) (sym second.count) in
    let fewer : n ≤ most_legs = omega (arith, long, few) in
    let mine : one.by ≤ c = omega arith in
    let theirs : two.by ≤ c = omega arith in
    let same : busy I P p q ≡ one.minutes + two.minutes + (one.count + two.count) * g =
    busy-is I P p q
    ∙ ap (λ (k : ℕ). k + minutes I (rotation I P q) + (length (rotation I P p) + length (rotation I P q)) * g) (sym first.minutes)
    ∙ ap (λ (k : ℕ). one.minutes + k + (length (rotation I P p) + length (rotation I P q)) * g) (sym second.minutes)
    ∙ ap (λ (k : ℕ). one.minutes + two.minutes + (k + length (rotation I P q)) * g) (sym first.count)
    ∙ ap (λ (k : ℕ). one.minutes + two.minutes + (one.count + k) * g) (sym second.count) in
    record {
      calm = All-append (IsCalmFor n I P c) (rotation I P p) (rotation I P q)
          (All-weaker (IsCalmFor most_legs I P one.by) (IsCalmFor n I P c) (λ x is. calm-for-later n most_legs I P one.by c x fewer mine is) (rotation I P p) first.calm)
          (All-weaker (IsCalmFor most_legs I P two.by) (IsCalmFor n I P c) (λ x is. calm-for-later n most_legs I P two.by c x fewer theirs is) (rotation I P q) second.calm);
      free = free-later I p one.by c mine first.free;
      other_free = free-later I q two.by c theirs second.free;
      departs = departs-later I P p one.by c mine first.departs;
      other_departs = departs-later I P q two.by c theirs second.departs;
      done = subst (λ (k : ℕ). c + k < I.parts.to.0) (sym same) end;
    }
