-- How late the legs of an aircraft depart after a Push of all of them.
use Rattle.std.proofs.Common.{◌≡◌, ℕ, ◌+◌, ◌<◌, ◌≤◌, inl, inr, true, false, List, [], ◌∷◌, ◌++◌, refl, sym, ap, subst, ◌∙◌, arith}
use Rattle.std.specs.Prelude.{None, Some, sum_by}
use Rattle.std.specs.List.{All, AllPairs, Contains}
use Rattle.std.proofs.lemmas.Bool.{true≢false, cases_Bool, cases_lt}
use Rattle.std.proofs.lemmas.List.{append_assoc, append-nil}
use Rattle.std.proofs.lemmas.List.Elements.{All-nil, All-cons, All-append, All-weaker, All-contains, Contains-append_left, Contains-append_right, Contains-append_cases}
use Rattle.std.proofs.lemmas.List.Sums.{sum_by-cons, sum_by-append}
use Rattle.desk_units.specs.declared.numbers.Minute.{Minute}
use Rattle.desk_data.specs.Situation.{Situation, legs_of, leg_at, fixed, earliest, latest, spans}
use Rattle.desk_data.specs.Hours.{dep_cap, arr_cap}
use Rattle.desk_data.specs.PlanRows.{PlanRows, row_at}
use Rattle.desk_data.specs.Valid.{IsPlanFor}
use Rattle.desk_data.proofs.PathOrder.{pairs_head}
use Rattle.desk_rules.specs.Rotations.{departure, dep, arr, is_leg, ground_time}
use Rattle.desk_rules.specs.Maintenance.{flies}
use Rattle.desk_rules.specs.Slots.{hour_of}
use Rattle.desk_rules.specs.Words.{Flies, Precedes, Follows, MeetsSpan}
use Rattle.desk_rules.proofs.MaintenanceLaws.{dep-is, flies-holds, flies-from}
use Rattle.desk_model.specs.Push.{rotation, pushed_legs, after_push, departures_beside, arrivals_beside, IsPushed, MayDepart, PlacesLeg}
use Rattle.desk_model.proofs.PushLaws.{pushed-ordered, pushed-all, pushed-each, after_push-others, after_push-places}
use Rattle.desk_model.proofs.RotationOrder.{flown_once, precedes-trans, precedes-itself, pairs_after, rotation-ordered, rotation-each}
use Rattle.step_laws.proofs.PushedLaws.{pushed-flies}
use Rattle.near_moves.proofs.ListLaws.{contains_cases, contains_head}
use Rattle.near_moves.proofs.TallyLaws.{place}
use Rattle.near_moves.proofs.ChainLaws.{in-rotation}
use Rattle.near_dear.specs.Moves.{IsInTime}
use Rattle.near_dear.specs.Calm.{IsBetween, IsFreeFrom, ground}

-- between two legs an aircraft stands no longer than it may at most
ground-most : (I : Situation) (u w x : ℕ) → ground_time I u w x ≤ ground I u
ground-most I u w x =
    elim (cases_Bool (is_leg w (leg_at I x).prev)) [
      | inl previous ↦ rw previous (omega arith)
      | inr other ↦ rw other (omega arith)
    ]

-- of legs in order one that comes before another stands before it
front-has : (S : PlanRows) (front rest : List ℕ) (x w : ℕ) → AllPairs (Precedes S) (front ++ x ∷ rest) → Contains (front ++ x ∷ rest) w → Precedes S w x → Contains front w
front-has S front rest x w sorted has before =
    elim (Contains-append_cases front (x ∷ rest) w has) [
      | inl first ↦ first
      | inr second ↦ elim (contains_cases x w rest second) [
        | inl same ↦ absurd (precedes-itself S x (subst (λ (k : ℕ). Precedes S k x) (sym same) before))
        | inr more ↦
            let later : Precedes S x w = All-contains (Precedes S x) rest w (pairs_head (Precedes S) x rest (pairs_after (Precedes S) front (x ∷ rest) sorted)) more in
            absurd (precedes-itself S x (precedes-trans S x w x later before))
      ]
    ]

-- what is asked of plan S before the Push of aircraft u: its legs depart by moment c, movable ones not before they may, and it is free from then on.
-- In each plan in which only its legs depart otherwise, the hours of their airports have room for them from then until the window's end
pub record IsSettled (I : Situation) (S : PlanRows) (u c : ℕ) : Type 0 where
  pub plan : IsPlanFor I S
  pub departs : (x : ℕ) → x < legs_of I → flies S u x ≡ true → dep S x ≤ c
  pub earliest : (x : ℕ) → x < legs_of I → flies S u x ≡ true → fixed I x ≡ false → earliest I x ≤ dep S x
  pub free : IsFreeFrom I u c
  pub departures : (T : PlanRows) → ((y : ℕ) → flies S u y ≡ false → row_at T y ≡ row_at S y) → (x h cap : ℕ) → x < legs_of I → flies S u x ≡ true → IsBetween I c h → dep_cap I (leg_at I x).origin.0 h ≡ Some cap → departures_beside I T x (leg_at I x).origin.0 h < cap
  pub arrivals : (T : PlanRows) → ((y : ℕ) → flies S u y ≡ false → row_at T y ≡ row_at S y) → (x h cap : ℕ) → x < legs_of I → flies S u x ≡ true → IsBetween I c h → arr_cap I (leg_at I x).dest.0 h ≡ Some cap → arrivals_beside I T x (leg_at I x).dest.0 h < cap

module _ (I : Situation) (S : PlanRows) (u c : ℕ) (is : IsSettled I S u c) where
  abbrev R : PlanRows
  R = after_push I S u None

  -- the minutes that a leg takes, with the time on the ground after it
  abbrev span : ℕ → ℕ
  span x = (leg_at I x).block + ground I u

  abbrev spent : List ℕ → ℕ
  spent legs = sum_by span legs

  spent-more : (front : List ℕ) (x : ℕ) → spent (front ++ x ∷ []) ≡ spent front + span x
  spent-more front x =
      let one : spent (x ∷ []) ≡ span x = (let e = sum_by-cons span x [] in omega (arith, e)) in
      omega (arith, sum_by-append span front (x ∷ []), one)

  spent-front : (front rest : List ℕ) (x : ℕ) → spent front + span x ≤ spent (front ++ x ∷ rest)
  spent-front front rest x = omega (arith, sum_by-append span front (x ∷ rest), sum_by-cons span x rest)

  -- a leg among some that are over at a moment, where it departs then and where it did
  record IsOver (legs : List ℕ) (w : ℕ) : Type 0 where
    over : dep R w + span w ≤ c + spent legs
    was : dep S w + span w ≤ c + spent legs

  AreOver : List ℕ → Type 0
  AreOver legs = All (IsOver legs) legs

  module _ (in_time : c + spent (rotation I S u) < I.parts.to.0) where
    module _ (front rest : List ℕ) (x : ℕ) (split : rotation I S u ≡ front ++ x ∷ rest) (over : All (IsOver front) front) where
      sorted : AllPairs (Precedes S) (front ++ x ∷ rest)
      sorted = subst (AllPairs (Precedes S)) split (rotation-ordered I S u)

      mine : (x < legs_of I) × (flies S u x ≡ true)
      mine = in-rotation I S u x (subst (λ (zs : List ℕ). Contains zs x) (sym split) (Contains-append_right front (x ∷ rest) x (contains_head x rest)))

      -- the moment by which it departs
      t : ℕ
      t = c + spent front

      t-end : t + span x < I.parts.to.0
      unfolding t
      t-end =
          let less = spent-front front rest x in
          let whole : spent (rotation I S u) ≡ spent (front ++ x ∷ rest) = ap spent split in
          let end = in_time in
          omega (arith, less, whole, end)

      from-c : c ≤ t
      unfolding t
      from-c = omega arith

      before-now : dep S x ≤ c
      before-now = is.departs x mine.0 mine.1

      -- it is placed after some legs, in plan T
      module _ (done later : List ℕ) (pushed : pushed_legs I S u None ≡ done ++ x ∷ later) (movable : fixed I x ≡ false) (placed : PlacesLeg I S R u done x) where
        abbrev T : PlanRows
        T = placed.plan

        done-pushed : (y : ℕ) → Contains done y → IsPushed I S u None y
        done-pushed y has =
            All-contains (IsPushed I S u None) (pushed_legs I S u None) y (pushed-all I S u None)
            (subst (λ (zs : List ℕ). Contains zs y) (sym pushed) (Contains-append_left done (x ∷ later) y has))

        outside : (y : ℕ) → flies S u y ≡ false → row_at T y ≡ row_at S y
        outside y off =
            placed.later y (λ has.
            let own = done-pushed y has in
            true≢false (sym (flies-from S u y own.dep own.flown) ∙ off))

        ready : (w : ℕ) → w < legs_of I → Follows I S w x → arr I T w + ground_time I u w x ≤ t
        unfolding t
        ready w lt follows =
            let before = follows.before in
            let plane : before.plane ≡ u = flown_once S x before.plane u before.later (dep S x) before.second (flies-holds S u x mine.1) in
            let flown : Flies S w u before.dep = subst (λ (k : ℕ). Flies S w k before.dep) plane before.first in
            let own : flies S u w ≡ true = flies-from S u w before.dep flown in
            let has : Contains front w = front-has S front rest x w sorted (subst (λ (zs : List ℕ). Contains zs w) split (rotation-each I S u w lt own)) before in
            let bound = All-contains (IsOver front) front w over has in
            let most = ground-most I u w x in
            elim (cases_Bool (fixed I w)) [
              | inl stays ↦
                  let same : dep T w ≡ dep S w = ap departure (placed.later w (λ there. true≢false (sym stays ∙ (done-pushed w there).movable))) in
                  let time = bound.was in
                  omega (arith, same, time, most)
              | inr moves ↦
                  let there : Contains (done ++ x ∷ later) w =
                  subst (λ (zs : List ℕ). Contains zs w) pushed
                  (pushed-each I S u None w (record { leg = lt; dep = before.dep; flown = flown; movable = moves; is_later = λ leg none. absurd cc })) in
                  let early : Contains done w = front-has S done later x w (subst (AllPairs (Precedes S)) pushed (pushed-ordered I S u None)) there before in
                  let same : dep T w ≡ dep R w = ap departure (All-contains (λ y. row_at T y ≡ row_at R y) done w placed.earlier early) in
                  let time = bound.over in
                  omega (arith, same, time, most)
            ]

        leaves : IsBetween I c (hour_of t)
        leaves = record {
          from = (let less = from-c in omega (arith, less));
          to = (let end = t-end in omega (arith, end));
        }

        lands : IsBetween I c (hour_of (t + (leg_at I x).block))
        lands = record {
          from = (let less = from-c in omega (arith, less));
          to = (let end = t-end in omega (arith, end));
        }

        may : t ≤ latest I x → MayDepart I S T u x t
        may short = record {
          ready = ready;
          earliest = (let soonest = is.earliest x mine.0 mine.1 movable in let now = before-now in let less = from-c in omega (arith, soonest, now, less));
          latest = short;
          service = All-weaker (λ (s : Minute × Minute). s.1.0 ≤ c) (λ s. MeetsSpan I x t s.0 s.1 → ⊥) (λ s over_by meets. (let less = from-c in let ends = meets.before_end in omega (arith, over_by, less, ends))) (spans I u) is.free.service;
          maintenance = λ maint one meets. (let over_by = is.free.maintenance maint one in let less = from-c in let ends = meets.before_end in omega (arith, over_by, less, ends));
          departures = λ cap capped. is.departures T outside x (hour_of t) cap mine.0 mine.1 leaves capped;
          arrivals = λ cap capped. is.arrivals T outside x (hour_of (t + (leg_at I x).block)) cap mine.0 mine.1 lands capped;
        }

        placed-by : dep R x ≤ t
        placed-by =
            elim placed.placed [
              | inr keeps ↦ (let same : dep R x ≡ dep S x = ap departure keeps.row in let now = before-now in let less = from-c in omega (arith, same, now, less))
              | inl first ↦
                  let at : dep R x ≡ first.dep = dep-is R u x first.dep first.flown in
                  elim (cases_lt t first.dep) [
                    | inr no_later ↦ omega (arith, at, no_later)
                    | inl sooner ↦
                        let end = first.may.latest in
                        absurd (first.first t sooner (may (omega (arith, sooner, end))))
                  ]
            ]

      departs-by : dep R x ≤ t
      departs-by =
          elim (cases_Bool (fixed I x)) [
            | inl stays ↦
                let same : dep R x ≡ dep S x = ap departure (after_push-others I S u None x (λ own. true≢false (sym stays ∙ own.movable))) in
                let now = before-now in
                let less = from-c in
                omega (arith, same, now, less)
            | inr moves ↦
                let there = pushed-each I S u None x (record { leg = mine.0; dep = dep S x; flown = flies-holds S u x mine.1; movable = moves; is_later = λ leg none. absurd cc }) in
                let at = place x (pushed_legs I S u None) there in
                placed-by at.before at.tail at.is moves (after_push-places I S u None at.before x at.tail is.plan at.is)
          ]

      over-more : All (IsOver (front ++ x ∷ [])) (front ++ x ∷ [])
      unfolding t
      over-more =
          let more = spent-more front x in
          let by : dep R x ≤ c + spent front = departs-by in
          let now = before-now in
          All-append (IsOver (front ++ x ∷ [])) front (x ∷ [])
          (All-weaker (IsOver front) (IsOver (front ++ x ∷ [])) (λ w one. record {
            over = (let time = one.over in omega (arith, time, more));
            was = (let time = one.was in omega (arith, time, more));
          }) front over)
          (All-cons (IsOver (front ++ x ∷ [])) x [] (record { over = omega (arith, by, more); was = omega (arith, now, more) }) (All-nil (IsOver (front ++ x ∷ []))))

    all-over : (front rest : List ℕ) → rotation I S u ≡ front ++ rest → All (IsOver front) front → All (IsOver (rotation I S u)) (rotation I S u)
    all-over front [] split over = subst (λ (zs : List ℕ). All (IsOver zs) zs) (sym (split ∙ append-nil front)) over
    all-over front (x ∷ rest) split over =
        all-over (front ++ x ∷ []) rest (split ∙ sym (append_assoc front (x ∷ []) rest)) (over-more front rest x split over)

    pub pushed-in-time : IsInTime I R u
    pushed-in-time x lt flown =
        let own : flies S u x ≡ true = sym (pushed-flies I S u None u x) ∙ flown in
        let one = All-contains (IsOver (rotation I S u)) (rotation I S u) x (all-over [] (rotation I S u) refl (All-nil (IsOver []))) (rotation-each I S u x lt own) in
        let time = one.over in
        let end = in_time in
        omega (arith, time, end)
