-- Where the last leg leaves an aircraft, and the aircraft that a position wants.
use Rattle.std.proofs.Common.{◌≡◌, ℕ, zero, suc, ◌<◌, ◌≤◌, Bool, true, false, not, ◌&&◌, cond, eqb, List, [], ◌∷◌, ◌++◌, length, get_or, take, All, refl, sym, ap, subst, ◌∙◌, arith}
use Rattle.std.specs.Prelude.{Option, Some, None, filter}
use Rattle.std.proofs.lemmas.List.Elements.{All-nil, All-push, All-filter, filter-append}
use Rattle.desk_units.specs.declared.numbers.Airport.{Airport}
use Rattle.desk_units.specs.declared.numbers.Leg.{Leg}
use Rattle.desk_data.specs.declared.info.PositionInfo.{PositionInfo}
use Rattle.desk_data.specs.Situation.{Situation, legs_of, planes_of, plane_at}
use Rattle.desk_data.specs.PlanRows.{PlanRows}
use Rattle.desk_rules.specs.Numbers.{numbers}
use Rattle.desk_rules.specs.Cost.{is_wanted, ends_at, at_hand}
use Rattle.plan_reads.specs.Last.{AreLasts, stand}
use Rattle.plan_reads.proofs.LastLaws.{left_asked}
use Rattle.plan_checks.specs.Stands.{end_of, is_there, AreStands, planes_ending_at, AreHere, count_of_wanted}

-- ---- where the last leg leaves the aircraft

stand_if : (surface : Bool) (there : Airport) (airport : ℕ) → is_there (cond surface None (Some there)) airport ≡ (not surface && eqb there.0 airport)
stand_if true there airport = refl
stand_if false there airport = refl

pub stand_is : (I : Situation) (P : PlanRows) (p airport : ℕ) (lasts : List (Option Leg)) → AreLasts I P (λ p. I.parts.to.0) (legs_of I) lasts → p < planes_of I → is_there (end_of I p (get_or lasts p None)) airport ≡ ends_at I P p airport
stand_is I P p airport lasts h lt =
    let last = get_or lasts p None in
    stand_if (plane_at I p).surface (stand I p last) airport
    ∙ ap (λ (b : Bool). not (plane_at I p).surface && b) (sym (left_asked I P p I.parts.to.0 airport last (h.each p lt)))

-- ---- the aircraft that end at an airport, and those that a position wants

below : (most n : ℕ) → n ≤ most → All (λ k. k < most) (numbers n)
below most zero within = All-nil (λ k. k < most)
below most (suc n) within = All-push (λ k. k < most) (numbers n) n (below most n (omega arith)) (omega arith)

planes_ending_at-below : (stands : List (Option Airport)) (airport n : ℕ) → All (λ p. p < n) (planes_ending_at stands airport n)
planes_ending_at-below stands airport n = All-filter (λ p. is_there (get_or stands p None) airport) (λ p. p < n) (numbers n) (below n n (omega arith))

-- the aircraft that are at hand
abbrev is_at_hand : Situation → PlanRows → PositionInfo → ℕ → Bool
is_at_hand I P position p = is_wanted position (plane_at I p) && ends_at I P p position.airport.0

-- one test of one more number after the other is both
one_more : (wants there : Bool) (test : ℕ → Bool) (n : ℕ) → test n ≡ wants → filter test (cond there (n ∷ []) []) ≡ cond (wants && there) (n ∷ []) []
one_more true true test n is = ap (λ (b : Bool). cond b (n ∷ []) []) is
one_more false true test n is = ap (λ (b : Bool). cond b (n ∷ []) []) is
one_more true false test n is = refl
one_more false false test n is = refl

one_filter : (test : ℕ → Bool) (n : ℕ) → filter test (numbers (suc n)) ≡ filter test (numbers n) ++ cond (test n) (n ∷ []) []
one_filter test n = filter-append test (numbers n) (n ∷ [])

-- those that a position wants among those that end there are those at hand
wanted_here : (I : Situation) (P : PlanRows) (stands : List (Option Airport)) (position : PositionInfo) → AreStands I P stands → (n : ℕ) → n ≤ planes_of I → filter (λ p. is_wanted position (plane_at I p)) (planes_ending_at stands position.airport.0 n) ≡ filter (is_at_hand I P position) (numbers n)
wanted_here I P stands position h zero within = refl
wanted_here I P stands position h (suc n) within =
    let wants : ℕ → Bool = λ p. is_wanted position (plane_at I p) in
    let there : Bool = is_there (get_or stands n None) position.airport.0 in
    ap (filter wants) (one_filter (λ p. is_there (get_or stands p None) position.airport.0) n)
    ∙ filter-append wants (planes_ending_at stands position.airport.0 n) (cond there (n ∷ []) [])
    ∙ ap (λ (front : List ℕ). front ++ filter wants (cond there (n ∷ []) [])) (wanted_here I P stands position h n (omega arith))
    ∙ ap (λ (last : List ℕ). filter (is_at_hand I P position) (numbers n) ++ last) (one_more (wants n) there wants n refl)
    ∙ ap (λ (b : Bool). filter (is_at_hand I P position) (numbers n) ++ cond (wants n && b) (n ∷ []) []) (h.each n position.airport.0 (omega arith))
    ∙ sym (one_filter (is_at_hand I P position) n)

pub here_at_hand : (I : Situation) (P : PlanRows) (stands : List (Option Airport)) (position : PositionInfo) (count : ℕ) (here : List ℕ) → AreStands I P stands → AreHere I stands position.airport.0 count here → count_of_wanted I position (take count here) ≡ at_hand I P position
here_at_hand I P stands position count here h gathered =
    ap (count_of_wanted I position) gathered.each ∙ ap length (wanted_here I P stands position h (planes_of I) (omega arith))

pub here_below : (I : Situation) (stands : List (Option Airport)) (airport count : ℕ) (here : List ℕ) → AreHere I stands airport count here → All (λ p. p < planes_of I) (take count here)
here_below I stands airport count here gathered =
    subst (λ (planes : List ℕ). All (λ p. p < planes_of I) planes) (sym gathered.each) (planes_ending_at-below stands airport (planes_of I))
