-- What is chosen makes the steps of the unit's moves.
use Rattle.std.proofs.Common.{◌≡◌, ℕ, ◌+◌, ◌<◌, ◌≤◌, inl, inr, Bool, true, false, ◌&&◌, cond, ltb, eqb, List, [], ◌∷◌, ◌++◌, length, get_or, map, take, refl, sym, ap, subst, ◌∙◌, arith}
use Rattle.std.specs.Prelude.{Some, None, filter}
use Rattle.std.specs.List.{All, list_all}
use Rattle.std.proofs.lemmas.Bool.{cases_lt}
use Rattle.std.proofs.lemmas.Bool.Decides.{nat_tests}
use Rattle.std.proofs.lemmas.List.{append_assoc, map-append, get_or_past}
use Rattle.std.proofs.lemmas.List.Elements.{All-cons, All-get_or, All-map, All-filter, filter-append, filter_agree}
use Rattle.std.proofs.lemmas.Simd.{map-map}
use Rattle.desk_units.specs.declared.numbers.Leg.{Leg}
use Rattle.desk_units.specs.declared.numbers.Plane.{Plane}
use Rattle.desk_units.specs.declared.numbers.Minute.{Minute}
use Rattle.desk_data.specs.declared.info.LegInfo.{LegInfo}
use Rattle.desk_data.specs.Situation.{Situation, legs_of, planes_of, airports_of, leg_at, no_leg, earliest}
use Rattle.desk_data.specs.PlanRows.{PlanRows, row_at}
use Rattle.desk_data.specs.Valid.{IsValid, IsLeg}
use Rattle.plan_moves.specs.declared.moves.Step.{Step}
use Rattle.plan_moves.specs.declared.moves.Move.{Move}
use Rattle.plan_moves.specs.declared.moves.Step.TheVariants.{Push, Tidy}
use Rattle.desk_rules.specs.Numbers.{numbers}
use Rattle.desk_rules.specs.Rotations.{dep}
use Rattle.near_moves.specs.MoveParts.{plane, minute, flier, is_restorable, run}
use Rattle.near_moves.specs.LegMoves.{retiming, retimings, exchange, exchanges, exchange_moments, comes_round, run_lengths, dropping, droppings, cancelling, brings_back, restoring_alone, restoring_both, restorings, handing, handing_step}
use Rattle.near_moves.specs.Near.{move_of, step_in_time}
use Rattle.near_legs.specs.declared.lists.By.TheVariants.{AirportPair}
use Rattle.near_legs.specs.declared.choice.Choice.{Choice}
use Rattle.near_legs.specs.declared.choice.Choice.TheVariants.{Depart, Exchange, Drop, Alone, Both}
use Rattle.near_legs.specs.LegTables.{is_number, is_listed, pair_number, AreListed}
use Rattle.near_legs.specs.Choices.{IsFlownLeg, IsChoice, steps_of, run_step, is_back_in_time, later_choice}
use Rattle.near_legs.proofs.RunLaws.{all_taken}

-- ---- lists

map-filter-at : {X Y : Type 0} (f : X → Y) (p : Y → Bool) (x : X) (xs : List X) (b : Bool) → map f (filter (λ z. p (f z)) xs) ≡ filter p (map f xs) → map f (cond b (x ∷ filter (λ z. p (f z)) xs) (filter (λ z. p (f z)) xs)) ≡ cond b (f x ∷ filter p (map f xs)) (filter p (map f xs))
map-filter-at f p x xs true more = ap (λ ys. f x ∷ ys) more
map-filter-at f p x xs false more = more

pub map-filter : {X Y : Type 0} (f : X → Y) (p : Y → Bool) (xs : List X) → map f (filter (λ x. p (f x)) xs) ≡ filter p (map f xs)
map-filter f p [] = refl
map-filter f p (x ∷ xs) = map-filter-at f p x xs (p (f x)) (map-filter f p xs)

filter-filter-at : {X : Type 0} (p q : X → Bool) (x : X) (xs : List X) (a b : Bool) → p x ≡ b → filter p (filter q xs) ≡ filter (λ z. q z && p z) xs → filter p (cond a (x ∷ filter q xs) (filter q xs)) ≡ cond (a && b) (x ∷ filter (λ z. q z && p z) xs) (filter (λ z. q z && p z) xs)
filter-filter-at p q x xs true true is more = rw is (ap (λ ys. x ∷ ys) more)
filter-filter-at p q x xs true false is more = rw is more
filter-filter-at p q x xs false b is more = more

pub filter-filter : {X : Type 0} (p q : X → Bool) (xs : List X) → filter p (filter q xs) ≡ filter (λ x. q x && p x) xs
filter-filter p q [] = refl
filter-filter p q (x ∷ xs) = filter-filter-at p q x xs (q x) (p x) refl (filter-filter p q xs)

-- ---- departures

departures-at : (I : Situation) (P : PlanRows) (leg : Leg) (b : Bool) → map (steps_of I P) ((cond b (Depart leg (minute (earliest I leg.0)) ∷ []) []) ++ map (later_choice leg (dep P leg.0)) (15 ∷ 30 ∷ 60 ∷ 120 ∷ 240 ∷ [])) ≡ map (retiming P leg.0) ((cond b (earliest I leg.0 ∷ []) []) ++ map (λ later. dep P leg.0 + later) (15 ∷ 30 ∷ 60 ∷ 120 ∷ 240 ∷ []))
departures-at I P leg true = refl
departures-at I P leg false = refl

pub departures-are : (I : Situation) (P : PlanRows) (leg : Leg) (early : Minute) (departs : ℕ) (first all : List Choice) → early.0 ≡ earliest I leg.0 → departs ≡ dep P leg.0 → first ≡ cond (ltb early.0 departs) (Depart leg early ∷ []) [] → all ≡ first ++ map (later_choice leg departs) (15 ∷ 30 ∷ 60 ∷ 120 ∷ 240 ∷ []) → map (steps_of I P) all ≡ retimings I P leg.0
unfolding retimings
departures-are I P leg early departs first all at leaves front whole =
    let e : early ≡ minute (earliest I leg.0) = ap minute at in
    let d : first ≡ cond (ltb (earliest I leg.0) (dep P leg.0)) (Depart leg (minute (earliest I leg.0)) ∷ []) [] =
    front ∙ ap (λ (m : Minute). cond (ltb m.0 departs) (Depart leg m ∷ []) []) e ∙ ap (λ (n : ℕ). cond (ltb (earliest I leg.0) n) (Depart leg (minute (earliest I leg.0)) ∷ []) []) leaves in
    ap (map (steps_of I P)) (whole ∙ ap (λ (xs : List Choice). xs ++ map (later_choice leg departs) (15 ∷ 30 ∷ 60 ∷ 120 ∷ 240 ∷ [])) d ∙ ap (λ (n : ℕ). (cond (ltb (earliest I leg.0) (dep P leg.0)) (Depart leg (minute (earliest I leg.0)) ∷ []) []) ++ map (later_choice leg n) (15 ∷ 30 ∷ 60 ∷ 120 ∷ 240 ∷ [])) leaves)
    ∙ departures-at I P leg (ltb (earliest I leg.0) (dep P leg.0))

-- ---- exchanges

pub exchanges-are : (I : Situation) (P : PlanRows) (first second : Plane) (all : List Choice) (moments : List ℕ) → all ≡ map (λ at. Exchange first second (minute at)) moments → moments ≡ exchange_moments I P first.0 second.0 → map (steps_of I P) all ≡ exchanges I P first.0 second.0
unfolding exchanges
exchanges-are I P first second all moments is are =
    ap (map (steps_of I P)) is ∙ map-map (steps_of I P) (λ at. Exchange first second (minute at)) moments ∙ ap (map (exchange first.0 second.0)) are

pub exchanges-sound : (I : Situation) (P : PlanRows) (first second : Plane) (all : List Choice) (moments : List ℕ) → all ≡ map (λ at. Exchange first second (minute at)) moments → All (IsChoice I P) all
exchanges-sound I P first second all moments is = subst (All (IsChoice I P)) (sym is) (All-map (IsChoice I P) (λ at. Exchange first second (minute at)) moments (λ k d lt. tt))

-- ---- runs that are cancelled

taken : (xs ys : List ℕ) (n : ℕ) → xs ≡ ys → length xs ≤ n → take n xs ≡ ys
taken xs ys n same long = all_taken xs n long ∙ same

pub drops-are : (I : Situation) (P : PlanRows) (leg : Leg) (all : List Choice) (items : List ℕ) (n : ℕ) → all ≡ map (Drop leg) (filter (comes_round I P leg.0) (take n items)) → items ≡ run_lengths → length items ≤ n → map (steps_of I P) all ≡ droppings I P leg.0
unfolding droppings
drops-are I P leg all items n is same long =
    ap (map (steps_of I P)) is
    ∙ map-map (steps_of I P) (Drop leg) (filter (comes_round I P leg.0) (take n items))
    ∙ ap (λ (ks : List ℕ). map (dropping I P leg.0) (filter (comes_round I P leg.0) ks)) (taken items run_lengths n same long)

pub drops-sound : (I : Situation) (P : PlanRows) (leg : Leg) (all : List Choice) (ks : List ℕ) → IsFlownLeg I P leg.0 → all ≡ map (Drop leg) ks → All (IsChoice I P) all
drops-sound I P leg all ks flown is = subst (All (IsChoice I P)) (sym is) (All-map (IsChoice I P) (Drop leg) ks (λ k d lt. flown))

-- ---- legs that are flown again

-- airports are below 500, so pairs with the same number are the same
ends_below : (I : Situation) (x : ℕ) → IsValid I → ((leg_at I x).origin.0 < 500) × ((leg_at I x).dest.0 < 500)
unfolding no_leg
ends_below I x valid =
    elim (cases_lt x (legs_of I)) [
      | inl within ↦
          let leg = All-get_or (IsLeg (airports_of I) (planes_of I) (legs_of I)) I.parts.legs x no_leg within valid.parts.legs in
          let few = valid.parts.few.airports in
          let origin = leg.origin in
          let dest = leg.dest in
          (omega (arith, few, origin), omega (arith, few, dest))
      | inr past ↦ rw (get_or_past I.parts.legs x no_leg past) (omega arith, omega arith)
    ]

pair_same : (from to other_from other_to : ℕ) → to < 500 → other_to < 500 → (eqb from other_from && eqb to other_to) ≡ eqb (pair_number from to) (pair_number other_from other_to)
pair_same from to other_from other_to below other_below = grind (arith, nat_tests)

regroup : (r : Bool) (same in_time : Bool) → (r && (same && in_time)) ≡ (cond r same false && in_time)
regroup true same in_time = refl
regroup false same in_time = refl

number_test : (r : Bool) (k n : ℕ) → is_number k (cond r (Some n) None) ≡ cond r (eqb n k) false
number_test true k n = refl
number_test false k n = refl

-- the number of the airports of leg x the other way round
abbrev pub back_number : Situation → ℕ → ℕ
back_number I x = pair_number (leg_at I x).dest.0 (leg_at I x).origin.0

-- the legs that are listed there are those that may be restored and lead back
pub backs-listed : (I : Situation) (P : PlanRows) (lists : List (List Leg)) (backs : List Leg) (there : LegInfo) (leg : Leg) → IsValid I → leg.0 < legs_of I → there ≡ leg_at I leg.0 → AreListed (legs_of I) I P AirportPair lists → backs ≡ get_or lists (pair_number there.dest.0 there.origin.0) []
    → map (λ (l : Leg). l.0) backs ≡ filter (is_listed I P AirportPair (back_number I leg.0)) (numbers (legs_of I))
backs-listed I P lists backs there leg valid within row are is =
    let own = All-get_or (IsLeg (airports_of I) (planes_of I) (legs_of I)) I.parts.legs leg.0 no_leg within valid.parts.legs in
    let few = valid.parts.few.airports in
    let origin = own.origin in
    let dest = own.dest in
    ap (map (λ (l : Leg). l.0)) (is ∙ ap (λ (i : LegInfo). get_or lists (pair_number i.dest.0 i.origin.0) []) row)
    ∙ are.each (back_number I leg.0) (omega (arith, few, origin, dest))

back_test : (I : Situation) (P : PlanRows) (x y : ℕ) → IsValid I → brings_back I P x y ≡ (is_listed I P AirportPair (back_number I x) y && is_back_in_time I x y)
unfolding brings_back
back_test I P x y valid =
    let there = leg_at I x in
    let back = leg_at I y in
    regroup (is_restorable I P y) (eqb back.origin.0 there.dest.0 && eqb back.dest.0 there.origin.0) (is_back_in_time I x y)
    ∙ ap (λ (b : Bool). b && is_back_in_time I x y)
    (ap (λ (b : Bool). cond (is_restorable I P y) b false) (pair_same back.origin.0 back.dest.0 there.dest.0 there.origin.0 (ends_below I y valid).1 (ends_below I x valid).0)
    ∙ sym (number_test (is_restorable I P y) (back_number I x) (pair_number back.origin.0 back.dest.0)))

backs-are : (I : Situation) (P : PlanRows) (x : ℕ) (cancelled : List Leg) → IsValid I → map (λ (l : Leg). l.0) cancelled ≡ filter (is_listed I P AirportPair (back_number I x)) (numbers (legs_of I)) → map (λ (l : Leg). l.0) (filter (λ (b : Leg). is_back_in_time I x b.0) cancelled) ≡ filter (brings_back I P x) (numbers (legs_of I))
backs-are I P x cancelled valid are =
    map-filter (λ (l : Leg). l.0) (is_back_in_time I x) cancelled
    ∙ ap (filter (is_back_in_time I x)) are
    ∙ filter-filter (is_back_in_time I x) (is_listed I P AirportPair (back_number I x)) (numbers (legs_of I))
    ∙ filter_agree (λ y. is_listed I P AirportPair (back_number I x) y && is_back_in_time I x y) (brings_back I P x) (λ y. sym (back_test I P x y valid)) (numbers (legs_of I))

pub restorings-are : (I : Situation) (P : PlanRows) (leg : Leg) (p : Plane) (all : List Choice) (cancelled : List Leg) → IsValid I → all ≡ Alone leg p ∷ map (Both leg p) (filter (λ (b : Leg). is_back_in_time I leg.0 b.0) cancelled) → map (λ (l : Leg). l.0) cancelled ≡ filter (is_listed I P AirportPair (back_number I leg.0)) (numbers (legs_of I)) → map (steps_of I P) all ≡ restorings I P leg.0 p.0
unfolding restorings
restorings-are I P leg p all cancelled valid is are =
    let backs = filter (λ (b : Leg). is_back_in_time I leg.0 b.0) cancelled in
    ap (map (steps_of I P)) is
    ∙ ap (λ ys. restoring_alone I leg.0 p.0 ∷ ys)
    (map-map (steps_of I P) (Both leg p) backs
    ∙ sym (map-map (restoring_both I leg.0 p.0) (λ (l : Leg). l.0) backs)
    ∙ ap (map (restoring_both I leg.0 p.0)) (backs-are I P leg.0 cancelled valid are))

pub restorings-sound : (I : Situation) (P : PlanRows) (leg : Leg) (p : Plane) (all : List Choice) (cancelled : List Leg) → leg.0 < legs_of I → p.0 < planes_of I → All (λ l. l.0 < legs_of I) cancelled → all ≡ Alone leg p ∷ map (Both leg p) (filter (λ (b : Leg). is_back_in_time I leg.0 b.0) cancelled) → All (IsChoice I P) all
restorings-sound I P leg p all cancelled within planes inside is =
    let backs = filter (λ (b : Leg). is_back_in_time I leg.0 b.0) cancelled in
    subst (All (IsChoice I P)) (sym is)
    (All-cons (IsChoice I P) (Alone leg p) (map (Both leg p) backs) within
    (All-map (IsChoice I P) (Both leg p) backs (λ k d lt. (within, All-filter (λ (b : Leg). is_back_in_time I leg.0 b.0) (λ (l : Leg). l.0 < legs_of I) cancelled inside k d lt, planes))))

-- ---- the steps of a run

pub dropping-is : (I : Situation) (P : PlanRows) (x k : ℕ) (legs : List Leg) (p : Plane) (steps : List Step) → map (λ (l : Leg). l.0) legs ≡ run I P x k → p.0 ≡ flier (row_at P x) → steps ≡ map (λ (l : Leg). run_step P None l.0) legs ++ Push p None ∷ [] ++ Tidy ∷ [] → steps ≡ dropping I P x k
dropping-is I P x k legs p steps are by is =
    is
    ∙ append_assoc (map (λ (l : Leg). run_step P None l.0) legs) (Push p None ∷ []) (Tidy ∷ [])
    ∙ ap (λ (front : List Step). front ++ Push p None ∷ Tidy ∷ []) (sym (map-map (cancelling P) (λ (l : Leg). l.0) legs) ∙ ap (map (cancelling P)) are)
    ∙ ap (λ (q : Plane). map (cancelling P) (run I P x k) ++ Push q None ∷ Tidy ∷ []) (ap plane by)

pub handing-is : (I : Situation) (P : PlanRows) (x k : ℕ) (legs : List Leg) (to p : Plane) (steps : List Step) → map (λ (l : Leg). l.0) legs ≡ run I P x k → p.0 ≡ flier (row_at P x) → steps ≡ map (λ (l : Leg). run_step P (Some to) l.0) legs ++ Push to None ∷ [] ++ Push p None ∷ [] ++ Tidy ∷ [] → steps ≡ handing I P x k to.0
handing-is I P x k legs to p steps are by is =
    let front = map (λ (l : Leg). run_step P (Some to) l.0) legs in
    is
    ∙ append_assoc (front ++ Push to None ∷ []) (Push p None ∷ []) (Tidy ∷ [])
    ∙ append_assoc front (Push to None ∷ []) (Push p None ∷ Tidy ∷ [])
    ∙ ap (λ (first : List Step). first ++ Push to None ∷ Push p None ∷ Tidy ∷ []) (sym (map-map (handing_step P to.0) (λ (l : Leg). l.0) legs) ∙ ap (map (handing_step P to.0)) are)
    ∙ ap (λ (q : Plane). map (handing_step P to.0) (run I P x k) ++ Push to None ∷ Push q None ∷ Tidy ∷ []) (ap plane by)

-- ---- moves

pub made_more : (I : Situation) (P : PlanRows) (before after : List Move) (front : List Choice) (choice : Choice) (steps : List Step) → before ≡ map move_of (filter (list_all step_in_time) (map (steps_of I P) front)) → steps ≡ steps_of I P choice → after ≡ before ++ map move_of (filter (list_all step_in_time) (steps ∷ [])) → after ≡ map move_of (filter (list_all step_in_time) (map (steps_of I P) (front ++ choice ∷ [])))
made_more I P before after front choice steps is made more =
    let test = list_all step_in_time in
    more
    ∙ ap (λ (ms : List Move). ms ++ map move_of (filter test (steps ∷ []))) is
    ∙ ap (λ (s : List Step). map move_of (filter test (map (steps_of I P) front)) ++ map move_of (filter test (s ∷ []))) made
    ∙ sym (map-append move_of (filter test (map (steps_of I P) front)) (filter test (steps_of I P choice ∷ [])))
    ∙ ap (map move_of) (sym (filter-append test (map (steps_of I P) front) (steps_of I P choice ∷ [])))
    ∙ ap (λ (ss : List (List Step)). map move_of (filter test ss)) (sym (map-append (steps_of I P) front (choice ∷ [])))
