-- Where no leg goes on, no route has two legs.
use Rattle.std.proofs.Common.{◌≡◌, ℕ, ◌+◌, ◌<◌, Bool, true, false, ltb, List, [], ◌∷◌, ◌++◌, length, get_or, map, take, refl, sym, ap, ◌∙◌, arith}
use Rattle.std.specs.Prelude.{Some, None, filter}
use Rattle.std.specs.List.{flat_map}
use Rattle.std.proofs.lemmas.Bool.{true≢false, lt-ltb}
use Rattle.std.proofs.lemmas.List.{flat_map_more, map_more, get_or-map}
use Rattle.desk_units.specs.declared.numbers.Leg.{Leg}
use Rattle.desk_units.specs.declared.numbers.Cabin.{Cabin}
use Rattle.desk_units.specs.declared.numbers.Cabin.TheVariants as cabin
use Rattle.desk_units.specs.declared.numbers.Airport.{Airport}
use Rattle.desk_data.specs.Situation.{Situation, legs_of, leg_at}
use Rattle.desk_data.specs.Booked.{dest_of}
use Rattle.desk_data.specs.PlanRows.{PlanRows}
use Rattle.desk_rules.specs.Numbers.{numbers}
use Rattle.desk_rules.specs.Rotations.{arr}
use Rattle.desk_rules.proofs.HourLaws.{length-numbers}
use Rattle.desk_model.proofs.GroupPlans.{numbers-at}
use Rattle.near_moves.specs.MoveParts.{leg}
use Rattle.near_pax.specs.declared.sought.Sought.{Sought}
use Rattle.near_pax.specs.Sought.{is_sought}
use Rattle.near_pax.specs.Onward.{onward_from, leads_on}
use Rattle.near_pax.specs.Tried.{new_routes, doubles_in, doubles_of}
use Rattle.near_pax.proofs.SoughtLaws.{sought-holds, sought-from}
use Rattle.near_pax.proofs.StartLaws.{IsTaken, SeeksAfter, new-taken, first-sought, second-sought}
use Rattle.near_pax.proofs.TriedLaws.{doubles-seconds, new-cabins}

-- the second of two legs goes on from where the first arrives, in the time of the first
onward-sought : (I : Situation) (P : PlanRows) (r : ℕ) (stem : List (Leg × Cabin)) (x y : ℕ) (c : Cabin) (sought : Sought) (dest : Airport) → SeeksAfter I P r stem sought → sought.to ≡ None → dest.0 ≡ dest_of I r → IsTaken I P r (stem ++ (leg x, c) ∷ (leg y, c) ∷ []) → is_sought I P (onward_from sought dest (leg_at I x).dest.0) y ≡ true
onward-sought I P r stem x y c sought dest seeks none is taken =
    let next : Sought = record { from = (leg_at I x).dest; to = Some dest; earliest = arr I P x; until = sought.until } in
    let first = sought-holds I P sought x (first-sought I P r stem x y c sought seeks none taken) in
    let second = sought-holds I P next y (second-sought I P r stem x y c next dest (record { from = refl; earliest = refl; until = seeks.until }) refl is taken) in
    let early = first.early in
    let later = second.early in
    sought-from I P (onward_from sought dest (leg_at I x).dest.0) y (record {
      flown = second.flown;
      from = second.from;
      to = second.to;
      early = omega (arith, early, later);
      soon = second.soon;
    })

none-of : {X : Type 0} (xs : List X) → ltb 0 (length xs) ≡ false → xs ≡ []
none-of [] none = refl
none-of (x ∷ xs) none = absurd (true≢false (sym (lt-ltb 0 (length (x ∷ xs)) (omega arith)) ∙ none))

-- one leg more
pub doubles-more : {Y : Type 0} (f : ℕ → List Y) (old mid new : List Y) (legs : List Leg) (i : ℕ) (d : Leg) → i < length legs → mid ≡ old ++ flat_map f (map (λ (leg : Leg). leg.0) (take i legs)) → new ≡ mid ++ f (get_or legs i d).0 → new ≡ old ++ flat_map f (map (λ (leg : Leg). leg.0) (take (i + 1) legs))
doubles-more {Y} f old mid new legs i d lt before is =
    is
    ∙ ap (λ (ys : List Y). ys ++ f (get_or legs i d).0) before
    ∙ flat_map_more f old (map (λ (leg : Leg). leg.0) (take i legs)) (get_or legs i d).0
    ∙ sym (ap (λ (xs : List ℕ). old ++ flat_map f xs) (map_more (λ (leg : Leg). leg.0) legs i d lt))

-- what a table of all numbers below n has at one of them
pub table-at : (g : ℕ → Bool) (n a : ℕ) (table : List Bool) → table ≡ map g (numbers n) → a < n → get_or table a false ≡ g a
table-at g n a table is lt =
    let long : a < length (numbers n) = (let e = length-numbers n in omega (arith, lt, e)) in
    ap (λ (bs : List Bool). get_or bs a false) is ∙ get_or-map g (numbers n) a 0 false long ∙ ap g (numbers-at n a 0 lt)

-- no new route has this leg and another after the stem
pub none-onward : (I : Situation) (P : PlanRows) (r : ℕ) (told : List (List (Leg × Cabin))) (stem : List (Leg × Cabin)) (x : ℕ) (sought : Sought) (dest : Airport) → SeeksAfter I P r stem sought → sought.to ≡ None → dest.0 ≡ dest_of I r → leads_on I P sought dest (leg_at I x).dest.0 ≡ false → new_routes I P r told (doubles_of stem x (numbers (legs_of I))) ≡ []
none-onward I P r told stem x sought dest seeks named is none =
    let ns = numbers (legs_of I) in
    let test = is_sought I P (onward_from sought dest (leg_at I x).dest.0) in
    let nobody : filter test ns ≡ [] = none-of (filter test ns) none in
    let whole : (k : Cabin) → new_routes I P r told (doubles_in stem x ns k) ≡ [] = λ k.
    sym (doubles-seconds I P r told stem x test k (λ y on. onward-sought I P r stem x y k sought dest seeks named is (new-taken I P r told (stem ++ (leg x, k) ∷ (leg y, k) ∷ []) on)))
    ∙ ap (λ (ys : List ℕ). new_routes I P r told (doubles_in stem x ys k)) nobody in
    new-cabins I P r told stem x ns
    ∙ ap (λ (paths : List (List (Leg × Cabin))). paths ++ (new_routes I P r told (doubles_in stem x ns cabin.B) ++ new_routes I P r told (doubles_in stem x ns cabin.E))) (whole cabin.F)
    ∙ ap (λ (paths : List (List (Leg × Cabin))). paths ++ new_routes I P r told (doubles_in stem x ns cabin.E)) (whole cabin.B)
    ∙ whole cabin.E
