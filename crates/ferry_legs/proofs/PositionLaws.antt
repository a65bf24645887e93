-- The positions by airport: one more position, and one aircraft that comes or leaves.
use Rattle.std.proofs.Common.{◌≡◌, ◌≢◌, ℕ, zero, suc, ◌+◌, ◌-◌, ◌<◌, inl, inr, Bool, true, false, ◌&&◌, cond, eqb, List, [], ◌∷◌, ◌++◌, length, get_or, set, map, take, drop, replicate, add-one, refl, sym, ap, subst, ◌∙◌, arith}
use Rattle.std.proofs.Math.Path.{fun_ext}
use Rattle.std.specs.Prelude.{All}
use Rattle.std.proofs.lemmas.Bool.{cases_eq, eq-eqb, ne_eqb, eqb-true}
use Rattle.std.proofs.lemmas.List.{append-nil, map_push, length-set, length-replicate, get_or-replicate, get_or-set_same, get_or-set_other}
use Rattle.std.proofs.lemmas.List.Elements.{filter-append, All-nil, All-cons}
use Rattle.desk_data.specs.declared.info.PlaneInfo.{PlaneInfo}
use Rattle.desk_data.specs.declared.info.PositionInfo.{PositionInfo}
use Rattle.desk_data.specs.Situation.{Situation, airports_of}
use Rattle.desk_rules.specs.Cost.{is_wanted}
use Rattle.ferry_legs.specs.declared.wanted.Wanted.{Wanted}
use Rattle.ferry_legs.specs.Positions.{positions_at, with_hand, ArePositionsOf, ArePositions, with_one_more, with_one_less}
use Rattle.ferry_legs.proofs.SumLaws.{one_if, map_kept}

-- ---- positions one by one

pub positions_none : (lists : List (List Wanted)) (count : ℕ) (hand : PositionInfo → ℕ) → lists ≡ replicate count [] → ArePositionsOf [] count hand lists
positions_none lists count hand is = subst (ArePositionsOf [] count hand) (sym is) (record {
  all = length-replicate count [];
  each = λ a lt. get_or-replicate count a [] [] lt;
})

more_here : (positions : List PositionInfo) (position : PositionInfo) (a : ℕ) → position.airport.0 ≡ a → positions_at (positions ++ position ∷ []) a ≡ positions_at positions a ++ position ∷ []
more_here positions position a same =
    filter-append (λ (p : PositionInfo). eqb p.airport.0 a) positions (position ∷ [])
    ∙ ap (λ (b : Bool). positions_at positions a ++ cond b (position ∷ []) []) (eq-eqb position.airport.0 a same)

more_there : (positions : List PositionInfo) (position : PositionInfo) (a : ℕ) → position.airport.0 ≢ a → positions_at (positions ++ position ∷ []) a ≡ positions_at positions a
more_there positions position a apart =
    filter-append (λ (p : PositionInfo). eqb p.airport.0 a) positions (position ∷ [])
    ∙ ap (λ (b : Bool). positions_at positions a ++ cond b (position ∷ []) []) (ne_eqb position.airport.0 a apart)
    ∙ append-nil (positions_at positions a)

pub position_more : (positions : List PositionInfo) (count : ℕ) (hand : PositionInfo → ℕ) (airports : List (List Wanted)) (position : PositionInfo) → position.airport.0 < count → ArePositionsOf positions count hand airports → ArePositionsOf (positions ++ position ∷ []) count hand (set airports position.airport.0 (get_or airports position.airport.0 [] ++ with_hand hand position ∷ []))
position_more positions count hand airports position lt are =
    let b = position.airport.0 in
    let rows : List Wanted = get_or airports b [] ++ with_hand hand position ∷ [] in
    record {
      all = length-set airports b rows ∙ are.all;
      each = λ a within. elim (cases_eq a b) [
        | inl same ↦
            ap (λ (k : ℕ). get_or (set airports b rows) k []) same
            ∙ get_or-set_same airports b rows [] (omega (arith, are.all, lt))
            ∙ ap (λ (ws : List Wanted). ws ++ with_hand hand position ∷ []) (are.each b lt)
            ∙ sym (map_push (with_hand hand) (positions_at positions b) position)
            ∙ ap (map (with_hand hand)) (sym (more_here positions position b refl))
            ∙ ap (λ (k : ℕ). map (with_hand hand) (positions_at (positions ++ position ∷ []) k)) (sym same)
        | inr apart ↦
            get_or-set_other airports b a rows [] apart
            ∙ are.each a within
            ∙ ap (map (with_hand hand)) (sym (more_there positions position a (λ e. apart (sym e))))
      ];
    }

-- ---- an aircraft comes or leaves

pub positions_same : (I : Situation) (hand now : PositionInfo → ℕ) (airports : List (List Wanted)) → ((position : PositionInfo) → hand position ≡ now position) → ArePositions I hand airports → ArePositions I now airports
positions_same I hand now airports same are = subst (λ (h : PositionInfo → ℕ). ArePositions I h airports) (fun_ext same) are

map_twice : {X Y Z : Type 0} (g : Y → Z) (f : X → Y) (xs : List X) → map g (map f xs) ≡ map (λ x. g (f x)) xs
map_twice g f [] = refl
map_twice {X} {Y} {Z} g f (x ∷ xs) = ap (λ (zs : List Z). g (f x) ∷ zs) (map_twice g f xs)

-- the positions of one airport change
stepped : (I : Situation) (hand now : PositionInfo → ℕ) (airports : List (List Wanted)) (b : ℕ) (f : Wanted → Wanted) → b < airports_of I → ((position : PositionInfo) → position.airport.0 ≡ b → f (with_hand hand position) ≡ with_hand now position) → ((position : PositionInfo) → position.airport.0 ≢ b → hand position ≡ now position) → ArePositions I hand airports → ArePositions I now (set airports b (map f (get_or airports b [])))
stepped I hand now airports b f lt here there are =
    let rows : List Wanted = map f (get_or airports b []) in
    record {
      all = length-set airports b rows ∙ are.all;
      each = λ a within. elim (cases_eq a b) [
        | inl same ↦
            ap (λ (k : ℕ). get_or (set airports b rows) k []) same
            ∙ get_or-set_same airports b rows [] (omega (arith, are.all, lt))
            ∙ ap (map f) (are.each b lt)
            ∙ map_twice f (with_hand hand) (positions_at I.parts.positions b)
            ∙ map_kept (λ (p : PositionInfo). f (with_hand hand p)) (with_hand now) (λ (p : PositionInfo). eqb p.airport.0 b) I.parts.positions (λ p on. here p (eqb-true p.airport.0 b on))
            ∙ ap (λ (k : ℕ). map (with_hand now) (positions_at I.parts.positions k)) (sym same)
        | inr apart ↦
            get_or-set_other airports b a rows [] apart
            ∙ are.each a within
            ∙ map_kept (with_hand hand) (with_hand now) (λ (p : PositionInfo). eqb p.airport.0 a) I.parts.positions (λ p on.
            ap (λ (h : ℕ). (let w : Wanted = record { position = p; at_hand = h } in w)) (there p (λ e. apart (sym (eqb-true p.airport.0 a on) ∙ e))))
      ];
    }

less_here : (position : PositionInfo) (h : ℕ) (wanted here : Bool) → here ≡ true → cond wanted (let w : Wanted = record { position = position; at_hand = h - 1 } in w) (let w : Wanted = record { position = position; at_hand = h } in w) ≡ (let w : Wanted = record { position = position; at_hand = h - one_if (wanted && here) } in w)
less_here position h true true is = refl
less_here position h false true is = ap (λ (k : ℕ). (let w : Wanted = record { position = position; at_hand = k } in w)) (let same : h ≡ h - 0 = omega arith in same)
less_here position h true false is = absurd cc
less_here position h false false is = absurd cc

less_there : (h : ℕ) (wanted here : Bool) → here ≡ false → h ≡ h - one_if (wanted && here)
less_there h true true is = absurd cc
less_there h false true is = absurd cc
less_there h true false is = omega arith
less_there h false false is = omega arith

more_hand : (position : PositionInfo) (h : ℕ) (wanted here : Bool) → here ≡ true → cond wanted (let w : Wanted = record { position = position; at_hand = h + 1 } in w) (let w : Wanted = record { position = position; at_hand = h } in w) ≡ (let w : Wanted = record { position = position; at_hand = h + one_if (wanted && here) } in w)
more_hand position h true true is = refl
more_hand position h false true is = ap (λ (k : ℕ). (let w : Wanted = record { position = position; at_hand = k } in w)) (omega arith)
more_hand position h true false is = absurd cc
more_hand position h false false is = absurd cc

more_apart : (h : ℕ) (wanted here : Bool) → here ≡ false → h ≡ h + one_if (wanted && here)
more_apart h true true is = absurd cc
more_apart h false true is = absurd cc
more_apart h true false is = omega arith
more_apart h false false is = omega arith

-- whether an aircraft is one that a position wants, at an airport
abbrev pub is_there : PlaneInfo → ℕ → PositionInfo → Bool
is_there plane there position = is_wanted position plane && eqb there position.airport.0

pub leaves : (I : Situation) (hand : PositionInfo → ℕ) (airports : List (List Wanted)) (plane : PlaneInfo) (b : ℕ) → b < airports_of I → ArePositions I hand airports → ArePositions I (λ position. hand position - one_if (is_there plane b position)) (set airports b (map (with_one_less plane) (get_or airports b [])))
leaves I hand airports plane b lt are =
    stepped I hand (λ position. hand position - one_if (is_there plane b position)) airports b (with_one_less plane) lt
    (λ position same. less_here position (hand position) (is_wanted position plane) (eqb b position.airport.0) (eq-eqb b position.airport.0 (sym same)))
    (λ position apart. less_there (hand position) (is_wanted position plane) (eqb b position.airport.0) (ne_eqb b position.airport.0 (λ e. apart (sym e))))
    are

pub comes : (I : Situation) (hand : PositionInfo → ℕ) (airports : List (List Wanted)) (plane : PlaneInfo) (b : ℕ) → b < airports_of I → ArePositions I hand airports → ArePositions I (λ position. hand position + one_if (is_there plane b position)) (set airports b (map (with_one_more plane) (get_or airports b [])))
comes I hand airports plane b lt are =
    stepped I hand (λ position. hand position + one_if (is_there plane b position)) airports b (with_one_more plane) lt
    (λ position same. more_hand position (hand position) (is_wanted position plane) (eqb b position.airport.0) (eq-eqb b position.airport.0 (sym same)))
    (λ position apart. more_apart (hand position) (is_wanted position plane) (eqb b position.airport.0) (ne_eqb b position.airport.0 (λ e. apart (sym e))))
    are

-- ---- few aircraft are at hand

all_few : (hand : PositionInfo → ℕ) (positions : List PositionInfo) → ((position : PositionInfo) → hand position < 2000) → All (λ w. w.at_hand < 2000) (map (with_hand hand) positions)
all_few hand [] few = All-nil (λ w. w.at_hand < 2000)
all_few hand (p ∷ ps) few = All-cons (λ w. w.at_hand < 2000) (with_hand hand p) (map (with_hand hand) ps) (few p) (all_few hand ps few)

pub few_at : (I : Situation) (hand : PositionInfo → ℕ) (airports : List (List Wanted)) (b : ℕ) → b < airports_of I → ((position : PositionInfo) → hand position < 2000) → ArePositions I hand airports → All (λ w. w.at_hand < 2000) (get_or airports b [])
few_at I hand airports b lt few are =
    subst (All (λ w. w.at_hand < 2000)) (sym (are.each b lt)) (all_few hand (positions_at I.parts.positions b) few)

-- ---- rows one by one

-- the first of them are changed, and the others are as they were
abbrev pub changed : {X : Type 0} → (X → X) → ℕ → List X → List X
changed f k xs = map f (take k xs) ++ drop k xs

changed_at : {X : Type 0} (f : X → X) (xs : List X) (k : ℕ) (d : X) → k < length xs → get_or (changed f k xs) k d ≡ get_or xs k d
changed_at f [] k d lt = absurd (omega arith)
changed_at f (x ∷ xs) zero d lt = refl
changed_at f (x ∷ xs) (suc k) d lt = changed_at f xs k d (omega (arith, lt))

changed_more : {X : Type 0} (f : X → X) (xs : List X) (k : ℕ) (d : X) → k < length xs → set (changed f k xs) k (f (get_or xs k d)) ≡ changed f (suc k) xs
changed_more f [] k d lt = absurd (omega arith)
changed_more f (x ∷ xs) zero d lt = refl
changed_more {X} f (x ∷ xs) (suc k) d lt = ap (λ (ys : List X). f x ∷ ys) (changed_more f xs k d (omega (arith, lt)))

pub one_changed : {X : Type 0} (f : X → X) (old now : List X) (k : ℕ) (d new : X) → k < length old → now ≡ changed f k old → new ≡ f (get_or now k d) → set now k new ≡ changed f (k + 1) old
one_changed {X} f old now k d new lt is put =
    ap (λ (ys : List X). set ys k new) is
    ∙ ap (set (changed f k old) k) (put ∙ ap (λ (ys : List X). f (get_or ys k d)) is ∙ ap f (changed_at f old k d lt))
    ∙ changed_more f old k d lt
    ∙ ap (λ (n : ℕ). changed f n old) (sym (add-one k))
