-- The legs of an aircraft are flown one after another.
use Rattle.std.proofs.Common.{◌≡◌, ℕ, suc, ◌+◌, ◌<◌, inl, inr, true, false, List, [], ◌∷◌, ◌++◌, length, get_or, refl, sym, ap, subst, ◌∙◌, arith}
use Rattle.std.specs.List.{All, AllPairs, Contains}
use Rattle.std.proofs.lemmas.List.{append_assoc}
use Rattle.std.proofs.lemmas.List.Elements.{All-contains, All-head, Contains-append_right, Contains-append_cases}
use Rattle.desk_data.specs.Situation.{Situation, legs_of, plane_at}
use Rattle.desk_data.specs.PlanRows.{PlanRows}
use Rattle.desk_rules.specs.Rotations.{dep}
use Rattle.desk_rules.specs.Maintenance.{flies}
use Rattle.desk_rules.specs.Words.{Flies, Precedes, Follows, IsFirst, MeetsC5}
use Rattle.desk_rules.proofs.MaintenanceLaws.{flies-holds, flies-from}
use Rattle.desk_model.specs.Push.{rotation}
use Rattle.desk_data.proofs.PathOrder.{pairs_head, pairs_tail}
use Rattle.desk_model.proofs.RotationOrder.{flown_once, precedes-trans, precedes-itself, pairs_across, pairs_after, rotation-ordered, rotation-flown, rotation-each}
use Rattle.near_moves.proofs.ListLaws.{contains_cases, contains_head, contains_tail}
use Rattle.near_moves.specs.Chains.{from_airport, to_airport, is_same, tally, led, stand}
use Rattle.near_moves.proofs.TallyLaws.{AreApart, apart-ordered}

-- each leg leaves where the one before it arrived, and the first leaves airport a
abbrev pub IsChain : Situation → ℕ → List ℕ → Type 0
IsChain I a [] = Unit {0}
IsChain I a (x ∷ xs) = (from_airport I x ≡ a) × IsChain I (to_airport I x) xs

pub chain-tally : (I : Situation) (a c : ℕ) (xs : List ℕ) → IsChain I a xs → tally (from_airport I) c xs + is_same (led I a xs) c ≡ tally (to_airport I) c xs + is_same a c
chain-tally I a c [] chain = refl
chain-tally I a c (x ∷ xs) chain =
    let more = chain-tally I (to_airport I x) c xs chain.1 in
    let here : is_same (from_airport I x) c ≡ is_same a c = ap (λ (b : ℕ). is_same b c) chain.0 in
    omega (arith, more, here)

pub chain-front : (I : Situation) (a : ℕ) (xs ys : List ℕ) → IsChain I a (xs ++ ys) → IsChain I a xs
chain-front I a [] ys chain = tt
chain-front I a (x ∷ xs) ys chain = (chain.0, chain-front I (to_airport I x) xs ys chain.1)

pub chain-back : (I : Situation) (a : ℕ) (xs ys : List ℕ) → IsChain I a (xs ++ ys) → IsChain I (led I a xs) ys
chain-back I a [] ys chain = chain
chain-back I a (x ∷ xs) ys chain = chain-back I (to_airport I x) xs ys chain.1

pub led-append : (I : Situation) (a : ℕ) (xs ys : List ℕ) → led I a (xs ++ ys) ≡ led I (led I a xs) ys
led-append I a [] ys = refl
led-append I a (x ∷ xs) ys = led-append I (to_airport I x) xs ys

-- where they lead is told by the last of them
led-last : (I : Situation) (a x : ℕ) (xs : List ℕ) (d : ℕ) → led I a (x ∷ xs) ≡ to_airport I (get_or (x ∷ xs) (length xs) d)
led-last I a x [] d = refl
led-last I a x (y ∷ xs) d = led-last I (to_airport I x) y xs d

pub led-end : (I : Situation) (a : ℕ) (xs : List ℕ) (n d : ℕ) → length xs ≡ suc n → led I a xs ≡ to_airport I (get_or xs n d)
led-end I a [] n d long = absurd cc
led-end I a (x ∷ xs) n d long =
    led-last I a x xs d ∙ ap (λ (k : ℕ). to_airport I (get_or (x ∷ xs) k d)) (omega (arith, long))

-- ---- the legs of an aircraft

pub rotation-apart : (I : Situation) (P : PlanRows) (p : ℕ) → AreApart (rotation I P p)
rotation-apart I P p = apart-ordered (Precedes P) (precedes-itself P) (rotation I P p) (rotation-ordered I P p)

pub in-rotation : (I : Situation) (P : PlanRows) (p x : ℕ) → Contains (rotation I P p) x → (x < legs_of I) × (flies P p x ≡ true)
in-rotation I P p x has = All-contains (λ y. (y < legs_of I) × (flies P p y ≡ true)) (rotation I P p) x (rotation-flown I P p) has

-- what comes behind or before a leg of the aircraft is a leg of it
later-in : (I : Situation) (P : PlanRows) (p x z : ℕ) → flies P p x ≡ true → z < legs_of I → Precedes P x z → Contains (rotation I P p) z
later-in I P p x z flown within before =
    let plane : before.plane ≡ p = flown_once P x before.plane p before.dep (dep P x) before.first (flies-holds P p x flown) in
    rotation-each I P p z within (flies-from P p z before.later (subst (λ (q : ℕ). Flies P z q before.later) plane before.second))

earlier-in : (I : Situation) (P : PlanRows) (p x z : ℕ) → flies P p x ≡ true → z < legs_of I → Precedes P z x → Contains (rotation I P p) z
earlier-in I P p x z flown within before =
    let plane : before.plane ≡ p = flown_once P x before.plane p before.later (dep P x) before.second (flies-holds P p x flown) in
    rotation-each I P p z within (flies-from P p z before.dep (subst (λ (q : ℕ). Flies P z q before.dep) plane before.first))

next-follows : (I : Situation) (P : PlanRows) (p : ℕ) (before : List ℕ) (x y : ℕ) (after : List ℕ) → rotation I P p ≡ before ++ x ∷ y ∷ after → Follows I P x y
next-follows I P p before x y after is =
    let ordered : AllPairs (Precedes P) (before ++ x ∷ y ∷ after) = subst (AllPairs (Precedes P)) is (rotation-ordered I P p) in
    let from_x = pairs_after (Precedes P) before (x ∷ y ∷ after) ordered in
    let after_x : All (Precedes P x) (y ∷ after) = pairs_head (Precedes P) x (y ∷ after) from_x in
    let after_y : All (Precedes P y) after = pairs_head (Precedes P) y after (pairs_tail (Precedes P) x (y ∷ after) from_x) in
    let across : All (λ z. All (Precedes P z) (x ∷ y ∷ after)) before = pairs_across (Precedes P) before (x ∷ y ∷ after) ordered in
    let own = in-rotation I P p x (subst (λ (zs : List ℕ). Contains zs x) (sym is) (Contains-append_right before (x ∷ y ∷ after) x (contains_head x (y ∷ after)))) in
    record {
      before = All-head (Precedes P x) y after after_x;
      next = λ z within past short.
          elim (Contains-append_cases before (x ∷ y ∷ after) z (subst (λ (zs : List ℕ). Contains zs z) is (later-in I P p x z own.1 within past))) [
            | inl first ↦
                let less : Precedes P z x = All-head (Precedes P z) x (y ∷ after) (All-contains (λ w. All (Precedes P w) (x ∷ y ∷ after)) before z across first) in
                precedes-itself P z (precedes-trans P z x z less past)
            | inr from ↦ elim (contains_cases x z (y ∷ after) from) [
              | inl same ↦ precedes-itself P x (subst (Precedes P x) (sym same) past)
              | inr more ↦ elim (contains_cases y z after more) [
                | inl same ↦ precedes-itself P y (subst (λ (w : ℕ). Precedes P w y) (sym same) short)
                | inr last ↦ precedes-itself P y (precedes-trans P y z y (All-contains (Precedes P y) after z after_y last) short)
              ]
            ]
          ];
    }

first-is : (I : Situation) (P : PlanRows) (p x : ℕ) (after : List ℕ) → rotation I P p ≡ x ∷ after → IsFirst I P x
first-is I P p x after is z within before =
    let ordered : AllPairs (Precedes P) (x ∷ after) = subst (AllPairs (Precedes P)) is (rotation-ordered I P p) in
    let own = in-rotation I P p x (subst (λ (zs : List ℕ). Contains zs x) (sym is) (contains_head x after)) in
    elim (contains_cases x z after (subst (λ (zs : List ℕ). Contains zs z) is (earlier-in I P p x z own.1 within before))) [
      | inl same ↦ precedes-itself P x (subst (λ (w : ℕ). Precedes P w x) (sym same) before)
      | inr more ↦ precedes-itself P x (precedes-trans P x z x (All-contains (Precedes P x) after z (pairs_head (Precedes P) x after ordered) more) before)
    ]

abbrev pub KeepsC5 : Situation → PlanRows → Type 0
KeepsC5 I P = (x : ℕ) → x < legs_of I → MeetsC5 I P x

chain-after : (I : Situation) (P : PlanRows) (p : ℕ) → KeepsC5 I P → (plane_at I p).surface ≡ false → (before : List ℕ) (x : ℕ) (after : List ℕ) → rotation I P p ≡ before ++ x ∷ after → IsChain I (to_airport I x) after
chain-after I P p keeps air before x [] is = tt
chain-after I P p keeps air before x (y ∷ after) is =
    let there : Contains (before ++ x ∷ y ∷ after) y = Contains-append_right before (x ∷ y ∷ after) y (contains_tail x y (y ∷ after) (contains_head y after)) in
    let own = in-rotation I P p y (subst (λ (zs : List ℕ). Contains zs y) (sym is) there) in
    let front = in-rotation I P p x (subst (λ (zs : List ℕ). Contains zs x) (sym is) (Contains-append_right before (x ∷ y ∷ after) x (contains_head x (y ∷ after)))) in
    let right = keeps y own.0 p (dep P y) (flies-holds P p y own.1) air in (
      right.follower x front.0 (next-follows I P p before x y after is),
      chain-after I P p keeps air (before ++ x ∷ []) y after (is ∙ sym (append_assoc before (x ∷ []) (y ∷ after))),
    )

chain-of : (I : Situation) (P : PlanRows) (p : ℕ) → KeepsC5 I P → (plane_at I p).surface ≡ false → (legs : List ℕ) → rotation I P p ≡ legs → IsChain I (plane_at I p).origin.0 legs
chain-of I P p keeps air [] is = tt
chain-of I P p keeps air (x ∷ after) is =
    let own = in-rotation I P p x (subst (λ (zs : List ℕ). Contains zs x) (sym is) (contains_head x after)) in
    let right = keeps x own.0 p (dep P x) (flies-holds P p x own.1) air in
    (right.first (first-is I P p x after is), chain-after I P p keeps air [] x after is)

pub rotation-chain : (I : Situation) (P : PlanRows) (p : ℕ) → KeepsC5 I P → (plane_at I p).surface ≡ false → IsChain I (plane_at I p).origin.0 (rotation I P p)
rotation-chain I P p keeps air = chain-of I P p keeps air (rotation I P p) refl

pub airports-balance : (I : Situation) (P : PlanRows) (p a : ℕ) → KeepsC5 I P → (plane_at I p).surface ≡ false → tally (from_airport I) a (rotation I P p) + is_same (stand I P p) a ≡ tally (to_airport I) a (rotation I P p) + is_same (plane_at I p).origin.0 a
airports-balance I P p a keeps air = chain-tally I (plane_at I p).origin.0 a (rotation I P p) (rotation-chain I P p keeps air)
