-- The rules K1, K2 and K4: what their tests say.
use Rattle.std.proofs.Common.{◌≡◌, ℕ, inl, inr, Bool, true, ◌&&◌, eqb, leb, List, [], ◌∷◌, refl, sym, ap, subst, ◌∙◌, arith}
use Rattle.std.specs.Prelude.{◌↔◌}
use Rattle.std.proofs.lemmas.Bool.{and_parts, and_from, eqb-true, eq-eqb, leb-true, le-leb}
use Rattle.desk_units.specs.declared.numbers.Airport.{Airport}
use Rattle.desk_data.specs.declared.parts.Parts.{Parts}
use Rattle.desk_data.specs.declared.row.Row.{Row}
use Rattle.crew_rules.specs.declared.crew.CrewInfo.{CrewInfo}
use Rattle.crew_rules.specs.declared.crew.WorkedLeg.{WorkedLeg}
use Rattle.crew_rules.specs.Crews.{worked, is_chain, is_in_turn, end_of, keeps_k1, keeps_k2, keeps_k4}
use Rattle.crew_rules.specs.Words.{IsFirst, IsLast, IsNext, MeetsK1, MeetsK2, MeetsK4}
use Rattle.crew_rules.proofs.PlaceLaws.{first_of, first_is, first_none, next_none, next_cases, next_head, next_tail, last_none, last_tail, last_before, last_alone, alone_last}

-- ---- a test of the first leg and a number, and of each later one and what the one before gives

abbrev each_next : (ℕ → WorkedLeg → Bool) → (WorkedLeg → ℕ) → ℕ → List WorkedLeg → Bool
each_next test gives at [] = true
each_next test gives at (w ∷ ws) = test at w && each_next test gives (gives w) ws

record HoldNext (test : ℕ → WorkedLeg → Bool) (gives : WorkedLeg → ℕ) (at : ℕ) (ws : List WorkedLeg) : Type 0 where
  first : (w : WorkedLeg) → IsFirst ws w → test at w ≡ true
  later : (v w : WorkedLeg) → IsNext ws v w → test (gives v) w ≡ true

next_hold : (test : ℕ → WorkedLeg → Bool) (gives : WorkedLeg → ℕ) (at : ℕ) (ws : List WorkedLeg) → each_next test gives at ws ≡ true → HoldNext test gives at ws
next_hold test gives at [] h = record { first = λ w f. absurd (first_none w f); later = λ v w n. absurd (next_none v w n) }
next_hold test gives at (y ∷ ys) h =
    let both = and_parts (test at y) (each_next test gives (gives y) ys) h in
    let rest = next_hold test gives (gives y) ys both.1 in
    record {
      first = λ w f. subst (λ (z : WorkedLeg). test at z ≡ true) (first_is y w ys f) both.0;
      later = λ v w n. elim (next_cases y v w ys n) [
        | inl here ↦ subst (λ (z : WorkedLeg). test (gives z) w ≡ true) here.0 (rest.first w here.1)
        | inr after ↦ rest.later v w after
      ];
    }

next_from : (test : ℕ → WorkedLeg → Bool) (gives : WorkedLeg → ℕ) (at : ℕ) (ws : List WorkedLeg) → HoldNext test gives at ws → each_next test gives at ws ≡ true
next_from test gives at [] h = refl
next_from test gives at (y ∷ ys) h =
    and_from (test at y) (each_next test gives (gives y) ys) (h.first y (first_of y ys))
    (next_from test gives (gives y) ys (record { first = λ w f. h.later y w (next_head y w ys f); later = λ v w n. h.later v w (next_tail y v w ys n) }))

-- ---- K1

abbrev leaves : ℕ → WorkedLeg → Bool
leaves at w = eqb w.origin.0 at

abbrev goes_to : WorkedLeg → ℕ
goes_to w = w.dest.0

chain_is : (at : ℕ) (ws : List WorkedLeg) → is_chain at ws ≡ each_next leaves goes_to at ws
chain_is at [] = refl
chain_is at (w ∷ ws) = ap (λ (b : Bool). eqb w.origin.0 at && b) (chain_is w.dest.0 ws)

same_airport : (a b : Airport) → a.0 ≡ b.0 → a ≡ b
same_airport a b same = ap (λ (n : ℕ). let given : Airport = record { 0 = n } in given) same

pub k1-holds : (D : Parts) (P : List Row) (c : CrewInfo) → keeps_k1 D P c ≡ true ↔ MeetsK1 c (worked D P c)
unfolding keeps_k1
k1-holds D P c =
    let ws = worked D P c in
    let is = chain_is c.home.0 ws in (
      λ h.
          let all = next_hold leaves goes_to c.home.0 ws (sym is ∙ h) in
          record {
            first = λ w f. same_airport w.origin c.home (eqb-true w.origin.0 c.home.0 (all.first w f));
            later = λ v w n. same_airport w.origin v.dest (eqb-true w.origin.0 v.dest.0 (all.later v w n));
          },
      λ m. is ∙ next_from leaves goes_to c.home.0 ws (record {
        first = λ w f. eq-eqb w.origin.0 c.home.0 (ap (λ (a : Airport). a.0) (m.first w f));
        later = λ v w n. eq-eqb w.origin.0 v.dest.0 (ap (λ (a : Airport). a.0) (m.later v w n));
      }),
    )

-- ---- K2

abbrev departs_after : ℕ → WorkedLeg → Bool
departs_after ready w = leb ready w.dep.0

abbrev arrives_at : WorkedLeg → ℕ
arrives_at w = w.arr.0

turn_is : (ready : ℕ) (ws : List WorkedLeg) → is_in_turn ready ws ≡ each_next departs_after arrives_at ready ws
turn_is ready [] = refl
turn_is ready (w ∷ ws) = ap (λ (b : Bool). leb ready w.dep.0 && b) (turn_is w.arr.0 ws)

pub k2-holds : (D : Parts) (P : List Row) (c : CrewInfo) → keeps_k2 D P c ≡ true ↔ MeetsK2 (worked D P c)
unfolding keeps_k2
k2-holds D P c =
    let ws = worked D P c in
    let is = turn_is 0 ws in (
      λ h.
          let all = next_hold departs_after arrives_at 0 ws (sym is ∙ h) in
          λ v w n. leb-true v.arr.0 w.dep.0 (all.later v w n),
      λ m. is ∙ next_from departs_after arrives_at 0 ws (record {
        first = λ w f. le-leb 0 w.dep.0 (omega arith);
        later = λ v w n. le-leb v.arr.0 w.dep.0 (m v w n);
      }),
    )

-- ---- K4

end_is : (at : ℕ) (y : WorkedLeg) (ys : List WorkedLeg) (w : WorkedLeg) → IsLast (y ∷ ys) w → end_of at (y ∷ ys) ≡ w.dest.0
end_is at y [] w l = ap (λ (z : WorkedLeg). z.dest.0) (last_alone y w l)
end_is at y (z ∷ zs) w l = end_is y.dest.0 z zs w (last_tail y z w zs l)

pub last_of : (y : WorkedLeg) (ys : List WorkedLeg) → (w : WorkedLeg) × IsLast (y ∷ ys) w
last_of y [] = (y, alone_last y)
last_of y (z ∷ zs) = let last = last_of z zs in (last.0, last_before y last.0 (z ∷ zs) last.1)

end-holds : (c : CrewInfo) (ws : List WorkedLeg) → eqb (end_of c.home.0 ws) c.home.0 ≡ true → MeetsK4 c ws
end-holds c [] h = λ w l. absurd (last_none w l)
end-holds c (y ∷ ys) h = λ w l. same_airport w.dest c.home (sym (end_is c.home.0 y ys w l) ∙ eqb-true (end_of c.home.0 (y ∷ ys)) c.home.0 h)

end-from : (c : CrewInfo) (ws : List WorkedLeg) → MeetsK4 c ws → eqb (end_of c.home.0 ws) c.home.0 ≡ true
end-from c [] m = eq-eqb c.home.0 c.home.0 refl
end-from c (y ∷ ys) m =
    let last = last_of y ys in
    eq-eqb (end_of c.home.0 (y ∷ ys)) c.home.0 (end_is c.home.0 y ys last.0 last.1 ∙ ap (λ (a : Airport). a.0) (m last.0 last.1))

pub k4-holds : (D : Parts) (P : List Row) (c : CrewInfo) → keeps_k4 D P c ≡ true ↔ MeetsK4 c (worked D P c)
unfolding keeps_k4
k4-holds D P c = (end-holds c (worked D P c), end-from c (worked D P c))
