-- Duties: that they are the longest, and the rule K3.
use Rattle.std.proofs.Common.{◌≡◌, ℕ, ◌+◌, ◌<◌, ◌≤◌, inl, inr, true, ltb, List, [], ◌∷◌, length, refl, sym, ap, subst, arith}
use Rattle.std.specs.Prelude.{◌↔◌, All}
use Rattle.std.specs.List.{list_all}
use Rattle.std.proofs.lemmas.Bool.{and_parts, and_from, cases_Bool, leb-true, le-leb, ltb-true, ltb-false}
use Rattle.std.proofs.lemmas.List.Elements.{All-nil, All-cons, All-head, All-tail}
use Rattle.desk_data.specs.declared.parts.Parts.{Parts}
use Rattle.desk_data.specs.declared.row.Row.{Row}
use Rattle.crew_rules.specs.declared.crew.CrewInfo.{CrewInfo}
use Rattle.crew_rules.specs.declared.crew.WorkedLeg.{WorkedLeg}
use Rattle.crew_rules.specs.Crews.{worked, duties, before_duties, last_arrival, is_short, keeps_k3}
use Rattle.crew_rules.specs.Words.{IsFirst, IsLast, IsNext, AreDuties, MeetsK3}
use Rattle.crew_rules.proofs.PlaceLaws.{first_of, first_is, first_none, next_none, next_alone, next_cases, next_tail, next_head, last_tail, last_alone}
use Rattle.crew_rules.proofs.RuleLaws.{last_of}

-- ---- the duties are the longest

abbrev Within : ℕ → List WorkedLeg → Type 0
Within rest duty = (v w : WorkedLeg) → IsNext duty v w → w.dep.0 < v.arr.0 + rest

abbrev HasLegs : List WorkedLeg → Type 0
HasLegs duty = 1 ≤ length duty

alone : (rest : ℕ) (w : WorkedLeg) (ws : List WorkedLeg) → AreDuties rest ws [] → AreDuties rest (w ∷ ws) ((w ∷ []) ∷ [])
alone rest w ws are = record {
  whole = ap (λ (vs : List WorkedLeg). w ∷ vs) are.whole;
  some = All-cons HasLegs (w ∷ []) [] (let le : 1 ≤ length (w ∷ []) = omega arith in le) (All-nil HasLegs);
  within = All-cons (Within rest) (w ∷ []) [] (λ v x n. absurd (next_alone w v x n)) (All-nil (Within rest));
  between = λ d e n. absurd (next_alone (w ∷ []) d e n);
}

-- a leg that joins the first duty
joins : (rest : ℕ) (w v : WorkedLeg) (ws vs : List WorkedLeg) (later : List (List WorkedLeg)) → v.dep.0 < w.arr.0 + rest → AreDuties rest ws ((v ∷ vs) ∷ later) → AreDuties rest (w ∷ ws) ((w ∷ v ∷ vs) ∷ later)
joins rest w v ws vs later soon are =
    let own = All-head (Within rest) (v ∷ vs) later are.within in
    record {
      whole = ap (λ (us : List WorkedLeg). w ∷ us) are.whole;
      some = All-cons HasLegs (w ∷ v ∷ vs) later (let le : 1 ≤ length (w ∷ v ∷ vs) = omega arith in le) (All-tail HasLegs (v ∷ vs) later are.some);
      within = All-cons (Within rest) (w ∷ v ∷ vs) later
          (λ a b n. elim (next_cases w a b (v ∷ vs) n) [
            | inl here ↦ subst (λ (z : WorkedLeg). b.dep.0 < z.arr.0 + rest) here.0 (subst (λ (z : WorkedLeg). z.dep.0 < w.arr.0 + rest) (first_is v b vs here.1) soon)
            | inr after ↦ own a b after
          ])
          (All-tail (Within rest) (v ∷ vs) later are.within);
      between = λ d e n a b last first. elim (next_cases (w ∷ v ∷ vs) d e later n) [
        | inl here ↦ are.between (v ∷ vs) e (next_head (v ∷ vs) e later here.1) a b (last_tail w v a vs (subst (λ (z : List WorkedLeg). IsLast z a) (sym here.0) last)) first
        | inr after ↦ are.between d e (next_tail (v ∷ vs) d e later after) a b last first
      ];
    }

-- a leg after which there is a rest
rests : (rest : ℕ) (w v : WorkedLeg) (ws vs : List WorkedLeg) (later : List (List WorkedLeg)) → w.arr.0 + rest ≤ v.dep.0 → AreDuties rest ws ((v ∷ vs) ∷ later) → AreDuties rest (w ∷ ws) ((w ∷ []) ∷ (v ∷ vs) ∷ later)
rests rest w v ws vs later parted are = record {
  whole = ap (λ (us : List WorkedLeg). w ∷ us) are.whole;
  some = All-cons HasLegs (w ∷ []) ((v ∷ vs) ∷ later) (let le : 1 ≤ length (w ∷ []) = omega arith in le) are.some;
  within = All-cons (Within rest) (w ∷ []) ((v ∷ vs) ∷ later) (λ a b n. absurd (next_alone w a b n)) are.within;
  between = λ d e n a b last first. elim (next_cases (w ∷ []) d e ((v ∷ vs) ∷ later) n) [
    | inl here ↦
        let is_w : w ≡ a = last_alone w a (subst (λ (z : List WorkedLeg). IsLast z a) (sym here.0) last) in
        let is_duty : (v ∷ vs) ≡ e = first_is (v ∷ vs) e later here.1 in
        let is_v : v ≡ b = first_is v b vs (subst (λ (z : List WorkedLeg). IsFirst z b) (sym is_duty) first) in
        subst (λ (z : WorkedLeg). z.arr.0 + rest ≤ b.dep.0) is_w (subst (λ (z : WorkedLeg). w.arr.0 + rest ≤ z.dep.0) is_v parted)
    | inr after ↦ are.between d e after a b last first
  ];
}

none_short : (later : List (List WorkedLeg)) → All HasLegs ([] ∷ later) → ⊥
none_short later some = let le : 1 ≤ 0 = All-head HasLegs [] later some in omega (arith, le)

more : (rest : ℕ) (w : WorkedLeg) (ws : List WorkedLeg) (ds : List (List WorkedLeg)) → AreDuties rest ws ds → AreDuties rest (w ∷ ws) (before_duties rest w ds)
more rest w ws [] are = alone rest w ws are
more rest w ws ([] ∷ later) are = absurd (none_short later are.some)
more rest w ws ((v ∷ vs) ∷ later) are =
    elim (cases_Bool (ltb v.dep.0 (w.arr.0 + rest))) [
      | inl soon ↦ rw soon (joins rest w v ws vs later (ltb-true v.dep.0 (w.arr.0 + rest) soon) are)
      | inr parted ↦ rw parted (rests rest w v ws vs later (ltb-false v.dep.0 (w.arr.0 + rest) parted) are)
    ]

pub are_duties : (rest : ℕ) (ws : List WorkedLeg) → AreDuties rest ws (duties rest ws)
unfolding duties
are_duties rest [] = record {
  whole = refl;
  some = All-nil HasLegs;
  within = All-nil (Within rest);
  between = λ d e n. absurd (next_none d e n);
}
are_duties rest (w ∷ ws) = more rest w ws (duties rest ws) (are_duties rest ws)

-- ---- K3

abbrev ShortDuty : CrewInfo → List WorkedLeg → Type 0
ShortDuty c duty = (v w : WorkedLeg) → IsFirst duty v → IsLast duty w → w.arr.0 ≤ v.dep.0 + c.duty

arrival_is : (y : WorkedLeg) (ys : List WorkedLeg) (w : WorkedLeg) → IsLast (y ∷ ys) w → last_arrival y ys ≡ w.arr.0
arrival_is y [] w l = ap (λ (z : WorkedLeg). z.arr.0) (last_alone y w l)
arrival_is y (z ∷ zs) w l = arrival_is z zs w (last_tail y z w zs l)

short-holds : (c : CrewInfo) (duty : List WorkedLeg) → is_short c.duty duty ≡ true → ShortDuty c duty
short-holds c [] h = λ v w f l. absurd (first_none v f)
short-holds c (y ∷ ys) h = λ v w f l.
    let le = leb-true (last_arrival y ys) (y.dep.0 + c.duty) h in
    subst (λ (z : WorkedLeg). w.arr.0 ≤ z.dep.0 + c.duty) (first_is y v ys f) (subst (λ (n : ℕ). n ≤ y.dep.0 + c.duty) (arrival_is y ys w l) le)

short-from : (c : CrewInfo) (duty : List WorkedLeg) → ShortDuty c duty → is_short c.duty duty ≡ true
short-from c [] m = refl
short-from c (y ∷ ys) m =
    let last = last_of y ys in
    le-leb (last_arrival y ys) (y.dep.0 + c.duty) (subst (λ (n : ℕ). n ≤ y.dep.0 + c.duty) (sym (arrival_is y ys last.0 last.1)) (m y last.0 (first_of y ys) last.1))

all-holds : (c : CrewInfo) (ds : List (List WorkedLeg)) → list_all (is_short c.duty) ds ≡ true → MeetsK3 c ds
all-holds c [] h = All-nil (ShortDuty c)
all-holds c (d ∷ ds) h =
    let both = and_parts (is_short c.duty d) (list_all (is_short c.duty) ds) h in
    All-cons (ShortDuty c) d ds (short-holds c d both.0) (all-holds c ds both.1)

all-from : (c : CrewInfo) (ds : List (List WorkedLeg)) → MeetsK3 c ds → list_all (is_short c.duty) ds ≡ true
all-from c [] m = refl
all-from c (d ∷ ds) m =
    and_from (is_short c.duty d) (list_all (is_short c.duty) ds) (short-from c d (All-head (ShortDuty c) d ds m)) (all-from c ds (All-tail (ShortDuty c) d ds m))

pub k3-holds : (D : Parts) (P : List Row) (c : CrewInfo) → keeps_k3 D P c ≡ true ↔ MeetsK3 c (duties c.rest (worked D P c))
unfolding keeps_k3
k3-holds D P c = (all-holds c (duties c.rest (worked D P c)), all-from c (duties c.rest (worked D P c)))
