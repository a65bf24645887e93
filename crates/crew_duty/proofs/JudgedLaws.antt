-- Items that are judged crew by crew and rule by rule, and that they are the broken ones.
use Rattle.std.proofs.Common.{◌≡◌, ◌≢◌, ℕ, ◌+◌, ◌<◌, ◌≤◌, ◌⊎◌, inl, inr, Bool, true, false, ◌&&◌, ◌||◌, eqb, ltb, List, [], ◌∷◌, length, get_or, set, take, refl, sym, ap, subst, ◌∙◌, arith}
use Rattle.std.specs.Prelude.{map, All, ◌↔◌}
use Rattle.std.specs.List.{Contains}
use Rattle.std.proofs.lemmas.Bool.{cases_Bool, eq-eqb, ltb-true}
use Rattle.std.proofs.lemmas.Bool.Decides.{nat_tests}
use Rattle.std.proofs.lemmas.List.{get_or-map, take_all}
use Rattle.std.proofs.lemmas.List.Folds.{list_any_at, list_any_more}
use Rattle.desk_data.specs.declared.parts.Parts.{Parts}
use Rattle.desk_data.specs.declared.row.Row.{Row}
use Rattle.kept_set.specs.Kept.{AreSet}
use Rattle.kept_set.proofs.ListLaws.{none_in}
use Rattle.crew_rules.specs.declared.crew.CrewInfo.{CrewInfo}
use Rattle.crew_rules.specs.declared.crew.CrewBroken.{CrewBroken}
use Rattle.crew_rules.specs.declared.crew.CrewBroken.TheVariants.{K1, K2, K3, K4}
use Rattle.crew_rules.specs.Broken.{breaks_crew, crew_at, crew_of}
use Rattle.crew_duty.specs.declared.faults.CrewFaults.{CrewFaults}
use Rattle.crew_duty.specs.declared.faults.CrewRule.{CrewRule}
use Rattle.crew_duty.specs.declared.faults.CrewRule.TheVariants.{Chain, Turn, Duty, Home}
use Rattle.crew_duty.specs.Faults.{AreJudged, among, by_faults, faults_of, has_fault, is_fault, is_of, item_of}
use Rattle.crew_duty.specs.Users.{AreUsers, has_leg, has_user, users_at}
use Rattle.crew_duty.specs.Board.{AreBroken}
use Rattle.crew_duty.proofs.FaultLaws.{same_faults}

abbrev pub no_faults : CrewFaults
no_faults = record { k1 = false; k2 = false; k3 = false; k4 = false }

iff_trans : {A B C : Type 0} → A ↔ B → B ↔ C → A ↔ C
iff_trans ab bc = (λ a. bc.0 (ab.0 a), λ c. ab.1 (bc.1 c))

not_both : (b : Bool) → b ≡ true → b ≡ false → ⊥
not_both b one other = absurd cc

-- ---- an item by its rule and its crew

pub the_item : (rule : CrewRule) (y : CrewBroken) → is_of rule y ≡ true → y ≡ item_of rule (crew_of y)
the_item Chain (K1 k) h = refl
the_item Chain (K2 k) h = absurd cc
the_item Chain (K3 k) h = absurd cc
the_item Chain (K4 k) h = absurd cc
the_item Turn (K1 k) h = absurd cc
the_item Turn (K2 k) h = refl
the_item Turn (K3 k) h = absurd cc
the_item Turn (K4 k) h = absurd cc
the_item Duty (K1 k) h = absurd cc
the_item Duty (K2 k) h = absurd cc
the_item Duty (K3 k) h = refl
the_item Duty (K4 k) h = absurd cc
the_item Home (K1 k) h = absurd cc
the_item Home (K2 k) h = absurd cc
the_item Home (K3 k) h = absurd cc
the_item Home (K4 k) h = refl

its_rule : (rule : CrewRule) (k : ℕ) → is_of rule (item_of rule k) ≡ true
its_rule Chain k = refl
its_rule Turn k = refl
its_rule Duty k = refl
its_rule Home k = refl

its_crew : (rule : CrewRule) (k : ℕ) → crew_of (item_of rule k) ≡ k
its_crew Chain k = refl
its_crew Turn k = refl
its_crew Duty k = refl
its_crew Home k = refl

its_fault : (rule : CrewRule) (k : ℕ) (faults : CrewFaults) → is_fault (item_of rule k) faults ≡ has_fault rule faults
its_fault Chain k faults = refl
its_fault Turn k faults = refl
its_fault Duty k faults = refl
its_fault Home k faults = refl

number_or_other : (q p : ℕ) → (q ≡ p) ⊎ (q ≢ p)
number_or_other q p = grind arith

-- an item is that of a rule and a crew, or not
one_or_other : (rule : CrewRule) (n : ℕ) (y : CrewBroken) → (y ≡ item_of rule n) ⊎ ((y ≢ item_of rule n) × ((is_of rule y ≡ false) ⊎ (n ≢ crew_of y)))
one_or_other rule n y =
    elim (cases_Bool (is_of rule y)) [
      | inl same ↦ elim (number_or_other n (crew_of y)) [
        | inl own ↦ inl (the_item rule y same ∙ ap (item_of rule) (sym own))
        | inr other ↦ inr (λ e. other (sym (ap crew_of e ∙ its_crew rule n)), inr other)
      ]
      | inr other ↦ inr (λ e. not_both (is_of rule y) (ap (is_of rule) e ∙ its_rule rule n) other, inl other)
    ]

-- ---- one item after another

or_no : (a b : Bool) → b ≡ false → (a || b) ≡ a
or_no true b h = refl
or_no false b h = h

or_yes : (a b : Bool) → b ≡ true → (a || b) ≡ true
or_yes true b h = refl
or_yes false b h = h

number_not : (a b : ℕ) → a ≢ b → eqb a b ≡ false
number_not a b h = grind (arith, nat_tests)

away : (a b c : Bool) → (a ≡ false) ⊎ (c ≡ false) → (a && (b || c)) ≡ (a && b)
away true b c (inl h) = absurd cc
away false b c (inl h) = refl
away true b c (inr h) = or_no b c h
away false b c (inr h) = refl

none_of : (numbers : List ℕ) (k : ℕ) → among (take 0 numbers) k ≡ false
none_of [] k = refl
none_of (n ∷ numbers) k = refl

none_touched : (a b : Bool) → b ≡ false → (a && b) ≡ true → ⊥
none_touched true b not_so so = not_both b so not_so
none_touched false b not_so so = absurd cc

pub none_judged : (test : CrewBroken → Bool) (rule : CrewRule) (numbers : List ℕ) (items : List CrewBroken) → AreJudged test (λ item. is_of rule item && among (take 0 numbers) (crew_of item)) items items
none_judged test rule numbers items y = (
  λ so. absurd (none_touched (is_of rule y) (among (take 0 numbers) (crew_of y)) (none_of numbers (crew_of y)) so),
  λ not_so. (λ has. has, λ has. has),
)

among_more : (numbers : List ℕ) (i k : ℕ) → i < length numbers → among (take (i + 1) numbers) k ≡ (among (take i numbers) k || eqb (get_or numbers i 0) k)
among_more numbers i k lt = list_any_more (λ (user : ℕ). eqb user k) numbers i 0 lt

touched_own : (rule : CrewRule) (numbers : List ℕ) (i : ℕ) → i < length numbers → (is_of rule (item_of rule (get_or numbers i 0)) && among (take (i + 1) numbers) (crew_of (item_of rule (get_or numbers i 0)))) ≡ true
touched_own rule numbers i lt =
    let n = get_or numbers i 0 in
    ap (λ (b : Bool). b && among (take (i + 1) numbers) (crew_of (item_of rule n))) (its_rule rule n)
    ∙ ap (among (take (i + 1) numbers)) (its_crew rule n)
    ∙ among_more numbers i n lt
    ∙ or_yes (among (take i numbers) n) (eqb n n) (eq-eqb n n refl)

touched_other : (rule : CrewRule) (numbers : List ℕ) (i : ℕ) (y : CrewBroken) → i < length numbers → (is_of rule y ≡ false) ⊎ (get_or numbers i 0 ≢ crew_of y)
    → (is_of rule y && among (take (i + 1) numbers) (crew_of y)) ≡ (is_of rule y && among (take i numbers) (crew_of y))
touched_other rule numbers i y lt other =
    ap (λ (b : Bool). is_of rule y && b) (among_more numbers i (crew_of y) lt)
    ∙ away (is_of rule y) (among (take i numbers) (crew_of y)) (eqb (get_or numbers i 0) (crew_of y)) (elim other [
      | inl not_so ↦ inl not_so
      | inr apart ↦ inr (number_not (get_or numbers i 0) (crew_of y) apart)
    ])

abbrev judged_at : (CrewBroken → Bool) → (CrewBroken → Bool) → List CrewBroken → List CrewBroken → CrewBroken → Type 0
judged_at test touched old new y = (touched y ≡ true → Contains new y ↔ (test y ≡ true)) × (touched y ≡ false → Contains new y ↔ Contains old y)

pub one_judged : (f : ℕ → CrewFaults) (rule : CrewRule) (numbers : List ℕ) (found : List CrewFaults) (d : CrewFaults) (old now new : List CrewBroken) (i : ℕ) → i < length numbers → found ≡ map f numbers
    → AreSet now new (item_of rule (get_or numbers i 0)) (has_fault rule (get_or found i d))
    → AreJudged (by_faults f) (λ item. is_of rule item && among (take i numbers) (crew_of item)) old now
    → AreJudged (by_faults f) (λ item. is_of rule item && among (take (i + 1) numbers) (crew_of item)) old new
one_judged f rule numbers found d old now new i lt is set before y =
    let n = get_or numbers i 0 in
    let own : get_or found i d ≡ f n = ap (λ (fs : List CrewFaults). get_or fs i d) is ∙ get_or-map f numbers i 0 d lt in
    let test : by_faults f (item_of rule n) ≡ has_fault rule (get_or found i d) =
    ap (λ (k : ℕ). is_fault (item_of rule n) (f k)) (its_crew rule n) ∙ its_fault rule n (f n) ∙ ap (has_fault rule) (sym own) in
    elim (one_or_other rule n y) [
      | inl same ↦ subst (judged_at (by_faults f) (λ item. is_of rule item && among (take (i + 1) numbers) (crew_of item)) old new) (sym same) (
        λ so. (λ has. test ∙ set.here.1 has, λ passes. set.here.0 (sym test ∙ passes)),
        λ not_so. absurd (not_both _ (touched_own rule numbers i lt) not_so),
      )
      | inr other ↦
          let alike = touched_other rule numbers i y lt other.1 in (
            λ so. iff_trans (set.others y other.0) ((before y).0 (sym alike ∙ so)),
            λ not_so. iff_trans (set.others y other.0) ((before y).1 (sym alike ∙ not_so)),
          )
    ]

pub set_so : (now new : List CrewBroken) (item other : CrewBroken) (is_in b : Bool) → item ≡ other → is_in ≡ b → AreSet now new item is_in → AreSet now new other b
set_so now new item other is_in b same as_found set = subst (λ (z : CrewBroken). AreSet now new z b) same (subst (AreSet now new item) as_found set)

pub all_judged : (test : CrewBroken → Bool) (rule : CrewRule) (numbers : List ℕ) (old new : List CrewBroken) (i : ℕ) → length numbers ≤ i
    → AreJudged test (λ item. is_of rule item && among (take i numbers) (crew_of item)) old new → AreJudged test (λ item. is_of rule item && among numbers (crew_of item)) old new
all_judged test rule numbers old new i end judged = subst (λ (some : List ℕ). AreJudged test (λ item. is_of rule item && among some (crew_of item)) old new) (take_all i numbers end) judged

-- ---- all rules

abbrev of_rule : (CrewBroken → Bool) → CrewRule → (ℕ → Bool) → List CrewBroken → List CrewBroken → Type 0
of_rule test rule touched old new = AreJudged test (λ item. is_of rule item && touched (crew_of item)) old new

pub four_judged : (test : CrewBroken → Bool) (touched : ℕ → Bool) (a b c d e : List CrewBroken) → of_rule test Chain touched a b → of_rule test Turn touched b c → of_rule test Duty touched c d → of_rule test Home touched d e
    → AreJudged test (λ item. touched (crew_of item)) a e
four_judged test touched a b c d e one two three four (K1 k) =
    let stays = iff_trans ((four (K1 k)).1 refl) (iff_trans ((three (K1 k)).1 refl) ((two (K1 k)).1 refl)) in
    (λ so. iff_trans stays ((one (K1 k)).0 so), λ not_so. iff_trans stays ((one (K1 k)).1 not_so))
four_judged test touched a b c d e one two three four (K2 k) =
    let stays = iff_trans ((four (K2 k)).1 refl) ((three (K2 k)).1 refl) in
    let was = (one (K2 k)).1 refl in
    (λ so. iff_trans stays ((two (K2 k)).0 so), λ not_so. iff_trans stays (iff_trans ((two (K2 k)).1 not_so) was))
four_judged test touched a b c d e one two three four (K3 k) =
    let stays = (four (K3 k)).1 refl in
    let was = iff_trans ((two (K3 k)).1 refl) ((one (K3 k)).1 refl) in
    (λ so. iff_trans stays ((three (K3 k)).0 so), λ not_so. iff_trans stays (iff_trans ((three (K3 k)).1 not_so) was))
four_judged test touched a b c d e one two three four (K4 k) =
    let was = iff_trans ((three (K4 k)).1 refl) (iff_trans ((two (K4 k)).1 refl) ((one (K4 k)).1 refl)) in
    (λ so. (four (K4 k)).0 so, λ not_so. iff_trans ((four (K4 k)).1 not_so) was)

-- ---- what is judged so is what is broken

breaks_so : (D : Parts) (cs : List CrewInfo) (P : List Row) (y : CrewBroken) → breaks_crew D cs P y ≡ (ltb (crew_of y) (length cs) && by_faults (λ k. faults_of D P (crew_at cs k)) y)
breaks_so D cs P (K1 k) = refl
breaks_so D cs P (K2 k) = refl
breaks_so D cs P (K3 k) = refl
breaks_so D cs P (K4 k) = refl

-- of a crew that there is, and of one that there is not
breaks_there : (D : Parts) (cs : List CrewInfo) (P : List Row) (y : CrewBroken) → ltb (crew_of y) (length cs) ≡ true → breaks_crew D cs P y ≡ by_faults (λ k. faults_of D P (crew_at cs k)) y
breaks_there D cs P y is = breaks_so D cs P y ∙ ap (λ (b : Bool). b && by_faults (λ k. faults_of D P (crew_at cs k)) y) is

breaks_none : (D : Parts) (cs : List CrewInfo) (P : List Row) (y : CrewBroken) → ltb (crew_of y) (length cs) ≡ false → breaks_crew D cs P y ≡ false
breaks_none D cs P y is = breaks_so D cs P y ∙ ap (λ (b : Bool). b && by_faults (λ k. faults_of D P (crew_at cs k)) y) is

pub all_broken : (D : Parts) (cs : List CrewInfo) (P : List Row) (numbers : List ℕ) (old new : List CrewBroken) → old ≡ [] → ((k : ℕ) → among numbers k ≡ ltb k (length cs))
    → AreJudged (by_faults (λ k. faults_of D P (crew_at cs k))) (λ item. among numbers (crew_of item)) old new → AreBroken D cs P new
all_broken D cs P numbers old new none all judged y =
    elim (cases_Bool (ltb (crew_of y) (length cs))) [
      | inl there ↦
          let is = breaks_there D cs P y there in
          let own = (judged y).0 (all (crew_of y) ∙ there) in
          (λ has. is ∙ own.0 has, λ so. own.1 (sym is ∙ so))
      | inr past ↦
          let own = (judged y).1 (all (crew_of y) ∙ past) in (
            λ has. absurd (none_in y (subst (λ (items : List CrewBroken). Contains items y) none (own.0 has))),
            λ so. absurd (not_both (breaks_crew D cs P y) so (breaks_none D cs P y past)),
          )
    ]

both_parts : (a b : Bool) → (a && b) ≡ true → a ≡ true
both_parts true b h = refl
both_parts false b h = absurd cc

other_part : (a b : Bool) → a ≡ true → (a && b) ≡ false → b ≡ false
other_part true b h n = n
other_part false b h n = absurd cc

-- a crew without the leg breaks what it broke
breaks_same : (D : Parts) (cs : List CrewInfo) (P : List Row) (x : ℕ) (row : Row) (users : List (List ℕ)) (y : CrewBroken) → AreUsers cs users → has_user users x (crew_of y) ≡ false → breaks_crew D cs (set P x row) y ≡ breaks_crew D cs P y
breaks_same D cs P x row users y are other =
    elim (cases_Bool (ltb (crew_of y) (length cs))) [
      | inl there ↦
          breaks_there D cs (set P x row) y there
          ∙ ap (is_fault y) (same_faults D P x row (crew_at cs (crew_of y)) (other_part (ltb (crew_of y) (length cs)) (has_leg cs x (crew_of y)) there (sym (are x (crew_of y)) ∙ other)))
          ∙ sym (breaks_there D cs P y there)
      | inr past ↦ breaks_none D cs (set P x row) y past ∙ sym (breaks_none D cs P y past)
    ]

pub moved_broken : (D : Parts) (cs : List CrewInfo) (P : List Row) (x : ℕ) (row : Row) (users : List (List ℕ)) (old new : List CrewBroken) → AreUsers cs users → AreBroken D cs P old
    → AreJudged (by_faults (λ k. faults_of D (set P x row) (crew_at cs k))) (λ item. among (users_at users x) (crew_of item)) old new → AreBroken D cs (set P x row) new
moved_broken D cs P x row users old new are before judged y =
    elim (cases_Bool (has_user users x (crew_of y))) [
      | inl user ↦
          let there = both_parts (ltb (crew_of y) (length cs)) (has_leg cs x (crew_of y)) (sym (are x (crew_of y)) ∙ user) in
          let is = breaks_there D cs (set P x row) y there in
          let own = (judged y).0 user in
          (λ has. is ∙ own.0 has, λ so. own.1 (sym is ∙ so))
      | inr other ↦
          let is = breaks_same D cs P x row users y are other in
          let own = iff_trans ((judged y).1 other) (before y) in
          (λ has. is ∙ own.0 has, λ so. own.1 (sym is ∙ so))
    ]

-- ---- numbers of crews that there are

pub all_below : (numbers : List ℕ) (n : ℕ) → ((k : ℕ) → among numbers k ≡ true → ltb k n ≡ true) → All (λ k. k < n) numbers
all_below numbers n below i d lt =
    let k = get_or numbers i d in
    ltb-true k n (below k (list_any_at (λ (user : ℕ). eqb user k) numbers i d lt (eq-eqb k k refl)))

pub users_below : (cs : List CrewInfo) (users : List (List ℕ)) (x : ℕ) → AreUsers cs users → All (λ k. k < length cs) (users_at users x)
users_below cs users x are = all_below (users_at users x) (length cs) (λ k is. both_parts (ltb k (length cs)) (has_leg cs x k) (sym (are x k) ∙ is))
