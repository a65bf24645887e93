-- The first item of crews that is broken.
use Rattle.std.proofs.Common.{◌≡◌, ℕ, ◌<◌, ◌≤◌, ◌⊎◌, inl, inr, Bool, true, false, cond, ◌&&◌, ltb, not, List, length, refl, sym, ap, ◌∙◌, arith}
use Rattle.std.specs.Prelude.{Option, Some, None, option_map}
use Rattle.std.specs.List.{position_or_len}
use Rattle.std.specs.Option.{option_or}
use Rattle.std.proofs.lemmas.Bool.{and_from, and_left, and_right, cases_Bool, true≢false, lt-ltb, ltb-true, ltb-false, cases_order}
use Rattle.std.proofs.lemmas.List.Sums.{fails_before_first}
use Rattle.std.proofs.lemmas.List.Quantifiers.{position-Some}
use Rattle.desk_data.specs.declared.parts.Parts.{Parts}
use Rattle.desk_data.specs.declared.row.Row.{Row}
use Rattle.crew_rules.specs.declared.crew.CrewInfo.{CrewInfo}
use Rattle.crew_rules.specs.declared.crew.CrewBroken.{CrewBroken}
use Rattle.crew_rules.specs.declared.crew.CrewBroken.TheVariants.{K1, K2, K3, K4}
use Rattle.crew_rules.specs.Crews.{keeps_k1, keeps_k2, keeps_k3, keeps_k4, first_breaking, crew_least}
use Rattle.crew_rules.specs.Broken.{no_crew, crew_at, breaks_crew, ComesBefore}
use Rattle.crew_rules.specs.Words.{IsFirstBroken}

-- whether crew k is there and does not keep a rule
abbrev fails : (CrewInfo → Bool) → List CrewInfo → ℕ → Bool
fails keeps cs k = ltb k (length cs) && not (keeps (crew_at cs k))

-- the first number that fails, or none
abbrev IsFirstOf : (ℕ → Bool) → Option ℕ → Type 0
IsFirstOf test None = (k : ℕ) → test k ≡ false
IsFirstOf test (Some k) = (test k ≡ true) × ((j : ℕ) → j < k → test j ≡ false)

position_none : (p : CrewInfo → Bool) (cs : List CrewInfo) (b : Bool) → ltb (position_or_len p cs) (length cs) ≡ b → cond b (Some (position_or_len p cs)) None ≡ None → length cs ≤ position_or_len p cs
position_none p cs true is h = absurd cc
position_none p cs false is h = ltb-false (position_or_len p cs) (length cs) is

first-is : (keeps : CrewInfo → Bool) (cs : List CrewInfo) (o : Option ℕ) → first_breaking keeps cs ≡ o → IsFirstOf (fails keeps cs) o
first-is keeps cs None h = λ k.
    let end = position_none (λ c. not (keeps c)) cs (ltb (position_or_len (λ c. not (keeps c)) cs) (length cs)) refl h in
    elim (cases_Bool (ltb k (length cs))) [
      | inr out ↦ and_left (ltb k (length cs)) (not (keeps (crew_at cs k))) out
      | inl in_range ↦
          let lt = ltb-true k (length cs) in_range in
          and_right (ltb k (length cs)) (not (keeps (crew_at cs k))) (fails_before_first (λ c. not (keeps c)) cs k no_crew (omega (arith, lt, end)))
    ]
first-is keeps cs (Some k) h =
    let at = position-Some (λ c. not (keeps c)) cs k no_crew h in (
      and_from (ltb k (length cs)) (not (keeps (crew_at cs k))) (lt-ltb k (length cs) at.0) at.1,
      λ j lt. and_right (ltb j (length cs)) (not (keeps (crew_at cs j))) (at.2 j lt),
    )

-- of the numbers that fail, this is the first, and each other comes later
later : (test : ℕ → Bool) (k j : ℕ) → ((i : ℕ) → i < k → test i ≡ false) → test j ≡ true → (j ≡ k) ⊎ (k < j)
later test k j before is =
    elim (cases_order j k) [
      | inl same ↦ inl same
      | inr rest ↦ elim rest [
        | inl less ↦ absurd (true≢false (sym is ∙ before j less))
        | inr more ↦ inr more
      ]
    ]

-- ---- by the rule of the item

abbrev NoneFails : (CrewInfo → Bool) → List CrewInfo → Type 0
NoneFails keeps cs = (k : ℕ) → fails keeps cs k ≡ false

abbrev NoneBefore : (CrewInfo → Bool) → List CrewInfo → ℕ → Type 0
NoneBefore keeps cs k = (j : ℕ) → j < k → fails keeps cs j ≡ false

-- each other item that is broken is the item, or comes after it
abbrev AllAfter : Parts → List CrewInfo → List Row → CrewBroken → Type 0
AllAfter D cs P item = (other : CrewBroken) → breaks_crew D cs P other ≡ true → (other ≡ item) ⊎ ComesBefore item other

-- an item of the same rule
alike : (test : ℕ → Bool) (rule : ℕ) (kind : ℕ → CrewBroken) (k j : ℕ) → ((i : ℕ) → i < k → test i ≡ false) → test j ≡ true → (kind j ≡ kind k) ⊎ ((rule < rule) ⊎ ((rule ≡ rule) × (k < j)))
alike test rule kind k j before is =
    elim (later test k j before is) [
      | inl same ↦ inl (ap kind same)
      | inr more ↦ inr (inr (refl, more))
    ]

after_k1 : (D : Parts) (cs : List CrewInfo) (P : List Row) (k : ℕ) → NoneBefore (keeps_k1 D P) cs k → AllAfter D cs P (K1 k)
after_k1 D cs P k before (K1 j) is = alike (fails (keeps_k1 D P) cs) 1 K1 k j before is
after_k1 D cs P k before (K2 j) is = inr (inl (omega arith))
after_k1 D cs P k before (K3 j) is = inr (inl (omega arith))
after_k1 D cs P k before (K4 j) is = inr (inl (omega arith))

after_k2 : (D : Parts) (cs : List CrewInfo) (P : List Row) (k : ℕ) → NoneFails (keeps_k1 D P) cs → NoneBefore (keeps_k2 D P) cs k → AllAfter D cs P (K2 k)
after_k2 D cs P k one before (K1 j) is = absurd (true≢false (sym is ∙ one j))
after_k2 D cs P k one before (K2 j) is = alike (fails (keeps_k2 D P) cs) 2 K2 k j before is
after_k2 D cs P k one before (K3 j) is = inr (inl (omega arith))
after_k2 D cs P k one before (K4 j) is = inr (inl (omega arith))

after_k3 : (D : Parts) (cs : List CrewInfo) (P : List Row) (k : ℕ) → NoneFails (keeps_k1 D P) cs → NoneFails (keeps_k2 D P) cs → NoneBefore (keeps_k3 D P) cs k → AllAfter D cs P (K3 k)
after_k3 D cs P k one two before (K1 j) is = absurd (true≢false (sym is ∙ one j))
after_k3 D cs P k one two before (K2 j) is = absurd (true≢false (sym is ∙ two j))
after_k3 D cs P k one two before (K3 j) is = alike (fails (keeps_k3 D P) cs) 3 K3 k j before is
after_k3 D cs P k one two before (K4 j) is = inr (inl (omega arith))

after_k4 : (D : Parts) (cs : List CrewInfo) (P : List Row) (k : ℕ) → NoneFails (keeps_k1 D P) cs → NoneFails (keeps_k2 D P) cs → NoneFails (keeps_k3 D P) cs → NoneBefore (keeps_k4 D P) cs k → AllAfter D cs P (K4 k)
after_k4 D cs P k one two three before (K1 j) is = absurd (true≢false (sym is ∙ one j))
after_k4 D cs P k one two three before (K2 j) is = absurd (true≢false (sym is ∙ two j))
after_k4 D cs P k one two three before (K3 j) is = absurd (true≢false (sym is ∙ three j))
after_k4 D cs P k one two three before (K4 j) is = alike (fails (keeps_k4 D P) cs) 4 K4 k j before is

none_broken : (D : Parts) (cs : List CrewInfo) (P : List Row) → NoneFails (keeps_k1 D P) cs → NoneFails (keeps_k2 D P) cs → NoneFails (keeps_k3 D P) cs → NoneFails (keeps_k4 D P) cs → (item : CrewBroken) → breaks_crew D cs P item ≡ false
none_broken D cs P one two three four (K1 k) = one k
none_broken D cs P one two three four (K2 k) = two k
none_broken D cs P one two three four (K3 k) = three k
none_broken D cs P one two three four (K4 k) = four k

least-is : (D : Parts) (cs : List CrewInfo) (P : List Row) (a b c d : Option ℕ)
    → IsFirstOf (fails (keeps_k1 D P) cs) a → IsFirstOf (fails (keeps_k2 D P) cs) b → IsFirstOf (fails (keeps_k3 D P) cs) c → IsFirstOf (fails (keeps_k4 D P) cs) d
    → IsFirstBroken D cs P (option_or (option_map K1 a) (option_or (option_map K2 b) (option_or (option_map K3 c) (option_map K4 d))))
least-is D cs P (Some k) b c d one two three four = record { broken = one.0; least = after_k1 D cs P k one.1 }
least-is D cs P None (Some k) c d one two three four = record { broken = two.0; least = after_k2 D cs P k one two.1 }
least-is D cs P None None (Some k) d one two three four = record { broken = three.0; least = after_k3 D cs P k one two three.1 }
least-is D cs P None None None (Some k) one two three four = record { broken = four.0; least = after_k4 D cs P k one two three four.1 }
least-is D cs P None None None None one two three four = none_broken D cs P one two three four

pub least_first : (D : Parts) (cs : List CrewInfo) (P : List Row) → IsFirstBroken D cs P (crew_least D cs P)
unfolding crew_least
least_first D cs P =
    least-is D cs P (first_breaking (keeps_k1 D P) cs) (first_breaking (keeps_k2 D P) cs) (first_breaking (keeps_k3 D P) cs) (first_breaking (keeps_k4 D P) cs)
    (first-is (keeps_k1 D P) cs (first_breaking (keeps_k1 D P) cs) refl)
    (first-is (keeps_k2 D P) cs (first_breaking (keeps_k2 D P) cs) refl)
    (first-is (keeps_k3 D P) cs (first_breaking (keeps_k3 D P) cs) refl)
    (first-is (keeps_k4 D P) cs (first_breaking (keeps_k4 D P) cs) refl)
