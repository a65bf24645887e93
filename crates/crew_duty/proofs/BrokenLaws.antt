-- The order of items of crews, and the first of those that are broken.
use Rattle.std.proofs.Common.{◌≡◌, ℕ, ◌<◌, ◌⊎◌, inl, inr, Bool, true, false, List, [], ◌∷◌, get_or, refl, sym, ap, arith}
use Rattle.std.specs.Prelude.{Option, Some, None}
use Rattle.std.specs.List.{AllPairs}
use Rattle.std.specs.Ordering.{nat_cmp}
use Rattle.std.specs.declared.cmp.Ordering.TheVariants.{Less, Equal}
use Rattle.std.proofs.lemmas.Bool.Decides.{nat_tests}
use Rattle.desk_data.specs.declared.parts.Parts.{Parts}
use Rattle.desk_data.specs.declared.row.Row.{Row}
use Rattle.kept_set.specs.Kept.{AreRising, IsExact, first}
use Rattle.kept_set.proofs.ListLaws.{contains-cons, contains-first, pairs-first, none_in}
use Rattle.crew_rules.specs.declared.crew.CrewInfo.{CrewInfo}
use Rattle.crew_rules.specs.declared.crew.CrewBroken.{CrewBroken}
use Rattle.crew_rules.specs.declared.crew.CrewBroken.TheVariants.{K1, K2, K3, K4}
use Rattle.crew_rules.specs.contracts.crew.CrewBrokenOrd.TheImpl as order
use Rattle.crew_rules.specs.Broken.{breaks_crew, crew_of, rule_of, ComesBefore}
use Rattle.crew_rules.specs.Crews.{crew_least}
use Rattle.crew_rules.specs.Words.{IsFirstBroken}
use Rattle.crew_rules.proofs.LeastLaws.{least_first}
use Rattle.crew_duty.specs.Board.{AreBroken}

-- ---- the order of items

equal_numbers : (a b : ℕ) → nat_cmp a b ≡ Equal → a ≡ b
equal_numbers a b h = grind (arith, nat_tests)

less_numbers : (a b : ℕ) → nat_cmp a b ≡ Less → a < b
less_numbers a b h = grind (arith, nat_tests)

pub items_exact : IsExact order.cmp-value.it
items_exact (K1 a) (K1 b) h = ap K1 (equal_numbers a b h)
items_exact (K2 a) (K2 b) h = ap K2 (equal_numbers a b h)
items_exact (K3 a) (K3 b) h = ap K3 (equal_numbers a b h)
items_exact (K4 a) (K4 b) h = ap K4 (equal_numbers a b h)
items_exact (K1 a) (K2 b) h = absurd cc
items_exact (K1 a) (K3 b) h = absurd cc
items_exact (K1 a) (K4 b) h = absurd cc
items_exact (K2 a) (K1 b) h = absurd cc
items_exact (K2 a) (K3 b) h = absurd cc
items_exact (K2 a) (K4 b) h = absurd cc
items_exact (K3 a) (K1 b) h = absurd cc
items_exact (K3 a) (K2 b) h = absurd cc
items_exact (K3 a) (K4 b) h = absurd cc
items_exact (K4 a) (K1 b) h = absurd cc
items_exact (K4 a) (K2 b) h = absurd cc
items_exact (K4 a) (K3 b) h = absurd cc

comes_before : (a b : CrewBroken) → order.cmp-value.it a b ≡ Less → ComesBefore a b
comes_before (K1 a) (K1 b) h = inr (refl, less_numbers a b h)
comes_before (K2 a) (K2 b) h = inr (refl, less_numbers a b h)
comes_before (K3 a) (K3 b) h = inr (refl, less_numbers a b h)
comes_before (K4 a) (K4 b) h = inr (refl, less_numbers a b h)
comes_before (K1 a) (K2 b) h = inl (omega arith)
comes_before (K1 a) (K3 b) h = inl (omega arith)
comes_before (K1 a) (K4 b) h = inl (omega arith)
comes_before (K2 a) (K3 b) h = inl (omega arith)
comes_before (K2 a) (K4 b) h = inl (omega arith)
comes_before (K3 a) (K4 b) h = inl (omega arith)
comes_before (K2 a) (K1 b) h = absurd cc
comes_before (K3 a) (K1 b) h = absurd cc
comes_before (K3 a) (K2 b) h = absurd cc
comes_before (K4 a) (K1 b) h = absurd cc
comes_before (K4 a) (K2 b) h = absurd cc
comes_before (K4 a) (K3 b) h = absurd cc

rises : (items : List CrewBroken) → AreRising order.cmp-value.it items → AllPairs ComesBefore items
rises items rising i j d lt within = comes_before (get_or items i d) (get_or items j d) (rising i j d lt within)

asym_numbers : (a b d e : ℕ) → (a < d) ⊎ ((a ≡ d) × (b < e)) → (d < a) ⊎ ((d ≡ a) × (e < b)) → ⊥
asym_numbers a b d e low high = grind arith

asym : (a b : CrewBroken) → ComesBefore a b → ComesBefore b a → ⊥
asym a b low high = asym_numbers (rule_of a) (crew_of a) (rule_of b) (crew_of b) low high

-- ---- the first that is broken

not_both : (b : Bool) → b ≡ true → b ≡ false → ⊥
not_both b one other = absurd cc

-- there is one first broken item, or none
same_first : (D : Parts) (cs : List CrewInfo) (P : List Row) (a b : Option CrewBroken) → IsFirstBroken D cs P a → IsFirstBroken D cs P b → a ≡ b
same_first D cs P None None is that = refl
same_first D cs P None (Some y) is that = absurd (not_both (breaks_crew D cs P y) that.broken (is y))
same_first D cs P (Some x) None is that = absurd (not_both (breaks_crew D cs P x) is.broken (that x))
same_first D cs P (Some x) (Some y) is that =
    elim (is.least y that.broken) [
      | inl same ↦ ap Some (sym same)
      | inr before ↦ elim (that.least x is.broken) [
        | inl same ↦ ap Some same
        | inr after ↦ absurd (asym x y before after)
      ]
    ]

none_true : (b : Bool) → (b ≡ true → ⊥) → b ≡ false
none_true true not_so = absurd (not_so refl)
none_true false not_so = refl

first_least : (D : Parts) (cs : List CrewInfo) (P : List Row) (items : List CrewBroken) → AllPairs ComesBefore items → AreBroken D cs P items → IsFirstBroken D cs P (first items)
first_least D cs P [] order are = λ item. none_true (breaks_crew D cs P item) (λ so. none_in item ((are item).1 so))
first_least D cs P (x ∷ xs) order are = record {
  broken = (are x).0 (contains-first x xs);
  least = λ y so. elim (contains-cons x y xs ((are y).1 so)) [
    | inl same ↦ inl same
    | inr later ↦ inr (pairs-first ComesBefore x y xs order later)
  ];
}

pub first_is_least : (D : Parts) (cs : List CrewInfo) (P : List Row) (items : List CrewBroken) → AreRising order.cmp-value.it items → AreBroken D cs P items → first items ≡ crew_least D cs P
first_is_least D cs P items rising are = same_first D cs P (first items) (crew_least D cs P) (first_least D cs P items (rises items rising) are) (least_first D cs P)
