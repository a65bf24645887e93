-- One leg more in a table of all pairs of airports.
use Rattle.std.proofs.Common.{◌≡◌, ℕ, ◌+◌, ◌*◌, ◌<◌, inl, inr, Bool, true, false, ◌&&◌, ◌||◌, eqb, List, [], ◌∷◌, length, get_or, set, replicate, refl, sym, ap, subst, ◌∙◌, arith, add-one}
use Rattle.std.specs.List.{list_any}
use Rattle.std.proofs.lemmas.Bool.{cases_eq, and_parts, and_from, or_right, eqb-true, eq-eqb, false_from_ne_true}
use Rattle.std.proofs.lemmas.List.{get_or-set_same, get_or-set_other, get_or-replicate, length-replicate, length-set}
use Rattle.std.proofs.lemmas.List.Folds.{list_any-append}
use Rattle.desk_data.specs.Situation.{Situation, airports_of, legs_of, leg_at}
use Rattle.desk_rules.specs.Numbers.{numbers}
use Rattle.near_notes.specs.Links.{AreLinks, link_number}

-- whether leg z goes from one airport to another
abbrev pub goes : Situation → ℕ → ℕ → ℕ → Bool
goes I from to z = eqb (leg_at I z).origin.0 from && eqb (leg_at I z).dest.0 to

-- each pair is told of the first n legs
pub record AreTold (I : Situation) (n : ℕ) (known : List Bool) : Type 0 where
  pub places : length known ≡ 500 * airports_of I
  pub each : (from to : ℕ) → from < airports_of I → to < 500 → get_or known (link_number from to) false ≡ list_any (goes I from to) (numbers n)

pub told-first : (I : Situation) → AreTold I 0 (replicate (500 * airports_of I) false)
told-first I = record {
  places = length-replicate (500 * airports_of I) false;
  each = λ from to lt few. get_or-replicate (500 * airports_of I) (link_number from to) false false (omega (arith, lt, few));
}

last_one : (b : Bool) → (b || false) ≡ b
last_one true = refl
last_one false = refl

any_one : (p : ℕ → Bool) (n : ℕ) → list_any p (n ∷ []) ≡ p n
any_one p n = last_one (p n)

one_more : (I : Situation) (from to n : ℕ) → list_any (goes I from to) (numbers (n + 1)) ≡ (list_any (goes I from to) (numbers n) || goes I from to n)
one_more I from to n =
    ap (λ (k : ℕ). list_any (goes I from to) (numbers k)) (add-one n)
    ∙ list_any-append (goes I from to) (numbers n) (n ∷ [])
    ∙ ap (λ (b : Bool). list_any (goes I from to) (numbers n) || b) (any_one (goes I from to) n)

-- two pairs have one number only where they are one
same_pair : (a b from to : ℕ) → b < 500 → to < 500 → link_number from to ≡ link_number a b → (a ≡ from) × (b ≡ to)
same_pair a b from to below few is = (omega (arith, below, few, is), omega (arith, below, few, is))

-- the next leg is told
pub told-more : (I : Situation) (n : ℕ) (known : List Bool) (a b : ℕ) → AreTold I n known → a ≡ (leg_at I n).origin.0 → b ≡ (leg_at I n).dest.0 → a < airports_of I → b < 500 → AreTold I (n + 1) (set known (link_number a b) true)
told-more I n known a b told origin dest there below = record {
  places = length-set known (link_number a b) true ∙ told.places;
  each = λ from to lt few.
      (let places = told.places in
      elim (cases_eq (link_number from to) (link_number a b)) [
        | inl same ↦
            let pair = same_pair a b from to below few same in
            let on : goes I from to n ≡ true =
            and_from (eqb (leg_at I n).origin.0 from) (eqb (leg_at I n).dest.0 to)
            (eq-eqb (leg_at I n).origin.0 from (sym origin ∙ pair.0)) (eq-eqb (leg_at I n).dest.0 to (sym dest ∙ pair.1)) in
            let now : get_or (set known (link_number a b) true) (link_number from to) false ≡ true =
            subst (λ (k : ℕ). get_or (set known (link_number a b) true) k false ≡ true) (sym same) (get_or-set_same known (link_number a b) true false (omega (arith, places, there, below))) in
            now ∙ sym (one_more I from to n ∙ or_right (list_any (goes I from to) (numbers n)) (goes I from to n) on)
        | inr other ↦
            let off : goes I from to n ≡ false = false_from_ne_true (goes I from to n) (λ on.
            (let parts = and_parts (eqb (leg_at I n).origin.0 from) (eqb (leg_at I n).dest.0 to) on in
            let one : a ≡ from = origin ∙ eqb-true (leg_at I n).origin.0 from parts.0 in
            let two : b ≡ to = dest ∙ eqb-true (leg_at I n).dest.0 to parts.1 in
            other (omega (arith, one, two)))) in
            get_or-set_other known (link_number a b) (link_number from to) true false other
            ∙ told.each from to lt few
            ∙ sym (one_more I from to n ∙ ap (λ (c : Bool). list_any (goes I from to) (numbers n) || c) off ∙ last_one (list_any (goes I from to) (numbers n)))
      ]);
}

-- and all are
pub told-all : (I : Situation) (known : List Bool) → AreTold I (legs_of I) known → AreLinks I known
told-all I known told = record { places = told.places; each = told.each }
