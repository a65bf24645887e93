-- For how many more passengers the legs of a path have seats, one pair at a time.
use Rattle.std.proofs.Common.{◌≡◌, ℕ, ◌+◌, ◌-◌, ◌<◌, ◌≤◌, ◌⊎◌, min, inl, inr, Bool, true, ◌&&◌, leb, List, [], length, get_or, take, refl, ◌∙◌, arith}
use Rattle.std.proofs.lemmas.Bool.{cases_eq, and_from, and_left, and_right, le-leb, lt-leb}
use Rattle.std.proofs.lemmas.List.Elements.{All-weaker}
use Rattle.std.proofs.lemmas.List.Folds.{list_all_more}
use Rattle.desk_units.specs.declared.numbers.Leg.{Leg}
use Rattle.desk_units.specs.declared.numbers.Cabin.{Cabin}
use Rattle.desk_data.specs.Situation.{Situation}
use Rattle.desk_data.specs.PlanRows.{PlanRows, row_at}
use Rattle.desk_rules.specs.Passengers.{aboard}
use Rattle.desk_model.specs.Choices.{IsGreatestWithin}
use Rattle.desk_model.specs.Refill.{seats_of, has_seats_for}
use Rattle.desk_model.proofs.RefillLaws.{has_seats_for-holds, has_seats_for-from}

-- a path of no legs has seats for all
pub all_fit-none : (I : Situation) (P : PlanRows) (waiting : ℕ) → IsGreatestWithin waiting (has_seats_for I P []) waiting
unfolding has_seats_for
all_fit-none I P waiting = record { to = omega arith; holds = inr refl; greatest = λ j above within. absurd (omega arith) }

-- where there are seats for some, there are for fewer
seats-fewer : (I : Situation) (P : PlanRows) (path : List (Leg × Cabin)) (m n : ℕ) → m ≤ n → has_seats_for I P path n ≡ true → has_seats_for I P path m ≡ true
seats-fewer I P path m n few fits =
    has_seats_for-from I P path m
    (All-weaker (λ (pair : Leg × Cabin). aboard P pair.0.0 pair.1 + n ≤ seats_of I pair.1 (row_at P pair.0.0)) (λ (pair : Leg × Cabin). aboard P pair.0.0 pair.1 + m ≤ seats_of I pair.1 (row_at P pair.0.0))
    (λ pair le. omega (arith, le, few)) path (has_seats_for-holds I P path n fits))

seats-more : (I : Situation) (P : PlanRows) (path : List (Leg × Cabin)) (k n : ℕ) (d : Leg × Cabin) → k < length path → has_seats_for I P (take (k + 1) path) n ≡ (has_seats_for I P (take k path) n && leb (aboard P (get_or path k d).0.0 (get_or path k d).1 + n) (seats_of I (get_or path k d).1 (row_at P (get_or path k d).0.0)))
unfolding has_seats_for
seats-more I P path k n d lt = list_all_more (λ pair. leb (aboard P pair.0.0 pair.1 + n) (seats_of I pair.1 (row_at P pair.0.0))) path k d lt

pub fit-more : (I : Situation) (P : PlanRows) (path : List (Leg × Cabin)) (waiting k most seats there : ℕ) (d : Leg × Cabin) → k < length path → seats ≡ seats_of I (get_or path k d).1 (row_at P (get_or path k d).0.0) → there ≡ aboard P (get_or path k d).0.0 (get_or path k d).1 → IsGreatestWithin waiting (has_seats_for I P (take k path)) most → IsGreatestWithin waiting (has_seats_for I P (take (k + 1) path)) (min most (seats - there))
fit-more I P path waiting k most seats there d lt seats_are there_are is =
    let n = min most (seats - there) in
    let to = is.to in
    let here : ℕ → Bool = λ j. leb (aboard P (get_or path k d).0.0 (get_or path k d).1 + j) (seats_of I (get_or path k d).1 (row_at P (get_or path k d).0.0)) in
    record {
      to = omega (arith, to);
      holds = elim (cases_eq n 0) [
        | inl none ↦ inl none
        | inr some ↦ elim is.holds [
          | inl empty ↦ inl (omega (arith, empty))
          | inr fits ↦ inr (seats-more I P path k n d lt
              ∙ and_from (has_seats_for I P (take k path) n) (here n)
              (seats-fewer I P (take k path) n most (omega arith) fits)
              (le-leb _ _ (omega (arith, seats_are, there_are, some))))
        ]
      ];
      greatest = λ j above within.
          let cases : (most < j) ⊎ (seats - there < j) = grind (arith, above) in
          seats-more I P path k j d lt ∙ elim cases [
            | inl more ↦ and_left (has_seats_for I P (take k path) j) (here j) (is.greatest j more within)
            | inr full ↦ and_right (has_seats_for I P (take k path) j) (here j) (lt-leb _ _ (omega (arith, seats_are, there_are, full)))
          ];
    }
