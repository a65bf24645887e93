-- A flight that is found by its name is one of the rows.
use Rattle.std.proofs.Common.{◌≡◌, Bool, cond, List, ℕ, [], ◌∷◌, Option, Some, sym, ap, ◌∙◌, subst, Bor, inl, inr, All, bytes_eq}
use Rattle.std.specs.Prelude.{find, option_map}
use Rattle.std.proofs.lemmas.Bool.{cases_Bool}
use Rattle.std.proofs.lemmas.List.Elements.{All-head, All-tail}
use Rattle.file_rows.specs.declared.legs.FlightRow.{FlightRow}
use Rattle.file_rows.specs.Facts.{IsFlight}
use Rattle.build_tables.specs.Names.{flight_named}

-- what holds of each row holds of the one that is found
find-All : {X : Type 0} (P : X → Type 0) (test : X → Bool) (xs : List X) (x : X) → All P xs → find test xs ≡ Some x → P x
find-All P test [] x h found = absurd cc
find-All P test (y ∷ xs) x h found =
    elim (cases_Bool (test y)) [
      | inl passes ↦ (let here : Some y ≡ Some x = sym (ap (λ b. cond b (Some y) (find test xs)) passes) ∙ found in
          let same : y ≡ x = cc in
          subst P same (All-head P y xs h))
      | inr fails ↦ find-All P test xs x (All-tail P y xs h) (sym (ap (λ b. cond b (Some y) (find test xs)) fails) ∙ found)
    ]

-- the flight that a look-up lends
pub is_flight : (flights : List FlightRow) (name : List ℕ) (lent : Option (Bor FlightRow)) (flight : Bor FlightRow) → All IsFlight flights
    → option_map (λ row. row.now) lent ≡ flight_named flights name → lent ≡ Some flight → IsFlight flight.now
is_flight flights name lent flight h found some = find-All IsFlight (λ f. bytes_eq name f.flight) flights flight.now h (sym found ∙ ap (option_map (λ row. row.now)) some)
