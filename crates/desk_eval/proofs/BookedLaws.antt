-- Who is booked on each leg is that of the day.
use Rattle.std.proofs.Common.{◌≡◌, ℕ, Bool, ◌&&◌, List, length, sym, ap, ◌∙◌}
use Rattle.std.specs.Prelude.{nat_lt}
use Rattle.desk_units.specs.declared.numbers.Res.{Res}
use Rattle.desk_data.specs.declared.parts.Parts.{Parts}
use Rattle.desk_data.specs.Situation.{Situation, reservations_of}
use Rattle.board_kit.specs.Users.{is_booked_on}
use Rattle.desk_eval.specs.Asked.{AreBooked}

-- whether reservation r of these rows is booked on leg x
abbrev is_booked : Situation → ℕ → ℕ → Parts → Bool
is_booked I x r parts = let J : Situation = record I { parts = parts } in nat_lt r (reservations_of J) && is_booked_on J x r

-- days of the same rows
pub booked_same : (I J : Situation) (booked : List (List Res)) → J.parts ≡ I.parts → AreBooked I booked → AreBooked J booked
booked_same I J booked same are = record {
  legs = are.legs ∙ sym (ap (λ (parts : Parts). length parts.legs) same);
  exact = λ x r. are.exact x r ∙ sym (ap (is_booked I x r) same);
}
