-- An aircraft all of whose legs depart before the window's end ends where it stands after the last of them.
use Rattle.std.proofs.Common.{◌≡◌, ℕ, inl, inr, Bool, false, ◌&&◌, eqb, List, [], ◌∷◌, ◌++◌, refl, sym, ap, subst, ◌∙◌}
use Rattle.std.specs.Prelude.{Option, None, Some}
use Rattle.std.specs.List.{All, AllPairs, Contains}
use Rattle.std.proofs.lemmas.Bool.{and_parts, false_from_ne_true}
use Rattle.std.proofs.lemmas.List.Elements.{All-contains, Contains-append_right, Contains-append_cases}
use Rattle.desk_units.specs.declared.numbers.Leg.{Leg}
use Rattle.desk_data.specs.declared.info.PositionInfo.{PositionInfo}
use Rattle.desk_data.specs.Situation.{Situation, legs_of, plane_at}
use Rattle.desk_data.specs.PlanRows.{PlanRows}
use Rattle.desk_rules.specs.Rotations.{precedes}
use Rattle.desk_rules.specs.Maintenance.{flies, departs_before}
use Rattle.desk_rules.specs.Words.{Precedes}
use Rattle.desk_rules.specs.Cost.{is_wanted, ends_at}
use Rattle.desk_rules.proofs.RotationLaws.{precedes-holds}
use Rattle.desk_model.specs.Push.{rotation}
use Rattle.desk_model.proofs.RotationOrder.{precedes-trans, precedes-itself, pairs_across, rotation-ordered, rotation-each}
use Rattle.plan_reads.specs.Last.{IsLastOf}
use Rattle.plan_checks.specs.Stands.{end_of, is_there}
use Rattle.step_laws.proofs.SumLaws.{one_if}
use Rattle.near_moves.proofs.ListLaws.{contains_cases, contains_head, contains_none}
use Rattle.near_moves.specs.Chains.{to_airport, led, stand}
use Rattle.near_moves.proofs.ChainLaws.{led-append, in-rotation}
use Rattle.near_priced.proofs.PayerLaws.{ends-is}
use Rattle.near_priced.specs.Tables.{is_hand}
use Rattle.near_priced.proofs.EndLaws.{soon}
use Rattle.near_dear.specs.Exchanged.{serves}
use Rattle.near_dear.specs.Moves.{IsInTime}

-- the last of some legs
record Ended (xs : List ℕ) : Type 0 where
  front : List ℕ
  last : ℕ
  is : xs ≡ front ++ last ∷ []

ended : (x : ℕ) (xs : List ℕ) → Ended (x ∷ xs)
ended x [] = record { front = []; last = x; is = refl }
ended x (y ∷ ys) =
    let more = ended y ys in
    record { front = x ∷ more.front; last = more.last; is = ap (λ (zs : List ℕ). x ∷ zs) more.is }

module _ (I : Situation) (P : PlanRows) (p : ℕ) (in_time : IsInTime I P p) (air : (plane_at I p).surface ≡ false) where
  to : ℕ
  to = I.parts.to.0

  -- where the aircraft ends after a leg, or where it begins
  ends_after : (last : Option Leg) (airport : ℕ) → IsLastOf P p I.parts.to.0 (legs_of I) last → (there : ℕ) → ((plane_at I p).surface ≡ false → is_there (end_of I p last) airport ≡ eqb there airport) → ends_at I P p airport ≡ eqb there airport
  ends_after last airport is there so = sym (ends-is I P p airport last is) ∙ so air

  none-last : rotation I P p ≡ [] → IsLastOf P p I.parts.to.0 (legs_of I) None
  none-last none x lt =
      false_from_ne_true (departs_before P p I.parts.to.0 x) (λ before.
      contains_none x (subst (λ (zs : List ℕ). Contains zs x) none (rotation-each I P p x lt (and_parts (flies P p x) _ before).0)))

  not-after : (front : List ℕ) (x : ℕ) → rotation I P p ≡ front ++ x ∷ [] → (z : ℕ) → Contains (rotation I P p) z → precedes P x z ≡ false
  not-after front x is z has =
      false_from_ne_true (precedes P x z) (λ after.
      let later = precedes-holds P x z after in
      let sorted : AllPairs (Precedes P) (front ++ x ∷ []) = subst (AllPairs (Precedes P)) is (rotation-ordered I P p) in
      elim (Contains-append_cases front (x ∷ []) z (subst (λ (zs : List ℕ). Contains zs z) is has)) [
        | inl first ↦
            let earlier : Precedes P z x = All-contains (Precedes P z) (x ∷ []) x (All-contains (λ w. All (Precedes P w) (x ∷ [])) front z (pairs_across (Precedes P) front (x ∷ []) sorted) first) (contains_head x []) in
            precedes-itself P x (precedes-trans P x z x later earlier)
        | inr second ↦ elim (contains_cases x z [] second) [
          | inl same ↦ precedes-itself P x (subst (Precedes P x) (sym same) later)
          | inr none ↦ contains_none z none
        ]
      ])

  some-last : (front : List ℕ) (x : ℕ) → rotation I P p ≡ front ++ x ∷ [] → IsLastOf P p I.parts.to.0 (legs_of I) (Some (record { 0 = x }))
  some-last front x is =
      let own = in-rotation I P p x (subst (λ (zs : List ℕ). Contains zs x) (sym is) (Contains-append_right front (x ∷ []) x (contains_head x []))) in
      record {
        within = own.0;
        before = soon P p I.parts.to.0 x own.1 (in_time x own.0 own.1);
        last = λ z lt before. not-after front x is z (rotation-each I P p z lt (and_parts (flies P p z) _ before).0);
      }

  ends-by : (legs : List ℕ) → rotation I P p ≡ legs → (airport : ℕ) → ends_at I P p airport ≡ eqb (led I (plane_at I p).origin.0 legs) airport
  ends-by [] is airport = ends_after None airport (none-last is) (plane_at I p).origin.0 (λ off. rw off refl)
  ends-by (x ∷ xs) is airport =
      let end = ended x xs in
      let whole : rotation I P p ≡ end.front ++ end.last ∷ [] = is ∙ end.is in
      let stands : led I (plane_at I p).origin.0 (x ∷ xs) ≡ to_airport I end.last = ap (led I (plane_at I p).origin.0) end.is ∙ led-append I (plane_at I p).origin.0 end.front (end.last ∷ []) in
      ends_after (Some (record { 0 = end.last })) airport (some-last end.front end.last whole) (to_airport I end.last) (λ off. rw off refl)
      ∙ ap (λ (a : ℕ). eqb a airport) (sym stands)

  pub ends-stand : (airport : ℕ) → ends_at I P p airport ≡ eqb (stand I P p) airport
  ends-stand airport = ends-by (rotation I P p) refl airport

  -- so it serves the positions that want it there
  pub serves-is : (position : PositionInfo) → one_if (is_hand I P position p) ≡ serves I p (stand I P p) position
  serves-is position = ap (λ (e : Bool). one_if (is_wanted position (plane_at I p) && e)) (ends-stand position.airport.0)
