-- What the calls of Refill answer.
use Rattle.std.proofs.Common.{◌≡◌, ℕ, ◌-◌, ◌<◌, ◌≤◌, min, inl, inr, Bool, true, false, ◌&&◌, leb, List, [], refl, sym, ap, ◌∙◌, arith}
use Rattle.std.proofs.lemmas.Bool.{cases_Bool, and_from, and_left, and_right, leb-true, le-leb}
use Rattle.std.proofs.lemmas.List.Elements.{All-nil}
use Rattle.desk_units.specs.declared.numbers.Leg.{Leg}
use Rattle.desk_units.specs.declared.numbers.Cabin.{Cabin}
use Rattle.desk_data.specs.declared.row.Group.{Group}
use Rattle.desk_data.specs.Situation.{Situation, legs_of, reservations_of, res_at, gone, carried_gone, tallied}
use Rattle.desk_data.specs.PlanRows.{PlanRows, groups_at, with_groups}
use Rattle.desk_data.specs.Valid.{IsReservation, IsPlanFor}
use Rattle.desk_data.specs.Booked.{booked_path}
use Rattle.desk_model.specs.Choices.{IsGreatestWithin, greatest_within}
use Rattle.desk_model.specs.Rebook.{count_on, groups_after_rebook, after_rebook}
use Rattle.desk_model.specs.Tidy.{is_fit_path}
use Rattle.desk_model.specs.Refill.{has_leg, has_seats_for, may_refill, refill_count, is_refilled, after_refilling}
use Rattle.desk_model.proofs.ChoiceLaws.{greatest_within-holds, greatest_within-is}
use Rattle.desk_model.proofs.GroupPlans.{with_groups-own}
use Rattle.desk_model.proofs.RefillLaws.{fit-bound, has_leg-carried, may_refill-room}
use Rattle.plan_reads.specs.Made.{AreWhole, going_back}
use Rattle.plan_reads.proofs.RebookCalls.{rebook-nobody, rebook-made, rebooked-whole}

-- the greatest number up to the lesser of two limits that passes a test is the greatest up to the first that passes it and is within the second
greatest_both : (n most : ℕ) (test both : ℕ → Bool) → ((k : ℕ) → k ≤ n → both k ≡ (test k && leb k most)) → IsGreatestWithin n both (greatest_within (min n most) test)
greatest_both n most test both is =
    let k = greatest_within (min n most) test in
    let found = greatest_within-holds (min n most) test in
    let few : k ≤ n = let to = found.to in grind (arith, to) in
    let within : k ≤ most = let to = found.to in grind (arith, to) in
    record {
      to = few;
      holds = elim found.holds [
        | inl none ↦ inl none
        | inr passes ↦ inr (is k few ∙ and_from (test k) (leb k most) passes (le-leb k most within))
      ];
      greatest = λ j more le.
          is j le ∙ elim (cases_Bool (leb j most)) [
            | inl fits ↦
                let lesser : j ≤ min n most = let top = leb-true j most fits in grind (arith, le, top) in
                and_left (test j) (leb j most) (found.greatest j more lesser)
            | inr over ↦ and_right (test j) (leb j most) over
          ];
    }

module _ (I : Situation) (P : PlanRows) (x r : ℕ) where
  abbrev path : List (Leg × Cabin)
  path = booked_path I r

  refilling-no : is_refilled I P x r ≡ false → after_refilling I x P r ≡ P
  refilling-no fails = rw fails refl

  refilling-yes : is_refilled I P x r ≡ true → after_refilling I x P r ≡ after_rebook P r [] path (refill_count I P r)
  refilling-yes holds = rw holds refl

  going-no : is_refilled I P x r ≡ false → going_back I P x r ≡ 0
  unfolding going_back
  going-no fails = rw fails refl

  going-yes : is_refilled I P x r ≡ true → going_back I P x r ≡ refill_count I P r
  unfolding going_back
  going-yes holds = rw holds refl

  count-few : refill_count I P r ≤ count_on [] (groups_at P r)
  unfolding refill_count
  count-few = (greatest_within-holds (count_on [] (groups_at P r)) (may_refill I P r)).to

  -- for how many more C15 leaves room
  abbrev room : ℕ
  room = tallied I r (gone I path) - carried_gone I.progress.frozen (groups_at P r) (gone I path)

  -- ---- how many go back

  pub going-few : going_back I P x r ≤ count_on [] (groups_at P r)
  going-few = elim (cases_Bool (is_refilled I P x r)) [
    | inl holds ↦ omega (arith, going-yes holds, count-few)
    | inr fails ↦ omega (arith, going-no fails)
  ]

  pub going-nobody_waits : count_on [] (groups_at P r) ≡ 0 → 0 ≡ going_back I P x r
  going-nobody_waits none = omega (arith, going-few, none)

  pub going-no_leg : has_leg x path ≡ false → 0 ≡ going_back I P x r
  going-no_leg lacks = sym (going-no (and_left (has_leg x path) (is_fit_path I P r path) lacks))

  pub going-not_fit : is_fit_path I P r path ≡ false → 0 ≡ going_back I P x r
  going-not_fit fails = sym (going-no (and_right (has_leg x path) (is_fit_path I P r path) fails))

  pub going-fit : (waiting most : ℕ) → waiting ≡ count_on [] (groups_at P r) → most ≡ min waiting room → has_leg x path ≡ true → is_fit_path I P r path ≡ true → greatest_within most (has_seats_for I P path) ≡ going_back I P x r
  unfolding refill_count
  going-fit waiting most waiting_is most_is has fit =
      let all = count_on [] (groups_at P r) in
      ap (λ (n : ℕ). greatest_within n (has_seats_for I P path)) (most_is ∙ ap (λ (n : ℕ). min n room) waiting_is)
      ∙ sym (greatest_within-is all (may_refill I P r) (greatest_within (min all room) (has_seats_for I P path))
      (greatest_both all room (has_seats_for I P path) (may_refill I P r) (λ n few. may_refill-room I P r n (has_leg-carried x path has) few (fit-bound I P r path fit))))
      ∙ sym (going-yes (and_from (has_leg x path) (is_fit_path I P r path) has fit))

  -- ---- the groups then

  pub refill-nobody : IsPlanFor I P → going_back I P x r ≡ 0 → with_groups P r (groups_at P r) ≡ after_refilling I x P r
  refill-nobody plan nobody =
      elim (cases_Bool (is_refilled I P x r)) [
        | inl holds ↦ rebook-nobody I P r [] path (refill_count I P r) plan (omega (arith, going-yes holds, nobody)) ∙ sym (refilling-yes holds)
        | inr fails ↦ with_groups-own P r (groups_at P r) refl ∙ sym (refilling-no fails)
      ]

  pub refill-made : (n : ℕ) (made : List Group) → n ≡ going_back I P x r → (n ≡ 0 → ⊥) → made ≡ groups_after_rebook [] path n (groups_at P r) → with_groups P r made ≡ after_refilling I x P r
  refill-made n made n_is some is =
      elim (cases_Bool (is_refilled I P x r)) [
        | inl holds ↦ rebook-made P r [] path (refill_count I P r) n made (omega (arith, n_is, going-yes holds, count-few)) is ∙ sym (refilling-yes holds)
        | inr fails ↦ absurd (some (n_is ∙ going-no fails))
      ]

  pub refill-whole : (n : ℕ) (made : List Group) → IsPlanFor I P → r < reservations_of I → IsReservation (legs_of I) (res_at I r) → n ≡ going_back I P x r → made ≡ groups_after_rebook [] path n (groups_at P r) → AreWhole I r made
  refill-whole n made plan within booked n_is is =
      rebooked-whole I P r [] path n made plan within
      (record { short = omega arith; among = All-nil (λ (pair : Leg × Cabin). pair.0.0 < legs_of I) })
      (record { short = booked.short; among = booked.path })
      (omega (arith, n_is, going-few)) is
