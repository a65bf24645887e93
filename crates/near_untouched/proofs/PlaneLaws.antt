-- Aircraft that fly untouched legs alone.
use Rattle.std.proofs.Common.{◌≡◌, ℕ, ◌<◌, ◌≤◌, ◌⊎◌, inl, inr, Bool, true, false, List, sym, ap, ◌∙◌, arith}
use Rattle.std.proofs.lemmas.Bool.{true≢false, false≢true, cases_lt, cases_Bool, false_from_ne_true}
use Rattle.std.proofs.lemmas.List.{get_or_past}
use Rattle.desk_data.specs.declared.row.Row.TheVariants.{Cancelled}
use Rattle.desk_data.specs.Situation.{Situation, legs_of, planes_of}
use Rattle.desk_data.specs.PlanRows.{PlanRows, row_at}
use Rattle.desk_data.specs.Valid.{IsPlanFor}
use Rattle.desk_rules.specs.Maintenance.{flies, is_flown_by}
use Rattle.hour_counts.specs.declared.slot.Movement.TheVariants.{Departure, Arrival}
use Rattle.near_untouched.specs.Planes.{IsUntouchedPlane}
use Rattle.near_untouched.specs.Marks.{is_marked, AreKept, HoldsOf, IsFlierMarked}
use Rattle.near_untouched.specs.Hours.{margin, HasFew}
use Rattle.near_untouched.specs.Legs.{AreLegsTold}
use Rattle.near_untouched.specs.Positions.{HasSameHands}
use Rattle.near_untouched.proofs.LegLaws.{legs-together}

past-row : (I : Situation) (R : PlanRows) (x : ℕ) → IsPlanFor I R → legs_of I ≤ x → row_at R x ≡ Cancelled
past-row I R x plan past = get_or_past R.rows x Cancelled (let legs = plan.legs in omega (arith, legs, past))

-- a leg that is flown is one of the day
flown-within : (I : Situation) (R : PlanRows) (p x : ℕ) → IsPlanFor I R → flies R p x ≡ true → x < legs_of I
flown-within I R p x plan on =
    elim (cases_lt x (legs_of I)) [
      | inl within ↦ within
      | inr past ↦ absurd (false≢true (sym (ap (is_flown_by p) (past-row I R x plan past)) ∙ on))
    ]

-- the aircraft that flies a leg in a plan is marked, if the leg is, and if one does
abbrev pub AreFliersTold : Situation → PlanRows → List Bool → List Bool → Type 0
AreFliersTold I R legs planes = (y : ℕ) → y < legs_of I → (is_marked legs y ≡ false) ⊎ IsFlierMarked R planes y

pub fliers-kept : (I : Situation) (R : PlanRows) (legs old new : List Bool) → AreKept old new → AreFliersTold I R legs old → AreFliersTold I R legs new
fliers-kept I R legs old new kept told y lt =
    elim (told y lt) [
      | inl free ↦ inl free
      | inr marked ↦ inr (λ p on. kept p (marked p on))
    ]

-- no leg of an aircraft is marked that is not marked itself
flier-off : (I : Situation) (R : PlanRows) (legs planes : List Bool) (p y : ℕ) → AreFliersTold I R legs planes → is_marked planes p ≡ false → y < legs_of I → is_marked legs y ≡ true → flies R p y ≡ false
flier-off I R legs planes p y told off lt on =
    elim (told y lt) [
      | inl free ↦ absurd (true≢false (sym on ∙ free))
      | inr marked ↦ false_from_ne_true (flies R p y) (λ flown. true≢false (sym (marked p flown) ∙ off))
    ]

leg-off : (I : Situation) (R : PlanRows) (legs planes : List Bool) (p y : ℕ) → AreFliersTold I R legs planes → is_marked planes p ≡ false → y < legs_of I → flies R p y ≡ true → is_marked legs y ≡ false
leg-off I R legs planes p y told off lt flown =
    false_from_ne_true (is_marked legs y) (λ on. true≢false (sym flown ∙ flier-off I R legs planes p y told off lt on))

pub untouched-from : (I : Situation) (P Q : PlanRows) (legs planes : List Bool) → IsPlanFor I P → IsPlanFor I Q → AreLegsTold I P Q legs → AreFliersTold I P legs planes → AreFliersTold I Q legs planes → HoldsOf (planes_of I) planes (HasFew Departure I P) → HoldsOf (planes_of I) planes (HasFew Arrival I P) → HoldsOf (planes_of I) planes (HasSameHands I P Q) → HoldsOf (planes_of I) planes (IsUntouchedPlane margin I P Q)
untouched-from I P Q legs planes plan later are before now few_from few_to hands p lt off = record {
  flown = λ x. elim (cases_lt x (legs_of I)) [
    | inr past ↦ inl (past-row I P x plan past ∙ sym (past-row I Q x later past))
    | inl within ↦ elim (cases_Bool (is_marked legs x)) [
      | inr free ↦ inl (are.untouched x within free).row
      | inl on ↦ inr (flier-off I P legs planes p x before off within on, flier-off I Q legs planes p x now off within on)
    ]
  ];
  legs = legs-together (flies P p) I P Q
      (λ y own. (let within = flown-within I P p y plan own in are.untouched y within (leg-off I P legs planes p y before off within own)))
      (few_from p lt off) (few_to p lt off);
  positions = hands p lt off;
}
