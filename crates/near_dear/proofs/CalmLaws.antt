-- Hours that are calm, and a moment from which on they all are.
use Rattle.std.proofs.Common.{◌≡◌, ℕ, ◌+◌, ◌-◌, ◌*◌, ◌/◌, ◌<◌, ◌≤◌, inl, inr, List, [], ◌∷◌, ◌++◌, length, get_or, sym, ap, subst, ◌∙◌, arith, length-append}
use Rattle.std.specs.Prelude.{Option, None, Some}
use Rattle.std.proofs.lemmas.List.{get_or_append_left, get_or-append-add}
use Rattle.std.proofs.lemmas.Bool.{cases_lt}
use Rattle.desk_data.specs.Situation.{Situation}
use Rattle.desk_data.specs.Hours.{dep_cap, arr_cap}
use Rattle.desk_data.specs.PlanRows.{PlanRows}
use Rattle.desk_model.specs.Push.{departures_beside, arrivals_beside}
use Rattle.hour_counts.specs.declared.slot.Movement.TheVariants.{Departure, Arrival}
use Rattle.near_untouched.specs.Hours.{HasRoom, IsRoomy}
use Rattle.near_dear.specs.Calm.{HasRoomFor, IsCalmAt}
use Rattle.near_dear.specs.Times.{IsCalmHour}

room-for : (n : ℕ) (cap : Option ℕ) → HasRoom n cap → HasRoomFor 16 n cap
room-for n None room = tt
room-for n (Some cap) room = room

pub calm-hour : (I : Situation) (P : PlanRows) (a h : ℕ) → IsRoomy Departure I P a h → IsRoomy Arrival I P a h → IsCalmHour 16 I P a h
calm-hour I P a h leaves lands = record {
  departures = λ x. room-for (departures_beside I P x a h) (dep_cap I a h) (leaves x);
  arrivals = λ x. room-for (arrivals_beside I P x a h) (arr_cap I a h) (lands x);
}

-- all hours from one on until the window's end are calm
abbrev pub AreCalmFrom : Situation → PlanRows → ℕ → ℕ → Type 0
AreCalmFrom I P a hour = (h : ℕ) → hour ≤ h → 60 * h < I.parts.to.0 → IsCalmHour 16 I P a h

pub calm-start : (I : Situation) (P : PlanRows) (a hour : ℕ) → hour ≡ I.parts.to.0 / 60 + 1 → AreCalmFrom I P a hour
calm-start I P a hour is h from to = absurd (omega (arith, is, from, to))

pub calm-more : (I : Situation) (P : PlanRows) (a hour : ℕ) → 0 < hour → AreCalmFrom I P a hour → IsCalmHour 16 I P a (hour - 1) → AreCalmFrom I P a (hour - 1)
calm-more I P a hour some all one h from to =
    elim (cases_lt (hour - 1) h) [
      | inl later ↦ all h (omega (arith, later, some)) to
      | inr here ↦ (let same : hour - 1 ≡ h = omega (arith, from, here) in subst (IsCalmHour 16 I P a) same one)
    ]

pub calm-at : (I : Situation) (P : PlanRows) (a hour : ℕ) → AreCalmFrom I P a hour → IsCalmAt 16 I P a (60 * hour)
calm-at I P a hour all = record {
  departures = λ x h between. (all h (let from = between.from in omega (arith, from)) between.to).departures x;
  arrivals = λ x h between. (all h (let from = between.from in omega (arith, from)) between.to).arrivals x;
}

-- one airport more
pub moment-more : (S : ℕ → ℕ → Type 0) (moments : List ℕ) (c : ℕ) → ((a : ℕ) → a < length moments → S a (get_or moments a 0)) → S (length moments) c → (a : ℕ) → a < length (moments ++ c ∷ []) → S a (get_or (moments ++ c ∷ []) a 0)
moment-more S moments c each one a lt =
    let long : length (moments ++ c ∷ []) ≡ length moments + 1 = length-append moments (c ∷ []) in
    elim (cases_lt a (length moments)) [
      | inl less ↦ subst (S a) (sym (get_or_append_left moments (c ∷ []) 0 a less)) (each a less)
      | inr past ↦
          let same : length moments ≡ a = omega (arith, lt, long, past) in
          let end : get_or (moments ++ c ∷ []) (length moments) 0 ≡ c = ap (λ (k : ℕ). get_or (moments ++ c ∷ []) k 0) (omega arith) ∙ get_or-append-add moments (c ∷ []) 0 0 in
          subst (λ (k : ℕ). S k (get_or (moments ++ c ∷ []) k 0)) same (subst (S (length moments)) (sym end) one)
    ]
