-- Which group of an airport's line decides of an hour.
use Rattle.std.specs.Prelude.{◌≡◌, ℕ, ◌*◌, ◌%◌, ◌<◌, ◌≤◌, ◌⊎◌, max, Some, None, List, ◌∷◌, ◌++◌, All}
use Rattle.desk_data.specs.declared.info.Cap.{Cap}
use Rattle.desk_data.specs.Hours.{dep_cap, arr_cap, frozen_departures, frozen_arrivals}
use Rattle.desk_data.specs.LaterOrders.{IsOfHour}
use Rattle.desk_data.specs.Situation.{Situation, airport_at}

-- a group ends at the minute of the day that it names, and at the day's end where it names 00:00
abbrev pub EndsAt : Cap → ℕ → Type 0
EndsAt group end = ((group.to ≡ 0) × (end ≡ 1440)) ⊎ ((group.to ≡ 0 → ⊥) × (end ≡ group.to))

-- a group covers a minute of the day
pub data CoversMinute (group : Cap) (minute : ℕ) : Type 0 where
  -- it ends later than it begins, and the minute is from its beginning on and before its end
  within_the_day : (end : ℕ) → EndsAt group end → group.from < end → group.from ≤ minute → minute < end → CoversMinute group minute
  -- or it ends no later than it begins, and so on the next day: the minute is from its beginning on
  up_to_midnight : (end : ℕ) → EndsAt group end → end ≤ group.from → group.from ≤ minute → CoversMinute group minute
  -- or before its end
  from_midnight : (end : ℕ) → EndsAt group end → end ≤ group.from → minute < end → CoversMinute group minute

-- it covers the hour of the day that hour h is, where it covers its first minute
abbrev pub CoversHour : Cap → ℕ → Type 0
CoversHour group h = CoversMinute group (60 * (h % 24))

-- where no order of the airport has a minute in the hour, the last group of its line that covers the hour decides both caps, but for what has left in it. Where there is none the airport takes any number
pub record ObeysLine (I : Situation) (a h : ℕ) : Type 0 where
  pub last : (before after : List Cap) (group : Cap) → All (λ order. IsOfHour a h order → ⊥) I.orders → (airport_at I a).caps ≡ before ++ group ∷ after → CoversHour group h → All (λ other. CoversHour other h → ⊥) after → (dep_cap I a h ≡ Some (max group.deps (frozen_departures I a h))) × (arr_cap I a h ≡ Some (max group.arrs (frozen_arrivals I a h)))
  pub none : All (λ order. IsOfHour a h order → ⊥) I.orders → All (λ group. CoversHour group h → ⊥) (airport_at I a).caps → (dep_cap I a h ≡ None) × (arr_cap I a h ≡ None)
