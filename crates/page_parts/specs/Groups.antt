-- What changed of the passengers from one plan to another.
use Rattle.std.specs.Prelude.{ℕ, ◌-◌, Bool, true, false, not, ◌&&◌, ◌==◌, nat_lt, if◌then◌else◌, List, [], ◌∷◌, length, find, count_by, slice_index_or}
use Rattle.std.specs.Option.{option_map_or}
use Rattle.std.specs.List.{flat_map}
use Rattle.desk_units.specs.declared.numbers.Leg.{Leg}
use Rattle.desk_units.specs.declared.numbers.Cabin.{Cabin}
use Rattle.desk_units.specs.Ranks.{cabin_rank}
use Rattle.desk_data.specs.declared.row.Group.{Group}
use Rattle.desk_data.specs.Situation.{Situation, reservations_of}
use Rattle.desk_data.specs.PlanRows.{PlanRows, groups_at, same_path}
use Rattle.desk_data.specs.Booked.{reference_of}
use Rattle.desk_data.specs.Paths.{is_carried}
use Rattle.desk_rules.specs.Numbers.{numbers}
use Rattle.desk_rules.specs.Passengers.{all_flown, minutes_late}
use Rattle.page_parts.specs.declared.group_changes.Fate.{Fate}
use Rattle.page_parts.specs.declared.group_changes.Fate.TheVariants as fate_is
use Rattle.page_parts.specs.declared.group_changes.ChangedGroup.{ChangedGroup}

-- what becomes of passengers of reservation r on a path: they are not carried, or a leg of it is cancelled, or they arrive so many minutes late
abbrev pub fate : Situation → PlanRows → ℕ → List (Leg × Cabin) → Fate
fate I P r path =
    if is_carried path then (if all_flown P path then fate_is.Arrives (minutes_late I P r path) else fate_is.Stranded)
    else fate_is.NotCarried

abbrev pub same_fate : Fate → Fate → Bool
same_fate fate_is.NotCarried fate_is.NotCarried = true
same_fate fate_is.Stranded fate_is.Stranded = true
same_fate (fate_is.Arrives late) (fate_is.Arrives later) = late == later
same_fate fate_is.NotCarried fate_is.Stranded = false
same_fate fate_is.NotCarried (fate_is.Arrives later) = false
same_fate fate_is.Stranded fate_is.NotCarried = false
same_fate fate_is.Stranded (fate_is.Arrives later) = false
same_fate (fate_is.Arrives late) fate_is.NotCarried = false
same_fate (fate_is.Arrives late) fate_is.Stranded = false

-- the passengers of some groups, no path twice, who are on a path
abbrev pub count_at : List (Leg × Cabin) → List Group → ℕ
count_at path groups = option_map_or (λ group. group.count) (find (λ group. same_path group.path path) groups) 0

-- how many legs of a path are in a cabin below the reference cabin
abbrev pub legs_below : Cabin → List (Leg × Cabin) → ℕ
legs_below reference path = count_by (λ pair. nat_lt (cabin_rank reference) (cabin_rank pair.1)) path

-- a group of reservation r as it is told
abbrev pub told : Situation → PlanRows → PlanRows → ℕ → ℕ → Group → ChangedGroup
told I P Q r place group = record {
  res = record { 0 = r };
  place = place;
  count = group.count;
  moved = group.count - count_at group.path (groups_at P r);
  was = fate I P r group.path;
  fate = fate I Q r group.path;
  below = legs_below (reference_of I r) group.path;
}

-- a group has changed if somebody came to its path, or something else becomes of those on it
abbrev pub has_changed : ChangedGroup → Bool
has_changed one = not (one.moved == 0 && same_fate one.was one.fate)

abbrev pub if_changed : ChangedGroup → List ChangedGroup
if_changed one = if has_changed one then one ∷ [] else []

-- a group of nobody
unfoldable pub no_group : Group
no_group = record { count = 0; path = [] }

-- the groups of reservation r that have changed, in their order
abbrev pub changed_in : Situation → PlanRows → PlanRows → ℕ → ℕ → List ChangedGroup
changed_in I P Q r n = flat_map (λ place. if_changed (told I P Q r place (slice_index_or (groups_at Q r) place no_group))) (numbers n)

abbrev pub changed_of : Situation → PlanRows → PlanRows → ℕ → List ChangedGroup
changed_of I P Q r = changed_in I P Q r (length (groups_at Q r))

-- those of the first n reservations
abbrev pub changed_groups : Situation → PlanRows → PlanRows → ℕ → List ChangedGroup
changed_groups I P Q n = flat_map (changed_of I P Q) (numbers n)
