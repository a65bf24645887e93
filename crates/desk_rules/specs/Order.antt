-- The order in which items are reported.
use Rattle.std.specs.Prelude.{◌≡◌, ℕ, ◌<◌, ◌⊎◌}
use Rattle.desk_units.specs.Ranks.{cabin_rank}
use Rattle.desk_data.specs.declared.broken.Broken.{Broken}
use Rattle.desk_data.specs.declared.broken.Broken.TheVariants.{C1, C2, C3, C4, C5, C6, C7, C8, C9, C10, C11, C12, C13, C14, C15}

-- the number of an item's rule; the leg, aircraft, airport or reservation that it names; and the hour or the cabin, 0 where it names none
abbrev pub rule_of : Broken → ℕ
rule_of (C1 leg) = 1
rule_of (C2 leg) = 2
rule_of (C3 leg) = 3
rule_of (C4 leg) = 4
rule_of (C5 leg) = 5
rule_of (C6 leg) = 6
rule_of (C7 leg) = 7
rule_of (C8 plane) = 8
rule_of (C9 plane) = 9
rule_of (C10 airport hour) = 10
rule_of (C11 airport hour) = 11
rule_of (C12 leg cabin) = 12
rule_of (C13 res) = 13
rule_of (C14 res) = 14
rule_of (C15 res) = 15

abbrev pub named_by : Broken → ℕ
named_by (C1 leg) = leg.0
named_by (C2 leg) = leg.0
named_by (C3 leg) = leg.0
named_by (C4 leg) = leg.0
named_by (C5 leg) = leg.0
named_by (C6 leg) = leg.0
named_by (C7 leg) = leg.0
named_by (C8 plane) = plane.0
named_by (C9 plane) = plane.0
named_by (C10 airport hour) = airport.0
named_by (C11 airport hour) = airport.0
named_by (C12 leg cabin) = leg.0
named_by (C13 res) = res.0
named_by (C14 res) = res.0
named_by (C15 res) = res.0

abbrev pub part_of : Broken → ℕ
part_of (C10 airport hour) = hour
part_of (C11 airport hour) = hour
part_of (C12 leg cabin) = cabin_rank cabin
part_of item = 0

-- of two numbers each, by the first, then by the second
abbrev pub IsLess : ℕ → ℕ → ℕ → ℕ → Type 0
IsLess a b c d = (a < c) ⊎ ((a ≡ c) × (b < d))

-- one item is reported before another: by rule, then by what it names, then by hour or cabin
abbrev pub ComesBefore : Broken → Broken → Type 0
ComesBefore a b = (rule_of a < rule_of b) ⊎ ((rule_of a ≡ rule_of b) × IsLess (named_by a) (part_of a) (named_by b) (part_of b))
