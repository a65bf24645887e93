-- The orders of cabins and of hauls.
use Rattle.std.specs.Prelude.{ℕ}
use Rattle.desk_units.specs.declared.numbers.Cabin.{Cabin}
use Rattle.desk_units.specs.declared.numbers.Cabin.TheVariants as cabin
use Rattle.desk_units.specs.declared.numbers.Haul.{Haul}
use Rattle.desk_units.specs.declared.numbers.Haul.TheVariants as haul
use Rattle.desk_units.specs.declared.tariff.Term.{Term}
use Rattle.desk_units.specs.declared.tariff.Term.TheVariants as term

-- first before business before economy
abbrev pub cabin_rank : Cabin → ℕ
cabin_rank cabin.F = 0
cabin_rank cabin.B = 1
cabin_rank cabin.E = 2

-- domestic below continental below intercontinental
abbrev pub haul_rank : Haul → ℕ
haul_rank haul.D = 0
haul_rank haul.C = 1
haul_rank haul.I = 2

-- the terms of the cost, in the order in which they are listed
abbrev pub term_rank : Term → ℕ
term_rank term.Operating = 0
term_rank term.Delay = 1
term_rank term.Cancellation = 2
term_rank term.Downgrade = 3
term_rank term.Legal = 4
term_rank term.Position = 5
