-- Items that a plan breaks, kept in the order in which they are reported.
use Rattle.std.specs.Prelude.{◌≡◌, ℕ, Bool, IsTrue, ◌↔◌, ◌==◌, if◌then◌else◌, List}
use Rattle.std.specs.List.{Contains}
use Rattle.desk_units.specs.declared.numbers.Cabin.{Cabin}
use Rattle.desk_units.specs.declared.numbers.Cabin.TheVariants.{F, B, E}
use Rattle.desk_data.specs.declared.broken.Broken.{Broken}
use Rattle.desk_data.specs.declared.broken.Broken.TheVariants.{C1, C2, C3, C4, C5, C6, C7, C8, C9, C10, C11, C12, C13, C14, C15}
use Rattle.desk_rules.specs.Least.{leg, plane, airport, res}
use Rattle.desk_rules.specs.Order.{rule_of, named_by, part_of}
use Rattle.board_kit.specs.declared.key.ItemKey.{ItemKey}

-- the items that are kept are those of a list that pass a test
abbrev pub AreThose : {X : Type 0} → (X → Bool) → List X → List X → Type 0
AreThose {X} test all kept = (y : X) → Contains kept y ↔ (Contains all y × IsTrue (test y))

-- ---- an item by three numbers, in whose order items are reported

-- the numbers of an item
abbrev pub key_of : Broken → ItemKey
key_of item = record { rule = rule_of item; named = named_by item; part = part_of item }

-- the cabin of a rank
abbrev pub cabin_of : ℕ → Cabin
cabin_of rank = if rank == 0 then F else (if rank == 1 then B else E)

-- the item of three numbers
abbrev pub item_by : ℕ → ℕ → ℕ → Broken
item_by r n m =
    if r == 1 then C1 (leg n) else (if r == 2 then C2 (leg n) else (if r == 3 then C3 (leg n) else (if r == 4 then C4 (leg n) else (
    if r == 5 then C5 (leg n) else (if r == 6 then C6 (leg n) else (if r == 7 then C7 (leg n) else (if r == 8 then C8 (plane n) else (
    if r == 9 then C9 (plane n) else (if r == 10 then C10 (airport n) m else (if r == 11 then C11 (airport n) m else (
    if r == 12 then C12 (leg n) (cabin_of m) else (if r == 13 then C13 (res n) else (if r == 14 then C14 (res n) else C15 (res n))))))))))))))

unfoldable pub item_of : ItemKey → Broken
item_of key = item_by key.rule key.named key.part

-- the keys are those of items
abbrev pub AreKeys : List ItemKey → Type 0
AreKeys keys = (key : ItemKey) → Contains keys key → key_of (item_of key) ≡ key
