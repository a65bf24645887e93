-- What is left of some passengers without those whom groups carry.
use Rattle.std.proofs.Common.{◌≡◌, ℕ, ◌+◌, ◌-◌, ◌<◌, ◌&&◌, leb, List, length, take, get_or, refl, arith}
use Rattle.std.specs.Prelude.{Option, Some, None, if◌then◌else◌}
use Rattle.std.proofs.lemmas.Bool.{lt-leb}
use Rattle.std.proofs.lemmas.List.Sums.{sum_by_more_le}
use Rattle.desk_units.specs.declared.numbers.Cabin.{Cabin}
use Rattle.desk_units.specs.declared.numbers.Leg.{Leg}
use Rattle.desk_data.specs.declared.row.Group.{Group}
use Rattle.desk_data.specs.declared.row.Row.{Row}
use Rattle.desk_data.specs.Paths.{is_carried}
use Rattle.desk_data.specs.PlanRows.{same_path}
use Rattle.desk_data.specs.Situation.{carried_gone, gone_in}

-- the passengers of one group who are carried with just these legs gone
abbrev pub carried_of : List (Option Row) → List (Leg × Cabin) → Group → ℕ
carried_of frozen legs group = if is_carried group.path && same_path (gone_in frozen group.path) legs then group.count else 0

-- where one group carries more than the groups before it leave, all of them carry too many
pub left_none : (frozen : List (Option Row)) (groups : List Group) (legs : List (Leg × Cabin)) (i : ℕ) (d : Group) (count left : ℕ) → i < length groups → left + carried_gone frozen (take i groups) legs ≡ count → left < carried_of frozen legs (get_or groups i d) → None ≡ (if leb (carried_gone frozen groups legs) count then Some (count - carried_gone frozen groups legs) else None)
left_none frozen groups legs i d count left within so_far over =
    let more : count < carried_gone frozen groups legs = omega (arith, so_far, over, sum_by_more_le (carried_of frozen legs) groups i d within) in
    rw (lt-leb (carried_gone frozen groups legs) count more) refl
