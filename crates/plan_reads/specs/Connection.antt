-- Whether passengers of a leg can go on with another, given the rows of both.
use Rattle.std.specs.Prelude.{ℕ, ◌+◌, Bool, ◌&&◌, nat_le, ◌==◌, if◌then◌else◌}
use Rattle.desk_data.specs.declared.row.Row.{Row}
use Rattle.desk_data.specs.Situation.{Situation, leg_at}
use Rattle.desk_rules.specs.Rotations.{departure, is_leg}
use Rattle.desk_rules.specs.Passengers.{share_plane, connection_minutes}

-- the minutes that passengers need from leg x to leg y: none where x is the previous leg of y and one aircraft flies both
abbrev pub time_between : Situation → ℕ → Row → ℕ → Row → ℕ
time_between I x row y next = if is_leg x (leg_at I y).prev && share_plane row next then 0 else connection_minutes

-- whether they can go on: y leaves where x arrived, and late enough. With the rows of a plan that is `reaches`
abbrev pub goes_on : Situation → ℕ → Row → ℕ → Row → Bool
goes_on I x row y next =
    ((leg_at I y).origin.0 == (leg_at I x).dest.0)
    && nat_le (departure row + (leg_at I x).block + time_between I x row y next) (departure next)
