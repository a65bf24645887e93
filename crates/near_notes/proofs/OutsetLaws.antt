-- Where passengers stand and want to go are airports of the day.
use Rattle.std.proofs.Common.{ℕ, ◌-◌, ◌<◌, List, [], ◌∷◌, length, arith}
use Rattle.std.proofs.lemmas.List.Elements.{All-get_or}
use Rattle.desk_units.specs.declared.numbers.Leg.{Leg}
use Rattle.desk_units.specs.declared.numbers.Cabin.{Cabin}
use Rattle.desk_data.specs.Situation.{Situation, airports_of, planes_of, legs_of, reservations_of, leg_at, res_at, no_leg, no_res}
use Rattle.desk_data.specs.Booked.{booked_path, origin_of, dest_of}
use Rattle.desk_data.specs.Paths.{no_pair, first_leg, last_leg}
use Rattle.desk_data.specs.Valid.{IsValid, IsLeg, IsReservation}
use Rattle.near_pax.specs.Start.{IsStemPath, place_after}

leg-is : (I : Situation) (x : ℕ) → IsValid I → x < legs_of I → IsLeg (airports_of I) (planes_of I) (legs_of I) (leg_at I x)
leg-is I x valid lt = All-get_or (IsLeg (airports_of I) (planes_of I) (legs_of I)) I.parts.legs x no_leg lt valid.parts.legs

res-is : (I : Situation) (r : ℕ) → IsValid I → r < reservations_of I → IsReservation (legs_of I) (res_at I r)
res-is I r valid lt = All-get_or (IsReservation (legs_of I)) I.parts.res r no_res lt valid.parts.res

pub dest-there : (I : Situation) (r : ℕ) → IsValid I → r < reservations_of I → dest_of I r < airports_of I
unfolding dest_of
dest-there I r valid lt =
    let res = res-is I r valid lt in
    let some = res.starts in
    (leg-is I (last_leg (booked_path I r)) valid (res.path (length (booked_path I r) - 1) no_pair (omega (arith, some)))).dest

origin-there : (I : Situation) (r : ℕ) → IsValid I → r < reservations_of I → origin_of I r < airports_of I
unfolding origin_of
origin-there I r valid lt =
    let res = res-is I r valid lt in
    let some = res.starts in
    (leg-is I (first_leg (booked_path I r)) valid (res.path 0 no_pair (omega (arith, some)))).origin

pub place-there : (I : Situation) (r : ℕ) (stem : List (Leg × Cabin)) → IsValid I → r < reservations_of I → IsStemPath I stem → place_after I r stem < airports_of I
place-there I r [] valid lt is = origin-there I r valid lt
place-there I r (pair ∷ path) valid lt is =
    (leg-is I (last_leg (pair ∷ path)) valid (is.among (length (pair ∷ path) - 1) no_pair (omega arith))).dest
