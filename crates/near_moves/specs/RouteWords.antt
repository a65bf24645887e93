-- Routes in words.
use Rattle.std.specs.Prelude.{◌≡◌, ℕ, ◌<◌, ◌≤◌, List, [], ◌∷◌, ◌++◌, length, Contains}
use Rattle.desk_units.specs.declared.numbers.Leg.{Leg}
use Rattle.desk_units.specs.declared.numbers.Cabin.{Cabin}
use Rattle.desk_data.specs.Situation.{Situation, legs_of, tally_at}
use Rattle.desk_data.specs.Booked.{booked_path}
use Rattle.desk_data.specs.PlanRows.{PlanRows}
use Rattle.desk_model.specs.Tidy.{IsFit}
use Rattle.near_moves.specs.MoveParts.{leg}
use Rattle.near_moves.specs.Routes.{begun_path}

-- the legs with which passengers of reservation r are under way
pub data IsStem (I : Situation) (r : ℕ) (stem : List (Leg × Cabin)) : Type 0 where
  -- those of the scheduled path that have begun
  begun : stem ≡ begun_path I r → IsStem I r stem
  -- or just those that some have flown, by the tally, and there is one at least
  flown : (count : ℕ) → Contains (tally_at I r) (stem, count) → 1 ≤ length stem → IsStem I r stem

-- the four kinds of paths that may be routes of reservation r
pub data IsTried (I : Situation) (r : ℕ) (path : List (Leg × Cabin)) : Type 0 where
  -- the scheduled path
  scheduled : path ≡ booked_path I r → IsTried I r path
  -- a stem, alone
  stem_alone : IsStem I r path → IsTried I r path
  -- and with one leg after it, in any cabin
  one_more : (stem : List (Leg × Cabin)) (x : ℕ) (c : Cabin) → IsStem I r stem → x < legs_of I → path ≡ stem ++ (leg x, c) ∷ [] → IsTried I r path
  -- and with two legs after it, in one cabin
  two_more : (stem : List (Leg × Cabin)) (x y : ℕ) (c : Cabin) → IsStem I r stem → x < legs_of I → y < legs_of I → path ≡ stem ++ (leg x, c) ∷ (leg y, c) ∷ [] → IsTried I r path

-- a path that passengers of reservation r may take: it is of one of these kinds, has 1 to 8 legs, and meets C13, C14 and C15
pub record IsRoute (I : Situation) (P : PlanRows) (r : ℕ) (path : List (Leg × Cabin)) : Type 0 where
  pub kind : IsTried I r path
  pub some : 1 ≤ length path
  pub short : length path ≤ 8
  pub fit : IsFit I P r path
