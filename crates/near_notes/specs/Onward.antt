-- Which legs may follow a stem on a route.
use Rattle.std.specs.Prelude.{◌≡◌, ℕ, ◌<◌, Bool, false, ◌&&◌, ◌||◌, ◌==◌, nat_le, nat_lt, List, All}
use Rattle.desk_units.specs.declared.numbers.Leg.{Leg}
use Rattle.desk_units.specs.declared.numbers.Cabin.{Cabin}
use Rattle.desk_data.specs.Situation.{Situation, airports_of, leg_at}
use Rattle.desk_data.specs.Booked.{dest_of}
use Rattle.desk_data.specs.PlanRows.{PlanRows, row_at}
use Rattle.desk_rules.specs.Rotations.{dep, arr}
use Rattle.desk_rules.specs.Passengers.{is_flown}
use Rattle.near_pax.specs.Start.{place_after, ready_after, due_before}
use Rattle.near_memory.specs.Untouched.{goes_between}
use Rattle.near_notes.specs.declared.changes.Changes.{Changes}
use Rattle.near_notes.specs.declared.onward.Outset.{Outset}
use Rattle.near_notes.specs.Changes.{AreAllStill}

-- from where and when passengers of reservation r go on after a stem, and where and by when they have to be
pub record IsOutsetOf (I : Situation) (Q : PlanRows) (r : ℕ) (stem : List (Leg × Cabin)) (outset : Outset) : Type 0 where
  pub from : outset.from.0 ≡ place_after I r stem
  pub earliest : outset.earliest ≡ ready_after I Q r stem
  pub to : outset.to.0 ≡ dest_of I r
  pub until : outset.until ≡ due_before I r
  pub from_there : outset.from.0 < airports_of I
  pub to_there : outset.to.0 < airports_of I

-- whether leg x leaves where they stand, and arrives where they want to go or where a leg goes on to there; or arrives there, and leaves where a leg comes from where they stand
unfoldable pub is_linked : Situation → Outset → ℕ → Bool
is_linked I outset x =
    (((leg_at I x).origin.0 == outset.from.0) && (((leg_at I x).dest.0 == outset.to.0) || goes_between I (leg_at I x).dest.0 outset.to.0))
    || (((leg_at I x).dest.0 == outset.to.0) && goes_between I outset.from.0 (leg_at I x).origin.0)

-- whether it is flown, no earlier than they may go on, and arrives before they have to
unfoldable pub is_soon : Situation → PlanRows → Outset → ℕ → Bool
is_soon I Q outset x = is_flown (row_at Q x) && (nat_le outset.earliest (dep Q x) && nat_lt (arr I Q x) outset.until)

abbrev pub may_follow : Situation → PlanRows → Outset → ℕ → Bool
may_follow I Q outset x = is_linked I outset x && is_soon I Q outset x

-- no leg on a stem was touched, and none that may follow it
pub record IsClear (I : Situation) (Q : PlanRows) (changes : Changes) (r : ℕ) (stem : List (Leg × Cabin)) : Type 0 where
  pub still : AreAllStill changes.touched.items stem
  pub outset : Outset
  pub is : IsOutsetOf I Q r stem outset
  pub unused : All (λ leg. may_follow I Q outset leg.0 ≡ false) changes.legs.items
