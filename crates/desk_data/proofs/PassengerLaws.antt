-- Whom a batch tallies.
use Rattle.std.proofs.Common.{◌≡◌, ℕ, ◌<◌, inl, inr, List, [], refl, ap, ◌∙◌, arith}
use Rattle.std.specs.Prelude.{Option, slice_index_or}
use Rattle.std.proofs.lemmas.Bool.{cases_lt, lt-ltb, le-ltb}
use Rattle.std.proofs.lemmas.List.FromFn.{get_or-map-range_with_len}
use Rattle.day_orders.specs.declared.orders.Batch.{Batch}
use Rattle.desk_units.specs.declared.numbers.Cabin.{Cabin}
use Rattle.desk_units.specs.declared.numbers.Leg.{Leg}
use Rattle.desk_data.specs.declared.row.Row.{Row}
use Rattle.desk_data.specs.Leaving.{TalliesPassengers}
use Rattle.desk_data.specs.PlanRows.{PlanRows}
use Rattle.desk_data.specs.Progress.{count_then, frozen_by, moment_or_now, tally_by, tally_then, with_batch}
use Rattle.desk_data.specs.Situation.{PassengersGone, Situation, count_gone, now_of, reservations_of, tallied}
use Rattle.desk_data.proofs.TallyLaws.{tally_then-count}

-- the tally of a reservation, once time has passed
pub tally_by-at : (I : Situation) (P : PlanRows) (frozen : List (Option Row)) (r : ℕ) → r < reservations_of I → slice_index_or (tally_by I P frozen) r [] ≡ tally_then I P frozen r
unfolding tally_by
tally_by-at I P frozen r within = get_or-map-range_with_len (tally_then I P frozen) 0 (reservations_of I) r r [] within (omega arith)

counted : (I : Situation) (P : PlanRows) (B : Batch) (r : ℕ) (legs : List (Leg × Cabin)) → now_of I < now_of (with_batch I P B) → r < reservations_of I → tallied (with_batch I P B) r legs ≡ count_then I P (with_batch I P B).progress.frozen r legs
counted I P B r legs passes within =
    let at = moment_or_now (now_of I) B.at in
    elim (cases_lt (now_of I) at) [
      | inl later ↦
          rw (lt-ltb (now_of I) at later)
          (ap (λ (entries : List PassengersGone). count_gone entries legs) (tally_by-at I P (frozen_by I P at) r within) ∙ tally_then-count I P (frozen_by I P at) r legs)
      | inr waits ↦
          let same : now_of (with_batch I P B) ≡ now_of I = rw (le-ltb (now_of I) at waits) refl in
          absurd (omega (arith, passes, same))
    ]

pub tallies_passengers : (I : Situation) (P : PlanRows) (B : Batch) (r : ℕ) → TalliesPassengers I P B r
tallies_passengers I P B r = record { count = λ legs passes within. counted I P B r legs passes within }
