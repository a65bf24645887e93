-- What holds of the orders where none is refused.
use Rattle.std.proofs.Common.{◌≡◌, ℕ, ◌+◌, ◌<◌, ◌≤◌, Bool, true, false, ◌&&◌, eqb, leb, Option, Some, None, sym, subst, arith, inl, inr}
use Rattle.std.specs.Prelude.{unwrap_or}
use Rattle.std.specs.Option.{ForSome}
use Rattle.std.proofs.lemmas.Bool.{and_parts, or_cases, not-false, eqb-true, leb-true, ltb-false, eq-eqb, both_ways}
use Rattle.desk_units.specs.declared.numbers.Minute.{Minute}
use Rattle.file_rows.specs.declared.disruptions.AltRow.{AltRow}
use Rattle.file_rows.specs.declared.disruptions.AltRow.TheVariants as alt
use Rattle.file_rows.specs.Limits.{most_batches, latest_moment}
use Rattle.file_rows.specs.Moments.{moment_in}
use Rattle.build_tables.specs.declared.files.Files.{Files}
use Rattle.build_tables.specs.Fitting.{IsAboutKnown}
use Rattle.build_refusals.specs.Orders.{is_about_known, order_cause}
use Rattle.build_refusals.specs.Feed.{is_in_turn, is_begun, moment_cause, told_cause, fed_cause}
use Rattle.build_refusals.proofs.NoneLemmas.{neither, passed}

about_known : (x : Files) (row : AltRow) → is_about_known x row ≡ true → IsAboutKnown x row
about_known x (alt.Flight line flight day delay) known = known
about_known x (alt.Aircraft line aircraft from to) known = known
about_known x (alt.Field line airport from to deps arrs) known = known
about_known x (alt.Nothing line) known = tt
about_known x (alt.At line at) known = tt

-- an order that passes
pub order_passes : (x : Files) (full : Bool) (row : AltRow) → order_cause x full row ≡ None → IsAboutKnown x row
unfolding order_cause
order_passes x full row e =
    let limit = passed _ _ _ e in
    let known = passed _ _ _ limit.1 in
    about_known x row (not-false (is_about_known x row) known.0)

-- a moment that passes: no row before it is of its batch, and it lies between that of the batch before and the latest one
pub record MomentPasses (before : Option ℕ) (earlier : Minute) (number : ℕ) (at : Minute) : Type 0 where
  pub new : is_begun before number ≡ false
  pub most : at.0 ≤ latest_moment
  pub least : earlier.0 ≤ at.0

moment_passes : (before : Option ℕ) (earlier : Minute) (number : ℕ) (at : Minute) → moment_cause before earlier number at ≡ None → MomentPasses before earlier number at
unfolding moment_cause
moment_passes before earlier number at e =
    let new = passed _ _ _ e in
    let most = passed _ _ _ new.1 in
    let least = passed _ _ _ most.1 in
    record { new = new.0; most = ltb-false latest_moment at.0 most.0; least = ltb-false at.0 earlier.0 least.0 }

told_passes : (before : Option ℕ) (earlier : Minute) (number : ℕ) (row : AltRow) → told_cause before earlier (number, row) ≡ None → ForSome (moment_in row) (MomentPasses before earlier number)
told_passes before earlier number (alt.At line at) e told is =
    let same : at ≡ told = cc in
    subst (MomentPasses before earlier number) same (moment_passes before earlier number at e)
told_passes before earlier number (alt.Flight line flight day delay) e told is = absurd cc
told_passes before earlier number (alt.Aircraft line aircraft from to) e told is = absurd cc
told_passes before earlier number (alt.Field line airport from to deps arrs) e told is = absurd cc
told_passes before earlier number (alt.Nothing line) e told is = absurd cc

-- a row of the feed that passes
pub record FedPasses (x : Files) (before : Option ℕ) (earlier : Minute) (fed : ℕ × AltRow) : Type 0 where
  pub turn : is_in_turn before fed.0 ≡ true
  pub few : fed.0 ≤ most_batches
  pub told : ForSome (moment_in fed.1) (MomentPasses before earlier fed.0)
  pub known : IsAboutKnown x fed.1

pub fed_passes : (x : Files) (before : Option ℕ) (earlier : Minute) (full : Bool) (fed : ℕ × AltRow) → fed_cause x before earlier full fed ≡ None → FedPasses x before earlier fed
unfolding fed_cause
fed_passes x before earlier full fed e =
    let batch = passed _ _ _ e in
    let good = and_parts (is_in_turn before fed.0) (leb fed.0 most_batches) (not-false (is_in_turn before fed.0 && leb fed.0 most_batches) batch.0) in
    let both = neither (told_cause before earlier fed) (order_cause x full fed.1) batch.1 in
    record {
      turn = good.0;
      few = leb-true fed.0 most_batches good.1;
      told = told_passes before earlier fed.0 fed.1 both.0;
      known = order_passes x full fed.1 both.1;
    }

-- a batch that comes in turn is the last one or the next one
pub in_turn : (before : Option ℕ) (number : ℕ) → is_in_turn before number ≡ true → (unwrap_or before 0 ≤ number) × (number ≤ unwrap_or before 0 + 1)
in_turn None number e = let first : number ≡ 1 = eqb-true number 1 e in (omega (arith, first), omega (arith, first))
in_turn (Some before) number e = elim (or_cases (eqb number before) (eqb number (before + 1)) e) [
  | inl same ↦ (let is : number ≡ before = eqb-true number before same in (omega (arith, is), omega (arith, is)))
  | inr next ↦ (let is : number ≡ before + 1 = eqb-true number (before + 1) next in (omega (arith, is), omega (arith, is)))
]

-- a batch that comes in turn, and of which no row stood before, is the next one
pub new_batch : (before : Option ℕ) (number : ℕ) → is_in_turn before number ≡ true → is_begun before number ≡ false → unwrap_or before 0 < number
new_batch None number e new = let first : number ≡ 1 = eqb-true number 1 e in omega (arith, first)
new_batch (Some before) number e new = elim (or_cases (eqb number before) (eqb number (before + 1)) e) [
  | inl same ↦ absurd (both_ways (eqb before number) new (eq-eqb before number (sym (eqb-true number before same))))
  | inr next ↦ (let is : number ≡ before + 1 = eqb-true number (before + 1) next in omega (arith, is))
]
