-- What a batch freezes.
use Rattle.std.proofs.Common.{◌≡◌, ℕ, ◌<◌, ◌≤◌, inl, inr, Bool, true, false, ◌&&◌, ltb, get_or, refl, sym, ap, ◌∙◌, arith}
use Rattle.std.specs.Prelude.{if◌then◌else◌, Option, Some, None}
use Rattle.std.specs.Option.{option_or}
use Rattle.std.proofs.lemmas.Bool.{cases_lt, lt-ltb, le-ltb}
use Rattle.std.proofs.lemmas.List.FromFn.{get_or-map-range_with_len}
use Rattle.desk_units.specs.declared.numbers.Minute.{Minute}
use Rattle.day_orders.specs.declared.orders.Batch.{Batch}
use Rattle.desk_data.specs.declared.row.Row.{Row}
use Rattle.desk_data.specs.declared.row.Row.TheVariants.{Flown, Cancelled}
use Rattle.desk_data.specs.Leaving.{FreezesRows}
use Rattle.desk_data.specs.PlanRows.{PlanRows, row_at}
use Rattle.desk_data.specs.Progress.{frozen_by, leaving, moment_or_now, progress_at, tally_by}
use Rattle.desk_data.specs.Situation.{Progress, Situation, earliest, fixed, frozen_at, legs_of, now_of}

-- what is said of the one of two that a test chooses
frozen_if : (b : Bool) (p q : Progress) (x : ℕ) → get_or (if b then p else q).frozen x None ≡ (if b then get_or p.frozen x None else get_or q.frozen x None)
frozen_if true p q x = refl
frozen_if false p q x = refl

none_more : {X : Type 0} (o : Option X) → option_or o None ≡ o
none_more None = refl
none_more (Some x) = refl

leaving_if : {X : Type 0} (b : Bool) (old new : Option X) → (if b then option_or old new else old) ≡ option_or old (if b then new else None)
leaving_if true old new = refl
leaving_if false old new = sym (none_more old)

some_if : {X : Type 0} (a b : Bool) (x : X) → (if a then (if b then Some x else None) else None) ≡ (if a && b then Some x else None)
some_if true b x = refl
some_if false b x = refl

-- the row with which a leg is frozen at a moment
frozen_by-at : (I : Situation) (P : PlanRows) (at x : ℕ) → x < legs_of I → get_or (frozen_by I P at) x None ≡ option_or (frozen_at I x) (leaving I at x (row_at P x))
unfolding frozen_by
frozen_by-at I P at x within = get_or-map-range_with_len (λ k. option_or (frozen_at I k) (leaving I at k (row_at P k))) 0 (legs_of I) x x None within (omega arith)

-- and in a day that has gone on to it, or that already had
pub frozen_then : (I : Situation) (P : PlanRows) (at x : ℕ) → x < legs_of I → get_or (progress_at I P at).frozen x None ≡ option_or (frozen_at I x) (if ltb (now_of I) at then leaving I at x (row_at P x) else None)
frozen_then I P at x within =
    frozen_if (ltb (now_of I) at) (record { now = record { 0 = at }; frozen = frozen_by I P at; tally = tally_by I P (frozen_by I P at) }) I.progress x
    ∙ ap (λ (o : Option Row). if ltb (now_of I) at then o else frozen_at I x) (frozen_by-at I P at x within)
    ∙ leaving_if (ltb (now_of I) at) (frozen_at I x) (leaving I at x (row_at P x))

moment-le : (now : ℕ) (at : Option Minute) → now ≤ moment_or_now now at
moment-le now None = omega arith
moment-le now (Some at) = omega arith

now_if : (now at : ℕ) (p q : Progress) → now ≤ at → p.now.0 ≡ at → q.now.0 ≡ now → (if ltb now at then p else q).now.0 ≡ at
now_if now at p q later new old =
    elim (cases_lt now at) [
      | inl before ↦ rw (lt-ltb now at before) new
      | inr after ↦ rw (le-ltb now at after) (omega (arith, old, later, after))
    ]

waits_if : (now at : ℕ) (p q : Progress) → at ≡ now → (if ltb now at then p else q) ≡ q
waits_if now at p q same = rw (le-ltb now at (omega (arith, same))) refl

pub freezes_rows : (I : Situation) (P : PlanRows) (B : Batch) → FreezesRows I P B
freezes_rows I P B =
    let at = moment_or_now (now_of I) B.at in
    record {
      stays = λ x row within is. frozen_then I P at x within ∙ rw is refl;
      flown = λ x plane dep within none is. frozen_then I P at x within ∙ rw (none, is) (some_if (ltb (now_of I) at) (ltb dep.0 at) (Flown plane dep));
      cancelled = λ x within none is. frozen_then I P at x within ∙ rw (none, is) (some_if (ltb (now_of I) at) (fixed I x && ltb (earliest I x) at) Cancelled);
      goes_on = now_if (now_of I) at _ I.progress (moment-le (now_of I) B.at) refl refl;
      waits = λ same. waits_if (now_of I) at _ I.progress same;
    }
