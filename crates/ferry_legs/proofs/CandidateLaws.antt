-- The first moment at which a leg can depart is the departure of the candidate.
use Rattle.std.proofs.Common.{◌≡◌, ℕ, ◌+◌, ◌<◌, ◌≤◌, Bool, true, false, not, ◌&&◌, cond, leb, List, map, refl, sym, ap, subst, ◌∙◌, arith, min}
use Rattle.std.specs.Prelude.{Option, Some, None, find, is_none, is_some, IfSome}
use Rattle.std.specs.Option.{option_map}
use Rattle.std.proofs.lemmas.Bool.{and_left}
use Rattle.desk_units.specs.declared.numbers.Leg.{Leg}
use Rattle.desk_units.specs.declared.numbers.Minute.{Minute}
use Rattle.desk_data.specs.Situation.{Situation, legs_of, planes_of, airports_of, plane_at}
use Rattle.desk_data.specs.PlanRows.{PlanRows}
use Rattle.desk_data.specs.Valid.{IsValid, IsPlanFor}
use Rattle.desk_rules.specs.Least.{airport}
use Rattle.plan_reads.specs.Last.{AreLasts}
use Rattle.added_legs.specs.declared.added.Added.{Added}
use Rattle.added_legs.specs.Added.{least_added}
use Rattle.added_legs.specs.Merged.{IsAdded, AreAdded, added_for, way_to}
use Rattle.added_legs.specs.Ferried.{with_added, fits, ready, minute, added_leg, may_go, moments, candidate}
use Rattle.plan_checks.specs.Upkeep.{start_of}
use Rattle.plan_checks.specs.declared.upkeep.Upkeep.{Upkeep}
use Rattle.ferry_legs.specs.declared.way.Way.{Way}
use Rattle.plan_checks.specs.Upkeep.{AreUpkeeps}
use Rattle.ferry_legs.specs.Departs.{way_of, can_depart, IsFirst, moments_end}
use Rattle.ferry_legs.proofs.FirstLaws.{said_found}
use Rattle.ferry_legs.proofs.FitLaws.{fits_is}

dep_back : (p d : ℕ) (found : Option Minute) → option_map (λ (a : Added). a.dep) (option_map (added_leg p d) found) ≡ found
dep_back p d None = refl
dep_back p d (Some at) = refl

-- one test for another that agrees with it on these moments
other_first : (f g : ℕ → Bool) (low high : ℕ) (found : Option Minute) → ((s : ℕ) → low ≤ s → s < high → f s ≡ g s) → IsFirst g low high found → IsFirst f low high found
other_first f g low high None same h = λ s from before. same s from before ∙ h s from before
other_first f g low high (Some at) same h =
    let within = h.within in
    record {
      from = h.from;
      within = within;
      holds = same at.0 h.from within ∙ h.holds;
      first = λ s from before. same s from (omega (arith, before, within)) ∙ h.first s from before;
    }

none_is : {X : Type 0} (o : Option X) → is_none o ≡ true → o ≡ None
none_is None h = refl
none_is (Some x) h = absurd cc

module _ (I : Situation) (P : PlanRows) (valid : IsValid I) (plan : IsPlanFor I P) (A : List Added) (added : AreAdded I P A) (sound : least_added I P A ≡ None) (lasts starts : List (Option Leg)) (upkeeps : List Upkeep) (are : AreLasts I P (λ p. 52500000) (legs_of I) lasts) (begin : AreLasts I P (λ p. start_of (plane_at I p).maint) (legs_of I) starts) (ups : AreUpkeeps I P (legs_of I) upkeeps) (p d : ℕ) (lt : p < planes_of I) (to : d < airports_of I) (air : (plane_at I p).surface ≡ false) (alone : added_for A p ≡ None) (way : is_some (way_to I P p (airport d)) ≡ true) where
  is_added : (s : ℕ) → s < 52596000 → IsAdded I P (added_leg p d (minute s))
  is_added s early = record { aircraft = lt; air = air; airport = to; way = way; departs = early }

  fits_at : (s : ℕ) → ready I P p ≤ s → s < I.parts.to.0 → fits I P A (added_leg p d (minute s)) ≡ (leb (way_of I P p (airport d)).minutes (plane_at I p).range && can_depart I P A (way_of I P p (airport d)) s)
  fits_at s from before =
      let end = valid.parts.to in
      fits_is I P valid plan A added (added_leg p d (minute s)) (is_added s (omega (arith, before, end))) alone lasts starts upkeeps are begin ups sound from

  may : may_go I P A p d ≡ true
  may =
      ap (λ (b : Bool). not b && (is_none (added_for A p) && is_some (way_to I P p (airport d)))) air
      ∙ ap (λ (o : Option Added). is_none o && is_some (way_to I P p (airport d))) alone
      ∙ way

  candidate_is : (found : Option Minute) → IsFirst (λ s. fits I P A (added_leg p d (minute s))) (ready I P p) (moments_end I P p) found → candidate I P A p d ≡ option_map (added_leg p d) found
  candidate_is found first =
      ap (λ (b : Bool). cond b (find (fits I P A) (map (added_leg p d) (moments I P p))) None) may
      ∙ said_found (fits I P A) (added_leg p d) (ready I P p) 2881 I.parts.to.0 found first

  as_fits : (found : Option Minute) → leb (way_of I P p (airport d)).minutes (plane_at I p).range ≡ true → IsFirst (can_depart I P A (way_of I P p (airport d))) (ready I P p) (moments_end I P p) found → IsFirst (λ s. fits I P A (added_leg p d (minute s))) (ready I P p) (moments_end I P p) found
  as_fits found short first =
      other_first (λ s. fits I P A (added_leg p d (minute s))) (can_depart I P A (way_of I P p (airport d))) (ready I P p) (moments_end I P p) found (λ s from before.
      fits_at s from (omega (arith, before))
      ∙ ap (λ (b : Bool). b && can_depart I P A (way_of I P p (airport d)) s) short) first

  -- as the search says it
  pub searched : (found : Option Minute) (B : List Added) (w : Way) (low : ℕ) → B ≡ A → w ≡ way_of I P p (airport d) → low ≡ ready I P p → IsFirst (can_depart I P B w) low (min (low + 2881) I.parts.to.0) found → IsFirst (can_depart I P A (way_of I P p (airport d))) (ready I P p) (moments_end I P p) found
  searched found B w low same ways from first =
      subst (λ (n : ℕ). IsFirst (can_depart I P A (way_of I P p (airport d))) n (min (n + 2881) I.parts.to.0) found) from
      (subst (λ (v : Way). IsFirst (can_depart I P A v) low (min (low + 2881) I.parts.to.0) found) ways
      (subst (λ (C : List Added). IsFirst (can_depart I P C w) low (min (low + 2881) I.parts.to.0) found) same first))

  -- within the range of the aircraft
  pub found_is : (found : Option Minute) → leb (way_of I P p (airport d)).minutes (plane_at I p).range ≡ true → IsFirst (can_depart I P A (way_of I P p (airport d))) (ready I P p) (moments_end I P p) found → found ≡ option_map (λ (a : Added). a.dep) (candidate I P A p d)
  found_is found short first =
      sym (ap (option_map (λ (a : Added). a.dep)) (candidate_is found (as_fits found short first)) ∙ dep_back p d found)

  -- and beyond it
  pub none_is_found : leb (way_of I P p (airport d)).minutes (plane_at I p).range ≡ false → None ≡ option_map (λ (a : Added). a.dep) (candidate I P A p d)
  none_is_found far =
      sym (ap (option_map (λ (a : Added). a.dep)) (candidate_is None (λ s from before.
      fits_at s from (omega (arith, before))
      ∙ and_left (leb (way_of I P p (airport d)).minutes (plane_at I p).range) (can_depart I P A (way_of I P p (airport d)) s) far)))

  fits_then : (found : Option Minute) → IsFirst (λ s. fits I P A (added_leg p d (minute s))) (ready I P p) (moments_end I P p) found → IfSome found (λ at. least_added I P (with_added A (added_leg p d at)) ≡ None)
  fits_then None first = tt
  fits_then (Some at) first = none_is (least_added I P (with_added A (added_leg p d at))) first.holds

  pub found_sound : (found : Option Minute) → leb (way_of I P p (airport d)).minutes (plane_at I p).range ≡ true → IsFirst (can_depart I P A (way_of I P p (airport d))) (ready I P p) (moments_end I P p) found → IfSome found (λ at. least_added I P (with_added A (added_leg p d at)) ≡ None)
  found_sound found short first = fits_then found (as_fits found short first)

  pub found_early : (found : Option Minute) → IsFirst (can_depart I P A (way_of I P p (airport d))) (ready I P p) (moments_end I P p) found → IfSome found (λ at. at.0 < 52596000)
  found_early None first = tt
  found_early (Some at) first = (let within = first.within in let end = valid.parts.to in omega (arith, within, end))
