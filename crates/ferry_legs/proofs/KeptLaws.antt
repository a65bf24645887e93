-- What is kept, as one more leg is added.
use Rattle.std.proofs.Common.{◌≡◌, ◌∷◌, ◌++◌, List, [], ℕ, ◌<◌, true, false, get_or, set, refl, sym, ap, subst, ◌∙◌, arith}
use Rattle.std.specs.Prelude.{Option, Some, None, is_some}
use Rattle.std.proofs.lemmas.List.{map-append}
use Rattle.std.specs.Option.{option_map}
use Rattle.desk_units.specs.declared.numbers.Minute.{Minute}
use Rattle.desk_data.specs.Situation.{Situation, planes_of, plane_at}
use Rattle.desk_data.specs.PlanRows.{PlanRows}
use Rattle.added_legs.specs.declared.added.Added.{Added}
use Rattle.desk_rules.specs.Least.{airport}
use Rattle.added_legs.specs.Merged.{way_to}
use Rattle.added_legs.specs.Ferried.{with_added, may_go, added_leg, candidate}
use Rattle.ferry_legs.specs.declared.ferried.Ferried.{Ferried}
use Rattle.ferry_legs.specs.declared.kept.Kept.{Kept}
use Rattle.ferry_legs.specs.Ferried.{added_of}
use Rattle.ferry_legs.specs.Steps.{paying, IsKeptOf, IsNew, IsMarked}
use Rattle.ferry_legs.proofs.NextLaws.{has_none, goes, departs_never, departs_at}

-- the list of which it is kept is the one that it holds
pub kept_itself : (I : Situation) (P : PlanRows) (A : List Added) (kept : Kept) → IsKeptOf I P A kept → IsKeptOf I P kept.times.added kept
kept_itself I P A kept h = subst (λ (B : List Added). IsKeptOf I P B kept) (sym h.times.added) h

pub new_itself : (I : Situation) (P : PlanRows) (A : List Added) (kept : Kept) (a : Added) → IsKeptOf I P A kept → IsNew I P A a → IsNew I P kept.times.added a
new_itself I P A kept a h new = subst (λ (B : List Added). IsNew I P B a) (sym h.times.added) new

pub new_of : (I : Situation) (P : PlanRows) (A : List Added) (kept : Kept) (a : Added) → IsKeptOf I P A kept → IsNew I P kept.times.added a → IsNew I P A a
new_of I P A kept a h new = subst (λ (B : List Added). IsNew I P B a) h.times.added new

pub marked : (I : Situation) (P : PlanRows) (A : List Added) (a : Added) (kept : Kept) → IsKeptOf I P A kept → IsNew I P A a → IsMarked kept.taken.items (set kept.taken.items a.plane.0 true) a.plane.0
marked I P A a kept h new = record {
  within = omega (arith, h.taken.planes, new.added.aircraft);
  free = h.taken.each a.plane.0 new.added.aircraft ∙ ap (λ (o : Option Added). is_some o) new.free;
  marked = refl;
}

pub longer_list : (list : List Ferried) (f : Ferried) → with_added (added_of list) f.leg ≡ added_of (list ++ f ∷ [])
longer_list list f = sym (map-append (λ (g : Ferried). g.leg) list (f ∷ []))

-- ---- a candidate, by what is kept

pub goes_there : (I : Situation) (P : PlanRows) (A : List Added) (kept : Kept) (p d : ℕ) → IsKeptOf I P A kept → p < planes_of I → (plane_at I p).surface ≡ false → get_or kept.taken.items p false ≡ false → is_some (way_to I P p (airport d)) ≡ true → may_go I P A p d ≡ true
goes_there I P A kept p d h lt air free way = goes I P A p d air (has_none I A kept.taken.items p h.taken lt free) way

pub departs_then : (I : Situation) (P : PlanRows) (A : List Added) (kept : Kept) (p d : ℕ) (at : Minute) → IsKeptOf I P A kept → Some at ≡ option_map (λ a. a.dep) (candidate I P kept.times.added p d) → candidate I P A p d ≡ Some (added_leg p d at)
departs_then I P A kept p d at h is =
    departs_at I P A p d at (subst (λ (B : List Added). Some at ≡ option_map (λ a. a.dep) (candidate I P B p d)) h.times.added is)

pub departs_not : (I : Situation) (P : PlanRows) (A : List Added) (kept : Kept) (p d : ℕ) → IsKeptOf I P A kept → None ≡ option_map (λ a. a.dep) (candidate I P kept.times.added p d) → paying I P A p d ≡ None
departs_not I P A kept p d h is =
    departs_never I P A p d (subst (λ (B : List Added). None ≡ option_map (λ a. a.dep) (candidate I P B p d)) h.times.added is)
