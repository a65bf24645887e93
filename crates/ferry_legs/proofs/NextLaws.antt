-- Which candidate is the next leg that is added.
use Rattle.std.proofs.Common.{◌≡◌, ℕ, ◌+◌, ◌<◌, ◌≤◌, Bool, true, false, ◌&&◌, ◌||◌, not, cond, ltb, List, [], ◌∷◌, ◌++◌, get_or, map, filter, refl, sym, ap, subst, ◌∙◌, arith, All}
use Rattle.std.specs.Prelude.{Option, Some, None, find, is_some, is_none}
use Rattle.std.specs.List.{filter_map, flat_map, cons_option}
use Rattle.std.specs.Option.{option_map}
use Rattle.std.proofs.lemmas.Bool.{and_parts, ltb-true}
use Rattle.std.proofs.lemmas.List.Elements.{All-map, All-filter, All-nil, All-cons}
use Rattle.desk_units.specs.declared.numbers.Minute.{Minute}
use Rattle.desk_data.specs.Situation.{Situation, planes_of, airports_of, plane_at}
use Rattle.desk_data.specs.PlanRows.{PlanRows}
use Rattle.desk_data.specs.Valid.{IsValid}
use Rattle.desk_rules.specs.Least.{airport}
use Rattle.desk_rules.specs.Numbers.{numbers}
use Rattle.desk_rules.proofs.FindLaws.{lists_none, first_of_lists}
use Rattle.added_legs.specs.declared.added.Added.{Added}
use Rattle.added_legs.specs.Added.{least_added}
use Rattle.added_legs.specs.Merged.{added_for, way_to}
use Rattle.added_legs.specs.Ferried.{ready, minute, moments, with_added, fits, may_go, added_leg, candidate, lowers, next_added}
use Rattle.added_legs.proofs.FerriedLaws.{found_passes}
use Rattle.ferry_legs.specs.Prices.{IsInTime}
use Rattle.ferry_legs.specs.Steps.{if_lowers, paying, paying_of, AreTaken, IsNew}

none_is : {X : Type 0} (o : Option X) → is_none o ≡ true → o ≡ None
none_is None h = refl
none_is (Some x) h = absurd cc

not_true : (b : Bool) → not b ≡ true → b ≡ false
not_true false h = refl
not_true true h = absurd cc

-- an aircraft that has no added leg
pub has_none : (I : Situation) (A : List Added) (taken : List Bool) (p : ℕ) → AreTaken I A taken → p < planes_of I → get_or taken p false ≡ false → added_for A p ≡ None
has_none I A taken p h lt free = none_is (added_for A p) (ap not (sym (h.each p lt) ∙ free))

pub neither : (b c : Bool) → (b || c) ≡ false → (b ≡ false) × (c ≡ false)
neither false false is = (refl, refl)
neither false true is = absurd cc
neither true c is = absurd cc

-- ---- lists of what there is

listed : {X : Type 0} → Option X → List X
listed None = []
listed (Some x) = x ∷ []

joined_one : {X : Type 0} (o : Option X) (xs ys : List X) → xs ≡ ys → cons_option o xs ≡ listed o ++ ys
unfolding listed
joined_one None xs ys is = is
joined_one (Some x) xs ys is = ap (λ zs. x ∷ zs) is

joined : {X : Type 0} (f : ℕ → Option X) (ns : List ℕ) → filter_map f ns ≡ flat_map (λ n. listed (f n)) ns
joined f [] = refl
joined f (n ∷ ns) = joined_one (f n) (filter_map f ns) (flat_map (λ n. listed (f n)) ns) (joined f ns)

find_listed : (I : Situation) (P : PlanRows) (A : List Added) (o : Option Added) → find (lowers I P A) (listed o) ≡ if_lowers I P A o
unfolding listed
find_listed I P A None = refl
find_listed I P A (Some a) = refl

find_one : (I : Situation) (P : PlanRows) (A : List Added) (p d : ℕ) → find (lowers I P A) (listed (candidate I P A p d)) ≡ paying I P A p d
unfolding paying
find_one I P A p d = find_listed I P A (candidate I P A p d)

-- ---- the first of an aircraft

pub none_of_plane : (I : Situation) (P : PlanRows) (A : List Added) (p : ℕ) → ((d : ℕ) → d < airports_of I → paying I P A p d ≡ None) → paying_of I P A p ≡ None
unfolding paying_of
none_of_plane I P A p none =
    ap (find (lowers I P A)) (joined (candidate I P A p) (numbers (airports_of I)))
    ∙ lists_none (lowers I P A) (λ d. listed (candidate I P A p d)) (airports_of I) (λ d lt. find_one I P A p d ∙ none d lt)

pub first_of_plane : (I : Situation) (P : PlanRows) (A : List Added) (p d : ℕ) (a : Added) → d < airports_of I → paying I P A p d ≡ Some a → ((e : ℕ) → e < d → paying I P A p e ≡ None) → paying_of I P A p ≡ Some a
unfolding paying_of
first_of_plane I P A p d a lt is before =
    ap (find (lowers I P A)) (joined (candidate I P A p) (numbers (airports_of I)))
    ∙ first_of_lists (lowers I P A) (λ e. listed (candidate I P A p e)) (airports_of I) d a lt (find_one I P A p d ∙ is) (λ e below. find_one I P A p e ∙ before e below)

-- there is none of an aircraft that may go nowhere
none_if : {X : Type 0} (b : Bool) (o : Option X) → b ≡ false → cond b o None ≡ None
none_if false o is = refl
none_if true o is = absurd cc

pub goes_not : (I : Situation) (P : PlanRows) (A : List Added) (p d : ℕ) → may_go I P A p d ≡ false → paying I P A p d ≡ None
unfolding paying
goes_not I P A p d is = ap (if_lowers I P A) (none_if (may_go I P A p d) (find (fits I P A) (map (added_leg p d) (moments I P p))) is)

no_end : (b c : Bool) → (b && (c && false)) ≡ false
no_end true true = refl
no_end true false = refl
no_end false c = refl

stays_if : (surface had way : Bool) → (surface || had) ≡ true → (not surface && (not had && way)) ≡ false
stays_if true had way is = refl
stays_if false true way is = refl
stays_if false false way is = absurd cc

-- surface transport, and an aircraft that has an added leg, may go nowhere
pub none_of_staying : (I : Situation) (P : PlanRows) (A : List Added) (taken : List Bool) (p : ℕ) → AreTaken I A taken → p < planes_of I → ((plane_at I p).surface || get_or taken p false) ≡ true → paying_of I P A p ≡ None
none_of_staying I P A taken p h lt is =
    let had : ((plane_at I p).surface || is_some (added_for A p)) ≡ true = ap (λ (b : Bool). (plane_at I p).surface || b) (sym (h.each p lt)) ∙ is in
    none_of_plane I P A p (λ d below. goes_not I P A p d (stays_if (plane_at I p).surface (is_some (added_for A p)) (is_some (way_to I P p (airport d))) had))

pub no_way : (I : Situation) (P : PlanRows) (A : List Added) (p d : ℕ) → is_some (way_to I P p (airport d)) ≡ false → paying I P A p d ≡ None
no_way I P A p d none =
    goes_not I P A p d (ap (λ (b : Bool). not (plane_at I p).surface && (is_none (added_for A p) && b)) none ∙ no_end (not (plane_at I p).surface) (is_none (added_for A p)))

-- ---- the first of all

pub none_next : (I : Situation) (P : PlanRows) (A : List Added) → ((p : ℕ) → p < planes_of I → paying_of I P A p ≡ None) → next_added I P A ≡ None
unfolding next_added paying_of
none_next I P A none = lists_none (lowers I P A) (λ p. filter_map (candidate I P A p) (numbers (airports_of I))) (planes_of I) none

pub first_next : (I : Situation) (P : PlanRows) (A : List Added) (p : ℕ) (a : Added) → p < planes_of I → paying_of I P A p ≡ Some a → ((q : ℕ) → q < p → paying_of I P A q ≡ None) → next_added I P A ≡ Some a
unfolding next_added paying_of
first_next I P A p a lt is before = first_of_lists (lowers I P A) (λ q. filter_map (candidate I P A q) (numbers (airports_of I))) (planes_of I) p a lt is before

-- ---- one candidate

pub pays : (I : Situation) (P : PlanRows) (A : List Added) (p d : ℕ) (a : Added) → candidate I P A p d ≡ Some a → lowers I P A a ≡ true → paying I P A p d ≡ Some a
unfolding paying
pays I P A p d a is lower = ap (if_lowers I P A) is ∙ ap (λ (b : Bool). cond b (Some a) None) lower

pub pays_not : (I : Situation) (P : PlanRows) (A : List Added) (p d : ℕ) (a : Added) → candidate I P A p d ≡ Some a → lowers I P A a ≡ false → paying I P A p d ≡ None
unfolding paying
pays_not I P A p d a is lower = ap (if_lowers I P A) is ∙ ap (λ (b : Bool). cond b (Some a) None) lower

pub is_nothing : (I : Situation) (P : PlanRows) (A : List Added) (p d : ℕ) → candidate I P A p d ≡ None → paying I P A p d ≡ None
unfolding paying
is_nothing I P A p d is = ap (if_lowers I P A) is

-- an added leg of aircraft p to airport d that departs once the aircraft is ready and before the window's end
record IsLegTo (I : Situation) (P : PlanRows) (p d : ℕ) (a : Added) : Type 0 where
  leg : a ≡ added_leg p d a.dep
  time : IsInTime I P p a.dep.0

early_one : (end : ℕ) (x : Minute) (xs : List Minute) (b : Bool) → ltb x.0 end ≡ b → All (λ at. at.0 < end) xs → All (λ at. at.0 < end) (cond b (x ∷ xs) xs)
early_one end x xs true is rest = All-cons (λ (at : Minute). at.0 < end) x xs (ltb-true x.0 end is) rest
early_one end x xs false is rest = rest

all_early : (end : ℕ) (xs : List Minute) → All (λ at. at.0 < end) (filter (λ at. ltb at.0 end) xs)
all_early end [] = All-nil (λ (at : Minute). at.0 < end)
all_early end (x ∷ xs) = early_one end x (filter (λ (at : Minute). ltb at.0 end) xs) (ltb x.0 end) refl (all_early end xs)

all_late : (from end : ℕ) (ks : List ℕ) → All (λ at. from ≤ at.0) (filter (λ at. ltb at.0 end) (map (λ k. minute (from + k)) ks))
all_late from end ks =
    All-filter (λ (at : Minute). ltb at.0 end) (λ (at : Minute). from ≤ at.0) (map (λ k. minute (from + k)) ks)
    (All-map (λ (at : Minute). from ≤ at.0) (λ k. minute (from + k)) ks (λ i k lt. (let le : from ≤ from + get_or ks i k = omega arith in le)))

all_legs : (I : Situation) (P : PlanRows) (p d : ℕ) (ks : List ℕ) → All (IsLegTo I P p d) (map (added_leg p d) (filter (λ at. ltb at.0 I.parts.to.0) (map (λ k. minute (ready I P p + k)) ks)))
all_legs I P p d ks =
    let ats : List Minute = filter (λ at. ltb at.0 I.parts.to.0) (map (λ k. minute (ready I P p + k)) ks) in
    let late = all_late (ready I P p) I.parts.to.0 ks in
    let early = all_early I.parts.to.0 (map (λ k. minute (ready I P p + k)) ks) in
    All-map (IsLegTo I P p d) (added_leg p d) ats
    (λ i at lt. record { leg = refl; time = record { after = late i at lt; before = early i at lt } })

pub goes : (I : Situation) (P : PlanRows) (A : List Added) (p d : ℕ) → (plane_at I p).surface ≡ false → added_for A p ≡ None → is_some (way_to I P p (airport d)) ≡ true → may_go I P A p d ≡ true
goes I P A p d air free way = rw (air, free, way) refl

found_if : (I : Situation) (P : PlanRows) (p d : ℕ) (b : Bool) (test : Added → Bool) (legs : List Added) (a : Added) → All (IsLegTo I P p d) legs → cond b (find test legs) None ≡ Some a → (test a ≡ true) × IsLegTo I P p d a
found_if I P p d true test legs a all is = found_passes (IsLegTo I P p d) test legs a all is
found_if I P p d false test legs a all is = absurd cc

leg_to : (I : Situation) (P : PlanRows) (A : List Added) (p d : ℕ) (a : Added) → candidate I P A p d ≡ Some a → (fits I P A a ≡ true) × IsLegTo I P p d a
leg_to I P A p d a is = found_if I P p d (may_go I P A p d) (fits I P A) (map (added_leg p d) (moments I P p)) a (all_legs I P p d (numbers 2881)) is

-- a leg that there can be
goes_parts : (I : Situation) (P : PlanRows) (A : List Added) (p d : ℕ) → may_go I P A p d ≡ true → (not (plane_at I p).surface ≡ true) × (is_none (added_for A p) ≡ true) × (is_some (way_to I P p (airport d)) ≡ true)
goes_parts I P A p d goes =
    let parts = and_parts (not (plane_at I p).surface) (is_none (added_for A p) && is_some (way_to I P p (airport d))) goes in
    let more = and_parts (is_none (added_for A p)) (is_some (way_to I P p (airport d))) parts.1 in
    (parts.0, more.0, more.1)

pub candidate_is_new : (I : Situation) (P : PlanRows) (A : List Added) (p d : ℕ) (a : Added) → IsValid I → p < planes_of I → d < airports_of I → may_go I P A p d ≡ true → candidate I P A p d ≡ Some a → IsNew I P A a
candidate_is_new I P A p d a valid plane dest goes is =
    let found = leg_to I P A p d a is in
    let to = found.1 in
    let parts = goes_parts I P A p d goes in
    let there : p ≡ a.plane.0 = ap (λ (b : Added). b.plane.0) (sym to.leg) in
    let where_to : d ≡ a.dest.0 = ap (λ (b : Added). b.dest.0) (sym to.leg) in
    record {
      added = record {
        aircraft = omega (arith, plane, there);
        air = subst (λ (q : ℕ). (plane_at I q).surface ≡ false) there (not_true (plane_at I p).surface parts.0);
        airport = omega (arith, dest, where_to);
        way = subst (λ (q : ℕ). is_some (way_to I P q a.dest) ≡ true) there (subst (λ (e : ℕ). is_some (way_to I P p (airport e)) ≡ true) where_to parts.2);
        departs = omega (arith, to.time.before, valid.parts.to);
      };
      free = subst (λ (q : ℕ). added_for A q ≡ None) there (none_is (added_for A p) parts.1);
      time = subst (λ (q : ℕ). IsInTime I P q a.dep.0) there to.time;
      sound = none_is (least_added I P (with_added A a)) found.0;
    }

-- ---- a candidate by when it departs

-- none lowers the cost
none_lower : (I : Situation) (P : PlanRows) (A : List Added) (p d : ℕ) (o : Option Added) → candidate I P A p d ≡ o → ((at : Minute) → IsInTime I P p at.0 → lowers I P A (added_leg p d at) ≡ false) → if_lowers I P A o ≡ None
none_lower I P A p d None is none = refl
none_lower I P A p d (Some a) is none =
    let to = (leg_to I P A p d a is).1 in
    let off : lowers I P A a ≡ false = ap (lowers I P A) to.leg ∙ none a.dep to.time in
    ap (λ (b : Bool). cond b (Some a) None) off

pub never_pays : (I : Situation) (P : PlanRows) (A : List Added) (p d : ℕ) → ((at : Minute) → IsInTime I P p at.0 → lowers I P A (added_leg p d at) ≡ false) → paying I P A p d ≡ None
unfolding paying
never_pays I P A p d none = none_lower I P A p d (candidate I P A p d) refl none

no_dep : (o : Option Added) → None ≡ option_map (λ a. a.dep) o → o ≡ None
no_dep None is = refl
no_dep (Some a) is = absurd cc

pub departs_never : (I : Situation) (P : PlanRows) (A : List Added) (p d : ℕ) → None ≡ option_map (λ a. a.dep) (candidate I P A p d) → paying I P A p d ≡ None
departs_never I P A p d is = is_nothing I P A p d (no_dep (candidate I P A p d) is)

its_dep : (o : Option Added) (at : Minute) → Some at ≡ option_map (λ a. a.dep) o → (a : Added) × (o ≡ Some a) × (a.dep ≡ at)
its_dep None at is = absurd cc
its_dep (Some a) at is = (a, refl, cc)

pub departs_at : (I : Situation) (P : PlanRows) (A : List Added) (p d : ℕ) (at : Minute) → Some at ≡ option_map (λ a. a.dep) (candidate I P A p d) → candidate I P A p d ≡ Some (added_leg p d at)
departs_at I P A p d at is =
    let found = its_dep (candidate I P A p d) at is in
    let to = (leg_to I P A p d found.0 found.1).1 in
    let same : found.0 ≡ added_leg p d at = to.leg ∙ ap (added_leg p d) found.2 in
    found.1 ∙ ap Some same
