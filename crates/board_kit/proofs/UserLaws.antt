-- The reservations that are kept for a leg, as one comes or goes.
use Rattle.std.proofs.Common.{◌≡◌, ◌≢◌, ℕ, ◌+◌, ◌<◌, ◌≤◌, ◌⊎◌, inl, inr, Bool, true, false, not, ◌&&◌, ◌||◌, eqb, ltb, List, [], length, get_or, set, take, refl, sym, ap, subst, ◌∙◌, arith}
use Rattle.std.specs.Prelude.{IsTrue, ◌↔◌, map, filter, if◌then◌else◌, replicate}
use Rattle.std.specs.List.{Contains, list_any, AllPairs, All}
use Rattle.std.specs.Ordering.{nat_cmp}
use Rattle.std.specs.declared.cmp.Ordering.TheVariants.{Less, Equal}
use Rattle.std.proofs.Math.Path.{fun_ext}
use Rattle.std.proofs.lemmas.Bool.{cases_Bool, cond-true, cond-false}
use Rattle.std.proofs.lemmas.Bool.Decides.{nat_tests}
use Rattle.std.proofs.Math.Seq.{map-set_same}
use Rattle.std.proofs.lemmas.List.Elements.{All-contains, All-filter, filter_passes}
use Rattle.std.proofs.lemmas.List.Kept.{AllPairs-filter}
use Rattle.std.proofs.lemmas.List.{get_or-set_same, get_or-set_other, get_or-map, get_or_default, get_or_past, get_or-replicate, length-map, length-replicate, map-set}
use Rattle.std.proofs.lemmas.List.Folds.{list_any_at, list_any_more}
use Rattle.std.proofs.lemmas.Map.Views.{Contains-from_any}
use Rattle.desk_units.specs.declared.numbers.Res.{Res}
use Rattle.desk_units.specs.declared.numbers.Leg.{Leg}
use Rattle.desk_units.specs.declared.numbers.Cabin.{Cabin}
use Rattle.desk_units.specs.contracts.numbers.ResOrd.TheImpl as order
use Rattle.desk_data.specs.declared.row.Group.{Group}
use Rattle.desk_data.specs.Booked.{booked_path}
use Rattle.desk_data.specs.Situation.{Situation}
use Rattle.desk_data.specs.PlanRows.{PlanRows, groups_at}
use Rattle.desk_rules.specs.Numbers.{numbers}
use Rattle.desk_rules.proofs.HourLaws.{length-numbers}
use Rattle.desk_model.proofs.GroupPlans.{numbers-at}
use Rattle.desk_model.proofs.RotationOrder.{Contains-filter}
use Rattle.kept_set.proofs.ListLaws.{IsStrict, same_ordered}
use Rattle.kept_set.specs.Kept.{OrderedItems, AreSet, AreRising, IsExact}
use Rattle.plan_reads.proofs.OrderLaws.{not_both, same_tests}
use Rattle.board_kit.specs.Users.{HasUsers, has_leg, has_user, is_booked_on, users_at, uses, with_user, without_user}

-- ---- numbers

one_or_other : (q p : ℕ) → (q ≡ p) ⊎ (q ≢ p)
one_or_other q p = grind arith

same_number : (p : ℕ) → eqb p p ≡ true
same_number p = grind (arith, nat_tests)

other_number : (q p : ℕ) → q ≢ p → eqb q p ≡ false
other_number q p h = grind (arith, nat_tests)

pub one_number : (q p : ℕ) → eqb q p ≡ true → q ≡ p
one_number q p h = grind (arith, nat_tests)

-- ---- reservations

abbrev res : ℕ → Res
res r = record { 0 = r }

-- whether a reservation is the one of a number
abbrev is_res : Res → Res → Bool
is_res a b = eqb b.0 a.0

equal_numbers : (a b : ℕ) → nat_cmp a b ≡ Equal → a ≡ b
equal_numbers a b h = grind (arith, nat_tests)

less_numbers : (a b : ℕ) → nat_cmp a b ≡ Less → a < b
less_numbers a b h = grind (arith, nat_tests)

pub res_exact : IsExact order.cmp-value.it
res_exact a b e = ap (λ (n : ℕ). let r : Res = record { 0 = n } in r) (equal_numbers a.0 b.0 e)

pub ascending : (xs : List Res) → AreRising order.cmp-value.it xs → AllPairs (λ a b. a.0 < b.0) xs
ascending xs rising i j d lt within = less_numbers (get_or xs i d).0 (get_or xs j d).0 (rising i j d lt within)

is_one : (a b : Res) → is_res a b ≡ true → a ≡ b
is_one a b h = ap (λ (n : ℕ). let r : Res = record { 0 = n } in r) (sym (one_number b.0 a.0 h))

abbrev pub among : List Res → ℕ → Bool
among xs r = list_any (λ res. eqb res.0 r) xs

pub among-from : (xs : List Res) (x : Res) → Contains xs x → among xs x.0 ≡ true
among-from xs x (k, lt, is) = list_any_at (is_res x) xs k x lt (ap (is_res x) is ∙ same_number x.0)

pub among-holds : (xs : List Res) (x : Res) → among xs x.0 ≡ true → Contains xs x
among-holds xs x some = Contains-from_any {eq = is_res} is_one x xs some

-- what a look-up reports
pub reported_among : (xs : List Res) (x : Res) (given : Bool) → IsTrue given ↔ Contains xs x → among xs x.0 ≡ given
reported_among xs x given is = same_tests (among xs x.0) given (λ some. is.1 (among-holds xs x some)) (λ so. among-from xs x (is.0 so))

pub among_set : (old new : List Res) (item : Res) (b : Bool) → AreSet old new item b → (r : ℕ) → among new r ≡ (if eqb r item.0 then b else among old r)
among_set old new item b set r = elim (cases_Bool (eqb r item.0)) [
  | inl here ↦
      let is : res r ≡ item = is_one (res r) item (grind (arith, nat_tests)) in
      same_tests (among new r) b
      (λ some. set.here.1 (subst (Contains new) is (among-holds new (res r) some)))
      (λ so. among-from new (res r) (subst (Contains new) (sym is) (set.here.0 so)))
      ∙ sym (cond-true (eqb r item.0) b (among old r) here)
  | inr other ↦
      let apart : res r ≢ item = λ e. not_both (eqb r item.0) (ap (λ (x : Res). eqb x.0 item.0) e ∙ same_number item.0) other in
      same_tests (among new r) (among old r)
      (λ some. among-from old (res r) ((set.others (res r) apart).0 (among-holds new (res r) some)))
      (λ some. among-from new (res r) ((set.others (res r) apart).1 (among-holds old (res r) some)))
      ∙ sym (cond-false (eqb r item.0) b (among old r) other)
]

-- ---- one user more, and one less

or_this : (a b : Bool) → (if b then true else a) ≡ (a || b)
or_this true true = refl
or_this true false = refl
or_this false true = refl
or_this false false = refl

and_this : (a b : Bool) → (if b then false else a) ≡ (a && not b)
and_this true true = refl
and_this true false = refl
and_this false true = refl
and_this false false = refl

or_none : (a b c : Bool) → b ≡ false → a ≡ (a || (b && c))
or_none true b c e = refl
or_none false b c e = rw e refl

and_none : (a b c : Bool) → b ≡ false → a ≡ (a && not (b && c))
and_none true b c e = rw e refl
and_none false b c e = refl

here_both : (a b c : Bool) → b ≡ true → (b && c) ≡ c
here_both a b c e = rw e refl

with_one : (legs : List (List Res)) (x : ℕ) (new : List Res) (item : Res) → x < length legs → AreSet (users_at legs x) new item true → (y s : ℕ) → has_user (set legs x new) y s ≡ with_user x item.0 (has_user legs) y s
with_one legs x new item within is y s = elim (one_or_other y x) [
  | inl here ↦ subst (λ (k : ℕ). has_user (set legs x new) k s ≡ with_user x item.0 (has_user legs) k s) (sym here)
      (ap (λ (xs : List Res). among xs s) (get_or-set_same legs x new [] within)
      ∙ among_set (users_at legs x) new item true is s
      ∙ or_this (has_user legs x s) (eqb s item.0)
      ∙ ap (λ (b : Bool). has_user legs x s || (b && eqb s item.0)) (sym (same_number x)))
  | inr apart ↦ ap (λ (xs : List Res). among xs s) (get_or-set_other legs x y new [] apart)
      ∙ or_none (has_user legs y s) (eqb y x) (eqb s item.0) (other_number y x apart)
]

pub user_more : (legs : List (List Res)) (x : ℕ) (new : List Res) (item : Res) → x < length legs → AreSet (users_at legs x) new item true → has_user (set legs x new) ≡ with_user x item.0 (has_user legs)
user_more legs x new item within is = fun_ext (λ y. fun_ext (with_one legs x new item within is y))

without_one : (legs : List (List Res)) (x : ℕ) (new : List Res) (item : Res) → x < length legs → AreSet (users_at legs x) new item false → (y s : ℕ) → has_user (set legs x new) y s ≡ without_user x item.0 (has_user legs) y s
without_one legs x new item within is y s = elim (one_or_other y x) [
  | inl here ↦ subst (λ (k : ℕ). has_user (set legs x new) k s ≡ without_user x item.0 (has_user legs) k s) (sym here)
      (ap (λ (xs : List Res). among xs s) (get_or-set_same legs x new [] within)
      ∙ among_set (users_at legs x) new item false is s
      ∙ and_this (has_user legs x s) (eqb s item.0)
      ∙ ap (λ (b : Bool). has_user legs x s && not (b && eqb s item.0)) (sym (same_number x)))
  | inr apart ↦ ap (λ (xs : List Res). among xs s) (get_or-set_other legs x y new [] apart)
      ∙ and_none (has_user legs y s) (eqb y x) (eqb s item.0) (other_number y x apart)
]

pub user_less : (legs : List (List Res)) (x : ℕ) (new : List Res) (item : Res) → x < length legs → AreSet (users_at legs x) new item false → has_user (set legs x new) ≡ without_user x item.0 (has_user legs)
user_less legs x new item within is = fun_ext (λ y. fun_ext (without_one legs x new item within is y))

-- who is kept already is none more
known : (k a b : Bool) → (a ≡ true → b ≡ true → k ≡ true) → k ≡ (k || (a && b))
known true a b h = refl
known false true true h = h refl refl
known false true false h = refl
known false false b h = refl

pub user_known : (kept : ℕ → ℕ → Bool) (x r : ℕ) → kept x r ≡ true → kept ≡ with_user x r kept
user_known kept x r is = fun_ext (λ y. fun_ext (λ s.
    known (kept y s) (eqb y x) (eqb s r) (λ here there. ap (λ (n : ℕ). kept n s) (one_number y x here) ∙ ap (kept x) (one_number s r there) ∙ is)))

-- ---- the users of a path, of groups, and of a plan

or_more : (k e a b : Bool) → ((k || (e && a)) || (b && e)) ≡ (k || (e && (a || b)))
or_more true e a b = refl
or_more false true true true = refl
or_more false true true false = refl
or_more false true false true = refl
or_more false true false false = refl
or_more false false a true = refl
or_more false false a false = refl

turned : (x y : ℕ) → eqb x y ≡ eqb y x
turned x y = grind (arith, nat_tests)

-- one more leg of a path
pub path_more : (now old : ℕ → ℕ → Bool) (path : List (Leg × Cabin)) (k r : ℕ) (d : Leg × Cabin) → k < length path → ((x s : ℕ) → now x s ≡ (old x s || (eqb s r && list_any (λ pair. eqb pair.0.0 x) (take k path)))) → (x s : ℕ) → with_user (get_or path k d).0.0 r now x s ≡ (old x s || (eqb s r && list_any (λ pair. eqb pair.0.0 x) (take (k + 1) path)))
path_more now old path k r d lt so x s =
    let leg = (get_or path k d).0.0 in
    ap (λ (b : Bool). b || (eqb x leg && eqb s r)) (so x s)
    ∙ ap (λ (b : Bool). (old x s || (eqb s r && list_any (λ pair. eqb pair.0.0 x) (take k path))) || (b && eqb s r)) (turned x leg)
    ∙ or_more (old x s) (eqb s r) (list_any (λ pair. eqb pair.0.0 x) (take k path)) (eqb leg x)
    ∙ ap (λ (b : Bool). old x s || (eqb s r && b)) (sym (list_any_more (λ (pair : Leg × Cabin). eqb pair.0.0 x) path k d lt))

or_groups : (k e a b : Bool) → ((k || (e && a)) || (e && b)) ≡ (k || (e && (a || b)))
or_groups true e a b = refl
or_groups false true true b = refl
or_groups false true false b = refl
or_groups false false a b = refl

-- one more group
pub groups_more : (new now old : ℕ → ℕ → Bool) (groups : List Group) (k r : ℕ) (d : Group) → k < length groups → ((x s : ℕ) → now x s ≡ (old x s || (eqb s r && list_any (has_leg x) (take k groups)))) → ((x s : ℕ) → new x s ≡ (now x s || (eqb s r && has_leg x (get_or groups k d)))) → (x s : ℕ) → new x s ≡ (old x s || (eqb s r && list_any (has_leg x) (take (k + 1) groups)))
groups_more new now old groups k r d lt so more x s =
    more x s
    ∙ ap (λ (b : Bool). b || (eqb s r && has_leg x (get_or groups k d))) (so x s)
    ∙ or_groups (old x s) (eqb s r) (list_any (has_leg x) (take k groups)) (has_leg x (get_or groups k d))
    ∙ ap (λ (b : Bool). old x s || (eqb s r && b)) (sym (list_any_more (has_leg x) groups k d lt))

-- ---- the lists that are kept

-- what stands at a leg
pub kept_at : (ls : List (OrderedItems Res)) (now : List (List Res)) (x : ℕ) (kept : OrderedItems Res) → map (λ k. k.items) ls ≡ now → x < length now → kept ≡ get_or ls x kept → users_at now x ≡ kept.items
kept_at ls now x kept view within is =
    let len : length ls ≡ length now = sym (length-map ls (λ (k : OrderedItems Res). k.items)) ∙ ap (λ (legs : List (List Res)). length legs) view in
    ap (λ (legs : List (List Res)). users_at legs x) (sym view)
    ∙ get_or-map (λ (k : OrderedItems Res). k.items) ls x kept [] (omega (arith, within, len))
    ∙ ap (λ (k : OrderedItems Res). k.items) (sym is)

pub kept_more : (ls : List (OrderedItems Res)) (now : List (List Res)) (x : ℕ) (kept new : OrderedItems Res) (item : Res) → map (λ k. k.items) ls ≡ now → x < length now → kept ≡ get_or ls x kept → AreSet kept.items new.items item true → has_user (map (λ k. k.items) (set ls x new)) ≡ with_user x item.0 (has_user now)
kept_more ls now x kept new item view within is put =
    ap has_user (map-set (λ (k : OrderedItems Res). k.items) ls x new ∙ ap (λ (legs : List (List Res)). set legs x new.items) view)
    ∙ user_more now x new.items item within (subst (λ (xs : List Res). AreSet xs new.items item true) (sym (kept_at ls now x kept view within is)) put)

pub kept_less : (ls : List (OrderedItems Res)) (now : List (List Res)) (x : ℕ) (kept new : OrderedItems Res) (item : Res) → map (λ k. k.items) ls ≡ now → x < length now → kept ≡ get_or ls x kept → AreSet kept.items new.items item false → has_user (map (λ k. k.items) (set ls x new)) ≡ without_user x item.0 (has_user now)
kept_less ls now x kept new item view within is took =
    ap has_user (map-set (λ (k : OrderedItems Res). k.items) ls x new ∙ ap (λ (legs : List (List Res)). set legs x new.items) view)
    ∙ user_less now x new.items item within (subst (λ (xs : List Res). AreSet xs new.items item false) (sym (kept_at ls now x kept view within is)) took)

-- a list with the same items changes nothing
pub kept_same : (ls : List (OrderedItems Res)) (now : List (List Res)) (x : ℕ) (kept new : OrderedItems Res) → map (λ k. k.items) ls ≡ now → kept ≡ get_or ls x kept → new.items ≡ kept.items → map (λ k. k.items) (set ls x new) ≡ now
kept_same ls now x kept new view is same =
    map-set_same (λ (k : OrderedItems Res). k.items) ls x new kept (same ∙ ap (λ (k : OrderedItems Res). k.items) is) ∙ view

-- whether a reservation is kept for a leg
pub kept_reported : (ls : List (OrderedItems Res)) (now : List (List Res)) (x : ℕ) (kept : OrderedItems Res) (item : Res) (given : Bool) → map (λ k. k.items) ls ≡ now → x < length now → kept ≡ get_or ls x kept → IsTrue given ↔ Contains kept.items item → has_user now x item.0 ≡ given
kept_reported ls now x kept item given view within is tells =
    ap (λ (xs : List Res). among xs item.0) (kept_at ls now x kept view within is) ∙ reported_among kept.items item given tells

-- what is kept is within
pub kept_within : (now : List (List Res)) (x : ℕ) (xs : List Res) (P : PlanRows) → users_at now x ≡ xs → HasUsers P (has_user now) → All (λ res. res.0 < length P.groups) xs
kept_within now x xs P here has k d lt =
    let r = get_or xs k d in
    has.within x r.0 (ap (λ (ys : List Res). among ys r.0) here ∙ among-from xs r (k, lt, get_or_default xs k r d lt))

-- ---- the users of the first reservations

no_user : (x : ℕ) (groups : List Group) → groups ≡ [] → list_any (has_leg x) groups ≡ true → ⊥
no_user x groups none is = not_both (list_any (has_leg x) groups) is (ap (λ (gs : List Group). list_any (has_leg x) gs) none)

blank_at : (n x : ℕ) → users_at (replicate n []) x ≡ []
blank_at n x =
    let cases : (x < n) ⊎ (n ≤ x) = grind arith in
    elim cases [
      | inl less ↦ get_or-replicate n x [] [] less
      | inr past ↦ get_or_past (replicate n []) x [] (omega (arith, length-replicate {A = List Res} n [], past))
    ]

and_no : (a : Bool) → (a && false) ≡ false
and_no true = refl
and_no false = refl

some_path : (x r : ℕ) (P : PlanRows) → uses P x r ≡ true → r < length P.groups
some_path x r P is =
    let cases : (r < length P.groups) ⊎ (length P.groups ≤ r) = grind arith in
    elim cases [
      | inl less ↦ less
      | inr past ↦ absurd (no_user x (groups_at P r) (get_or_past P.groups r [] past) is)
    ]

abbrev pub used_below : PlanRows → ℕ → ℕ → ℕ → Bool
used_below P n x r = ltb r n && uses P x r

below_more : (r n : ℕ) (k u : Bool) → k ≡ (ltb r n && u) → (eqb r n ≡ true → u ≡ u) → (k || (eqb r n && u)) ≡ (ltb r (n + 1) && u)
below_more r n k true e h = grind (arith, nat_tests)
below_more r n k false e h = grind (arith, nat_tests)

users_first : (x r n : ℕ) (P : PlanRows) (groups : List Group) → groups ≡ groups_at P n → (eqb r n && list_any (has_leg x) groups) ≡ (eqb r n && uses P x r)
users_first x r n P groups same = elim (cases_Bool (eqb r n)) [
  | inl here ↦ rw here (ap (λ (gs : List Group). list_any (has_leg x) gs) same ∙ ap (λ (k : ℕ). uses P x k) (sym (one_number r n here)))
  | inr other ↦ rw other refl
]

-- one more reservation
pub used_more : (new now : ℕ → ℕ → Bool) (P : PlanRows) (n : ℕ) (groups : List Group) → groups ≡ groups_at P n → ((x r : ℕ) → now x r ≡ used_below P n x r) → ((x r : ℕ) → new x r ≡ (now x r || (eqb r n && list_any (has_leg x) groups))) → (x r : ℕ) → new x r ≡ used_below P (n + 1) x r
used_more new now P n groups same so more x r =
    more x r ∙ ap (λ (b : Bool). now x r || b) (users_first x r n P groups same)
    ∙ below_more r n (now x r) (uses P x r) (so x r) (λ e. refl)

none_below : (r : ℕ) (u : Bool) → false ≡ (ltb r 0 && u)
none_below r u = grind (arith, nat_tests)

-- no reservation at first
pub used_none : (legs : List (List Res)) (n : ℕ) (P : PlanRows) → legs ≡ replicate n [] → (x r : ℕ) → has_user legs x r ≡ used_below P 0 x r
used_none legs n P none x r =
    ap (λ (ls : List (List Res)). among (users_at ls x) r) none
    ∙ ap (λ (xs : List Res). among xs r) (blank_at n x)
    ∙ none_below r (uses P x r)

all_below : (r n : ℕ) (u : Bool) → (u ≡ true → r < n) → (ltb r n && u) ≡ u
all_below r n true h = let lt : r < n = h refl in grind (arith, nat_tests)
all_below r n false h = and_no (ltb r n)

-- all reservations at last
pub used_all : (kept : ℕ → ℕ → Bool) (P : PlanRows) (n : ℕ) → length P.groups ≡ n → ((x r : ℕ) → kept x r ≡ used_below P n x r) → (x r : ℕ) → kept x r ≡ uses P x r
used_all kept P n all so x r = so x r ∙ all_below r n (uses P x r) (λ is. omega (arith, some_path x r P is, all))

pub users_are : (kept : ℕ → ℕ → Bool) (P : PlanRows) → ((x r : ℕ) → kept x r ≡ uses P x r) → HasUsers P kept
users_are kept P exact = record {
  whole = λ x r is. exact x r ∙ is;
  within = λ x r is. some_path x r P (sym (exact x r) ∙ is);
}

-- ---- those who are booked

abbrev pub booked_below : Situation → ℕ → ℕ → ℕ → Bool
booked_below I n x r = ltb r n && is_booked_on I x r

booked_first : (x r n : ℕ) (I : Situation) (path : List (Leg × Cabin)) → path ≡ booked_path I n → (eqb r n && list_any (λ pair. eqb pair.0.0 x) path) ≡ (eqb r n && is_booked_on I x r)
booked_first x r n I path same = elim (cases_Bool (eqb r n)) [
  | inl here ↦ rw here (ap (list_any (λ pair. eqb pair.0.0 x)) same ∙ ap (λ (k : ℕ). is_booked_on I x k) (sym (one_number r n here)))
  | inr other ↦ rw other refl
]

-- one more reservation
pub booked_more : (new now : ℕ → ℕ → Bool) (I : Situation) (n : ℕ) (path : List (Leg × Cabin)) → path ≡ booked_path I n → ((x r : ℕ) → now x r ≡ booked_below I n x r) → ((x r : ℕ) → new x r ≡ (now x r || (eqb r n && list_any (λ pair. eqb pair.0.0 x) path))) → (x r : ℕ) → new x r ≡ booked_below I (n + 1) x r
booked_more new now I n path same so more x r =
    more x r ∙ ap (λ (b : Bool). now x r || b) (booked_first x r n I path same)
    ∙ below_more r n (now x r) (is_booked_on I x r) (so x r) (λ e. refl)

-- no reservation at first
pub booked_none : (legs : List (List Res)) (n : ℕ) (I : Situation) → legs ≡ replicate n [] → (x r : ℕ) → has_user legs x r ≡ booked_below I 0 x r
booked_none legs n I none x r =
    ap (λ (ls : List (List Res)). among (users_at ls x) r) none
    ∙ ap (λ (xs : List Res). among xs r) (blank_at n x)
    ∙ none_below r (is_booked_on I x r)

-- ---- numbers that pass a test, in order

abbrev number : Res → ℕ
number r = r.0

abbrev Below : ℕ → ℕ → Type 0
Below a b = a < b

below_strict : IsStrict Below
below_strict = record { trans = λ x y z a b. omega (arith, a, b); itself = λ x h. omega (arith, h) }

numbers_rise : (n : ℕ) → AllPairs Below (numbers n)
numbers_rise n i j d less within =
    let in_j : j < n = omega (arith, within, length-numbers n) in
    rw (numbers-at n i d (omega (arith, less, in_j)), numbers-at n j d in_j) less

numbers_below : (n : ℕ) → All (λ x. x < n) (numbers n)
numbers_below n k d lt =
    let in_k : k < n = omega (arith, lt, length-numbers n) in
    rw (numbers-at n k d in_k) in_k

numbers_each : (n x : ℕ) → x < n → Contains (numbers n) x
numbers_each n x lt = (x, omega (arith, lt, length-numbers n), numbers-at n x x lt)

named_rise : (all : List Res) → AllPairs (λ a b. a.0 < b.0) all → AllPairs Below (map number all)
named_rise all rises i j d less within =
    let in_j : j < length all = subst (λ (n : ℕ). j < n) (length-map all number) within in
    let in_i : i < length all = omega (arith, less, in_j) in
    rw (get_or-map number all i (res 0) d in_i, get_or-map number all j (res 0) d in_j) (rises i j (res 0) less in_j)

among_numbers : (all : List Res) (z : ℕ) → Contains (map number all) z → among all z ≡ true
among_numbers all z (k, lt, is) =
    let within : k < length all = subst (λ (n : ℕ). k < n) (length-map all number) lt in
    let at = get_or all k (res z) in
    let here : Contains all at = (k, within, get_or_default all k at (res z) within) in
    subst (λ (n : ℕ). among all n ≡ true) (sym (get_or-map number all k (res z) z within) ∙ is) (among-from all at here)

numbers_among : (all : List Res) (z : ℕ) → among all z ≡ true → Contains (map number all) z
numbers_among all z some =
    let at = among-holds all (res z) some in
    (at.0, subst (λ (n : ℕ). at.0 < n) (sym (length-map all number)) at.1, get_or-map number all at.0 (res z) z at.1 ∙ ap number at.2)

both_true : (a b : Bool) → (a && b) ≡ true → (a ≡ true) × (b ≡ true)
both_true true true is = (refl, refl)
both_true true false is = absurd cc
both_true false b is = absurd cc

two_true : (a b : Bool) → a ≡ true → b ≡ true → (a && b) ≡ true
two_true a b x y = rw (x, y) refl

below_holds : (x n : ℕ) → ltb x n ≡ true → x < n
below_holds x n h = grind (arith, nat_tests)

below_is : (x n : ℕ) → x < n → ltb x n ≡ true
below_is x n h = grind (arith, nat_tests)

passed : (q : ℕ → Bool) (n z : ℕ) → (ltb z n && q z) ≡ true → Contains (filter q (numbers n)) z
passed q n z is =
    let both = both_true (ltb z n) (q z) is in
    Contains-filter q (numbers n) z (numbers_each n z (below_holds z n both.0)) both.1

passes : (q : ℕ → Bool) (n z : ℕ) → Contains (filter q (numbers n)) z → (ltb z n && q z) ≡ true
passes q n z on =
    let lt : z < n = All-contains (λ x. x < n) (filter q (numbers n)) z (All-filter q (λ x. x < n) (numbers n) (numbers_below n)) on in
    two_true (ltb z n) (q z) (below_is z n lt) (All-contains (λ x. q x ≡ true) (filter q (numbers n)) z (filter_passes q (numbers n)) on)

-- reservations that ascend are those below n that pass a test, where just these are among them
pub ascending_are : (all : List Res) (q : ℕ → Bool) (n : ℕ) → AllPairs (λ a b. a.0 < b.0) all → ((r : ℕ) → among all r ≡ (ltb r n && q r)) → map (λ res. res.0) all ≡ filter q (numbers n)
ascending_are all q n rises so =
    same_ordered Below (map number all) (filter q (numbers n)) below_strict (named_rise all rises) (AllPairs-filter Below q (numbers n) (numbers_rise n))
    (λ z on. passed q n z (sym (so z) ∙ among_numbers all z on))
    (λ z on. numbers_among all z (so z ∙ passes q n z on))
