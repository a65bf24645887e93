-- Walks over some reservations, where all others stay as they are.
use Rattle.std.proofs.Common.{◌≡◌, ℕ, zero, suc, ◌+◌, ◌<◌, ◌≤◌, inl, inr, Bool, true, false, ◌&&◌, not, List, [], ◌∷◌, ◌++◌, length, get_or, take, refl, sym, ap, subst, ◌∙◌, add-one, arith}
use Rattle.std.specs.Prelude.{filter, fold, map}
use Rattle.std.specs.List.{All, list_all}
use Rattle.std.proofs.lemmas.Bool.{cases_Bool, and_parts, and_from, and_left}
use Rattle.std.proofs.lemmas.List.{append-nil, length-map, get_or-map}
use Rattle.std.proofs.lemmas.List.Elements.{All-filter, filter-append}
use Rattle.std.proofs.lemmas.List.Folds.{fold-map}
use Rattle.std.proofs.lemmas.List.Sums.{fold_push, fold_more}
use Rattle.desk_units.specs.declared.numbers.Leg.{Leg}
use Rattle.desk_units.specs.declared.numbers.Res.{Res}
use Rattle.desk_units.specs.declared.numbers.Cabin.{Cabin}
use Rattle.desk_data.specs.declared.row.Group.{Group}
use Rattle.desk_data.specs.Situation.{Situation, reservations_of, bound}
use Rattle.desk_data.specs.Booked.{booked_path}
use Rattle.desk_data.specs.PlanRows.{PlanRows, groups_at, with_groups}
use Rattle.desk_data.specs.Valid.{IsPlanFor}
use Rattle.desk_rules.specs.Numbers.{numbers, implies}
use Rattle.desk_data.specs.Paths.{is_carried}
use Rattle.desk_rules.specs.Carriage.{each_carried, is_good_path, is_in_time_path, keeps_c13, keeps_c14, keeps_c15}
use Rattle.desk_rules.proofs.HourLaws.{length-numbers}
use Rattle.board_kit.specs.Users.{is_booked_on}
use Rattle.desk_eval.specs.Asked.{keeps_paths}
use Rattle.desk_model.specs.Tidy.{is_fit_path, groups_after_tidy, after_tidy}
use Rattle.desk_model.specs.Refill.{has_leg, is_refilled, after_refilling, after_refill}
use Rattle.desk_model.proofs.GroupPlans.{numbers-at, with_groups-own}
use Rattle.plan_reads.proofs.TidyCalls.{tidy-keeps}
use Rattle.desk_model.proofs.TidyParts.{tidied_to, tidied_to-none, tidied_to-next, tidied_to-judges, tidied_to-more, tidied_to-all}
use Rattle.desk_eval.proofs.GroupLaws.{refilled_to, refilled_to-none, refilled_to-more, refilled_to-all}

-- ---- a walk over the numbers that pass a test, where those that fail it change nothing

module _ {Q : Type 0} (f : Q → ℕ → Q) (at : ℕ → Q) (u : ℕ → Bool) where
  pub walk_some : (n : ℕ) → ((k : ℕ) → k < n → u k ≡ true → f (at k) k ≡ at (k + 1)) → ((k : ℕ) → k < n → u k ≡ false → at k ≡ at (k + 1)) → fold f (at 0) (filter u (numbers n)) ≡ at n
  walk_some zero steps stays = refl
  walk_some (suc n) steps stays =
      let before = walk_some n (λ k lt. steps k (omega (arith, lt))) (λ k lt. stays k (omega (arith, lt))) in
      let parts = filter-append u (numbers n) (n ∷ []) in
      let next : n + 1 ≡ suc n = rw add-one refl in
      elim (cases_Bool (u n)) [
        | inl here ↦
            let one : filter u (n ∷ []) ≡ n ∷ [] = rw here refl in
            ap (fold f (at 0)) (parts ∙ ap (λ (xs : List ℕ). filter u (numbers n) ++ xs) one)
            ∙ fold_push f (at 0) (filter u (numbers n)) n
            ∙ ap (λ (q : Q). f q n) before
            ∙ steps n (omega arith) here
            ∙ ap at next
        | inr gone ↦
            let none : filter u (n ∷ []) ≡ [] = rw gone refl in
            ap (fold f (at 0)) (parts ∙ ap (λ (xs : List ℕ). filter u (numbers n) ++ xs) none ∙ append-nil (filter u (numbers n)))
            ∙ before
            ∙ stays n (omega arith) gone
            ∙ ap at next
      ]

-- ---- the reservations of a walk

-- what is read where there is none
abbrev pub no_res : Res
no_res = record { 0 = 0 }

length-filter-le : (p : ℕ → Bool) (xs : List ℕ) → length (filter p xs) ≤ length xs
length-filter-le p [] = omega arith
length-filter-le p (x ∷ xs) =
    let ih = length-filter-le p xs in
    elim (cases_Bool (p x)) [
      | inl passes ↦ rw passes (omega (arith, ih))
      | inr fails ↦ rw fails (omega (arith, ih))
    ]

-- they are no more than there are
pub length-some : (n : ℕ) (u : ℕ → Bool) (some : List Res) → map (λ (res : Res). res.0) some ≡ filter u (numbers n) → length some ≤ n
length-some n u some are = omega (arith, length-map some (λ (res : Res). res.0), ap length are, length-filter-le u (numbers n), length-numbers n)

numbers-below : (n : ℕ) → All (λ x. x < n) (numbers n)
numbers-below n = λ k d lt.
    let less : k < n = omega (arith, lt, length-numbers n) in
    subst (λ (x : ℕ). x < n) (sym (numbers-at n k d less)) less

-- and each is one of them
pub some-within : (n : ℕ) (u : ℕ → Bool) (some : List Res) → map (λ (res : Res). res.0) some ≡ filter u (numbers n) → (k : ℕ) → k < length some → (get_or some k no_res).0 < n
some-within n u some are k lt =
    let below = All-filter u (λ x. x < n) (numbers n) (numbers-below n) in
    let each : All (λ x. x < n) (map (λ (res : Res). res.0) some) = subst (All (λ x. x < n)) (sym are) below in
    let long : k < length (map (λ (res : Res). res.0) some) = rw (length-map some (λ (res : Res). res.0)) lt in
    subst (λ (x : ℕ). x < n) (get_or-map (λ (res : Res). res.0) some k no_res 0 lt) (each k 0 long)

-- ---- Tidy

-- the plan once some reservations are tidied, one after another
abbrev pub tidying : Situation → PlanRows → ℕ → PlanRows
tidying I Q r = with_groups Q r (groups_after_tidy I Q r)

abbrev pub tidied_all : Situation → PlanRows → List Res → PlanRows
tidied_all I P some = fold (λ Q (res : Res). tidying I Q res.0) P some

pub tidied_all-more : (I : Situation) (P : PlanRows) (some : List Res) (i : ℕ) → i < length some → tidying I (tidied_all I P (take i some)) (get_or some i no_res).0 ≡ tidied_all I P (take (i + 1) some)
tidied_all-more I P some i within = sym (fold_more (λ Q (res : Res). tidying I Q res.0) P some i no_res within)

-- three tests of each carried path are one
module _ (a b d : List (Leg × Cabin) → Bool) where
  abbrev kept : (List (Leg × Cabin) → Bool) → Group → Bool
  kept test group = implies (is_carried group.path) (test group.path)

  one : (carried x y z : Bool) → implies carried x ≡ true → implies carried y ≡ true → implies carried z ≡ true → implies carried (x && y && z) ≡ true
  one true true true true p q r = refl
  one true true true false p q r = absurd cc
  one true true false z p q r = absurd cc
  one true false y z p q r = absurd cc
  one false x y z p q r = refl

  three : (groups : List Group) → list_all (kept a) groups ≡ true → list_all (kept b) groups ≡ true → list_all (kept d) groups ≡ true → list_all (kept (λ path. a path && b path && d path)) groups ≡ true
  three [] p q r = refl
  three (group ∷ groups) p q r =
      let p2 = and_parts (kept a group) (list_all (kept a) groups) p in
      let q2 = and_parts (kept b group) (list_all (kept b) groups) q in
      let r2 = and_parts (kept d group) (list_all (kept d) groups) r in
      and_from (kept (λ path. a path && b path && d path) group) (list_all (kept (λ path. a path && b path && d path)) groups)
      (one (is_carried group.path) (a group.path) (b group.path) (d group.path) p2.0 q2.0 r2.0)
      (three groups p2.1 q2.1 r2.1)

-- where the three rules of paths are kept, each carried path is fit
all_fit : (I : Situation) (P : PlanRows) (r : ℕ) → keeps_paths I P r ≡ true → each_carried P r (is_fit_path I P r) ≡ true
unfolding is_fit_path keeps_c13 keeps_c14 keeps_c15
all_fit I P r keeps =
    let last = and_parts (keeps_c13 I P r && keeps_c14 I P r) (keeps_c15 I P r) keeps in
    let first = and_parts (keeps_c13 I P r) (keeps_c14 I P r) last.0 in
    three (is_good_path I P r) (is_in_time_path I P r) (bound I r (groups_at P r)) (groups_at P r) first.0 first.1 last.1

not_true : (b : Bool) → not b ≡ false → b ≡ true
not_true true h = refl
not_true false h = absurd cc

-- so its groups stay
tidied-same : (I : Situation) (P : PlanRows) (r : ℕ) → IsPlanFor I P → r < length P.groups → not (keeps_paths I P r) ≡ false → tidied_to I r P ≡ tidied_to I (r + 1) P
tidied-same I P r plan within keeps =
    let own : groups_after_tidy I (tidied_to I r P) r ≡ groups_at (tidied_to I r P) r =
    tidied_to-judges I P r within ∙ sym (tidy-keeps I P r plan (all_fit I P r (not_true (keeps_paths I P r) keeps))) ∙ sym (tidied_to-next I P r within) in
    sym (with_groups-own (tidied_to I r P) r (groups_after_tidy I (tidied_to I r P) r) own) ∙ tidied_to-more I P r within

-- to tidy those that break a rule of paths is a Tidy
pub tidied_all-is : (I : Situation) (P : PlanRows) (broken : List Res) → IsPlanFor I P → map (λ (res : Res). res.0) broken ≡ filter (λ r. not (keeps_paths I P r)) (numbers (reservations_of I)) → tidied_all I P broken ≡ after_tidy I P
tidied_all-is I P broken plan are =
    let n = reservations_of I in
    let long = plan.res in
    sym (fold-map (tidying I) (λ (res : Res). res.0) P broken)
    ∙ ap (fold (tidying I) P) are
    ∙ ap (λ (Q : PlanRows). fold (tidying I) Q (filter (λ r. not (keeps_paths I P r)) (numbers n))) (sym (tidied_to-none I P))
    ∙ walk_some (tidying I) (λ k. tidied_to I k P) (λ r. not (keeps_paths I P r)) n
    (λ k lt here. tidied_to-more I P k (omega (arith, lt, long)))
    (λ k lt gone. tidied-same I P k plan (omega (arith, lt, long)) gone)
    ∙ tidied_to-all I P n refl (sym long)

-- ---- Refill

-- the plan once some reservations are looked at
abbrev pub refilled_all : Situation → ℕ → PlanRows → List Res → PlanRows
refilled_all I x P some = fold (λ Q (res : Res). after_refilling I x Q res.0) P some

pub refilled_all-more : (I : Situation) (x : ℕ) (P : PlanRows) (some : List Res) (i : ℕ) → i < length some → after_refilling I x (refilled_all I x P (take i some)) (get_or some i no_res).0 ≡ refilled_all I x P (take (i + 1) some)
refilled_all-more I x P some i within = sym (fold_more (λ Q (res : Res). after_refilling I x Q res.0) P some i no_res within)

refilling-same : (I : Situation) (x r : ℕ) (Q : PlanRows) → is_booked_on I x r ≡ false → after_refilling I x Q r ≡ Q
refilling-same I x r Q lacks =
    let fails : is_refilled I Q x r ≡ false = and_left (has_leg x (booked_path I r)) (is_fit_path I Q r (booked_path I r)) lacks in
    rw fails refl

-- to look at those who booked a leg is a Refill of it
pub refilled_all-is : (I : Situation) (x : ℕ) (P : PlanRows) (booked : List Res) → map (λ (res : Res). res.0) booked ≡ filter (is_booked_on I x) (numbers (reservations_of I)) → refilled_all I x P booked ≡ after_refill I P x
refilled_all-is I x P booked are =
    let n = reservations_of I in
    sym (fold-map (after_refilling I x) (λ (res : Res). res.0) P booked)
    ∙ ap (fold (after_refilling I x) P) are
    ∙ ap (λ (Q : PlanRows). fold (after_refilling I x) Q (filter (is_booked_on I x) (numbers n))) (sym (refilled_to-none I P x))
    ∙ walk_some (after_refilling I x) (λ k. refilled_to I k P x) (is_booked_on I x) n
    (λ k lt here. sym (refilled_to-more I k P x))
    (λ k lt gone. sym (refilling-same I x k (refilled_to I k P x) gone) ∙ sym (refilled_to-more I k P x))
    ∙ refilled_to-all I P n x refl
