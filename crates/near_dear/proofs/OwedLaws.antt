-- Those on a cancelled leg are not carried after a Tidy, and cost what that comes to.
use Rattle.std.proofs.Common.{◌≡◌, ℕ, ◌+◌, ◌*◌, ◌<◌, ◌≤◌, inl, inr, Bool, true, false, not, cond, eqb, List, [], ◌∷◌, ◌++◌, refl, sym, ap, subst, ◌∙◌, arith}
use Rattle.std.specs.Prelude.{filter, sum_by}
use Rattle.std.specs.List.{All, list_any}
use Rattle.std.proofs.Math.Nat.{mul-add}
use Rattle.std.proofs.lemmas.Bool.{true≢false, cases_Bool, cases_eq, and_parts, or_parts, eq-eqb, ne_eqb, eqb-true}
use Rattle.std.proofs.lemmas.List.Elements.{All-head, All-tail}
use Rattle.std.proofs.lemmas.List.Sums.{sum_by-cons, sum_by-append}
use Rattle.desk_units.specs.declared.numbers.Leg.{Leg}
use Rattle.desk_units.specs.declared.numbers.Cabin.{Cabin}
use Rattle.desk_units.specs.declared.tariff.Term.TheVariants as term
use Rattle.tariff_prices.specs.Prices.{cancel_price, uncarried_care, uncarried_compensation}
use Rattle.desk_data.specs.declared.row.Group.{Group}
use Rattle.desk_data.specs.declared.row.Row.TheVariants.{Flown, Cancelled}
use Rattle.desk_data.specs.Booked.{haul_of, reference_of}
use Rattle.desk_data.specs.Paths.{is_carried}
use Rattle.desk_data.specs.Situation.{Situation, reservations_of, res_at}
use Rattle.desk_data.specs.PlanRows.{PlanRows, row_at, groups_at}
use Rattle.desk_rules.specs.Cost.{by_item, weight, rows_of}
use Rattle.desk_rules.specs.Maintenance.{is_flown_by}
use Rattle.desk_rules.specs.Words.{IsFlown}
use Rattle.desk_model.specs.Refill.{has_leg}
use Rattle.desk_model.specs.Rebook.{passengers_on, group_of}
use Rattle.desk_model.specs.Tidy.{is_fit_path, stays_carried, groups_after_tidy, after_tidy}
use Rattle.desk_model.proofs.TidyLaws.{after_tidy-at, is_fit-holds}
use Rattle.plan_checks.specs.Amounts.{group_cost, reservation_cost}
use Rattle.plan_checks.proofs.GroupLaws.{uncarried_is}
use Rattle.near_dear.specs.Owed.{uncarried, owed_by}

-- ---- each passenger owes as much as another

item-more : (w price a b : ℕ) → by_item w price (a + b) ≡ by_item w price a + by_item w price b
item-more w price a b = mul-add (60 * w * price) a b

uncarried-more : (I : Situation) (r a b : ℕ) → uncarried I r (a + b) ≡ uncarried I r a + uncarried I r b
uncarried-more I r a b =
    let cancel = item-more (weight I term.Cancellation) (cancel_price (rows_of I) (haul_of I r) (reference_of I r)) a b in
    let price = item-more (weight I term.Legal) (res_at I r).price.0 a b in
    let care = item-more (weight I term.Legal) (uncarried_care (rows_of I) (haul_of I r)) a b in
    let compensation = item-more (weight I term.Legal) (uncarried_compensation (rows_of I) (haul_of I r)) a b in
    omega (arith, cancel, price, care, compensation)

uncarried-none : (I : Situation) (r : ℕ) → uncarried I r 0 ≡ 0
uncarried-none I r =
    let twice : uncarried I r 0 ≡ uncarried I r 0 + uncarried I r 0 = uncarried-more I r 0 0 in
    omega (arith, twice)

-- ---- those who leave

owed-le : (I : Situation) (r x : ℕ) (stays : List (Leg × Cabin) → Bool) → ((path : List (Leg × Cabin)) → has_leg x path ≡ true → stays path ≡ false) → (groups : List Group) → sum_by (owed_by I x r) groups ≤ uncarried I r (passengers_on (λ path. not (stays path)) groups)
owed-le I r x stays off [] = omega arith
owed-le I r x stays off (group ∷ groups) =
    let leaving : Group → ℕ = λ g. cond (not (stays g.path)) g.count 0 in
    let rest = owed-le I r x stays off groups in
    let whole : uncarried I r (passengers_on (λ path. not (stays path)) (group ∷ groups)) ≡ uncarried I r (leaving group) + uncarried I r (passengers_on (λ path. not (stays path)) groups) =
    ap (uncarried I r) (sum_by-cons leaving group groups) ∙ uncarried-more I r (leaving group) (sum_by leaving groups) in
    let one : owed_by I x r group ≤ uncarried I r (leaving group) =
    elim (cases_Bool (has_leg x group.path)) [
      | inl has ↦
          let all : leaving group ≡ group.count = rw (off group.path has) refl in
          let same : owed_by I x r group ≡ uncarried I r group.count = rw has refl in
          let is = ap (uncarried I r) all in
          omega (arith, same, is)
      | inr other ↦ (let none : owed_by I x r group ≡ 0 = rw other refl in omega (arith, none))
    ] in
    omega (arith, rest, whole, one, sum_by-cons (owed_by I x r) group groups)

-- nobody is on the leg
pub none-owed : (I : Situation) (r x : ℕ) (groups : List Group) → list_any (λ group. has_leg x group.path) groups ≡ false → sum_by (owed_by I x r) groups ≡ 0
none-owed I r x [] off = refl
none-owed I r x (group ∷ groups) off =
    let parts = or_parts (has_leg x group.path) (list_any (λ (g : Group). has_leg x g.path) groups) off in
    let none : owed_by I x r group ≡ 0 = rw parts.0 refl in
    let rest = none-owed I r x groups parts.1 in
    omega (arith, none, rest, sum_by-cons (owed_by I x r) group groups)

-- ---- a path with a cancelled leg

cancelled-flown : (p d : ℕ) → Cancelled ≡ Flown (record { 0 = p }) (record { 0 = d }) → ⊥
cancelled-flown p d same = true≢false (sym (eq-eqb p p refl) ∙ sym (ap (is_flown_by p) same))

leg-flown : (P : PlanRows) (x : ℕ) (path : List (Leg × Cabin)) → All (λ pair. IsFlown P pair.0.0) path → has_leg x path ≡ true → IsFlown P x
leg-flown P x [] all has = absurd cc
leg-flown P x (pair ∷ path) all has =
    elim (cases_Bool (eqb pair.0.0 x)) [
      | inl here ↦ subst (IsFlown P) (eqb-true pair.0.0 x here) (All-head (λ (q : Leg × Cabin). IsFlown P q.0.0) pair path all)
      | inr other ↦ (let rest : has_leg x path ≡ true = rw other at has in leg-flown P x path (All-tail (λ (q : Leg × Cabin). IsFlown P q.0.0) pair path all) rest)
    ]

leg-off : (I : Situation) (P : PlanRows) (r x : ℕ) (path : List (Leg × Cabin)) → row_at P x ≡ Cancelled → has_leg x path ≡ true → stays_carried I P r path ≡ false
leg-off I P r x path gone has =
    elim (cases_Bool (stays_carried I P r path)) [
      | inr off ↦ off
      | inl on ↦
          let fit = is_fit-holds I P r path (and_parts (is_carried path) (is_fit_path I P r path) on).1 in
          let flown = leg-flown P x path fit.there.flown has in
          absurd (cancelled-flown flown.plane flown.dep (sym gone ∙ flown.flown))
    ]

-- ---- after a Tidy

-- the passengers who are not carried cost what that comes to
waiting : (I : Situation) (F : PlanRows) (r n : ℕ) → sum_by (group_cost I F r) (group_of n []) ≡ uncarried I r n
waiting I F r n =
    elim (cases_eq n 0) [
      | inl none ↦
          let nobody : sum_by (group_cost I F r) (group_of n []) ≡ 0 = rw (eq-eqb n 0 none) refl in
          nobody ∙ sym (ap (uncarried I r) none ∙ uncarried-none I r)
      | inr some ↦
          let group : Group = record { count = n; path = [] } in
          let one : group_of n [] ≡ group ∷ [] = rw (ne_eqb n 0 some) refl in
          let cost : sum_by (group_cost I F r) (group ∷ []) ≡ group_cost I F r group = omega (arith, sum_by-cons (group_cost I F r) group []) in
          ap (sum_by (group_cost I F r)) one ∙ cost ∙ uncarried_is I F r group refl
    ]

pub tidy-owes : (I : Situation) (P : PlanRows) (r x : ℕ) → r < reservations_of I → row_at P x ≡ Cancelled → sum_by (owed_by I x r) (groups_at P r) ≤ reservation_cost I (after_tidy I P) r
unfolding reservation_cost groups_after_tidy
tidy-owes I P r x lt gone =
    let F = after_tidy I P in
    let stays = stays_carried I P r in
    let n = passengers_on (λ path. not (stays path)) (groups_at P r) in
    let kept = filter (λ (group : Group). stays group.path) (groups_at P r) in
    let there : groups_at F r ≡ group_of n [] ++ kept = after_tidy-at I P r lt in
    let cost = ap (sum_by (group_cost I F r)) there ∙ sum_by-append (group_cost I F r) (group_of n []) kept in
    let owed = owed-le I r x stays (λ path has. leg-off I P r x path gone has) (groups_at P r) in
    omega (arith, cost, waiting I F r n, owed)
