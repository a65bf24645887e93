-- What flying costs once an aircraft flies cancelled legs again, and which legs keep their rows.
use Rattle.std.proofs.Common.{◌≡◌, ℕ, zero, suc, ◌+◌, ◌<◌, ◌≤◌, inl, inr, Bool, true, false, ◌&&◌, not, cond, eqb, ltb, List, [], ◌∷◌, ◌++◌, length, get_or, refl, sym, ap, subst, ◌∙◌, arith}
use Rattle.std.specs.Prelude.{Option, None, Some, map, sum_by}
use Rattle.std.specs.List.{All, Contains, list_any}
use Rattle.std.proofs.lemmas.Bool.{true≢false, cases_Bool, cases_lt, and_from, and_parts, or_parts, eq-eqb, eqb-true, false_from_ne_true, le-ltb}
use Rattle.std.proofs.lemmas.List.{get_or_past, length-set}
use Rattle.std.proofs.lemmas.List.Elements.{All-head, All-tail, Contains-append_left, Contains-append_right}
use Rattle.std.proofs.lemmas.List.Folds.{list_any_none}
use Rattle.std.proofs.lemmas.List.Sums.{sum_by-cons, sum_by_push}
use Rattle.desk_units.specs.declared.tariff.Term.TheVariants as term
use Rattle.desk_units.specs.declared.numbers.Leg.{Leg}
use Rattle.desk_units.specs.declared.numbers.Cabin.{Cabin}
use Rattle.desk_data.specs.declared.row.Row.{Row}
use Rattle.desk_data.specs.declared.row.Row.TheVariants.{Flown, Cancelled}
use Rattle.desk_data.specs.Situation.{Situation, fixed, legs_of, leg_at, plane_at, reservations_of}
use Rattle.desk_data.specs.PlanRows.{PlanRows, row_at, groups_at, with_row}
use Rattle.desk_data.specs.Valid.{IsPlanFor}
use Rattle.plan_moves.specs.declared.moves.Step.{Step}
use Rattle.plan_moves.specs.declared.moves.Step.TheVariants.{Push}
use Rattle.desk_rules.specs.Numbers.{numbers}
use Rattle.desk_rules.specs.Least.{least}
use Rattle.desk_rules.specs.Rows.{is_row}
use Rattle.desk_rules.specs.Rotations.{dep, departure}
use Rattle.desk_rules.specs.Maintenance.{is_flown_by, flies}
use Rattle.desk_rules.specs.Cost.{weight, by_hour, operating_of, operating, operating_cost}
use Rattle.desk_rules.specs.Words.{IsFlown, TakesThere}
use Rattle.desk_rules.proofs.LeastLaws.{feasible-holds}
use Rattle.desk_model.specs.Push.{IsPushed, rotation, after_push}
use Rattle.desk_model.specs.Steps.{after_set, after_step, after_steps}
use Rattle.desk_model.proofs.SetLaws.{after_set-sets, with_row-same, with_row-other}
use Rattle.desk_model.proofs.PushLaws.{after_push-groups, after_push-others}
use Rattle.desk_model.proofs.RotationOrder.{rotation-each}
use Rattle.step_laws.proofs.PushedLaws.{pushed-flies}
use Rattle.plan_checks.specs.Amounts.{reservation_cost}
use Rattle.step_laws.proofs.SumLaws.{sum_same, sum_change}
use Rattle.board_kit.specs.Users.{uses, has_leg}
use Rattle.near_moves.specs.MoveParts.{plane, flown_row}
use Rattle.near_moves.proofs.ListLaws.{Apart, any_holds, contains_filter, apart_head, apart_tail, contains_head, contains_tail}
use Rattle.near_moves.proofs.KeptLaws.{steps-append}
use Rattle.near_draft.specs.Drafts.{AreAllChanged}
use Rattle.near_priced.specs.Priced.{paid_on}
use Rattle.near_dear.specs.Restored.{IsPushedFrom, flown_legs, flying_step, flying, may_move, moved_legs}

-- ---- legs that are cancelled, each once

-- leg x is none of some legs
abbrev IsOff : ℕ → List (ℕ × ℕ) → Type 0
IsOff x [] = Unit {0}
IsOff x (flight ∷ flights) = (flight.0 ≡ x → ⊥) × IsOff x flights

-- each leg is one of n, cancelled, and none of those that follow
abbrev pub AreGone : PlanRows → ℕ → List (ℕ × ℕ) → Type 0
AreGone P n [] = Unit {0}
AreGone P n (flight ∷ flights) = (flight.0 < n) × (row_at P flight.0 ≡ Cancelled) × IsOff flight.0 flights × AreGone P n flights

off-others : (x : ℕ) (flights : List (ℕ × ℕ)) → ((z : ℕ) → Contains (flown_legs flights) z → z ≡ x → ⊥) → IsOff x flights
off-others x [] off = tt
off-others x (flight ∷ flights) off = (
  off flight.0 (contains_head flight.0 (flown_legs flights)),
  off-others x flights (λ z has. off z (contains_tail flight.0 z (flown_legs flights) has)),
)

pub are-gone : (P : PlanRows) (n : ℕ) (flights : List (ℕ × ℕ)) → All (λ x. x < n) (flown_legs flights) → All (λ x. row_at P x ≡ Cancelled) (flown_legs flights) → Apart (flown_legs flights) → AreGone P n flights
are-gone P n [] within gone apart = tt
are-gone P n (flight ∷ flights) within gone apart =
    let x = flight.0 in
    let xs = flown_legs flights in (
      All-head (λ (y : ℕ). y < n) x xs within,
      All-head (λ (y : ℕ). row_at P y ≡ Cancelled) x xs gone,
      off-others x flights (λ z has same. apart_head x xs apart (subst (Contains xs) same has)),
      are-gone P n flights (All-tail (λ (y : ℕ). y < n) x xs within) (All-tail (λ (y : ℕ). row_at P y ≡ Cancelled) x xs gone) (apart_tail x xs apart),
    )

-- another leg's row is none of their business
gone-after : (P : PlanRows) (n x : ℕ) (row : Row) (flights : List (ℕ × ℕ)) → IsOff x flights → AreGone P n flights → AreGone (with_row P x row) n flights
gone-after P n x row [] off gone = tt
gone-after P n x row (flight ∷ flights) off gone = (gone.0, with_row-other P x flight.0 row off.0 ∙ gone.1, gone.2, gone-after P n x row flights off.1 gone.3)

-- ---- flying

-- one of them is flown again
set-again : (I : Situation) (P : PlanRows) (p : ℕ) (flight : ℕ × ℕ) → row_at P flight.0 ≡ Cancelled → after_step I P (flying_step p flight) ≡ with_row P flight.0 (flown_row p flight.1)
unfolding after_step
set-again I P p flight gone =
    let same : is_row (row_at P flight.0) Cancelled ≡ true = ap (λ (row : Row). is_row row Cancelled) gone in
    rw same refl

one-cost : (I : Situation) (P : PlanRows) (p x t : ℕ) → x < legs_of I → length P.rows ≡ legs_of I → row_at P x ≡ Cancelled → operating_cost I (with_row P x (flown_row p t)) ≡ operating_cost I P + flying I p x
unfolding operating_cost
one-cost I P p x t lt long gone =
    let Q = with_row P x (flown_row p t) in
    let is : operating I Q x ≡ flying I p x = ap (operating_of I x) (with_row-same P x (flown_row p t) (omega (arith, lt, long))) in
    let was : operating I P x ≡ 0 = ap (operating_of I x) gone in
    let change = sum_change (operating I Q) (operating I P) (legs_of I) x lt (λ y other. ap (operating_of I y) (with_row-other P x y (flown_row p t) other)) in
    omega (arith, change, is, was)

-- all of them are
pub sets-cost : (I : Situation) (P : PlanRows) (p : ℕ) (flights : List (ℕ × ℕ)) → length P.rows ≡ legs_of I → AreGone P (legs_of I) flights → operating_cost I (after_steps I P (map (flying_step p) flights)) ≡ operating_cost I P + sum_by (flying I p) (flown_legs flights)
sets-cost I P p [] long gone = omega arith
sets-cost I P p (flight ∷ flights) long gone =
    let x = flight.0 in
    let row = flown_row p flight.1 in
    let Q = with_row P x row in
    let steps = map (flying_step p) flights in
    let first : operating_cost I (after_steps I (after_step I P (flying_step p flight)) steps) ≡ operating_cost I (after_steps I Q steps) = ap (λ (R : PlanRows). operating_cost I (after_steps I R steps)) (set-again I P p flight gone.1) in
    let one = one-cost I P p x flight.1 gone.0 long gone.1 in
    let rest = sets-cost I Q p flights (length-set P.rows x row ∙ long) (gone-after P (legs_of I) x row flights gone.2 gone.3) in
    omega (arith, first, one, rest, sum_by-cons (flying I p) x (flown_legs flights))

-- rows that the same aircraft flies cost the same
pub same-flier : (I : Situation) (x : ℕ) (row other : Row) → ((u : ℕ) → is_flown_by u row ≡ is_flown_by u other) → operating_of I x row ≡ operating_of I x other
same-flier I x (Flown a d) (Flown b e) same =
    let is : b.0 ≡ a.0 = eqb-true b.0 a.0 (sym (same a.0) ∙ eq-eqb a.0 a.0 refl) in
    ap (λ (p : ℕ). by_hour (weight I term.Operating) (plane_at I p).hourly.0 (leg_at I x).block) (sym is)
same-flier I x (Flown a d) Cancelled same = absurd (true≢false (sym (eq-eqb a.0 a.0 refl) ∙ same a.0))
same-flier I x Cancelled (Flown b e) same = absurd (true≢false (sym (eq-eqb b.0 b.0 refl) ∙ sym (same b.0)))
same-flier I x Cancelled Cancelled same = refl

-- and a Push leaves each leg to the aircraft that flies it
push-cost : (I : Situation) (P : PlanRows) (p : ℕ) (after : Option Leg) → operating_cost I (after_push I P p after) ≡ operating_cost I P
unfolding operating_cost
push-cost I P p after = sum_same (operating I (after_push I P p after)) (operating I P) (legs_of I) (λ y lt. same-flier I y (row_at (after_push I P p after) y) (row_at P y) (λ u. pushed-flies I P p after u y))

-- ---- the steps that change rows

abbrev pub first_steps : ℕ → List (ℕ × ℕ) → Option Leg → List Step
first_steps p flights after = map (flying_step p) flights ++ Push (plane p) after ∷ []

pub restored-cost : (I : Situation) (P : PlanRows) (p : ℕ) (flights : List (ℕ × ℕ)) (after : Option Leg) → length P.rows ≡ legs_of I → AreGone P (legs_of I) flights → operating_cost I (after_steps I P (first_steps p flights after)) ≡ operating_cost I P + sum_by (flying I p) (flown_legs flights)
unfolding after_step
restored-cost I P p flights after long gone =
    let sets = map (flying_step p) flights in
    ap (operating_cost I) (steps-append I P sets (Push (plane p) after ∷ []))
    ∙ push-cost I (after_steps I P sets) p after
    ∙ sets-cost I P p flights long gone

-- ---- which legs get other rows

-- a leg that is not among them
off-again : (x : ℕ) (flights : List (ℕ × ℕ)) → list_any (λ y. eqb y x) (flown_legs flights) ≡ false → IsOff x flights
off-again x [] off = tt
off-again x (flight ∷ flights) off =
    let parts = or_parts (eqb flight.0 x) (list_any (λ y. eqb y x) (flown_legs flights)) off in
    ((λ same. true≢false (sym (eq-eqb flight.0 x same) ∙ parts.0)), off-again x flights parts.1)

-- keeps its row
sets-other : (I : Situation) (P : PlanRows) (p x : ℕ) (flights : List (ℕ × ℕ)) → IsOff x flights → row_at (after_steps I P (map (flying_step p) flights)) x ≡ row_at P x
unfolding after_step
sets-other I P p x [] off = refl
sets-other I P p x (flight ∷ flights) off =
    sets-other I (after_set P flight.0 Cancelled (flown_row p flight.1)) p x flights off.1
    ∙ (after_set-sets P flight.0 Cancelled (flown_row p flight.1)).others x (λ same. off.0 (sym same))

sets-groups : (I : Situation) (P : PlanRows) (p : ℕ) (flights : List (ℕ × ℕ)) → (after_steps I P (map (flying_step p) flights)).groups ≡ P.groups
unfolding after_step
sets-groups I P p [] = refl
sets-groups I P p (flight ∷ flights) =
    sets-groups I (after_set P flight.0 Cancelled (flown_row p flight.1)) p flights
    ∙ (after_set-sets P flight.0 Cancelled (flown_row p flight.1)).groups

-- nobody is moved
pub same-groups : (I : Situation) (P : PlanRows) (p : ℕ) (flights : List (ℕ × ℕ)) (after : Option Leg) → (after_steps I P (first_steps p flights after)).groups ≡ P.groups
unfolding after_step
same-groups I P p flights after =
    let sets = map (flying_step p) flights in
    ap (λ (R : PlanRows). R.groups) (steps-append I P sets (Push (plane p) after ∷ []))
    ∙ after_push-groups I (after_steps I P sets) p after
    ∙ sets-groups I P p flights

-- the first of them has its row
first-row : (I : Situation) (P : PlanRows) (p : ℕ) (flight : ℕ × ℕ) (flights : List (ℕ × ℕ)) → length P.rows ≡ legs_of I → AreGone P (legs_of I) (flight ∷ flights) → row_at (after_steps I P (map (flying_step p) (flight ∷ flights))) flight.0 ≡ flown_row p flight.1
first-row I P p flight flights long gone =
    let x = flight.0 in
    let row = flown_row p flight.1 in
    let lt = gone.0 in
    ap (λ (R : PlanRows). row_at (after_steps I R (map (flying_step p) flights)) x) (set-again I P p flight gone.1)
    ∙ sets-other I (with_row P x row) p x flights gone.2
    ∙ with_row-same P x row (omega (arith, lt, long))

-- so a leg that is pushed departs at the moment or later
pushed-late : (I : Situation) (P : PlanRows) (p at z : ℕ) (after : Option Leg) (flights : List (ℕ × ℕ)) → length P.rows ≡ legs_of I → AreGone P (legs_of I) flights → IsPushedFrom after flights at → IsPushed I (after_steps I P (map (flying_step p) flights)) p after z → at ≤ dep (after_steps I P (map (flying_step p) flights)) z
pushed-late I P p at z None flights long gone from pushed = omega (arith, from)
pushed-late I P p at z (Some first) [] long gone from pushed = absurd from
pushed-late I P p at z (Some first) (flight ∷ flights) long gone from pushed =
    let Q = after_steps I P (map (flying_step p) (flight ∷ flights)) in
    let before = pushed.is_later first refl in
    let row : row_at Q first.0 ≡ flown_row p flight.1 = ap (row_at Q) (sym from.0) ∙ first-row I P p flight flights long gone in
    let moment_is : before.dep ≡ flight.1 = ap departure (sym before.first ∙ row) in
    let second : dep Q z ≡ before.later = ap departure before.second in
    let moment = from.1 in
    elim before.order [
      | inl sooner ↦ omega (arith, sooner, moment_is, second, moment)
      | inr same ↦ (let both = same.0 in omega (arith, both, moment_is, second, moment))
    ]

pub flown-within : (I : Situation) (P : PlanRows) (p x : ℕ) → IsPlanFor I P → flies P p x ≡ true → x < legs_of I
flown-within I P p x plan on =
    elim (cases_lt x (length P.rows)) [
      | inl within ↦ subst (λ (n : ℕ). x < n) plan.legs within
      | inr past ↦ absurd (true≢false (sym on ∙ ap (is_flown_by p) (get_or_past P.rows x Cancelled past)))
    ]

-- each leg keeps its row, or is flown again, or is one of the aircraft that may move
pub all-changed : (I : Situation) (P : PlanRows) (p at : ℕ) (flights : List (ℕ × ℕ)) (after : Option Leg) → IsPlanFor I P → AreGone P (legs_of I) flights → IsPushedFrom after flights at → AreAllChanged P (after_steps I P (first_steps p flights after)) (flown_legs flights ++ moved_legs I P p at)
unfolding after_step
all-changed I P p at flights after plan gone from x =
    let sets = map (flying_step p) flights in
    let Q = after_steps I P sets in
    let legs = flown_legs flights in
    let moved = moved_legs I P p at in
    let made : row_at (after_steps I P (first_steps p flights after)) x ≡ row_at (after_push I Q p after) x = ap (λ (R : PlanRows). row_at R x) (steps-append I P sets (Push (plane p) after ∷ [])) in
    elim (cases_Bool (list_any (λ y. eqb y x) legs)) [
      | inl again ↦
          let source = any_holds (λ (y : ℕ). eqb y x) legs again in
          inr (Contains-append_left legs moved x (subst (Contains legs) (eqb-true source.from x source.is) source.there))
      | inr off ↦
          let same : row_at Q x ≡ row_at P x = sets-other I P p x flights (off-again x flights off) in
          elim (cases_Bool (flies P p x && may_move I P at x)) [
            | inl on ↦
                let parts = and_parts (flies P p x) (may_move I P at x) on in
                inr (Contains-append_right legs moved x (contains_filter (may_move I P at) (rotation I P p) x (rotation-each I P p x (flown-within I P p x plan parts.0) parts.0) parts.1))
            | inr stays ↦
                let none : IsPushed I Q p after x → ⊥ = λ pushed.
                let row : row_at P x ≡ flown_row p pushed.dep = sym same ∙ pushed.flown in
                let by : flies P p x ≡ true = ap (is_flown_by p) row ∙ eq-eqb p p refl in
                let late : at ≤ dep Q x = pushed-late I P p at x after flights plan.legs gone from pushed in
                let no_sooner : ltb (dep P x) at ≡ false = le-ltb (dep P x) at (subst (λ (r : Row). at ≤ departure r) same late) in
                let moves : may_move I P at x ≡ true = and_from (not (fixed I x)) (not (ltb (dep P x) at)) (ap not pushed.movable) (ap not no_sooner) in
                true≢false (sym (and_from (flies P p x) (may_move I P at x) by moves) ∙ stays) in
                inl (sym (made ∙ after_push-others I Q p after x none ∙ same))
          ]
    ]

-- ---- nobody is on a leg that is cancelled

module _ (I : Situation) (P : PlanRows) (feasible : least I P ≡ None) (x : ℕ) (gone : row_at P x ≡ Cancelled) where
  cancelled-flown : (u d : ℕ) → Cancelled ≡ Flown (record { 0 = u }) (record { 0 = d }) → ⊥
  cancelled-flown u d same = true≢false (sym (eq-eqb u u refl) ∙ sym (ap (is_flown_by u) same))

  not-flown : (y : ℕ) → IsFlown P y → eqb y x ≡ false
  not-flown y flown = false_from_ne_true (eqb y x) (λ same.
      let here : row_at P x ≡ row_at P y = ap (row_at P) (sym (eqb-true y x same)) in
      cancelled-flown flown.plane flown.dep (sym gone ∙ here ∙ flown.flown))

  nobody : (r : ℕ) → r < reservations_of I → uses P x r ≡ false
  nobody r lt =
      list_any_none (has_leg x) (groups_at P r) (λ k d within.
      let group = get_or (groups_at P r) k d in
      list_any_none (λ (pair : Leg × Cabin). eqb pair.0.0 x) group.path (λ i e short.
      let full : group.path ≡ [] → ⊥ = λ none. (let long : length group.path ≡ 0 = ap length none in omega (arith, long, short)) in
      let there : TakesThere I P r group.path = (feasible-holds I P feasible).c13 r lt k d within full in
      not-flown (get_or group.path i e).0.0 (there.flown i e short)))

  pub none-paid : paid_on I P x ≡ 0
  none-paid =
      sum_same (λ r. cond (uses P x r) (reservation_cost I P r) 0) (λ r. 0) (reservations_of I) (λ r lt. ap (λ (b : Bool). cond b (reservation_cost I P r) 0) (nobody r lt))
      ∙ none-sum (reservations_of I)
    where
      none-sum : (n : ℕ) → sum_by (λ y. 0) (numbers n) ≡ 0
      none-sum zero = refl
      none-sum (suc n) =
          let rest = none-sum n in
          omega (arith, sum_by_push (λ y. 0) (numbers n) n, rest)

pub none-paid-all : (I : Situation) (P : PlanRows) (legs : List ℕ) → least I P ≡ None → All (λ x. row_at P x ≡ Cancelled) legs → sum_by (paid_on I P) legs ≡ 0
none-paid-all I P [] feasible gone = refl
none-paid-all I P (x ∷ legs) feasible gone =
    let one = none-paid I P feasible x (All-head (λ (y : ℕ). row_at P y ≡ Cancelled) x legs gone) in
    let rest = none-paid-all I P legs feasible (All-tail (λ (y : ℕ). row_at P y ≡ Cancelled) x legs gone) in
    omega (arith, one, rest, sum_by-cons (paid_on I P) x legs)
