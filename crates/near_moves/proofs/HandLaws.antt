-- Runs that are handed on in vain.
use Rattle.std.proofs.Common.{◌≡◌, ℕ, zero, suc, ◌+◌, ◌<◌, ◌≤◌, ◌⊎◌, inl, inr, Bool, true, false, ◌||◌, eqb, List, [], ◌∷◌, ◌++◌, length, take, drop, refl, sym, ap, subst, ◌∙◌, arith}
use Rattle.std.specs.Prelude.{None, filter, map}
use Rattle.std.specs.List.{All, AllPairs, Contains, list_all}
use Rattle.std.proofs.lemmas.Bool.{cases_Bool, cases_eq, cases_lt, eq-eqb, eqb-true, ne_eqb}
use Rattle.std.proofs.lemmas.List.{get_or_past, take-append-drop}
use Rattle.std.proofs.lemmas.List.Elements.{All-contains, All-head, All-map, All-filter, All-nil, All-cons, filter-append, Contains-append_left, Contains-append_right, Contains-append_cases}
use Rattle.desk_data.specs.declared.row.Row.TheVariants.{Cancelled}
use Rattle.desk_data.specs.Situation.{Situation, legs_of, plane_at}
use Rattle.desk_data.specs.PlanRows.{PlanRows, row_at}
use Rattle.plan_moves.specs.declared.moves.Move.{Move}
use Rattle.plan_moves.specs.declared.moves.Step.{Step}
use Rattle.plan_moves.specs.declared.moves.Step.TheVariants.{Push, Tidy}
use Rattle.desk_rules.specs.Rotations.{dep, precedes}
use Rattle.desk_rules.specs.Maintenance.{flies, is_flown_by}
use Rattle.desk_rules.specs.Words.{Flies, Precedes}
use Rattle.desk_rules.proofs.RotationLaws.{precedes-holds, precedes-from}
use Rattle.desk_rules.proofs.MaintenanceLaws.{flies-holds, flies-from}
use Rattle.desk_rules.proofs.LeastLaws.{feasible-holds}
use Rattle.desk_model.specs.Push.{rotation, after_push}
use Rattle.desk_model.specs.Tidy.{after_tidy}
use Rattle.desk_model.specs.Steps.{after_set, after_step, after_steps}
use Rattle.desk_data.proofs.PathOrder.{pairs_head}
use Rattle.desk_model.proofs.SetLaws.{after_set-sets}
use Rattle.desk_model.proofs.RotationOrder.{flown_once, precedes-trans, precedes-itself, pairs_across, pairs_after, rotation-ordered, rotation-each}
use Rattle.step_laws.proofs.PushedLaws.{pushed-flies}
use Rattle.near_moves.specs.MoveParts.{plane, flier, flown_row, legs_from, run}
use Rattle.near_moves.specs.LegMoves.{handing_step, handing}
use Rattle.near_moves.specs.Units.{handed}
use Rattle.near_moves.specs.Near.{move_of, step_in_time, unit_steps, unit_moves}
use Rattle.near_moves.specs.Descent.{is_better}
use Rattle.near_moves.proofs.ListLaws.{contains_cases, contains_head, contains_tail, contains_none}
use Rattle.near_moves.proofs.FromLaws.{or_cases, or_right, or_left}
use Rattle.near_moves.specs.Chains.{from_airport, to_airport, is_same, tally, led, stand, run_leads_to, IsHandedInVain}
use Rattle.near_moves.proofs.TallyLaws.{AreApart, AreAmong, place, tally-append, tally-same}
use Rattle.near_moves.proofs.KeptLaws.{steps-append, broken-worse}
use Rattle.near_moves.proofs.ChainLaws.{IsChain, KeepsC5, chain-tally, chain-front, chain-back, led-append, rotation-apart, in-rotation, rotation-chain}

-- ---- lists

in_or_not : (z : ℕ) (xs : List ℕ) → Contains xs z ⊎ (Contains xs z → ⊥)
in_or_not z [] = inr (contains_none z)
in_or_not z (x ∷ xs) =
    elim (cases_eq x z) [
      | inl same ↦ inl (subst (Contains (x ∷ xs)) same (contains_head x xs))
      | inr other ↦ elim (in_or_not z xs) [
        | inl more ↦ inl (contains_tail x z xs more)
        | inr none ↦ inr (λ has. elim (contains_cases x z xs has) [
          | inl same ↦ other same
          | inr more ↦ none more
        ])
      ]
    ]

apart-two : (z : ℕ) (xs ys : List ℕ) → AreApart (xs ++ ys) → Contains xs z → Contains ys z → ⊥
apart-two z [] ys apart first second = contains_none z first
apart-two z (x ∷ xs) ys apart first second =
    elim (contains_cases x z xs first) [
      | inl same ↦ apart.0 (Contains-append_right xs ys x (subst (Contains ys) (sym same) second))
      | inr more ↦ apart-two z xs ys apart.1 more second
    ]

apart-back : (xs ys : List ℕ) → AreApart (xs ++ ys) → AreApart ys
apart-back [] ys apart = apart
apart-back (x ∷ xs) ys apart = apart-back xs ys apart.1

in-skip : (z : ℕ) (xs ys zs : List ℕ) → Contains (xs ++ zs) z → Contains (xs ++ (ys ++ zs)) z
in-skip z xs ys zs has =
    elim (Contains-append_cases xs zs z has) [
      | inl first ↦ Contains-append_left xs (ys ++ zs) z first
      | inr last ↦ Contains-append_right xs (ys ++ zs) z (Contains-append_right ys zs z last)
    ]

apart-skip : (xs ys zs : List ℕ) → AreApart (xs ++ (ys ++ zs)) → AreApart (xs ++ zs)
apart-skip [] ys zs apart = apart-back ys zs apart
apart-skip (x ∷ xs) ys zs apart = ((λ has. apart.0 (in-skip x xs ys zs has)), apart-skip xs ys zs apart.1)

pub apart-join : (xs ys : List ℕ) → AreApart xs → AreApart ys → ((z : ℕ) → Contains xs z → Contains ys z → ⊥) → AreApart (xs ++ ys)
apart-join [] ys first second never = second
apart-join (x ∷ xs) ys first second never = (
  (λ has. elim (Contains-append_cases xs ys x has) [
    | inl own ↦ first.0 own
    | inr other ↦ never x (contains_head x xs) other
  ]),
  apart-join xs ys first.1 second (λ z own other. never z (contains_tail x z xs own) other),
)

pub drop_all : (t : ℕ → Bool) (xs : List ℕ) → ((z : ℕ) → Contains xs z → t z ≡ false) → filter t xs ≡ []
drop_all t [] none = refl
drop_all t (x ∷ xs) none = rw (none x (contains_head x xs)) (drop_all t xs (λ z has. none z (contains_tail x z xs has)))

pub keep_all : (t : ℕ → Bool) (xs : List ℕ) → ((z : ℕ) → Contains xs z → t z ≡ true) → filter t xs ≡ xs
keep_all t [] all = refl
keep_all t (x ∷ xs) all = rw (all x (contains_head x xs)) (ap (λ (zs : List ℕ). x ∷ zs) (keep_all t xs (λ z has. all z (contains_tail x z xs has))))

pub same-yes : (a : ℕ) → is_same a a ≡ 1
same-yes a = rw (eq-eqb a a refl) refl

pub same-no : (a b : ℕ) → (a ≡ b → ⊥) → is_same a b ≡ 0
same-no a b other = rw (ne_eqb a b other) refl

-- ---- the legs from a leg on are the last of its aircraft

pub record EndsWith (x : ℕ) (xs ys : List ℕ) : Type 0 where
  pub before : List ℕ
  pub tail : List ℕ
  pub begins : ys ≡ x ∷ tail
  pub is : xs ≡ before ++ ys

pub from-last : (I : Situation) (P : PlanRows) (x p d : ℕ) → x < legs_of I → Flies P x p d → EndsWith x (rotation I P p) (legs_from I P x)
unfolding legs_from
from-last I P x p d within flown =
    let there = flies-from P p x d flown in
    let at = place x (rotation I P p) (rotation-each I P p x within there) in
    let ordered : AllPairs (Precedes P) (at.before ++ x ∷ at.tail) = subst (AllPairs (Precedes P)) at.is (rotation-ordered I P p) in
    let across : All (λ z. All (Precedes P z) (x ∷ at.tail)) at.before = pairs_across (Precedes P) at.before (x ∷ at.tail) ordered in
    let after : All (Precedes P x) at.tail = pairs_head (Precedes P) x at.tail (pairs_after (Precedes P) at.before (x ∷ at.tail) ordered) in
    let test : ℕ → Bool = λ y. (eqb y x) || precedes P x y in
    let none : filter test at.before ≡ [] =
    drop_all test at.before
    (λ z has.
    let less : Precedes P z x = All-head (Precedes P z) x at.tail (All-contains (λ w. All (Precedes P w) (x ∷ at.tail)) at.before z across has) in
    elim (cases_Bool (test z)) [
      | inr fails ↦ fails
      | inl passes ↦ elim (or_cases (eqb z x) (precedes P x z) passes) [
        | inl here ↦ absurd (precedes-itself P x (subst (λ (w : ℕ). Precedes P w x) (eqb-true z x here) less))
        | inr tail ↦ absurd (precedes-itself P z (precedes-trans P z x z less (precedes-holds P x z tail)))
      ]
    ]) in
    let all : filter test (x ∷ at.tail) ≡ x ∷ at.tail =
    keep_all test (x ∷ at.tail)
    (λ z has. elim (contains_cases x z at.tail has) [
      | inl same ↦ or_left (eqb z x) (precedes P x z) (eq-eqb z x (sym same))
      | inr more ↦ or_right (eqb z x) (precedes P x z) (precedes-from P x z (All-contains (Precedes P x) at.tail z after more))
    ]) in
    let p_is : flier (row_at P x) ≡ p = ap flier flown in
    let whole : filter test (rotation I P (flier (row_at P x))) ≡ x ∷ at.tail =
    ap (λ (q : ℕ). filter test (rotation I P q)) p_is ∙ ap (filter test) at.is ∙ filter-append test at.before (x ∷ at.tail)
    ∙ ap (λ (zs : List ℕ). zs ++ filter test (x ∷ at.tail)) none ∙ all in
    record { before = at.before; tail = at.tail; begins = whole; is = at.is ∙ ap (λ (zs : List ℕ). at.before ++ zs) (sym whole) }

-- a run that leads on has a leg
some-of : (I : Situation) (a k : ℕ) (legs : List ℕ) → (led I a (take k legs) ≡ a → ⊥) → 1 ≤ k
some-of I a zero legs on = absurd (on refl)
some-of I a (suc k) legs on = omega arith

chain_first : (I : Situation) (a x k : ℕ) (legs tail : List ℕ) → 1 ≤ k → legs ≡ x ∷ tail → IsChain I a (take k legs) → from_airport I x ≡ a
chain_first I a x zero legs tail some is chain = absurd (omega (arith, some))
chain_first I a x (suc k) legs tail some is chain = (subst (λ (zs : List ℕ). IsChain I a (take (suc k) zs)) is chain).0

-- ---- what becomes of the legs

sets-other : (I : Situation) (P S : PlanRows) (q : ℕ) (ys : List ℕ) (z : ℕ) → (Contains ys z → ⊥) → row_at (after_steps I S (map (handing_step P q) ys)) z ≡ row_at S z
unfolding after_step
sets-other I P S q [] z none = refl
sets-other I P S q (y ∷ ys) z none =
    let T = after_set S y (row_at P y) (flown_row q (dep P y)) in
    sets-other I P T q ys z (λ has. none (contains_tail y z ys has))
    ∙ (after_set-sets S y (row_at P y) (flown_row q (dep P y))).others z (λ same. none (subst (Contains (y ∷ ys)) (sym same) (contains_head y ys)))

flown-within : (P : PlanRows) (p x : ℕ) → flies P p x ≡ true → x < length P.rows
flown-within P p x flown =
    elim (cases_lt x (length P.rows)) [
      | inl within ↦ within
      | inr past ↦ (let none = sym (get_or_past P.rows x Cancelled past) ∙ flies-holds P p x flown in absurd cc)
    ]

sets-own : (I : Situation) (P S : PlanRows) (p q : ℕ) (ys : List ℕ) (z : ℕ) → AreApart ys → ((y : ℕ) → Contains ys y → (row_at S y ≡ row_at P y) × (flies P p y ≡ true)) → Contains ys z → row_at (after_steps I S (map (handing_step P q) ys)) z ≡ flown_row q (dep P z)
unfolding after_step
sets-own I P S p q [] z apart there has = absurd (contains_none z has)
sets-own I P S p q (y ∷ ys) z apart there has =
    let T = after_set S y (row_at P y) (flown_row q (dep P y)) in
    let own = there y (contains_head y ys) in
    let within : y < length S.rows = flown-within S p y (ap (is_flown_by p) own.0 ∙ own.1) in
    let sets = after_set-sets S y (row_at P y) (flown_row q (dep P y)) in
    elim (cases_eq y z) [
      | inl same ↦
          let gone : Contains ys z → ⊥ = λ more. apart.0 (subst (Contains ys) (sym same) more) in
          let here : row_at T y ≡ flown_row q (dep P y) = sets.becomes within own.0 in
          sets-other I P T q ys z gone ∙ subst (λ (w : ℕ). row_at T w ≡ flown_row q (dep P w)) same here
      | inr other ↦
          sets-own I P T p q ys z apart.1
          (λ w more.
          let from = there w (contains_tail y w ys more) in
          (sets.others w (λ same. apart.0 (subst (Contains ys) same more)) ∙ from.0, from.1))
          (elim (contains_cases y z ys has) [
            | inl same ↦ absurd (other same)
            | inr more ↦ more
          ])
    ]

-- the sets alone tell who flies which leg
handed-flies : (I : Situation) (P : PlanRows) (x k q u z : ℕ) → flies (after_steps I P (handing I P x k q)) u z ≡ flies (after_steps I P (map (handing_step P q) (run I P x k))) u z
unfolding after_step after_tidy
handed-flies I P x k q u z =
    let S = after_steps I P (map (handing_step P q) (run I P x k)) in
    let p = flier (row_at P x) in
    ap (λ (T : PlanRows). flies T u z) (steps-append I P (map (handing_step P q) (run I P x k)) (Push (plane q) None ∷ Push (plane p) None ∷ Tidy ∷ []))
    ∙ pushed-flies I (after_push I S q None) p None u z
    ∙ pushed-flies I S q None u z

-- ---- the aircraft that hands them on

module _ (I : Situation) (P : PlanRows) (x k q : ℕ) (h : IsHandedInVain I P x k q) where
  abbrev p : ℕ
  p = h.plane

  abbrev gone : List ℕ
  gone = run I P x k

  abbrev tail : List ℕ
  tail = drop k (legs_from I P x)

  ends : EndsWith x (rotation I P p) (legs_from I P x)
  ends = from-last I P x p h.dep h.leg h.flown

  abbrev Q : PlanRows
  Q = after_steps I P (handing I P x k q)

  parts : rotation I P p ≡ ends.before ++ (gone ++ tail)
  parts = ends.is ∙ ap (λ (zs : List ℕ). ends.before ++ zs) (sym (take-append-drop k (legs_from I P x)))

  all_apart : AreApart (ends.before ++ (gone ++ tail))
  all_apart = subst AreApart parts (rotation-apart I P p)

  run_apart : AreApart (gone ++ tail)
  run_apart = apart-back ends.before (gone ++ tail) all_apart

  front_apart : (xs ys : List ℕ) → AreApart (xs ++ ys) → AreApart xs
  front_apart [] ys apart = tt
  front_apart (z ∷ xs) ys apart = ((λ has. apart.0 (Contains-append_left xs ys z has)), front_apart xs ys apart.1)

  of_run : (z : ℕ) → Contains gone z → (z < legs_of I) × (flies P p z ≡ true)
  of_run z has =
      in-rotation I P p z (subst (λ (zs : List ℕ). Contains zs z) (sym parts) (Contains-append_right ends.before (gone ++ tail) z (Contains-append_left gone tail z has)))

  flies_in : (u z : ℕ) → Contains gone z → flies Q u z ≡ eqb q u
  flies_in u z has =
      handed-flies I P x k q u z
      ∙ ap (is_flown_by u) (sets-own I P P p q gone z (front_apart gone tail run_apart) (λ y there. (refl, (of_run y there).1)) has)

  flies_out : (u z : ℕ) → (Contains gone z → ⊥) → flies Q u z ≡ flies P u z
  flies_out u z none = handed-flies I P x k q u z ∙ ap (is_flown_by u) (sets-other I P P q gone z none)

  -- those that stay
  stays_among : AreAmong (rotation I Q p) (ends.before ++ tail)
  stays_among z has =
      let own = in-rotation I Q p z has in
      elim (in_or_not z gone) [
        | inl there ↦ absurd (h.other (eqb-true q p (sym (flies_in p z there) ∙ own.1)))
        | inr none ↦
            let was = rotation-each I P p z own.0 (sym (flies_out p z none) ∙ own.1) in
            elim (Contains-append_cases ends.before (gone ++ tail) z (subst (λ (zs : List ℕ). Contains zs z) parts was)) [
              | inl first ↦ Contains-append_left ends.before tail z first
              | inr more ↦ elim (Contains-append_cases gone tail z more) [
                | inl there ↦ absurd (none there)
                | inr last ↦ Contains-append_right ends.before tail z last
              ]
            ]
      ]

  stays_not : (z : ℕ) → Contains (ends.before ++ tail) z → Contains gone z → ⊥
  stays_not z has there =
      elim (Contains-append_cases ends.before tail z has) [
        | inl first ↦ apart-two z ends.before (gone ++ tail) all_apart first (Contains-append_left gone tail z there)
        | inr last ↦ apart-two z gone tail run_apart there last
      ]

  among_stays : AreAmong (ends.before ++ tail) (rotation I Q p)
  among_stays z has =
      let own = in-rotation I P p z (subst (λ (zs : List ℕ). Contains zs z) (sym parts) (in-skip z ends.before gone tail has)) in
      rotation-each I Q p z own.0 (flies_out p z (stays_not z has) ∙ own.1)

  stay_tally : (f : ℕ → ℕ) (a : ℕ) → tally f a (rotation I Q p) ≡ tally f a ends.before + tally f a tail
  stay_tally f a =
      tally-same f a (rotation I Q p) (ends.before ++ tail) (rotation-apart I Q p) (apart-skip ends.before gone tail all_apart) stays_among among_stays
      ∙ tally-append f a ends.before tail

  -- those of the other aircraft
  gets_among : AreAmong (rotation I Q q) (rotation I P q ++ gone)
  gets_among z has =
      let own = in-rotation I Q q z has in
      elim (in_or_not z gone) [
        | inl there ↦ Contains-append_right (rotation I P q) gone z there
        | inr none ↦ Contains-append_left (rotation I P q) gone z (rotation-each I P q z own.0 (sym (flies_out q z none) ∙ own.1))
      ]

  gets_not : (z : ℕ) → Contains (rotation I P q) z → Contains gone z → ⊥
  gets_not z has there =
      let own = in-rotation I P q z has in
      h.other (flown_once P z q p (dep P z) (dep P z) (flies-holds P q z own.1) (flies-holds P p z (of_run z there).1))

  among_gets : AreAmong (rotation I P q ++ gone) (rotation I Q q)
  among_gets z has =
      elim (Contains-append_cases (rotation I P q) gone z has) [
        | inl first ↦
            let own = in-rotation I P q z first in
            rotation-each I Q q z own.0 (flies_out q z (gets_not z first) ∙ own.1)
        | inr there ↦ rotation-each I Q q z (of_run z there).0 (flies_in q z there ∙ eq-eqb q q refl)
      ]

  get_tally : (f : ℕ → ℕ) (a : ℕ) → tally f a (rotation I Q q) ≡ tally f a (rotation I P q) + tally f a gone
  get_tally f a =
      tally-same f a (rotation I Q q) (rotation I P q ++ gone) (rotation-apart I Q q)
      (apart-join (rotation I P q) gone (rotation-apart I P q) (front_apart gone tail run_apart) gets_not) gets_among among_gets
      ∙ tally-append f a (rotation I P q) gone

  -- ---- where they lead

  abbrev a0 : ℕ
  a0 = (plane_at I p).origin.0

  abbrev here : ℕ
  here = led I a0 ends.before

  chain : IsChain I a0 (ends.before ++ (gone ++ tail))
  chain = subst (IsChain I a0) parts (rotation-chain I P p (feasible-holds I P h.feasible).c5 h.air)

  first_chain : IsChain I a0 ends.before
  first_chain = chain-front I a0 ends.before (gone ++ tail) chain

  rest_chain : IsChain I here (gone ++ tail)
  rest_chain = chain-back I a0 ends.before (gone ++ tail) chain

  run_chain : IsChain I here gone
  run_chain = chain-front I here gone tail rest_chain

  last_chain : IsChain I (led I here gone) tail
  last_chain = chain-back I here gone tail rest_chain

  abbrev there : ℕ
  there = run_leads_to I P x k

  starts : from_airport I x ≡ here
  starts = chain_first I here x k (legs_from I P x) ends.tail (some-of I (from_airport I x) k (legs_from I P x) h.leads_on) ends.begins run_chain

  led_there : led I here gone ≡ there
  led_there = ap (λ (a : ℕ). led I a gone) (sym starts)

  stands : stand I P p ≡ led I there tail
  stands =
      ap (led I a0) parts ∙ led-append I a0 ends.before (gone ++ tail) ∙ led-append I here gone tail
      ∙ ap (λ (a : ℕ). led I a tail) led_there

  -- p can't fly the legs that are left
  cannot_stay : KeepsC5 I Q → (there ≡ stand I P p → ⊥) → ⊥
  cannot_stay keeps other =
      let first = chain-tally I a0 there ends.before first_chain in
      let last = chain-tally I (led I here gone) there tail last_chain in
      let left = chain-tally I a0 there (rotation I Q p) (rotation-chain I Q p keeps h.air) in
      let from = stay_tally (from_airport I) there in
      let to = stay_tally (to_airport I) there in
      let no_start : is_same here there ≡ 0 = same-no here there (λ same. h.leads_on (sym (starts ∙ same))) in
      let begins : is_same (led I here gone) there ≡ 1 = ap (λ (a : ℕ). is_same a there) led_there ∙ same-yes there in
      let ends_so : led I (led I here gone) tail ≡ stand I P p = ap (λ (a : ℕ). led I a tail) led_there ∙ sym stands in
      let no_end : is_same (led I (led I here gone) tail) there ≡ 0 = ap (λ (a : ℕ). is_same a there) ends_so ∙ same-no (stand I P p) there (λ same. other (sym same)) in
      omega (arith, first, last, left, from, to, no_start, begins, no_end)

  -- q can't fly those that it gets
  cannot_get : KeepsC5 I Q → (from_airport I x ≡ stand I P q → ⊥) → ⊥
  cannot_get keeps other =
      let o = from_airport I x in
      let own = chain-tally I (plane_at I q).origin.0 o (rotation I P q) (rotation-chain I P q (feasible-holds I P h.feasible).c5 h.other_air) in
      let more = chain-tally I here o gone run_chain in
      let all = chain-tally I (plane_at I q).origin.0 o (rotation I Q q) (rotation-chain I Q q keeps h.other_air) in
      let from = get_tally (from_airport I) o in
      let to = get_tally (to_airport I) o in
      let no_end : is_same (stand I P q) o ≡ 0 = same-no (stand I P q) o (λ same. other (sym same)) in
      let no_more : is_same (led I here gone) o ≡ 0 = ap (λ (a : ℕ). is_same a o) led_there ∙ same-no there o h.leads_on in
      let begins : is_same here o ≡ 1 = ap (λ (a : ℕ). is_same a o) (sym starts) ∙ same-yes o in
      omega (arith, own, more, all, from, to, no_end, no_more, begins)

  cannot : KeepsC5 I Q → ⊥
  cannot keeps = elim h.elsewhere [
    | inl other ↦ cannot_stay keeps other
    | inr other ↦ cannot_get keeps other
  ]

pub handed_in_vain : (I : Situation) (P : PlanRows) (x k q : ℕ) → IsHandedInVain I P x k q → is_better I P (move_of (handing I P x k q)) ≡ false
handed_in_vain I P x k q h =
    broken-worse I P (move_of (handing I P x k q)) (handing I P x k q) refl
    (λ feasible. cannot I P x k q h (feasible-holds I (after_steps I P (handing I P x k q)) feasible).c5)

abbrev IsWorse : Situation → PlanRows → List Step → Type 0
IsWorse I P steps = is_better I P (move_of steps) ≡ false

pub handed_unit_in_vain : (I : Situation) (P : PlanRows) (x k q : ℕ) → IsHandedInVain I P x k q → All (λ (m : Move). is_better I P m ≡ false) (unit_moves I P (handed x k q))
unfolding unit_moves unit_steps
handed_unit_in_vain I P x k q h =
    let steps : List (List Step) = handing I P x k q ∷ [] in
    All-map (λ (m : Move). is_better I P m ≡ false) move_of (filter (list_all step_in_time) steps)
    (All-filter (list_all step_in_time) (IsWorse I P) steps (All-cons (IsWorse I P) (handing I P x k q) [] (handed_in_vain I P x k q h) (All-nil (IsWorse I P))))
