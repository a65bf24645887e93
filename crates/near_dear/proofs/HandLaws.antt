-- Which legs keep their rows, and how many aircraft are at hand once two have exchanged legs.
use Rattle.std.proofs.Common.{◌≡◌, ◌≢◌, ℕ, ◌+◌, ◌-◌, ◌<◌, ◌⊎◌, inl, inr, Bool, true, false, ◌&&◌, cond, eqb, List, [], ◌∷◌, ◌++◌, refl, sym, ap, subst, ◌∙◌, arith}
use Rattle.std.specs.Prelude.{None, sum_by}
use Rattle.std.specs.List.{list_all}
use Rattle.std.proofs.Math.Path.{fun_ext}
use Rattle.std.proofs.lemmas.Bool.{cases_Bool, cases_eq, eq-eqb, ne_eqb, eqb-true, and_parts, and_from}
use Rattle.std.proofs.lemmas.List.Elements.{Contains-append_left, Contains-append_right}
use Rattle.plan_moves.specs.declared.moves.Move.{Move}
use Rattle.plan_moves.specs.declared.moves.Step.{Step}
use Rattle.plan_moves.specs.declared.moves.Step.TheVariants.{Set, Push, Swap, Rebook, Tidy, Refill}
use Rattle.desk_units.specs.declared.tariff.Term.TheVariants as term
use Rattle.tariff_prices.specs.Prices.{position_price}
use Rattle.desk_data.specs.declared.info.PositionInfo.{PositionInfo}
use Rattle.desk_data.specs.declared.row.Row.{Row}
use Rattle.desk_data.specs.declared.row.Row.TheVariants.{Flown, Cancelled}
use Rattle.desk_data.specs.Situation.{Situation, planes_of, plane_at}
use Rattle.desk_data.specs.PlanRows.{PlanRows, row_at}
use Rattle.desk_data.specs.Valid.{IsPlanFor}
use Rattle.desk_rules.specs.Least.{least}
use Rattle.desk_rules.specs.Maintenance.{is_flown_by}
use Rattle.desk_rules.specs.Cost.{weight, rows_of, by_item, at_hand, missing_aircraft, position_cost, is_wanted}
use Rattle.desk_model.specs.Push.{rotation}
use Rattle.desk_model.proofs.RotationOrder.{rotation-each}
use Rattle.step_laws.proofs.SumLaws.{one_if, filter_change}
use Rattle.near_moves.proofs.FromLaws.{or_cases}
use Rattle.near_moves.specs.Chains.{stand}
use Rattle.near_moves.proofs.ChainLaws.{KeepsC5}
use Rattle.near_moves.specs.Same.{FliesSame, is_of, AgreeOn}
use Rattle.near_moves.specs.Steps.{is_among}
use Rattle.near_moves.specs.Room.{HaveSameRoom, AreMadeAlike}
use Rattle.near_moves.proofs.FrameLaws.{steps-alike, start-alike}
use Rattle.near_priced.specs.Unpaid.{is_either}
use Rattle.near_draft.specs.Drafts.{AreAllChanged}
use Rattle.near_priced.specs.Tables.{is_hand}
use Rattle.near_priced.proofs.EndLaws.{ends-same}
use Rattle.near_dear.specs.Exchanged.{stand_then, serves, hand_then, positions_then}
use Rattle.near_dear.specs.Moves.{pushes_either, first_steps, IsExchange, IsInTime, exchanged}
use Rattle.near_dear.proofs.StandLaws.{first-stands, second-stands}
use Rattle.near_dear.proofs.ExchangeEndLaws.{serves-is}
use Rattle.near_dear.proofs.DropEndLaws.{room-itself}
use Rattle.near_dear.proofs.FlownLaws.{flown-within}

-- ---- the steps of two aircraft change rows of their legs alone

module _ (P : PlanRows) (p q : ℕ) where
  abbrev pub legs : ℕ → Bool
  legs y = is_of (is_either p q) (row_at P y)

  start-own : AgreeOn (is_either p q) legs P P
  start-own = record {
    many = refl;
    same = λ y here. refl;
    own = λ y here. inl here;
    before = λ y off. off;
    now = λ y off. off;
  }

pushes-among : (legs : ℕ → Bool) (p q : ℕ) (pushes : List Step) → list_all (pushes_either p q) pushes ≡ true → list_all (is_among (is_either p q) legs) pushes ≡ true
pushes-among legs p q [] all = refl
pushes-among legs p q (Set leg was new ∷ pushes) all = absurd cc
pushes-among legs p q (Push plane after ∷ pushes) all =
    let parts = and_parts (is_either p q plane.0) (list_all (pushes_either p q) pushes) all in
    and_from (is_either p q plane.0) (list_all (is_among (is_either p q) legs) pushes) parts.0 (pushes-among legs p q pushes parts.1)
pushes-among legs p q (Swap first second at ∷ pushes) all = absurd cc
pushes-among legs p q (Rebook res path to count ∷ pushes) all = absurd cc
pushes-among legs p q (Tidy ∷ pushes) all = absurd cc
pushes-among legs p q (Refill leg ∷ pushes) all = absurd cc

pub either-first : (p q : ℕ) → is_either p q p ≡ true
either-first p q = rw (eq-eqb p p refl) refl

pub either-second : (p q : ℕ) → is_either p q q ≡ true
either-second p q =
    elim (cases_Bool (eqb q p)) [
      | inl same ↦ rw same refl
      | inr other ↦ rw (other, eq-eqb q q refl) refl
    ]

pub made-alike : (I : Situation) (P : PlanRows) (p q at : ℕ) (pushes : List Step) → list_all (pushes_either p q) pushes ≡ true → AreMadeAlike (is_either p q) (legs P p q) P P (exchanged I P p q at pushes) (exchanged I P p q at pushes)
made-alike I P p q at pushes all =
    let own = legs P p q in
    let room : HaveSameRoom own I P P = record {
      departures = λ x h here. room-itself _ _ _;
      arrivals = λ x h here. room-itself _ _ _;
    } in
    let among : list_all (is_among (is_either p q) own) (first_steps p q at pushes) ≡ true =
    and_from (is_either p q p && is_either p q q) (list_all (is_among (is_either p q) own) pushes)
    (and_from (is_either p q p) (is_either p q q) (either-first p q) (either-second p q))
    (pushes-among own p q pushes all) in
    steps-alike (is_either p q) own I P P P P (first_steps p q at pushes) room among (start-alike (is_either p q) own P P (start-own P p q))

pub of-cases : (p q : ℕ) (row : Row) → is_of (is_either p q) row ≡ true → (is_flown_by p row ≡ true) ⊎ (is_flown_by q row ≡ true)
of-cases p q (Flown n d) on = or_cases (eqb n.0 p) (eqb n.0 q) on
of-cases p q Cancelled on = absurd cc

-- each leg keeps its row or is one of theirs
pub all-changed : (I : Situation) (P : PlanRows) (p q at : ℕ) (pushes : List Step) → list_all (pushes_either p q) pushes ≡ true → IsPlanFor I P → AreAllChanged P (exchanged I P p q at pushes) (rotation I P p ++ rotation I P q)
all-changed I P p q at pushes all plan x =
    elim (cases_Bool (legs P p q x)) [
      | inr off ↦ inl (sym ((made-alike I P p q at pushes all).first x off))
      | inl here ↦ elim (of-cases p q (row_at P x) here) [
        | inl one ↦ inr (Contains-append_left (rotation I P p) (rotation I P q) x (rotation-each I P p x (flown-within I P p x plan one) one))
        | inr two ↦ inr (Contains-append_right (rotation I P p) (rotation I P q) x (rotation-each I P q x (flown-within I P q x plan two) two))
      ]
    ]

-- ---- the others fly what they did

not-of : (p q u : ℕ) (row : Row) → u ≢ p → u ≢ q → is_of (is_either p q) row ≡ true → is_flown_by u row ≡ false
not-of p q u (Flown n d) one two on =
    elim (cases_eq n.0 u) [
      | inr other ↦ ne_eqb n.0 u other
      | inl same ↦ elim (or_cases (eqb n.0 p) (eqb n.0 q) on) [
        | inl first ↦ absurd (one (sym same ∙ eqb-true n.0 p first))
        | inr second ↦ absurd (two (sym same ∙ eqb-true n.0 q second))
      ]
    ]
not-of p q u Cancelled one two on = refl

not-own : (p q u : ℕ) (row : Row) → u ≢ p → u ≢ q → (is_of (is_either p q) row ≡ true) ⊎ (row ≡ Cancelled) → is_flown_by u row ≡ false
not-own p q u row one two (inl on) = not-of p q u row one two on
not-own p q u row one two (inr gone) = ap (is_flown_by u) gone

pub others-fly : (I : Situation) (P : PlanRows) (p q at : ℕ) (pushes : List Step) → list_all (pushes_either p q) pushes ≡ true → (u : ℕ) → u ≢ p → u ≢ q → FliesSame (exchanged I P p q at pushes) P u
others-fly I P p q at pushes all u one two x =
    let alike = made-alike I P p q at pushes all in
    elim (cases_Bool (legs P p q x)) [
      | inr off ↦ inl (alike.first x off)
      | inl here ↦ inr (not-own p q u (row_at (exchanged I P p q at pushes) x) one two (alike.agree.own x here), not-of p q u (row_at P x) one two here)
    ]

-- ---- how many are at hand

module _ (I : Situation) (P : PlanRows) (m : Move) (p q at : ℕ) (pushes others : List Step) (is : IsExchange I m p q at pushes others) (feasible : least I P ≡ None) (will : KeepsC5 I (exchanged I P p q at pushes)) (first_lt : p < planes_of I) (second_lt : q < planes_of I) (time_p : IsInTime I P p) (time_q : IsInTime I P q) (then_p : IsInTime I (exchanged I P p q at pushes) p) (then_q : IsInTime I (exchanged I P p q at pushes) q) where
  abbrev Q : PlanRows
  Q = exchanged I P p q at pushes

  module _ (position : PositionInfo) where
    abbrev f : ℕ → Bool
    f = is_hand I Q position

    abbrev g : ℕ → Bool
    g = is_hand I P position

    -- the test of the plan that is made, at the first aircraft alone
    abbrev mid : ℕ → Bool
    mid y = cond (eqb y p) (f y) (g y)

    mid-at : mid p ≡ f p
    mid-at = rw (eq-eqb p p refl) refl

    mid-off : (y : ℕ) → y ≢ p → mid y ≡ g y
    mid-off y apart = rw (ne_eqb y p apart) refl

    stays : (u : ℕ) → u ≢ p → u ≢ q → f u ≡ g u
    stays u one two = ap (λ (e : Bool). is_wanted position (plane_at I u) && e) (ends-same I P Q u position.airport.0 (others-fly I P p q at pushes is.pushed u one two))

    here : (u : ℕ) → u ≢ q → f u ≡ mid u
    here u off =
        elim (cases_eq u p) [
          | inl same ↦ subst (λ (k : ℕ). f k ≡ mid k) (sym same) (sym mid-at)
          | inr off_p ↦ stays u off_p off ∙ sym (mid-off u off_p)
        ]

    was_p : one_if (g p) ≡ serves I p (stand I P p) position
    was_p = serves-is I P p time_p is.air position

    was_q : one_if (g q) ≡ serves I q (stand I P q) position
    was_q = serves-is I P q time_q is.other_air position

    is_p : one_if (f p) ≡ serves I p (stand_then I P p q at) position
    is_p = serves-is I Q p then_p is.air position ∙ ap (λ (a : ℕ). serves I p a position) (first-stands I P m p q at pushes others is feasible will)

    is_q : one_if (f q) ≡ serves I q (stand_then I P q p at) position
    is_q = serves-is I Q q then_q is.other_air position ∙ ap (λ (a : ℕ). serves I q a position) (second-stands I P m p q at pushes others is feasible will)

    both : at_hand I Q position + (serves I p (stand I P p) position + serves I q (stand I P q) position) ≡ at_hand I P position + (serves I p (stand_then I P p q at) position + serves I q (stand_then I P q p at) position)
    both =
        omega (
          arith,
          filter_change mid g (planes_of I) p first_lt mid-off,
          filter_change f mid (planes_of I) q second_lt here,
          ap one_if mid-at,
          ap one_if (mid-off q (λ e. is.other (sym e))),
          was_p,
          was_q,
          is_p,
          is_q,
        )

    pub hand-then : at_hand I Q position ≡ hand_then I P p q at position
    hand-then = omega (arith, both)

  abbrev amount : PositionInfo → ℕ
  amount position = by_item (weight I term.Position) (position_price (rows_of I)) (position.count - hand_then I P p q at position)

  missing-is : (position : PositionInfo) → missing_aircraft I Q position ≡ amount position
  unfolding missing_aircraft
  missing-is position = ap (λ (n : ℕ). by_item (weight I term.Position) (position_price (rows_of I)) (position.count - n)) (hand-then position)

  pub positions-then : position_cost I Q ≡ positions_then I P p q at
  unfolding position_cost
  positions-then = ap (λ (f : PositionInfo → ℕ). sum_by f I.parts.positions) (fun_ext missing-is)
