-- Why a move is not better, whichever unit of legs it is of.
use Rattle.std.proofs.Common.{◌≡◌, ℕ, ◌≤◌, inl, inr, Bool, true, false, ◌||◌, eqb, List, [], ◌∷◌, ◌++◌, refl, sym, ap, subst, ◌∙◌}
use Rattle.std.specs.Prelude.{None}
use Rattle.std.specs.List.{All, Contains, list_all}
use Rattle.std.proofs.lemmas.Bool.{true≢false, and_parts, eq-eqb, eqb-true}
use Rattle.std.proofs.lemmas.List.Elements.{All-cons, All-contains, Contains-append_cases}
use Rattle.desk_data.specs.declared.row.Row.{Row}
use Rattle.desk_data.specs.declared.row.Row.TheVariants.{Flown, Cancelled}
use Rattle.desk_data.specs.Situation.{Situation}
use Rattle.desk_data.specs.PlanRows.{PlanRows, row_at}
use Rattle.desk_data.specs.Valid.{IsPlanFor, IsValid}
use Rattle.plan_moves.specs.declared.moves.Move.{Move}
use Rattle.plan_moves.specs.declared.moves.Step.{Step}
use Rattle.plan_moves.specs.declared.moves.Step.TheVariants.{Set, Push, Swap, Tidy}
use Rattle.plan_moves.specs.Fits.{Fits}
use Rattle.desk_rules.specs.Cost.{cost}
use Rattle.desk_rules.specs.Least.{least}
use Rattle.desk_rules.specs.Maintenance.{is_flown_by, flies}
use Rattle.desk_rules.proofs.CarriageLaws.{list_all-holds}
use Rattle.desk_model.specs.Steps.{after_steps, after_move}
use Rattle.near_moves.specs.Descent.{is_better}
use Rattle.near_moves.specs.LegMoves.{exchange}
use Rattle.near_moves.specs.MoveParts.{leg, plane, minute, flown_row}
use Rattle.near_moves.specs.Near.{unit_moves}
use Rattle.near_moves.specs.Units.{MoveUnit}
use Rattle.near_moves.proofs.FromLaws.{or_cases}
use Rattle.near_moves.proofs.ListLaws.{All_from_contains, contains_head}
use Rattle.near_moves.specs.Chains.{keeps_aircraft, IsRestoredInVain, IsSwappedInVain}
use Rattle.near_moves.proofs.KeptLaws.{steps-append}
use Rattle.near_moves.proofs.RestoreLaws.{restored_in_vain}
use Rattle.near_moves.proofs.SwapLaws.{swapped_in_vain}
use Rattle.near_moves.specs.RowRules.{keeps_rows}
use Rattle.near_moves.proofs.RowLaws.{steps-rows}
use Rattle.near_draft.specs.Drafts.{Drafted, IsDraftOf, plan_of}
use Rattle.near_draft.specs.LegRules.{BreaksOf, BreaksPushed, keeps_leg_rules}
use Rattle.near_legs.specs.Choices.{IsLegUnit, unit_of}
use Rattle.near_legs.specs.declared.unit.LegUnit.{LegUnit}
use Rattle.near_legs.specs.declared.unit.LegUnit.TheVariants.{Retimed, Swapped, Dropped, Restored, Handed}
use Rattle.near_moves.specs.Own.{BreaksOwn, keeps_own_rules}
use Rattle.near_moves.specs.Out.{HandsInVain, IsOut, dear}
use Rattle.near_moves.specs.Same.{FliesSame, is_of}
use Rattle.near_moves.specs.Steps.{BeginsFlown, IsSplit, is_among, is_tidying, unit_legs, unit_planes, unit_refills}
use Rattle.near_moves.proofs.OutLaws.{unit-worse}
use Rattle.near_moves.proofs.OwnLaws.{breaks-worse}
use Rattle.near_moves.proofs.RuleLaws.{c2-same, c4-same, c5-same, c6-same, c7-same}
use Rattle.near_moves.proofs.SplitLaws.{moves-split}
use Rattle.near_dear.specs.Dear.{IsDearExchange}
use Rattle.near_dear.proofs.TimeLaws.{exchange-out, exchange-worse}
use Rattle.near_notes.specs.Notes.{IsOutByRows, IsUnitOut, IsUnitOutByRows, breaks_rule, swaps_in_vain, restores_in_vain, hands_in_vain}
use Rattle.near_notes.proofs.OutLaws.{move-out}
use Rattle.near_search.specs.declared.verdict.Verdict.{Verdict}
use Rattle.near_search.specs.Out.{AreMovesOut, AreMovesOutByRows, IsMoveOut, IsMoveOutByRows, IsRuledOut, IsRuledOutByRows, IsVerdict}
use Rattle.near_search.proofs.FirstLaws.{dearer-ruled_out}

-- ---- steps of a unit's own legs

tests-all : (test : Step → Bool) (steps : List Step) (s : Step) → list_all test steps ≡ true → Contains steps s → test s ≡ true
tests-all test steps s all has = All-contains (λ (t : Step). test t ≡ true) steps s (list_all-holds test (λ (t : Step). test t ≡ true) (λ t is. is) steps all) has

-- a step that is no Tidy and no Refill changes rows of a unit's own legs
own-step : (planes legs refilled : ℕ → Bool) (m : Move) (s : Step) → IsSplit planes legs refilled m → is_tidying refilled s ≡ false → Contains m.steps s → is_among planes legs s ≡ true
own-step planes legs refilled m s split other has =
    elim (Contains-append_cases split.first split.others s (subst (λ (steps : List Step). Contains steps s) split.steps has)) [
      | inl first ↦ tests-all (is_among planes legs) split.first s split.among first
      | inr after ↦ absurd (true≢false (sym (tests-all (is_tidying refilled) split.others s split.tidying after) ∙ other))
    ]

contains-first : (s : Step) (steps all : List Step) → all ≡ s ∷ steps → Contains all s
contains-first s steps all is = subst (λ (xs : List Step). Contains xs s) (sym is) (contains_head s steps)

-- ---- the reasons

pub dear-out : (I : Situation) (P : PlanRows) (m : Move) → cost I P ≤ cost I (after_move I P m) → IsRuledOut I P m
dear-out I P m less = record { worse = dearer-ruled_out I P m less; out = λ u begins has. dear less }

pub swaps-out : (I : Situation) (P : PlanRows) (m : Move) (p q at : ℕ) (others : List Step) → m.steps ≡ Swap (plane p) (plane q) (minute at) ∷ others → list_all keeps_aircraft others ≡ true → IsSwappedInVain I P p q at → IsRuledOutByRows I P m
swaps-out I P m p q at others is keeps vain = record {
  worse = swapped_in_vain I P m p q at others is keeps vain;
  out = λ u begins has.
      let split = moves-split I P u m begins has in
      let s = Swap (plane p) (plane q) (minute at) in
      let own = own-step (unit_planes P u) (unit_legs I P u) (unit_refills I P u) m s split refl (contains-first s others m.steps is) in
      let both = and_parts (unit_planes P u p) (unit_planes P u q) own in
      swaps_in_vain (record { first = p; second = q; at = at; others = others; steps = is; keeps = keeps; own = both.0; other_own = both.1; vain = vain });
}

-- two aircraft exchange their legs, and that is dear
pub exchanges-out : (I : Situation) (P : PlanRows) (m : Move) (p q at : ℕ) → IsValid I → IsPlanFor I P → least I P ≡ None → Fits I m → m.steps ≡ exchange p q at → IsDearExchange I P p q at → IsRuledOut I P m
exchanges-out I P m p q at valid plan feasible fits is known = record {
  worse = exchange-worse I P m p q at valid plan feasible fits is known;
  out = λ u begins has.
      let split = moves-split I P u m begins has in
      let s = Swap (plane p) (plane q) (minute at) in
      let own = own-step (unit_planes P u) (unit_legs I P u) (unit_refills I P u) m s split refl (contains-first s (Push (plane p) None ∷ Push (plane q) None ∷ Tidy ∷ []) m.steps is) in
      let both = and_parts (unit_planes P u p) (unit_planes P u q) own in
      exchange-out I P m u p q at valid plan feasible fits is known both.0 both.1;
}

pub restores-out : (I : Situation) (P : PlanRows) (m : Move) (x p at : ℕ) (others : List Step) → m.steps ≡ Set (leg x) Cancelled (flown_row p at) ∷ others → list_all keeps_aircraft others ≡ true → IsRestoredInVain I P x p → IsRuledOutByRows I P m
restores-out I P m x p at others is keeps vain = record {
  worse = restored_in_vain I P m x p at others is keeps vain;
  out = λ u begins has.
      let split = moves-split I P u m begins has in
      let s = Set (leg x) Cancelled (flown_row p at) in
      let own = own-step (unit_planes P u) (unit_legs I P u) (unit_refills I P u) m s split refl (contains-first s others m.steps is) in
      let both = and_parts (unit_legs I P u x) (is_of (unit_planes P u) (flown_row p at) || false) own in
      let by : unit_planes P u p ≡ true = elim (or_cases (unit_planes P u p) false both.1) [
        | inl here ↦ here
        | inr none ↦ absurd (true≢false (sym none))
      ] in
      restores_in_vain (record { leg = x; plane = p; at = at; others = others; steps = is; keeps = keeps; own = by; own_leg = both.0; vain = vain });
}

-- ---- a draft that breaks a rule of a leg of an aircraft that is pushed

of-flier : (planes : ℕ → Bool) (p : ℕ) (row : Row) → planes p ≡ true → is_flown_by p row ≡ true → is_of planes row ≡ true
of-flier planes p (Flown plane dep) own by = ap planes (eqb-true plane.0 p by) ∙ own
of-flier planes p Cancelled own by = absurd cc

rows-rules : (I : Situation) (F G : PlanRows) (p y : ℕ) → F.rows ≡ G.rows → flies F p y ≡ true → keeps_leg_rules I F y ≡ keeps_own_rules I G y
rows-rules I F G p y is on =
    let same : FliesSame F G p = λ x. inl (ap (λ (rows : List Row). row_at (record { rows = rows; groups = [] }) x) is) in
    rw (c5-same I F G p same y on, c6-same I F G p same y on, c2-same I F G p same y on, c4-same I F G p same y on, c7-same I F G p same y on) refl

made-rows : (I : Situation) (P : PlanRows) (m : Move) (first others : List Step) → m.steps ≡ first ++ others → list_all keeps_rows others ≡ true → (after_move I P m).rows ≡ (after_steps I P first).rows
unfolding after_move
made-rows I P m first others is keeps =
    ap (λ (steps : List Step). (after_steps I P steps).rows) is
    ∙ ap (λ (R : PlanRows). R.rows) (steps-append I P first others)
    ∙ steps-rows I (after_steps I P first) others keeps

-- so a leg of some aircraft breaks a rule once the move is made, if that aircraft is one of them
breaks-own : (planes : ℕ → Bool) (I : Situation) (P : PlanRows) (m : Move) (D : Drafted) → IsDraftOf I P m D → (p : ℕ) → planes p ≡ true → BreaksOf D.inst (plan_of D) p → BreaksOwn planes I P m
breaks-own planes I P m D is p own broken =
    let F = after_move I P m in
    let G = after_steps I P is.first in
    let here : BreaksOf I G p = subst (λ (K : Situation). BreaksOf K G p) is.day (subst (λ (R : PlanRows). BreaksOf D.inst R p) is.made broken) in
    let rows : F.rows ≡ G.rows = made-rows I P m is.first is.others is.steps is.keeps in
    let x = here.leg in
    let row : row_at F x ≡ row_at G x = ap (λ (all : List Row). row_at (record { rows = all; groups = [] }) x) rows in
    record {
      leg = x;
      within = here.within;
      own = ap (is_of planes) row ∙ of-flier planes p (row_at G x) own here.flown;
      broken = sym (rows-rules I G F p x (sym rows) here.flown) ∙ here.broken;
    }

pub breaks-out : (I : Situation) (P : PlanRows) (m : Move) (D : Drafted) → IsDraftOf I P m D → BreaksPushed D.inst (plan_of D) m.steps → IsRuledOutByRows I P m
breaks-out I P m D is pushed =
    let p = pushed.plane.0 in
    let this : ℕ → Bool = λ q. eqb q p in
    record {
      worse = breaks-worse this I P m (breaks-own this I P m D is p (eq-eqb p p refl) pushed.breaks);
      out = λ u begins has.
          let split = moves-split I P u m begins has in
          let own : unit_planes P u p ≡ true = own-step (unit_planes P u) (unit_legs I P u) (unit_refills I P u) m (Push pushed.plane pushed.after) split refl pushed.pushed in
          breaks_rule (breaks-own (unit_planes P u) I P m D is p own pushed.breaks);
    }

-- ---- units

-- a unit in range begins with a leg that is flown, where it is one that is
pub begins-flown : (I : Situation) (P : PlanRows) (u : LegUnit) → IsLegUnit I P u → BeginsFlown P (unit_of u)
begins-flown I P (Retimed leg) unit = unit.flown
begins-flown I P (Swapped first second) unit = tt
begins-flown I P (Dropped leg) unit = unit.flown
begins-flown I P (Restored leg plane) unit = tt
begins-flown I P (Handed leg count plane) unit = unit.0.flown

-- a unit whose moves are all out is out
pub all-out : (I : Situation) (P : PlanRows) (u : MoveUnit) → BeginsFlown P u → All (Fits I) (unit_moves I P u) → AreMovesOut I P (unit_moves I P u) → IsUnitOut I P u
all-out I P u begins fits out = record {
  fits = fits;
  out = All_from_contains (IsOut I P u) (unit_moves I P u) (λ m has. All-contains (IsMoveOut I P) (unit_moves I P u) m out has u begins has);
}

pub all-out-by-rows : (I : Situation) (P : PlanRows) (u : MoveUnit) → BeginsFlown P u → All (Fits I) (unit_moves I P u) → AreMovesOutByRows I P (unit_moves I P u) → IsUnitOutByRows I P u
all-out-by-rows I P u begins fits out = record {
  fits = fits;
  out = All_from_contains (IsOutByRows I P u) (unit_moves I P u) (λ m has. All-contains (IsMoveOutByRows I P) (unit_moves I P u) m out has u begins has);
}

-- one more move of which something is known, before others
pub more-out : (IsKnown : Move → Type 0) (m : Move) (before after : List Move) → before ≡ m ∷ after → IsKnown m → All IsKnown after → All IsKnown before
more-out IsKnown m before after is one rest = subst (All IsKnown) (sym is) (All-cons IsKnown m after one rest)

-- and so is one that hands a run on in vain
pub hands-out : (I : Situation) (P : PlanRows) (u : MoveUnit) → All (Fits I) (unit_moves I P u) → HandsInVain I P u → IsUnitOutByRows I P u
hands-out I P u fits vain = record {
  fits = fits;
  out = All_from_contains (IsOutByRows I P u) (unit_moves I P u) (λ m has. hands_in_vain vain);
}

-- ---- verdicts

-- what is out by rows alone is out
pub by-rows-out : (I : Situation) (P : PlanRows) (m : Move) → IsRuledOutByRows I P m → IsRuledOut I P m
by-rows-out I P m known = record { worse = known.worse; out = λ u begins has. move-out I P u m (known.out u begins has) }

pub verdict-out : (I : Situation) (P : PlanRows) (m : Move) (v : Verdict) → v.better ≡ false → v.by_rows ≡ false → IsRuledOut I P m → IsVerdict I P m v
verdict-out I P m v better rows known = record {
  better = better ∙ sym known.worse;
  out = λ is. known;
  by_rows = λ is. absurd (true≢false (sym is ∙ rows));
}

pub verdict-by-rows : (I : Situation) (P : PlanRows) (m : Move) (v : Verdict) → v.better ≡ false → IsRuledOutByRows I P m → IsVerdict I P m v
verdict-by-rows I P m v better known = record {
  better = better ∙ sym known.worse;
  out = λ is. by-rows-out I P m known;
  by_rows = λ is. known;
}

-- none of its moves is better
pub unit-none : (I : Situation) (P : PlanRows) (u : MoveUnit) → IsUnitOut I P u → All (λ m. is_better I P m ≡ false) (unit_moves I P u)
unit-none I P u known = unit-worse I P u known.out
