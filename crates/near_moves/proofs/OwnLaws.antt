-- A rule of a leg of its own aircraft that a move breaks at a plan is broken at each plan that agrees on them.
use Rattle.std.proofs.Common.{◌≡◌, ℕ, Bool, true, false, List, [], ◌∷◌, length, get_or, refl, sym, ap, subst, ◌∙◌}
use Rattle.std.specs.List.{list_all}
use Rattle.std.proofs.lemmas.Bool.{true≢false, and_parts, eq-eqb}
use Rattle.desk_data.specs.declared.row.Row.{Row}
use Rattle.desk_data.specs.declared.row.Row.TheVariants.{Flown, Cancelled}
use Rattle.desk_data.specs.Situation.{Situation}
use Rattle.desk_data.specs.PlanRows.{PlanRows, row_at}
use Rattle.plan_moves.specs.declared.moves.Move.{Move}
use Rattle.plan_moves.specs.declared.moves.Step.{Step}
use Rattle.plan_moves.specs.declared.moves.Step.TheVariants.{Set, Push, Swap, Rebook, Tidy, Refill}
use Rattle.desk_rules.specs.Maintenance.{is_flown_by, flies}
use Rattle.desk_rules.proofs.LeastLaws.{feasible-holds}
use Rattle.desk_rules.proofs.RotationLaws.{keeps_c5-from, keeps_c6-from}
use Rattle.desk_rules.proofs.LegLaws.{keeps_c2-from, keeps_c4-from, keeps_c7-from}
use Rattle.desk_model.specs.Steps.{after_steps, after_move}
use Rattle.near_moves.specs.MoveParts.{flier}
use Rattle.near_moves.specs.Descent.{is_better}
use Rattle.near_moves.proofs.KeptLaws.{steps-append, broken-worse}
use Rattle.near_moves.specs.RowRules.{keeps_rows}
use Rattle.near_moves.proofs.RowLaws.{steps-rows}
use Rattle.near_moves.specs.Same.{FliesSame, is_of, IsOwn, AgreeOn}
use Rattle.near_moves.specs.Steps.{is_tidying, IsSplit}
use Rattle.near_moves.specs.Room.{HaveSameRoom}
use Rattle.near_moves.specs.Own.{keeps_own_rules, BreaksOwn}
use Rattle.near_moves.proofs.RuleLaws.{c2-same, c4-same, c5-same, c6-same, c7-same}
use Rattle.near_moves.proofs.FrameLaws.{agree-flies, own-leg, steps-alike, start-alike}

-- ---- plans with the same rows

row-of : (F S : PlanRows) → F.rows ≡ S.rows → (x : ℕ) → row_at F x ≡ row_at S x
row-of F S same x = ap (λ (rows : List Row). get_or rows x Cancelled) same

pub agree-rows : (planes legs : ℕ → Bool) (F G S T : PlanRows) → F.rows ≡ S.rows → G.rows ≡ T.rows → AgreeOn planes legs S T → AgreeOn planes legs F G
agree-rows planes legs F G S T one two agree = record {
  many = ap length one ∙ agree.many ∙ sym (ap length two);
  same = λ x here. row-of F S one x ∙ agree.same x here ∙ sym (row-of G T two x);
  own = λ x here. subst (IsOwn planes) (sym (row-of F S one x)) (agree.own x here);
  before = λ x off. ap (is_of planes) (row-of F S one x) ∙ agree.before x off;
  now = λ x off. ap (is_of planes) (row-of G T two x) ∙ agree.now x off;
}

-- ---- the rules

pub own-flier : (planes : ℕ → Bool) (row : Row) → is_of planes row ≡ true → (planes (flier row) ≡ true) × (is_flown_by (flier row) row ≡ true)
own-flier planes (Flown plane dep) own = (own, eq-eqb plane.0 plane.0 refl)
own-flier planes Cancelled own = absurd cc

rules-same : (I : Situation) (F G : PlanRows) (p y : ℕ) → FliesSame F G p → flies F p y ≡ true → keeps_own_rules I F y ≡ keeps_own_rules I G y
rules-same I F G p y same on =
    rw (c5-same I F G p same y on, c6-same I F G p same y on, c2-same I F G p same y on, c4-same I F G p same y on, c7-same I F G p same y on) refl

-- ---- a move

pub tidying-keeps : (refilled : ℕ → Bool) (steps : List Step) → list_all (is_tidying refilled) steps ≡ true → list_all keeps_rows steps ≡ true
tidying-keeps refilled [] all = refl
tidying-keeps refilled (Set leg was new ∷ steps) all = absurd cc
tidying-keeps refilled (Push plane after ∷ steps) all = absurd cc
tidying-keeps refilled (Swap first second at ∷ steps) all = absurd cc
tidying-keeps refilled (Rebook res path to count ∷ steps) all = absurd cc
tidying-keeps refilled (Tidy ∷ steps) all = tidying-keeps refilled steps all
tidying-keeps refilled (Refill leg ∷ steps) all = tidying-keeps refilled steps (and_parts (refilled leg.0) (list_all (is_tidying refilled) steps) all).1

-- the rows that a move makes are those that its first steps make
made-rows : (planes legs refilled : ℕ → Bool) (I : Situation) (P : PlanRows) (m : Move) (split : IsSplit planes legs refilled m) → (after_move I P m).rows ≡ (after_steps I P split.first).rows
unfolding after_move
made-rows planes legs refilled I P m split =
    ap (λ (steps : List Step). (after_steps I P steps).rows) split.steps
    ∙ ap (λ (R : PlanRows). R.rows) (steps-append I P split.first split.others)
    ∙ steps-rows I (after_steps I P split.first) split.others (tidying-keeps refilled split.others split.tidying)

pub move-agree : (planes legs refilled : ℕ → Bool) (I : Situation) (P Q : PlanRows) (m : Move) → AgreeOn planes legs P Q → HaveSameRoom legs I P Q → IsSplit planes legs refilled m → AgreeOn planes legs (after_move I P m) (after_move I Q m)
move-agree planes legs refilled I P Q m agree room split =
    agree-rows planes legs (after_move I P m) (after_move I Q m) (after_steps I P split.first) (after_steps I Q split.first)
    (made-rows planes legs refilled I P m split) (made-rows planes legs refilled I Q m split)
    (steps-alike planes legs I P Q P Q split.first room split.among (start-alike planes legs P Q agree)).agree

pub breaks-stays : (planes legs refilled : ℕ → Bool) (I : Situation) (P Q : PlanRows) (m : Move) → AgreeOn planes legs P Q → HaveSameRoom legs I P Q → IsSplit planes legs refilled m → BreaksOwn planes I P m → BreaksOwn planes I Q m
breaks-stays planes legs refilled I P Q m agree room split breaks =
    let F = after_move I P m in
    let G = after_move I Q m in
    let made = move-agree planes legs refilled I P Q m agree room split in
    let x = breaks.leg in
    let p = flier (row_at F x) in
    let by = own-flier planes (row_at F x) breaks.own in
    let same : FliesSame F G p = agree-flies planes legs F G p made by.0 in
    let here = own-leg planes legs F G p x made by.0 by.1 in
    record {
      leg = x;
      within = breaks.within;
      own = ap (is_of planes) (sym (made.same x here)) ∙ breaks.own;
      broken = sym (rules-same I F G p x same by.1) ∙ breaks.broken;
    }

-- and the move is not better
pub breaks-worse : (planes : ℕ → Bool) (I : Situation) (P : PlanRows) (m : Move) → BreaksOwn planes I P m → is_better I P m ≡ false
unfolding after_move
breaks-worse planes I P m breaks =
    broken-worse I P m m.steps refl
    (λ feasible.
    let F = after_steps I P m.steps in
    let x = breaks.leg in
    let f = feasible-holds I F feasible in
    let c5 = keeps_c5-from I F x (f.c5 x breaks.within) in
    let c6 = keeps_c6-from I F x (f.c6 x breaks.within) in
    let c2 = keeps_c2-from I F x (f.c2 x breaks.within) in
    let c4 = keeps_c4-from I F x (f.c4 x breaks.within) in
    let c7 = keeps_c7-from I F x (f.c7 x breaks.within) in
    let all : keeps_own_rules I F x ≡ true = rw (c5, c6, c2, c4, c7) refl in
    true≢false (sym all ∙ breaks.broken))
