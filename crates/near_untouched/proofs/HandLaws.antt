-- Positions that have as many aircraft at hand in both plans.
use Rattle.std.proofs.Common.{◌≡◌, ℕ, ◌+◌, ◌<◌, ◌⊎◌, inl, inr, Bool, true, false, ◌&&◌, not, cond, eqb, List, [], ◌∷◌, ◌++◌, length, get_or, set, refl, sym, ap, ◌∙◌, arith, below_more}
use Rattle.std.specs.Prelude.{Option, None, Some}
use Rattle.std.specs.List.{All, Contains}
use Rattle.std.proofs.lemmas.Bool.{true≢false, false_from_ne_true}
use Rattle.std.proofs.lemmas.List.{get_or-set_same, get_or_default, same_lists}
use Rattle.std.proofs.lemmas.List.Elements.{All-contains, All-push, All-weaker, Contains-append_left, Contains-push}
use Rattle.desk_units.specs.declared.numbers.Airport.{Airport}
use Rattle.desk_units.specs.declared.numbers.Leg.{Leg}
use Rattle.desk_units.specs.declared.numbers.Plane.{Plane}
use Rattle.desk_data.specs.declared.info.PositionInfo.{PositionInfo}
use Rattle.desk_data.specs.Situation.{Situation, legs_of, planes_of, plane_at}
use Rattle.desk_data.specs.PlanRows.{PlanRows}
use Rattle.desk_data.specs.declared.row.Group.{Group}
use Rattle.desk_data.specs.declared.row.Row.{Row}
use Rattle.desk_data.specs.declared.row.Row.TheVariants.{Cancelled}
use Rattle.desk_data.specs.Valid.{IsPlanFor}
use Rattle.desk_rules.specs.Numbers.{numbers}
use Rattle.desk_rules.specs.Cost.{at_hand, is_wanted, ends_at}
use Rattle.plan_reads.specs.Last.{IsLastOf, stand}
use Rattle.plan_reads.proofs.LastLaws.{left_asked}
use Rattle.plan_checks.specs.Stands.{AreStands, end_of, is_there}
use Rattle.near_moves.specs.MoveParts.{plane}
use Rattle.near_moves.proofs.ListLaws.{numbers_below}
use Rattle.near_moves.proofs.PlaneLaws.{filter-same}
use Rattle.near_untouched.specs.Marks.{is_marked, AreChanged, AreKept, HoldsOf}
use Rattle.near_untouched.specs.Positions.{AreElsewhere, IsPositionTold, HasSameHands}
use Rattle.near_untouched.proofs.MarkLaws.{mark-kept, rows-all}

-- ---- where aircraft end

stand_if : (surface : Bool) (there : Airport) (airport : ℕ) → is_there (cond surface None (Some there)) airport ≡ (not surface && eqb there.0 airport)
stand_if true there airport = refl
stand_if false there airport = refl

pub ends-is : (I : Situation) (R : PlanRows) (p airport : ℕ) (last : Option Leg) → IsLastOf R p I.parts.to.0 (legs_of I) last → is_there (end_of I p last) airport ≡ ends_at I R p airport
ends-is I R p airport last h =
    stand_if (plane_at I p).surface (stand I p last) airport
    ∙ ap (λ (b : Bool). not (plane_at I p).surface && b) (sym (left_asked I R p I.parts.to.0 airport last h))

pub elsewhere-same : (n : ℕ) (was now : List (Option Airport)) (planes : List Plane) → AreElsewhere n was now planes → get_or was n None ≡ get_or now n None → AreElsewhere (n + 1) was now planes
elsewhere-same n was now planes are same = record {
  listed = below_more (λ (p : ℕ). (get_or was p None ≡ get_or now p None) ⊎ Contains planes (plane p)) n are.listed (inl same);
  within = All-weaker (λ (q : Plane). q.0 < n) (λ (q : Plane). q.0 < n + 1) (λ q lt. omega (arith, lt)) planes are.within;
}

pub elsewhere-more : (n : ℕ) (was now : List (Option Airport)) (planes : List Plane) → AreElsewhere n was now planes → AreElsewhere (n + 1) was now (planes ++ plane n ∷ [])
elsewhere-more n was now planes are = record {
  listed = below_more (λ (p : ℕ). (get_or was p None ≡ get_or now p None) ⊎ Contains (planes ++ plane n ∷ []) (plane p)) n
      (λ p lt. elim (are.listed p lt) [
        | inl same ↦ inl same
        | inr has ↦ inr (Contains-append_left planes (plane n ∷ []) (plane p) has)
      ])
      (inr (Contains-push planes (plane n)));
  within = All-push (λ (q : Plane). q.0 < n + 1) planes (plane n)
      (All-weaker (λ (q : Plane). q.0 < n) (λ (q : Plane). q.0 < n + 1) (λ q lt. omega (arith, lt)) planes are.within)
      (omega arith);
}

-- ---- who is at hand

-- an aircraft is at hand in both plans or in neither, by where it ended and where it ends
abbrev pub IsSameHand : Situation → List (Option Airport) → List (Option Airport) → PositionInfo → ℕ → Type 0
IsSameHand I was now position p =
    (is_wanted position (plane_at I p) && is_there (get_or was p None) position.airport.0) ≡ (is_wanted position (plane_at I p) && is_there (get_or now p None) position.airport.0)

pub hands-same : (I : Situation) (P Q : PlanRows) (was now : List (Option Airport)) (planes : List Plane) (position : PositionInfo) → AreStands I P was → AreStands I Q now → AreElsewhere (planes_of I) was now planes → All (λ (q : Plane). IsSameHand I was now position q.0) planes → at_hand I P position ≡ at_hand I Q position
hands-same I P Q was now planes position ends later are same =
    ap length
    (filter-same (λ p. is_wanted position (plane_at I p) && ends_at I P p position.airport.0) (λ p. is_wanted position (plane_at I p) && ends_at I Q p position.airport.0) (numbers (planes_of I))
    (λ k d lt. one (get_or (numbers (planes_of I)) k d) (numbers_below (planes_of I) k d lt)))
  where
    one : (p : ℕ) → p < planes_of I → (is_wanted position (plane_at I p) && ends_at I P p position.airport.0) ≡ (is_wanted position (plane_at I p) && ends_at I Q p position.airport.0)
    one p lt =
        let a = position.airport.0 in
        let wants = is_wanted position (plane_at I p) in
        let between : IsSameHand I was now position p = elim (are.listed p lt) [
          | inl here ↦ ap (λ (end : Option Airport). wants && is_there end a) here
          | inr has ↦ All-contains (λ (q : Plane). IsSameHand I was now position q.0) planes (plane p) same has
        ] in
        ap (λ (b : Bool). wants && b) (sym (ends.each p a lt)) ∙ between ∙ ap (λ (b : Bool). wants && b) (later.each p a lt)

-- by the rows of a plan alone, whatever its groups
abbrev at_hand_by : Situation → PositionInfo → List (List Group) → List Row → ℕ
at_hand_by I position groups rows = at_hand I (record { rows = rows; groups = groups }) position

-- where no leg has another row, as many are at hand
pub hands-still : (I : Situation) (P Q : PlanRows) (legs : List Leg) (position : PositionInfo) → IsPlanFor I P → IsPlanFor I Q → length legs ≡ 0 → AreChanged I P Q legs → at_hand I P position ≡ at_hand I Q position
hands-still I P Q legs position plan later none are =
    let before = plan.legs in
    let now = later.legs in
    let same : P.rows ≡ Q.rows = same_lists P.rows Q.rows (before ∙ sym now) (λ k d lt.
    get_or_default P.rows k d Cancelled lt ∙ rows-all P Q (legs_of I) legs none are k (omega (arith, lt, before)) ∙ get_or_default Q.rows k Cancelled d (omega (arith, lt, before, now))) in
    ap (at_hand_by I position P.groups) same

-- ---- aircraft

pub wanted-kept : (I : Situation) (P Q : PlanRows) (old new : List Bool) (position : PositionInfo) → AreKept old new → IsPositionTold I P Q old position → IsPositionTold I P Q new position
wanted-kept I P Q old new position kept (inl same) = inl same
wanted-kept I P Q old new position kept (inr marked) = inr (λ p lt on. kept p (marked p lt on))

pub hands-told : (I : Situation) (P Q : PlanRows) (touched : List Bool) → All (IsPositionTold I P Q touched) I.parts.positions → HoldsOf (planes_of I) touched (HasSameHands I P Q)
hands-told I P Q touched told p lt off k d there =
    let position = get_or I.parts.positions k d in
    elim (told k d there) [
      | inl same ↦ inl same
      | inr marked ↦ inr (false_from_ne_true (is_wanted position (plane_at I p)) (λ on. true≢false (sym (marked p lt on) ∙ off)))
    ]

-- one aircraft more, which the position wants, or does not
pub wanted-mark : (I : Situation) (position : PositionInfo) (marks : List Bool) (n : ℕ) → n < length marks → ((k : ℕ) → k < n → is_wanted position (plane_at I k) ≡ true → is_marked marks k ≡ true) → (k : ℕ) → k < n + 1 → is_wanted position (plane_at I k) ≡ true → is_marked (set marks n true) k ≡ true
wanted-mark I position marks n within marked =
    below_more (λ (k : ℕ). is_wanted position (plane_at I k) ≡ true → is_marked (set marks n true) k ≡ true) n
    (λ k lt on. mark-kept marks n k (marked k lt on)) (λ on. get_or-set_same marks n true false within)

pub wanted-skip : (I : Situation) (position : PositionInfo) (marks : List Bool) (n : ℕ) → is_wanted position (plane_at I n) ≡ false → ((k : ℕ) → k < n → is_wanted position (plane_at I k) ≡ true → is_marked marks k ≡ true) → (k : ℕ) → k < n + 1 → is_wanted position (plane_at I k) ≡ true → is_marked marks k ≡ true
wanted-skip I position marks n off marked =
    below_more (λ (k : ℕ). is_wanted position (plane_at I k) ≡ true → is_marked marks k ≡ true) n marked (λ on. absurd (true≢false (sym on ∙ off)))
