-- What is known not to be better by where legs lead.
use Rattle.std.proofs.Common.{◌≡◌, ℕ, ◌<◌, ◌⊎◌, inl, inr, true, false, refl, sym, subst, ◌∙◌}
use Rattle.std.specs.Prelude.{Option, None, Some, ◌≢◌, All, MatchOption, find, is_none}
use Rattle.std.proofs.lemmas.Bool.{true≢false}
use Rattle.std.proofs.lemmas.List.Elements.{recursion_from_All}
use Rattle.plan_moves.specs.declared.moves.Move.{Move}
use Rattle.desk_data.specs.Situation.{Situation, legs_of, plane_at}
use Rattle.desk_data.specs.PlanRows.{PlanRows}
use Rattle.desk_rules.specs.Rotations.{dep}
use Rattle.desk_rules.specs.Maintenance.{flies}
use Rattle.desk_rules.specs.Least.{least}
use Rattle.desk_rules.proofs.MaintenanceLaws.{flies-holds}
use Rattle.near_moves.specs.Descent.{is_better}
use Rattle.near_moves.specs.Near.{unit_moves}
use Rattle.near_moves.specs.Units.{MoveUnit}
use Rattle.near_moves.specs.Chains.{IsHandedInVain, from_airport, run_leads_to, stand}
use Rattle.near_search.proofs.PassedLaws.{find_none}

pub none_left : {X : Type 0} (o : Option X) → is_none o ≡ true → o ≡ None
none_left None is = refl
none_left (Some x) is = absurd (true≢false (sym is))

-- what is given has what is said of it
pub given-is : {X : Type 0} (N : Type 0) (R : X → Type 0) (o : Option X) (x : X) → MatchOption o N R → o ≡ Some x → R x
given-is N R None x given is = absurd cc
given-is N R (Some y) x given is = let same : y ≡ x = cc in subst R same given

-- none of the moves of a unit is found
pub worse-none : (I : Situation) (P : PlanRows) (u : MoveUnit) → All (λ (m : Move). is_better I P m ≡ false) (unit_moves I P u) → find (is_better I P) (unit_moves I P u) ≡ None
worse-none I P u worse = find_none (is_better I P) (unit_moves I P u) (recursion_from_All (λ (m : Move). is_better I P m ≡ false) (unit_moves I P u) worse)

-- a run that leads elsewhere
pub handed-vain : (I : Situation) (P : PlanRows) (x k p q from to : ℕ) → is_none (least I P) ≡ true → x < legs_of I → flies P p x ≡ true → q ≢ p → (plane_at I p).surface ≡ false → (plane_at I q).surface ≡ false → from ≡ from_airport I x → to ≡ run_leads_to I P x k → to ≢ from → (to ≢ stand I P p) ⊎ (from ≢ stand I P q) → IsHandedInVain I P x k q
handed-vain I P x k p q from to feasible within flown other air other_air begins leads on elsewhere =
    record {
      feasible = none_left (least I P) feasible;
      leg = within;
      plane = p;
      dep = dep P x;
      flown = flies-holds P p x flown;
      other = other;
      air = air;
      other_air = other_air;
      leads_on = λ same. on (leads ∙ same ∙ sym begins);
      elsewhere = elim elsewhere [
        | inl apart ↦ inl (λ same. apart (leads ∙ same))
        | inr apart ↦ inr (λ same. apart (begins ∙ same))
      ];
    }
