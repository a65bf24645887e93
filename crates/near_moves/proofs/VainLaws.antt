-- What is in vain stays in vain, where its aircraft fly the same.
use Rattle.std.proofs.Common.{◌≡◌, ℕ, ◌⊎◌, inl, inr, true, ltb, List, take, refl, sym, ap, ◌∙◌}
use Rattle.std.specs.Prelude.{◌≢◌, None, filter}
use Rattle.desk_data.specs.declared.row.Row.{Row}
use Rattle.desk_data.specs.declared.row.Row.TheVariants.{Cancelled}
use Rattle.desk_data.specs.Situation.{Situation, plane_at}
use Rattle.desk_data.specs.PlanRows.{PlanRows, row_at}
use Rattle.desk_data.specs.Valid.{IsPlanFor}
use Rattle.desk_rules.specs.Rotations.{departure, dep}
use Rattle.desk_rules.specs.Maintenance.{flies}
use Rattle.desk_rules.specs.Least.{least}
use Rattle.desk_rules.proofs.MaintenanceLaws.{flies-from}
use Rattle.desk_model.specs.Push.{rotation}
use Rattle.near_moves.specs.MoveParts.{flier, legs_from}
use Rattle.near_moves.specs.Chains.{from_airport, led, stand, stand_before, run_leads_to, IsHandedInVain, IsSwappedInVain, IsRestoredInVain}
use Rattle.near_moves.specs.Same.{FliesSame}
use Rattle.near_moves.proofs.PlaneLaws.{filter-same, row-same, rotation-same, rotation-rows, from-same}

pub stand-same : (I : Situation) (P Q : PlanRows) (p : ℕ) → FliesSame P Q p → stand I P p ≡ stand I Q p
stand-same I P Q p same = ap (led I (plane_at I p).origin.0) (rotation-same I P Q p same)

pub before-same : (I : Situation) (P Q : PlanRows) (p at : ℕ) → FliesSame P Q p → stand_before I P p at ≡ stand_before I Q p at
before-same I P Q p at same =
    ap (led I (plane_at I p).origin.0)
    (filter-same (λ x. ltb (dep P x) at) (λ x. ltb (dep Q x) at) (rotation I P p) (λ k d lt. ap (λ (row : Row). ltb (departure row) at) (rotation-rows I P Q p same k d lt))
    ∙ ap (filter (λ x. ltb (dep Q x) at)) (rotation-same I P Q p same))

either-same : (a b c d e f g h : ℕ) → a ≡ e → b ≡ f → c ≡ g → d ≡ h → (a ≢ b) ⊎ (c ≢ d) → (e ≢ f) ⊎ (g ≢ h)
either-same a b c d e f g h one two three four (inl apart) = inl (λ same. apart (one ∙ same ∙ sym two))
either-same a b c d e f g h one two three four (inr apart) = inr (λ same. apart (three ∙ same ∙ sym four))

pub handed-stays : (I : Situation) (P Q : PlanRows) (x k q : ℕ) → (h : IsHandedInVain I P x k q) → least I Q ≡ None → FliesSame P Q h.plane → FliesSame P Q q → IsHandedInVain I Q x k q
handed-stays I P Q x k q h feasible own other =
    let p = h.plane in
    let on : flies P p x ≡ true = flies-from P p x h.dep h.flown in
    let legs : legs_from I P x ≡ legs_from I Q x = from-same I P Q p x own on (ap flier h.flown) in
    let leads : run_leads_to I P x k ≡ run_leads_to I Q x k = ap (λ (xs : List ℕ). led I (from_airport I x) (take k xs)) legs in
    record {
      feasible = feasible;
      leg = h.leg;
      plane = p;
      dep = h.dep;
      flown = sym (row-same P Q p own x on) ∙ h.flown;
      other = h.other;
      air = h.air;
      other_air = h.other_air;
      leads_on = λ same. h.leads_on (leads ∙ same);
      elsewhere = either-same _ _ _ _ _ _ _ _ leads (stand-same I P Q p own) refl (stand-same I P Q q other) h.elsewhere;
    }

pub swapped-stays : (I : Situation) (P Q : PlanRows) (p q at : ℕ) → IsSwappedInVain I P p q at → least I Q ≡ None → FliesSame P Q p → FliesSame P Q q → IsSwappedInVain I Q p q at
swapped-stays I P Q p q at h feasible one two =
    let first = before-same I P Q p at one in
    let second = before-same I P Q q at two in
    record {
      feasible = feasible;
      other = h.other;
      air = h.air;
      other_air = h.other_air;
      apart = λ same. h.apart (first ∙ same ∙ sym second);
      leads_on = either-same _ _ _ _ _ _ _ _ first (stand-same I P Q p one) second (stand-same I P Q q two) h.leads_on;
    }

pub restored-stays : (I : Situation) (P Q : PlanRows) (x p : ℕ) → IsRestoredInVain I P x p → IsPlanFor I Q → least I Q ≡ None → row_at Q x ≡ Cancelled → FliesSame P Q p → IsRestoredInVain I Q x p
restored-stays I P Q x p h plan feasible cancelled same = record {
  plan = plan;
  feasible = feasible;
  leg = h.leg;
  cancelled = cancelled;
  air = h.air;
  leads_on = h.leads_on;
  elsewhere = λ is. h.elsewhere (is ∙ sym (stand-same I P Q p same));
}
