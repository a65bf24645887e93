-- Legs that are flown again in vain.
use Rattle.std.proofs.Common.{◌≡◌, ℕ, ◌+◌, ◌<◌, inl, inr, true, false, List, ◌∷◌, length, refl, sym, ap, subst, ◌∙◌, arith}
use Rattle.std.specs.List.{Contains, list_all}
use Rattle.std.proofs.lemmas.Bool.{true≢false, cases_eq, eq-eqb}
use Rattle.plan_moves.specs.declared.moves.Move.{Move}
use Rattle.plan_moves.specs.declared.moves.Step.{Step}
use Rattle.plan_moves.specs.declared.moves.Step.TheVariants.{Set}
use Rattle.desk_data.specs.declared.row.Row.TheVariants.{Cancelled}
use Rattle.desk_data.specs.Situation.{Situation}
use Rattle.desk_data.specs.PlanRows.{PlanRows}
use Rattle.desk_rules.specs.Maintenance.{flies, is_flown_by}
use Rattle.desk_rules.proofs.LeastLaws.{feasible-holds}
use Rattle.desk_model.specs.Push.{rotation}
use Rattle.desk_model.specs.Steps.{after_set, after_step, after_steps}
use Rattle.desk_model.proofs.SetLaws.{after_set-sets}
use Rattle.desk_model.proofs.RotationOrder.{rotation-each}
use Rattle.near_moves.specs.MoveParts.{leg, flown_row}
use Rattle.near_moves.specs.Descent.{is_better}
use Rattle.near_moves.proofs.ListLaws.{contains_cases, contains_head, contains_tail}
use Rattle.near_moves.specs.Chains.{from_airport, to_airport, is_same, tally, stand, keeps_aircraft, IsRestoredInVain}
use Rattle.near_moves.proofs.TallyLaws.{AreAmong, tally-same}
use Rattle.near_moves.proofs.KeptLaws.{broken-worse, kept-flies}
use Rattle.near_moves.proofs.ChainLaws.{KeepsC5, airports-balance, rotation-apart, in-rotation}
use Rattle.near_moves.proofs.HandLaws.{same-yes, same-no}

module _ (I : Situation) (P : PlanRows) (x p at : ℕ) (others : List Step) (keeps : list_all keeps_aircraft others ≡ true) (h : IsRestoredInVain I P x p) where
  abbrev S : PlanRows
  S = after_set P x Cancelled (flown_row p at)

  abbrev Q : PlanRows
  Q = after_steps I P (Set (leg x) Cancelled (flown_row p at) ∷ others)

  set_flies : (u z : ℕ) → flies Q u z ≡ flies S u z
  unfolding after_step
  set_flies u z = kept-flies I S others u z keeps

  flies_in : flies Q p x ≡ true
  flies_in =
      let within : x < length P.rows = (let rows = h.plan.legs in let own = h.leg in omega (arith, rows, own)) in
      set_flies p x ∙ ap (is_flown_by p) ((after_set-sets P x Cancelled (flown_row p at)).becomes within h.cancelled) ∙ eq-eqb p p refl

  flies_out : (z : ℕ) → (z ≡ x → ⊥) → flies Q p z ≡ flies P p z
  flies_out z other = set_flies p z ∙ ap (is_flown_by p) ((after_set-sets P x Cancelled (flown_row p at)).others z other)

  not_before : Contains (rotation I P p) x → ⊥
  not_before has = true≢false (sym (in-rotation I P p x has).1 ∙ ap (is_flown_by p) h.cancelled)

  gets_among : AreAmong (rotation I Q p) (x ∷ rotation I P p)
  gets_among z has =
      let own = in-rotation I Q p z has in
      elim (cases_eq z x) [
        | inl same ↦ subst (Contains (x ∷ rotation I P p)) (sym same) (contains_head x (rotation I P p))
        | inr other ↦ contains_tail x z (rotation I P p) (rotation-each I P p z own.0 (sym (flies_out z other) ∙ own.1))
      ]

  among_gets : AreAmong (x ∷ rotation I P p) (rotation I Q p)
  among_gets z has =
      elim (contains_cases x z (rotation I P p) has) [
        | inl same ↦ subst (Contains (rotation I Q p)) same (rotation-each I Q p x h.leg flies_in)
        | inr more ↦
            let own = in-rotation I P p z more in
            let other : z ≡ x → ⊥ = λ same. not_before (subst (Contains (rotation I P p)) same more) in
            rotation-each I Q p z own.0 (flies_out z other ∙ own.1)
      ]

  get_tally : (f : ℕ → ℕ) (a : ℕ) → tally f a (rotation I Q p) ≡ is_same (f x) a + tally f a (rotation I P p)
  get_tally f a = tally-same f a (rotation I Q p) (x ∷ rotation I P p) (rotation-apart I Q p) (not_before, rotation-apart I P p) gets_among among_gets

  cannot : KeepsC5 I Q → ⊥
  cannot will =
      let o = from_airport I x in
      let own = airports-balance I P p o (feasible-holds I P h.feasible).c5 h.air in
      let all = airports-balance I Q p o will h.air in
      let from = get_tally (from_airport I) o in
      let to = get_tally (to_airport I) o in
      let no_end : is_same (stand I P p) o ≡ 0 = same-no (stand I P p) o (λ same. h.elsewhere (sym same)) in
      let no_more : is_same (to_airport I x) o ≡ 0 = same-no (to_airport I x) o h.leads_on in
      let begins : is_same o o ≡ 1 = same-yes o in
      omega (arith, own, all, from, to, no_end, no_more, begins)

pub restored_in_vain : (I : Situation) (P : PlanRows) (m : Move) (x p at : ℕ) (others : List Step) → m.steps ≡ Set (leg x) Cancelled (flown_row p at) ∷ others → list_all keeps_aircraft others ≡ true → IsRestoredInVain I P x p → is_better I P m ≡ false
restored_in_vain I P m x p at others is keeps h =
    broken-worse I P m (Set (leg x) Cancelled (flown_row p at) ∷ others) is
    (λ feasible. cannot I P x p at others keeps h (feasible-holds I (after_steps I P (Set (leg x) Cancelled (flown_row p at) ∷ others)) feasible).c5)
