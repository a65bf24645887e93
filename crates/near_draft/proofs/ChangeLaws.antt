-- Changes, one after another.
use Rattle.std.proofs.Common.{◌≡◌, ◌≢◌, ℕ, zero, suc, ◌+◌, ◌<◌, List, [], ◌∷◌, ◌++◌, length, get_or, take, refl, sym, ap, subst, ◌∙◌, arith}
use Rattle.std.specs.List.{All}
use Rattle.std.proofs.lemmas.List.{get_or_default, get_or-set_same, get_or-set_other}
use Rattle.std.proofs.lemmas.List.Sums.{fold_more}
use Rattle.desk_data.specs.declared.row.Row.TheVariants.{Flown, Cancelled}
use Rattle.desk_data.specs.Situation.{Situation, legs_of}
use Rattle.desk_data.specs.PlanRows.{PlanRows, row_at}
use Rattle.desk_data.specs.Valid.{IsPlanFor}
use Rattle.desk_model.proofs.ValidLaws.{with_row-valid}
use Rattle.near_draft.specs.declared.change.Change.{Change}
use Rattle.near_draft.specs.Drafts.{IsChange, AreChanges, changed, drafted}

-- what is read where there is no change
abbrev pub no_change : Change
no_change = record { leg = record { 0 = 0 }; was = Flown (record { 0 = 0 }) (record { 0 = 0 }); row = Flown (record { 0 = 0 }) (record { 0 = 0 }) }

-- one change more of a list
pub drafted-more : (P : PlanRows) (changes : List Change) (i : ℕ) → i < length changes → drafted P (take (i + 1) changes) ≡ changed (drafted P (take i changes)) (get_or changes i no_change)
drafted-more P changes i lt = fold_more changed P changes i no_change lt

pub changes-push : (I : Situation) (P : PlanRows) (changes : List Change) (change : Change) → AreChanges I P changes → IsChange I (drafted P changes) change → AreChanges I P (changes ++ change ∷ [])
changes-push I P [] change are is = (is, tt)
changes-push I P (first ∷ changes) change are is = (are.0, changes-push I (changed P first) changes change are.1 is)

pub drafted-push : (P : PlanRows) (changes : List Change) (change : Change) → drafted P (changes ++ change ∷ []) ≡ changed (drafted P changes) change
drafted-push P [] change = refl
drafted-push P (first ∷ changes) change = drafted-push (changed P first) changes change

-- each change is one of the plan that those before it made
pub changes-at : (I : Situation) (P : PlanRows) (changes : List Change) (i : ℕ) → AreChanges I P changes → i < length changes → IsChange I (drafted P (take i changes)) (get_or changes i no_change)
changes-at I P [] i are lt = absurd (omega (arith, lt))
changes-at I P (change ∷ changes) zero are lt = are.0
changes-at I P (change ∷ changes) (suc i) are lt = changes-at I (changed P change) changes i are.1 (omega (arith, lt))

pub changes-within : (I : Situation) (P : PlanRows) (changes : List Change) → AreChanges I P changes → All (λ (change : Change). change.leg.0 < legs_of I) changes
changes-within I P changes are = λ k d lt.
    subst (λ (change : Change). change.leg.0 < legs_of I) (get_or_default changes k no_change d lt) (changes-at I P changes k are lt).leg

-- those of a valid plan make a valid plan
pub drafted-valid : (I : Situation) (P : PlanRows) (changes : List Change) → AreChanges I P changes → IsPlanFor I P → IsPlanFor I (drafted P changes)
drafted-valid I P [] are plan = plan
drafted-valid I P (change ∷ changes) are plan = drafted-valid I (changed P change) changes are.1 (with_row-valid I P change.leg.0 change.row are.0.row plan)

pub front-valid : (I : Situation) (P : PlanRows) (changes : List Change) (i : ℕ) → AreChanges I P changes → IsPlanFor I P → IsPlanFor I (drafted P (take i changes))
front-valid I P changes zero are plan = plan
front-valid I P [] (suc i) are plan = plan
front-valid I P (change ∷ changes) (suc i) are plan = front-valid I (changed P change) changes i are.1 (with_row-valid I P change.leg.0 change.row are.0.row plan)

pub drafted-groups : (P : PlanRows) (changes : List Change) → (drafted P changes).groups ≡ P.groups
drafted-groups P [] = refl
drafted-groups P (change ∷ changes) = drafted-groups (changed P change) changes

-- the row of a leg after one change more, where that is one of the leg, and where it is not
module _ (I : Situation) (P : PlanRows) (changes : List Change) (i x : ℕ) (are : AreChanges I P changes) (plan : IsPlanFor I P) (lt : i < length changes) where
  abbrev Q : PlanRows
  Q = drafted P (take i changes)

  abbrev change : Change
  change = get_or changes i no_change

  pub row-same : change.leg.0 ≡ x → change.row ≡ row_at (drafted P (take (i + 1) changes)) x
  row-same same =
      let within : change.leg.0 < length Q.rows = (let leg = (changes-at I P changes i are lt).leg in let rows = (front-valid I P changes i are plan).legs in omega (arith, leg, rows)) in
      sym (ap (λ (R : PlanRows). row_at R x) (drafted-more P changes i lt) ∙ ap (row_at (changed Q change)) (sym same) ∙ get_or-set_same Q.rows change.leg.0 change.row Cancelled within)

  pub row-other : change.leg.0 ≢ x → row_at Q x ≡ row_at (drafted P (take (i + 1) changes)) x
  row-other other =
      sym (ap (λ (R : PlanRows). row_at R x) (drafted-more P changes i lt) ∙ get_or-set_other Q.rows change.leg.0 x change.row Cancelled (λ same. other (sym same)))
