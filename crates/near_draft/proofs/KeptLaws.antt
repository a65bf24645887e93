-- Lists of legs that are kept, and another row of one leg.
use Rattle.std.proofs.Common.{◌≡◌, ℕ, zero, suc, List, [], ◌∷◌, ◌++◌, get_or, set, refl, sym, ap, ◌∙◌}
use Rattle.std.proofs.lemmas.List.Elements.{All-push}
use Rattle.desk_data.specs.declared.row.Row.{Row}
use Rattle.desk_data.specs.declared.row.Row.TheVariants.{Cancelled}
use Rattle.desk_data.specs.Situation.{Situation}
use Rattle.desk_data.specs.PlanRows.{PlanRows, row_at, with_row}
use Rattle.desk_rules.specs.Maintenance.{is_flown_by}
use Rattle.near_draft.specs.declared.kept.PlaneLegs.{PlaneLegs}
use Rattle.near_draft.specs.Kept.{AreKept}
use Rattle.near_draft.specs.Legs.{AreLegsOf, numbers_of}

-- a row of the same aircraft changes nothing of who flies a leg
flown-same : (p : ℕ) (rows : List Row) (x z : ℕ) (row : Row) → is_flown_by p (get_or rows x Cancelled) ≡ is_flown_by p row → is_flown_by p (get_or (set rows x row) z Cancelled) ≡ is_flown_by p (get_or rows z Cancelled)
flown-same p [] x z row same = refl
flown-same p (first ∷ rows) zero zero row same = sym same
flown-same p (first ∷ rows) zero (suc z) row same = refl
flown-same p (first ∷ rows) (suc x) zero row same = refl
flown-same p (first ∷ rows) (suc x) (suc z) row same = flown-same p rows x z row same

legs-same : (I : Situation) (P : PlanRows) (p x : ℕ) (row : Row) (legs : List ℕ) → is_flown_by p (row_at P x) ≡ is_flown_by p row → AreLegsOf I P p legs → AreLegsOf I (with_row P x row) p legs
legs-same I P p x row legs same are = record {
  flown = λ k d lt. ((are.flown k d lt).0, flown-same p P.rows x (get_or legs k d) row same ∙ (are.flown k d lt).1);
  each = λ z within flown. are.each z within (sym (flown-same p P.rows x z row same) ∙ flown);
}

pub kept-same : (I : Situation) (P : PlanRows) (x : ℕ) (was row : Row) (lists : List PlaneLegs) → was ≡ row_at P x → ((p : ℕ) → is_flown_by p was ≡ is_flown_by p row) → AreKept I P lists → AreKept I (with_row P x row) lists
kept-same I P x was row lists is same kept = λ k d lt.
    let list = get_or lists k d in
    legs-same I P list.plane.0 x row (numbers_of list.legs.items) (ap (is_flown_by list.plane.0) (sym is) ∙ same list.plane.0) (kept k d lt)

-- one list more
pub kept-more : (I : Situation) (P : PlanRows) (lists : List PlaneLegs) (list : PlaneLegs) → AreKept I P lists → AreLegsOf I P list.plane.0 (numbers_of list.legs.items) → AreKept I P (lists ++ list ∷ [])
kept-more I P lists list kept are = All-push (λ (l : PlaneLegs). AreLegsOf I P l.plane.0 (numbers_of l.legs.items)) lists list kept are
