-- Carriers are marked, reservation by reservation.
use Rattle.std.proofs.Common.{◌≡◌, ℕ, ◌+◌, inl, inr, Bool, List, length, arith, below_more}
use Rattle.desk_units.specs.declared.numbers.Leg.{Leg}
use Rattle.desk_units.specs.declared.numbers.Cabin.{Cabin}
use Rattle.desk_data.specs.declared.row.Group.{Group}
use Rattle.desk_data.specs.Situation.{Situation, planes_of}
use Rattle.desk_data.specs.PlanRows.{PlanRows, groups_at}
use Rattle.near_untouched.specs.Marks.{AreKept}
use Rattle.near_untouched.specs.Carried.{AreCarriedTold, AreCarriersMarked, AreFliersMarked, IsCarriedTold}

pub fliers-kept : (R : PlanRows) (old new : List Bool) (path : List (Leg × Cabin)) → AreKept old new → AreFliersMarked R old path → AreFliersMarked R new path
fliers-kept R old new path kept all = λ k d lt p on. kept p (all k d lt p on)

pub carriers-kept : (R : PlanRows) (old new : List Bool) (groups : List Group) → AreKept old new → AreCarriersMarked R old groups → AreCarriersMarked R new groups
carriers-kept R old new groups kept all = λ k d lt i e within p on. kept p (all k d lt i e within p on)

told-kept : (P Q : PlanRows) (old new : List Bool) (r : ℕ) → AreKept old new → IsCarriedTold P Q old r → IsCarriedTold P Q new r
told-kept P Q old new r kept told =
    elim told [
      | inl same ↦ inl same
      | inr marked ↦ inr (carriers-kept P old new (groups_at P r) kept marked.0, carriers-kept Q old new (groups_at Q r) kept marked.1)
    ]

pub told-first : (I : Situation) (P Q : PlanRows) (marks : List Bool) → length marks ≡ planes_of I → AreCarriedTold 0 I P Q marks
told-first I P Q marks planes = record { planes = planes; each = λ r lt. absurd (omega (arith, lt)) }

pub told-more : (I : Situation) (P Q : PlanRows) (old new : List Bool) (n : ℕ) → AreCarriedTold n I P Q old → AreKept old new → length new ≡ planes_of I → IsCarriedTold P Q new n → AreCarriedTold (n + 1) I P Q new
told-more I P Q old new n are kept planes is = record {
  planes = planes;
  each = below_more (IsCarriedTold P Q new) n (λ r lt. told-kept P Q old new r kept (are.each r lt)) is;
}
