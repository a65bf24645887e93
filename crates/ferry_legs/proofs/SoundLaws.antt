-- A plan that breaks no rule breaks none of C4 to C11 with no added legs.
use Rattle.std.proofs.Common.{◌≡◌, Bool, List, [], ◌++◌, length, ap, ◌∙◌}
use Rattle.std.specs.Prelude.{None, find}
use Rattle.std.specs.Option.{option_map}
use Rattle.desk_data.specs.declared.broken.Broken.{Broken}
use Rattle.desk_data.specs.declared.broken.Broken.TheVariants.{C1, C2, C3, C4, C5, C6, C7, C8, C9}
use Rattle.desk_data.specs.Situation.{Situation, legs_of}
use Rattle.desk_data.specs.PlanRows.{PlanRows}
use Rattle.desk_data.specs.Valid.{IsValid}
use Rattle.desk_rules.specs.Least.{breaks, each_leg, each_plane, rotation_items, slot_items, pax_items, items, least}
use Rattle.desk_rules.specs.Words.{IsFeasible}
use Rattle.desk_rules.proofs.FindLaws.{find_none-parts, find_none-both}
use Rattle.desk_rules.proofs.LeastLaws.{feasible-from}
use Rattle.added_legs.specs.Added.{items_from_c4, least_added}
use Rattle.added_legs.specs.declared.added.AddBroken.TheVariants as add
use Rattle.added_legs.proofs.EmptyLaws.{same_least}

module _ (q : Broken → Bool) (c1 c2 c3 c4 c5 c6 c7 c8 c9 slots pax : List Broken) where
  none_after : find q ((c1 ++ c2 ++ c3 ++ c4 ++ c5 ++ c6 ++ c7 ++ c8 ++ c9) ++ slots ++ pax) ≡ None → find q (c4 ++ c5 ++ c6 ++ c7 ++ c8 ++ c9 ++ slots) ≡ None
  none_after none =
      let last = find_none-parts q ((c1 ++ c2 ++ c3 ++ c4 ++ c5 ++ c6 ++ c7 ++ c8 ++ c9) ++ slots) pax none in
      let ten = find_none-parts q (c1 ++ c2 ++ c3 ++ c4 ++ c5 ++ c6 ++ c7 ++ c8 ++ c9) slots last.0 in
      let nine = find_none-parts q (c1 ++ c2 ++ c3 ++ c4 ++ c5 ++ c6 ++ c7 ++ c8) c9 ten.0 in
      let eight = find_none-parts q (c1 ++ c2 ++ c3 ++ c4 ++ c5 ++ c6 ++ c7) c8 nine.0 in
      let seven = find_none-parts q (c1 ++ c2 ++ c3 ++ c4 ++ c5 ++ c6) c7 eight.0 in
      let six = find_none-parts q (c1 ++ c2 ++ c3 ++ c4 ++ c5) c6 seven.0 in
      let five = find_none-parts q (c1 ++ c2 ++ c3 ++ c4) c5 six.0 in
      let four = find_none-parts q (c1 ++ c2 ++ c3) c4 five.0 in
      let to_five = find_none-both q c4 c5 four.1 five.1 in
      let to_six = find_none-both q (c4 ++ c5) c6 to_five six.1 in
      let to_seven = find_none-both q (c4 ++ c5 ++ c6) c7 to_six seven.1 in
      let to_eight = find_none-both q (c4 ++ c5 ++ c6 ++ c7) c8 to_seven eight.1 in
      let to_nine = find_none-both q (c4 ++ c5 ++ c6 ++ c7 ++ c8) c9 to_eight nine.1 in
      find_none-both q (c4 ++ c5 ++ c6 ++ c7 ++ c8 ++ c9) slots to_nine ten.1

none_from_c4 : (I : Situation) (P : PlanRows) → least I P ≡ None → find (breaks I P) (items_from_c4 I) ≡ None
unfolding least items rotation_items items_from_c4
none_from_c4 I P none =
    none_after (breaks I P) (each_leg I C1) (each_leg I C2) (each_leg I C3) (each_leg I C4) (each_leg I C5) (each_leg I C6) (each_leg I C7) (each_plane I C8) (each_plane I C9) (slot_items I) (pax_items I) none

pub sound_at_first : (I : Situation) (P : PlanRows) → IsValid I → length P.rows ≡ legs_of I → IsFeasible I P → least_added I P [] ≡ None
sound_at_first I P valid all feasible =
    same_least I P valid all ∙ ap (option_map add.Old) (none_from_c4 I P (feasible-from I P feasible))
