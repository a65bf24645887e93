-- The test of an item says what the item asks in words.
use Rattle.std.proofs.Common.{◌≡◌, false}
use Rattle.std.proofs.lemmas.Bool.{not-false, not_from_true}
use Rattle.desk_data.specs.declared.broken.Broken.{Broken}
use Rattle.desk_data.specs.declared.broken.Broken.TheVariants.{C1, C2, C3, C4, C5, C6, C7, C8, C9, C10, C11, C12, C13, C14, C15}
use Rattle.desk_data.specs.Situation.{Situation}
use Rattle.desk_data.specs.PlanRows.{PlanRows}
use Rattle.desk_rules.specs.Rules.{keeps_c1, keeps_c2, keeps_c3, keeps_c4, keeps_c5, keeps_c6, keeps_c7}
use Rattle.desk_rules.specs.Maintenance.{keeps_c8, keeps_c9}
use Rattle.desk_rules.specs.Slots.{keeps_c10, keeps_c11}
use Rattle.desk_rules.specs.Carriage.{keeps_c12, keeps_c13, keeps_c14, keeps_c15}
use Rattle.desk_rules.specs.Least.{breaks}
use Rattle.desk_rules.specs.Words.{Meets}
use Rattle.desk_rules.proofs.LegLaws.{keeps_c1-holds, keeps_c1-from, keeps_c2-holds, keeps_c2-from, keeps_c3-holds, keeps_c3-from, keeps_c4-holds, keeps_c4-from, keeps_c7-holds, keeps_c7-from}
use Rattle.desk_rules.proofs.RotationLaws.{keeps_c5-holds, keeps_c5-from, keeps_c6-holds, keeps_c6-from}
use Rattle.desk_rules.proofs.MaintenanceLaws.{keeps_c8-holds, keeps_c8-from, keeps_c9-holds, keeps_c9-from}
use Rattle.desk_rules.proofs.SlotLaws.{keeps_c10-holds, keeps_c10-from, keeps_c11-holds, keeps_c11-from}
use Rattle.desk_rules.proofs.CarriageLaws.{keeps_c12-holds, keeps_c12-from, keeps_c13-holds, keeps_c13-from, keeps_c14-holds, keeps_c14-from, keeps_c15-holds, keeps_c15-from}

pub breaks-holds : (I : Situation) (P : PlanRows) (item : Broken) → breaks I P item ≡ false → Meets I P item
unfolding breaks
breaks-holds I P (C1 item) h = keeps_c1-holds I P item.0 (not-false (keeps_c1 I P item.0) h)
breaks-holds I P (C2 item) h = keeps_c2-holds I P item.0 (not-false (keeps_c2 I P item.0) h)
breaks-holds I P (C3 item) h = keeps_c3-holds I P item.0 (not-false (keeps_c3 I P item.0) h)
breaks-holds I P (C4 item) h = keeps_c4-holds I P item.0 (not-false (keeps_c4 I P item.0) h)
breaks-holds I P (C5 item) h = keeps_c5-holds I P item.0 (not-false (keeps_c5 I P item.0) h)
breaks-holds I P (C6 item) h = keeps_c6-holds I P item.0 (not-false (keeps_c6 I P item.0) h)
breaks-holds I P (C7 item) h = keeps_c7-holds I P item.0 (not-false (keeps_c7 I P item.0) h)
breaks-holds I P (C8 item) h = keeps_c8-holds I P item.0 (not-false (keeps_c8 I P item.0) h)
breaks-holds I P (C9 item) h = keeps_c9-holds I P item.0 (not-false (keeps_c9 I P item.0) h)
breaks-holds I P (C10 airport hour) h = keeps_c10-holds I P airport.0 hour (not-false (keeps_c10 I P airport.0 hour) h)
breaks-holds I P (C11 airport hour) h = keeps_c11-holds I P airport.0 hour (not-false (keeps_c11 I P airport.0 hour) h)
breaks-holds I P (C12 leg cabin) h = keeps_c12-holds I P leg.0 cabin (not-false (keeps_c12 I P leg.0 cabin) h)
breaks-holds I P (C13 res) h = keeps_c13-holds I P res.0 (not-false (keeps_c13 I P res.0) h)
breaks-holds I P (C14 res) h = keeps_c14-holds I P res.0 (not-false (keeps_c14 I P res.0) h)
breaks-holds I P (C15 res) h = keeps_c15-holds I P res.0 (not-false (keeps_c15 I P res.0) h)

pub breaks-from : (I : Situation) (P : PlanRows) (item : Broken) → Meets I P item → breaks I P item ≡ false
unfolding breaks
breaks-from I P (C1 item) h = not_from_true (keeps_c1 I P item.0) (keeps_c1-from I P item.0 h)
breaks-from I P (C2 item) h = not_from_true (keeps_c2 I P item.0) (keeps_c2-from I P item.0 h)
breaks-from I P (C3 item) h = not_from_true (keeps_c3 I P item.0) (keeps_c3-from I P item.0 h)
breaks-from I P (C4 item) h = not_from_true (keeps_c4 I P item.0) (keeps_c4-from I P item.0 h)
breaks-from I P (C5 item) h = not_from_true (keeps_c5 I P item.0) (keeps_c5-from I P item.0 h)
breaks-from I P (C6 item) h = not_from_true (keeps_c6 I P item.0) (keeps_c6-from I P item.0 h)
breaks-from I P (C7 item) h = not_from_true (keeps_c7 I P item.0) (keeps_c7-from I P item.0 h)
breaks-from I P (C8 item) h = not_from_true (keeps_c8 I P item.0) (keeps_c8-from I P item.0 h)
breaks-from I P (C9 item) h = not_from_true (keeps_c9 I P item.0) (keeps_c9-from I P item.0 h)
breaks-from I P (C10 airport hour) h = not_from_true (keeps_c10 I P airport.0 hour) (keeps_c10-from I P airport.0 hour h)
breaks-from I P (C11 airport hour) h = not_from_true (keeps_c11 I P airport.0 hour) (keeps_c11-from I P airport.0 hour h)
breaks-from I P (C12 leg cabin) h = not_from_true (keeps_c12 I P leg.0 cabin) (keeps_c12-from I P leg.0 cabin h)
breaks-from I P (C13 res) h = not_from_true (keeps_c13 I P res.0) (keeps_c13-from I P res.0 h)
breaks-from I P (C14 res) h = not_from_true (keeps_c14 I P res.0) (keeps_c14-from I P res.0 h)
breaks-from I P (C15 res) h = not_from_true (keeps_c15 I P res.0) (keeps_c15-from I P res.0 h)
