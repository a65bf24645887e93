-- What the first broken item names is there.
use Rattle.std.proofs.Common.{◌≡◌, sym}
use Rattle.std.specs.Prelude.{Option, Some, None, IfSome}
use Rattle.desk_data.specs.declared.broken.Broken.{Broken}
use Rattle.desk_data.specs.Situation.{Situation}
use Rattle.desk_data.specs.PlanRows.{PlanRows}
use Rattle.desk_rules.specs.Least.{least}
use Rattle.output_texts.specs.Writable.{Names}
use Rattle.output_texts.proofs.WritableLaws.{least-names}

pub item_names : (I : Situation) (P : PlanRows) (o : Option Broken) → o ≡ least I P → IfSome o (Names I)
item_names I P None e = tt
item_names I P (Some item) e = least-names I P item (sym e)
