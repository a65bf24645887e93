-- What the board of a book has told.
use Rattle.std.proofs.Common.{◌≡◌, List, sym, subst}
use Rattle.std.specs.Prelude.{Result, Ok, Err, OnOk}
use Rattle.desk_model.specs.declared.answer.Entry.{Entry}
use Rattle.desk_core.specs.Recorded.{Recorded}
use Rattle.live_board.specs.declared.told.Told.{Told}
use Rattle.desk_core.specs.Posts.{HasTold}

-- what was told of the history that a pass saw was told of the journal of the book
pub told_journal : (B : Recorded) (h g : List Entry) (log : List (Told Recorded Entry)) → g ≡ h → HasTold B h log → HasTold B g log
told_journal B h g log same told = subst (λ (l : List Entry). HasTold B l log) (sym same) told

-- what is so anyway is so where it went well
pub so_anyway : {T E : Type 0} (r : Result T E) (P : Type 0) → P → OnOk r P
so_anyway (Ok x) P p = p
so_anyway (Err e) P p = tt
