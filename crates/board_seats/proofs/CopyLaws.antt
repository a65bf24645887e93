-- Copies of the lists of a summary, of which no edit can be taken back.
use Rattle.std.proofs.Common.{◌≡◌, ℕ, ◌≤◌, List, [], length, sym, ap, subst, ◌∙◌, arith}
use Rattle.std.proofs.lemmas.List.Elements.{All-nil}
use Rattle.desk_units.specs.declared.numbers.Res.{Res}
use Rattle.desk_units.specs.declared.numbers.Seats.{Seats}
use Rattle.desk_data.specs.declared.broken.Broken.{Broken}
use Rattle.kept_set.specs.Kept.{OrderedItems}
use Rattle.board_seats.specs.declared.faults.PathFaults.{PathFaults}
use Rattle.board_seats.specs.declared.edit.Edit.{Edit}
use Rattle.board_seats.specs.Kept.{Lists, HasPlace, IsLogged}

pub copied_logged : (legs reservations : ℕ) (broken : OrderedItems Broken) (edits : List Edit) → length broken.items ≤ broken.room → edits ≡ [] → IsLogged legs reservations broken edits
copied_logged legs reservations broken edits fits none =
    subst (IsLogged legs reservations broken) (sym none) (record { places = All-nil (HasPlace legs reservations); room = omega (arith, fits) })

abbrev lists_by : List Seats → List PathFaults → List Broken → List (List Res) → List Edit → Lists
lists_by taken faults broken users edits = record { taken = taken; faults = faults; broken = broken; users = users; edits = edits }

-- lists, with no edit to take back
abbrev unedited : Lists → Lists
unedited lists = record lists { edits = [] }

pub copied_lists : (l now : Lists) (taken : List Seats) (faults : List PathFaults) (broken : List Broken) (users : List (List Res)) (edits : List Edit) → l ≡ now → taken ≡ l.taken → faults ≡ l.faults → broken ≡ l.broken → users ≡ l.users → edits ≡ [] → lists_by taken faults broken users edits ≡ record now { edits = [] }
copied_lists l now taken faults broken users edits view of_taken of_faults of_broken of_users none =
    ap (λ (xs : List Seats). lists_by xs faults broken users edits) of_taken
    ∙ ap (λ (xs : List PathFaults). lists_by l.taken xs broken users edits) of_faults
    ∙ ap (λ (xs : List Broken). lists_by l.taken l.faults xs users edits) of_broken
    ∙ ap (λ (xs : List (List Res)). lists_by l.taken l.faults l.broken xs edits) of_users
    ∙ ap (λ (xs : List Edit). lists_by l.taken l.faults l.broken l.users xs) none
    ∙ ap unedited view
