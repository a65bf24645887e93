-- The board when a leg has another row, and when that is taken back.
use Rattle.std.proofs.Common.{◌≡◌, ℕ, zero, suc, List, [], ◌∷◌, get_or, set, refl, sym, ap, subst, ◌∙◌}
use Rattle.std.proofs.lemmas.List.{length-set, set-get_or}
use Rattle.std.proofs.lemmas.List.Elements.{All-set}
use Rattle.desk_data.specs.declared.parts.Parts.{Parts}
use Rattle.desk_data.specs.declared.row.Row.{Row}
use Rattle.desk_data.specs.PlanRows.{IsRow}
use Rattle.crew_rules.specs.declared.crew.CrewInfo.{CrewInfo}
use Rattle.crew_rules.specs.declared.crew.CrewBroken.{CrewBroken}
use Rattle.crew_rules.specs.Broken.{crew_at, crew_of}
use Rattle.crew_duty.specs.Faults.{AreJudged, among, by_faults, faults_of}
use Rattle.crew_duty.specs.Users.{users_at}
use Rattle.crew_duty.specs.Board.{Board, IsCrewBoard}
use Rattle.crew_duty.proofs.JudgedLaws.{moved_broken}

abbrev board_of : List Row → List (List ℕ) → List CrewBroken → Board
board_of rows users broken = record { rows = rows; users = users; broken = broken }

pub board_moved : (D : Parts) (cs : List CrewInfo) (b : Board) (rows : List Row) (users : List (List ℕ)) (old new : List CrewBroken) (x : ℕ) (row : Row)
    → (record { rows = rows; users = users; broken = old }) ≡ b → IsCrewBoard D cs b → IsRow row
    → AreJudged (by_faults (λ k. faults_of D (set rows x row) (crew_at cs k))) (λ item. among (users_at users x) (crew_of item)) old new
    → IsCrewBoard D cs (record { rows = set rows x row; users = users; broken = new })
board_moved D cs b rows users old new x row view is sound judged =
    let own : IsCrewBoard D cs (board_of rows users old) = subst (IsCrewBoard D cs) (sym view) is in
    record {
      legs = length-set rows x row ∙ own.legs;
      sound = All-set IsRow rows x row sound own.sound;
      places = own.places;
      users = own.users;
      broken = moved_broken D cs rows x row users old new own.users own.broken judged;
    }

set_twice : {X : Type 0} (xs : List X) (i : ℕ) (a b : X) → set (set xs i a) i b ≡ set xs i b
set_twice [] i a b = refl
set_twice (x ∷ xs) zero a b = refl
set_twice (x ∷ xs) (suc i) a b = ap (λ ys. x ∷ ys) (set_twice xs i a b)

-- the old row is put back, and the items are as they were
pub board_back : (b : Board) (rows : List Row) (users : List (List ℕ)) (old new : List CrewBroken) (x : ℕ) (row had : Row)
    → (record { rows = rows; users = users; broken = old }) ≡ b → had ≡ get_or rows x had → new ≡ old → (record { rows = set (set rows x row) x had; users = users; broken = new }) ≡ b
board_back b rows users old new x row had view is same =
    ap (λ (broken : List CrewBroken). board_of (set (set rows x row) x had) users broken) same
    ∙ ap (λ (back : List Row). board_of back users old) (set_twice rows x row had ∙ ap (λ (r : Row). set rows x r) is ∙ set-get_or rows x had)
    ∙ view

-- what was judged, where the rows and the crews of the leg are read
pub judged_so : (D : Parts) (cs : List CrewInfo) (seen rows : List Row) (given users : List ℕ) (old new : List CrewBroken) → seen ≡ rows → given ≡ users
    → AreJudged (by_faults (λ k. faults_of D seen (crew_at cs k))) (λ item. among given (crew_of item)) old new → AreJudged (by_faults (λ k. faults_of D rows (crew_at cs k))) (λ item. among users (crew_of item)) old new
judged_so D cs seen rows given users old new same_rows same_users judged =
    subst (λ (u : List ℕ). AreJudged (by_faults (λ k. faults_of D rows (crew_at cs k))) (λ item. among u (crew_of item)) old new) same_users
    (subst (λ (r : List Row). AreJudged (by_faults (λ k. faults_of D r (crew_at cs k))) (λ item. among given (crew_of item)) old new) same_rows judged)
