-- Several plans at once, which may share pages. Each is called a version.
use Rattle.std.specs.Prelude.{◌≢◌, ℕ, ◌-◌, nat_lt, if◌then◌else◌, List, [], ◌∷◌, ◌++◌, slice_index_or, slice_set}
use Rattle.std.specs.List.{remove}
use Rattle.desk_data.specs.PlanRows.{PlanRows}

-- a plan of nothing
abbrev pub no_plan : PlanRows
no_plan = record { rows = []; groups = [] }

-- a version; beyond the last there is a plan of nothing
abbrev pub version_at : List PlanRows → ℕ → PlanRows
version_at versions which = slice_index_or versions which no_plan

-- what becomes of versions: another one comes to share the pages of one, and stands last; one is dropped, and those after it move up by a
-- place; or one is replaced by another plan: a row, groups or a page of it has changed. Another plan that shares pages with one (`Pages::with_plan`)
-- is a shared copy that is replaced
pub data VersionChange : Type 0 where
  shared : ℕ → VersionChange
  dropped : ℕ → VersionChange
  replaced : ℕ → PlanRows → VersionChange

abbrev pub after_version_change : List PlanRows → VersionChange → List PlanRows
after_version_change versions (shared which) = versions ++ version_at versions which ∷ []
after_version_change versions (dropped which) = remove versions which
after_version_change versions (replaced which P) = slice_set versions which P

-- several changes, one after the other
abbrev pub after_version_changes : List PlanRows → List VersionChange → List PlanRows
after_version_changes versions [] = versions
after_version_changes versions (change ∷ later) = after_version_changes (after_version_change versions change) later

-- where version k stands after a change
abbrev pub place_after : ℕ → VersionChange → ℕ
place_after k (shared which) = k
place_after k (dropped which) = if nat_lt which k then k - 1 else k
place_after k (replaced which P) = k

abbrev pub place_after_all : ℕ → List VersionChange → ℕ
place_after_all k [] = k
place_after_all k (change ∷ later) = place_after_all (place_after k change) later

-- version k is neither dropped nor replaced
abbrev pub LeavesAlone : ℕ → VersionChange → Type 0
LeavesAlone k (shared which) = Unit {0}
LeavesAlone k (dropped which) = k ≢ which
LeavesAlone k (replaced which P) = k ≢ which

-- nor is it by any of several changes, wherever it stands meanwhile
abbrev pub AllLeaveAlone : ℕ → List VersionChange → Type 0
AllLeaveAlone k [] = Unit {0}
AllLeaveAlone k (change ∷ later) = LeavesAlone k change × AllLeaveAlone (place_after k change) later
