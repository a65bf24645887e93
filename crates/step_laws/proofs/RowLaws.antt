-- A plan in which one leg has another row, or one reservation other groups: a sum over all legs, or over all reservations, changes
-- by the term of that one, and so does a count.
use Rattle.std.proofs.Common.{◌≡◌, ◌≢◌, ℕ, ◌+◌, ◌<◌, Bool, List, [], length, ap, ◌∙◌}
use Rattle.std.specs.List.{sum_by, count_by}
use Rattle.std.proofs.lemmas.List.{get_or-set_same, get_or-set_other}
use Rattle.desk_data.specs.declared.row.Row.{Row}
use Rattle.desk_data.specs.declared.row.Row.TheVariants.{Cancelled}
use Rattle.desk_data.specs.declared.row.Group.{Group}
use Rattle.desk_data.specs.PlanRows.{PlanRows, row_at, groups_at, with_row, with_groups}
use Rattle.desk_units.specs.declared.numbers.Cabin.{Cabin}
use Rattle.desk_rules.specs.Numbers.{numbers}
use Rattle.desk_rules.specs.Passengers.{aboard, aboard_of}
use Rattle.std.proofs.lemmas.List.Sums.{sum_by-set}
use Rattle.step_laws.proofs.SumLaws.{one_if, sum_change}

-- ---- rows

pub row_here : (P : PlanRows) (x : ℕ) (row : Row) → x < length P.rows → row_at (with_row P x row) x ≡ row
row_here P x row within = get_or-set_same P.rows x row Cancelled within

pub row_there : (P : PlanRows) (x : ℕ) (row : Row) (y : ℕ) → y ≢ x → row_at (with_row P x row) y ≡ row_at P y
row_there P x row y apart = get_or-set_other P.rows x y row Cancelled apart

-- a sum of what each leg has by its row
pub sum_of_rows : (f : ℕ → Row → ℕ) (P : PlanRows) (n x : ℕ) (row : Row) → x < n → x < length P.rows → sum_by (λ y. f y (row_at (with_row P x row) y)) (numbers n) + f x (row_at P x) ≡ sum_by (λ y. f y (row_at P y)) (numbers n) + f x row
sum_of_rows f P n x row lt within =
    sum_change (λ y. f y (row_at (with_row P x row) y)) (λ y. f y (row_at P y)) n x lt (λ y apart. ap (f y) (row_there P x row y apart))
    ∙ ap (λ (r : Row). sum_by (λ y. f y (row_at P y)) (numbers n) + f x r) (row_here P x row within)

-- how many legs pass a test of their rows
pub count_of_rows : (p : ℕ → Row → Bool) (P : PlanRows) (n x : ℕ) (row : Row) → x < n → x < length P.rows → count_by (λ y. p y (row_at (with_row P x row) y)) (numbers n) + one_if (p x (row_at P x)) ≡ count_by (λ y. p y (row_at P y)) (numbers n) + one_if (p x row)
count_of_rows p P n x row lt within = sum_of_rows (λ y r. one_if (p y r)) P n x row lt within

-- ---- groups

pub groups_here : (P : PlanRows) (r : ℕ) (groups : List Group) → r < length P.groups → groups_at (with_groups P r groups) r ≡ groups
groups_here P r groups within = get_or-set_same P.groups r groups [] within

pub groups_there : (P : PlanRows) (r : ℕ) (groups : List Group) (s : ℕ) → s ≢ r → groups_at (with_groups P r groups) s ≡ groups_at P s
groups_there P r groups s apart = get_or-set_other P.groups r s groups [] apart

-- a sum of what each reservation has by its groups
pub sum_of_groups : (f : ℕ → List Group → ℕ) (P : PlanRows) (n r : ℕ) (groups : List Group) → r < n → r < length P.groups → sum_by (λ s. f s (groups_at (with_groups P r groups) s)) (numbers n) + f r (groups_at P r) ≡ sum_by (λ s. f s (groups_at P s)) (numbers n) + f r groups
sum_of_groups f P n r groups lt within =
    sum_change (λ s. f s (groups_at (with_groups P r groups) s)) (λ s. f s (groups_at P s)) n r lt (λ s apart. ap (f s) (groups_there P r groups s apart))
    ∙ ap (λ (gs : List Group). sum_by (λ s. f s (groups_at P s)) (numbers n) + f r gs) (groups_here P r groups within)

-- how many reservations pass a test of their groups
pub count_of_groups : (p : ℕ → List Group → Bool) (P : PlanRows) (n r : ℕ) (groups : List Group) → r < n → r < length P.groups → count_by (λ s. p s (groups_at (with_groups P r groups) s)) (numbers n) + one_if (p r (groups_at P r)) ≡ count_by (λ s. p s (groups_at P s)) (numbers n) + one_if (p r groups)
count_of_groups p P n r groups lt within = sum_of_groups (λ s gs. one_if (p s gs)) P n r groups lt within

-- how many are aboard a leg
pub aboard_groups : (P : PlanRows) (r : ℕ) (groups : List Group) (x : ℕ) (c : Cabin) → r < length P.groups → aboard (with_groups P r groups) x c + aboard_of x c (groups_at P r) ≡ aboard P x c + aboard_of x c groups
unfolding aboard
aboard_groups P r groups x c within = sum_by-set (aboard_of x c) P.groups r groups [] within
