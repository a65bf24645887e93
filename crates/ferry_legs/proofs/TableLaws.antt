-- How many legs of a plan depart from an airport in an hour, or arrive there: one more leg.
use Rattle.std.proofs.Common.{◌≡◌, ℕ, ◌+◌, ◌≤◌, Bool, true, false, not, ◌&&◌, cond, eqb, List, [], refl, sym, ap, ◌∙◌, arith, add-one}
use Rattle.std.specs.Prelude.{Some, None, count_by}
use Rattle.std.proofs.lemmas.List.Sums.{sum_by_push, count_by-le-length}
use Rattle.desk_data.specs.declared.row.Row.{Row}
use Rattle.desk_data.specs.declared.row.Row.TheVariants.{Flown, Cancelled}
use Rattle.desk_data.specs.Situation.{Situation, legs_of, plane_at}
use Rattle.desk_data.specs.PlanRows.{PlanRows, row_at}
use Rattle.desk_rules.specs.Numbers.{numbers}
use Rattle.desk_rules.proofs.HourLaws.{length-numbers}
use Rattle.hour_counts.specs.declared.slot.Movement.{Movement}
use Rattle.hour_counts.specs.declared.slot.Movement.TheVariants.{Departure, Arrival}
use Rattle.hour_counts.specs.Counts.{Enters, among, count_at, one_if}
use Rattle.ferry_legs.specs.Departs.{count_of}
use Rattle.ferry_legs.specs.Taken.{slot_by, hour_by}
use Rattle.ferry_legs.proofs.CountLaws.{moves_in, counted}

-- the first n legs
abbrev pub IsTableOf : Movement → Situation → PlanRows → ℕ → List ((ℕ × ℕ) × ℕ) → Type 0
IsTableOf movement I P n table = (a h : ℕ) → count_at table a h ≡ count_by (moves_in movement I P a h) (numbers n)

pub no_table : (movement : Movement) (I : Situation) (P : PlanRows) → IsTableOf movement I P 0 []
no_table movement I P = λ a h. refl

flown_if : (b : Bool) (slot : ℕ × ℕ) (a h : ℕ) → one_if (not b && (eqb slot.0 a && eqb slot.1 h)) ≡ among (cond b None (Some slot)) a h
flown_if true slot a h = refl
flown_if false slot a h = refl

slot_among : (movement : Movement) (I : Situation) (P : PlanRows) (a h x : ℕ) (row : Row) → row_at P x ≡ row → one_if (moves_in movement I P a h x) ≡ among (slot_by I movement x row) a h
slot_among Departure I P a h x Cancelled is = rw is refl
slot_among Arrival I P a h x Cancelled is = rw is refl
slot_among Departure I P a h x (Flown q d) is = rw is (flown_if (plane_at I q.0).surface (hour_by I Departure x d.0) a h)
slot_among Arrival I P a h x (Flown q d) is = rw is (flown_if (plane_at I q.0).surface (hour_by I Arrival x d.0) a h)

few : (p : ℕ → Bool) (n m : ℕ) → m ≡ count_by p (numbers n) → n ≤ 20000 → m ≤ 4000000000
few p n m is most = omega (arith, is, most, count_by-le-length p (numbers n), length-numbers n)

one_more : (p : ℕ → Bool) (n : ℕ) → count_by p (numbers (n + 1)) ≡ count_by p (numbers n) + one_if (p n)
one_more p n = rw add-one (sum_by_push (λ y. one_if (p y)) (numbers n) n)

pub table_more : (movement : Movement) (I : Situation) (P : PlanRows) (n : ℕ) (row : Row) (old new : List ((ℕ × ℕ) × ℕ)) → n ≤ 20000 → row_at P n ≡ row → IsTableOf movement I P n old → Enters old new (slot_by I movement n row) → IsTableOf movement I P (n + 1) new
table_more movement I P n row old new most is are come = λ a h.
    omega (
      arith,
      come (λ b k. few (moves_in movement I P b k) n (count_at old b k) (are b k) most) a h,
      are a h,
      one_more (moves_in movement I P a h) n,
      slot_among movement I P a h n row is,
    )

pub table_whole : (movement : Movement) (I : Situation) (P : PlanRows) (n : ℕ) (table : List ((ℕ × ℕ) × ℕ)) → n ≡ legs_of I → IsTableOf movement I P n table → (a h : ℕ) → count_at table a h ≡ count_of movement I P a h
table_whole movement I P n table all are a h = are a h ∙ ap (λ (n : ℕ). count_by (moves_in movement I P a h) (numbers n)) all ∙ sym (counted movement I P a h)
