-- When the legs of a plan depart and arrive is bounded.
use Rattle.std.proofs.Common.{◌≡◌, ℕ, zero, suc, ◌+◌, ◌<◌, ◌≤◌, inl, inr, [], ◌∷◌, length, refl, ap, ◌∙◌, arith, length-append}
use Rattle.std.proofs.lemmas.Bool.{cases_lt}
use Rattle.std.proofs.lemmas.List.{get_or_past}
use Rattle.std.proofs.lemmas.List.Elements.{All-get_or}
use Rattle.desk_data.specs.declared.row.Row.{Row}
use Rattle.desk_data.specs.declared.row.Row.TheVariants.{Flown, Cancelled}
use Rattle.desk_data.specs.Situation.{Situation, legs_of, planes_of, airports_of, leg_at, no_leg}
use Rattle.desk_data.specs.PlanRows.{PlanRows, row_at}
use Rattle.desk_data.specs.Valid.{IsValid, IsLeg, IsRowOf, IsPlanFor}
use Rattle.desk_rules.specs.Numbers.{numbers}
use Rattle.desk_rules.specs.Rotations.{departure, dep, arr}
use Rattle.desk_rules.specs.Least.{all_hours}
use Rattle.desk_rules.specs.Words.{DepartsIn, ArrivesIn}

pub length-numbers : (n : ℕ) → length (numbers n) ≡ n
length-numbers zero = refl
length-numbers (suc n) = length-append (numbers n) (n ∷ []) ∙ ap (λ (k : ℕ). k + 1) (length-numbers n) ∙ (let e : n + 1 ≡ suc n = omega arith in e)

pub block_le : (I : Situation) (x : ℕ) → IsValid I → (leg_at I x).block ≤ 2880
unfolding no_leg
block_le I x valid =
    elim (cases_lt x (legs_of I)) [
      | inl within ↦ (All-get_or (IsLeg (airports_of I) (planes_of I) (legs_of I)) I.parts.legs x no_leg within valid.parts.legs).block
      | inr past ↦ rw (get_or_past I.parts.legs x no_leg past) (omega arith)
    ]

departure-lt : (planes : ℕ) (row : Row) → IsRowOf planes row → departure row < 52500000
departure-lt planes (Flown plane at) h = h.1
departure-lt planes Cancelled h = omega arith

-- a plan's legs depart before minute 52,500,000, and arrive at most 2,880 minutes later
pub dep-lt : (I : Situation) (P : PlanRows) (x : ℕ) → IsPlanFor I P → dep P x < 52500000
dep-lt I P x plan =
    elim (cases_lt x (length P.rows)) [
      | inl within ↦ departure-lt (planes_of I) (row_at P x) (All-get_or (IsRowOf (planes_of I)) P.rows x Cancelled within plan.rows)
      | inr past ↦ rw (get_or_past P.rows x Cancelled past) (omega arith)
    ]

pub arr-lt : (I : Situation) (P : PlanRows) (x : ℕ) → IsValid I → IsPlanFor I P → arr I P x < 52502880
arr-lt I P x valid plan = omega (arith, dep-lt I P x plan, block_le I x valid)

-- so each hour in which one departs or arrives can be named
pub departs_within : (I : Situation) (P : PlanRows) (a h x : ℕ) → IsPlanFor I P → DepartsIn I P a h x → h < all_hours
unfolding all_hours
departs_within I P a h x plan leg =
    let same : dep P x ≡ leg.dep = ap departure leg.flown in
    omega (arith, same, dep-lt I P x plan, leg.from)

pub arrives_within : (I : Situation) (P : PlanRows) (a h x : ℕ) → IsValid I → IsPlanFor I P → ArrivesIn I P a h x → h < all_hours
unfolding all_hours
arrives_within I P a h x valid plan leg =
    let same : arr I P x ≡ leg.dep + (leg_at I x).block = ap (λ (row : Row). departure row + (leg_at I x).block) leg.flown in
    omega (arith, same, arr-lt I P x valid plan, leg.from)
