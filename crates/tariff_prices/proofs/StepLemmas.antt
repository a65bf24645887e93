-- No two steps of a ladder are at the same threshold, where no two rows are for the same.
use Rattle.std.proofs.Common.{◌≡◌, ℕ, Bool, true, false, ◌&&◌, ◌||◌, eqb, zero, suc, List, [], ◌∷◌, Option, Some, None, refl, sym, ap, ◌∙◌, arith}
use Rattle.std.specs.Option.{ForSome}
use Rattle.std.specs.List.{All, AllPairs, filter_map, cons_option}
use Rattle.std.proofs.lemmas.Bool.{eq-eqb, eqb-true, false≢true}
use Rattle.std.proofs.lemmas.List.Elements.{All-weaker, recursion_from_All}
use Rattle.std.proofs.lemmas.Option.{none-some, cond_some}
use Rattle.desk_units.specs.declared.tariff.TariffRow.{TariffRow}
use Rattle.desk_units.specs.Ranks.{haul_rank}
use Rattle.tariff_prices.specs.Purposes.{rate_of, same_ladder, same_purpose}
use Rattle.tariff_prices.specs.Rows.{same_family, same_rate, same_key}
use Rattle.tariff_prices.specs.Prices.{step_for, step_on, steps_by}
use Rattle.tariff_prices.specs.PriceTables.{AreApart}
use Rattle.tariff_prices.specs.declared.purpose.Rate.{Rate}
use Rattle.tariff_prices.specs.declared.purpose.Ladder.{Ladder}
use Rattle.tariff_prices.specs.declared.purpose.Ladder.TheVariants as ladder
use Rattle.tariff_prices.specs.declared.purpose.Purpose.{Purpose}
use Rattle.tariff_prices.specs.declared.purpose.Purpose.TheVariants as purpose
use Rattle.tariff_prices.specs.declared.purpose.Step.{Step}
use Rattle.tariff_prices.proofs.RateLemmas.{ForRate, each_step}

-- what is for the same as a third is for the same
same_rank : (a b c : ℕ) → eqb a c ≡ true → eqb b c ≡ true → eqb a b ≡ true
same_rank a b c e f = eq-eqb a b (eqb-true a c e ∙ sym (eqb-true b c f))

same_both : (a b l : Ladder) → same_ladder a l ≡ true → same_ladder b l ≡ true → same_ladder a b ≡ true
same_both (ladder.Care a) (ladder.Care b) (ladder.Care c) e f = same_rank (haul_rank a) (haul_rank b) (haul_rank c) e f
same_both (ladder.Compensation a) (ladder.Compensation b) (ladder.Compensation c) e f = same_rank (haul_rank a) (haul_rank b) (haul_rank c) e f
same_both (ladder.Care a) b (ladder.Compensation c) e f = absurd (false≢true e)
same_both (ladder.Compensation a) b (ladder.Care c) e f = absurd (false≢true e)
same_both (ladder.Care a) (ladder.Compensation b) (ladder.Care c) e f = absurd (false≢true f)
same_both (ladder.Compensation a) (ladder.Care b) (ladder.Compensation c) e f = absurd (false≢true f)

-- what gives a step of a ladder is owed from its threshold on
step_parts : (l : Ladder) (of : Purpose) (price : ℕ) (s : Step) → step_for l of price ≡ Some s → (k : Ladder) × (of ≡ purpose.Legal k (Some s.from)) × (same_ladder k l ≡ true)
step_parts l (purpose.Legal k (Some minutes)) price s e =
    let is = cond_some (same_ladder k l) (record { from = minutes; price = record { 0 = price } }) s e in
    (k, ap (λ (t : Step). purpose.Legal k (Some t.from)) is.1, is.0)
step_parts l of price s e = absurd (none-some s e)

apart_thresholds : (same : Bool) (m n : ℕ) → same ≡ true → (same && eqb m n) ≡ false → eqb m n ≡ false
apart_thresholds true m n e k = k
apart_thresholds false m n e k = cc

step_apart : (l : Ladder) (x y : Rate) (s t : Step) → step_on l x ≡ Some s → step_on l y ≡ Some t → same_purpose x.purpose y.purpose ≡ false → eqb s.from t.from ≡ false
unfolding step_on same_purpose
step_apart l x y s t e f k =
    let one = step_parts l x.purpose x.amount s e in
    let two = step_parts l y.purpose y.amount t f in
    apart_thresholds (same_ladder one.0 two.0) s.from t.from (same_both one.0 two.0 l one.2 two.2) (sym (λ i. same_purpose (one.1 i) (two.1 i)) ∙ k)

or_right : (a b : Bool) → (a || b) ≡ false → b ≡ false
or_right true b e = cc
or_right false b e = e

pub apart_purposes : (x y : TariffRow) (g h : Rate) → rate_of x ≡ Some g → rate_of y ≡ Some h → same_key x y ≡ false → same_purpose g.purpose h.purpose ≡ false
unfolding same_key
apart_purposes x y g h e f k = sym (λ i. same_rate (e i) (f i)) ∙ or_right (same_family x y) (same_rate (rate_of x) (rate_of y)) k

-- ---- so no two steps of rows of which no two are for the same
apart_cons : (x : Step) (all : List Step) → All (λ y. eqb x.from y.from ≡ false) all → AreApart all → AreApart (x ∷ all)
apart_cons x all h k zero zero d less below = absurd (omega arith)
apart_cons x all h k zero (suc j) d less below = h j d (omega arith)
apart_cons x all h k (suc i) zero d less below = absurd (omega arith)
apart_cons x all h k (suc i) (suc j) d less below = k i j d (omega arith) (omega arith)

apart_or_none : (o : Option Step) (all : List Step) → ForSome o (λ x. All (λ y. eqb x.from y.from ≡ false) all) → AreApart all → AreApart (cons_option o all)
apart_or_none None all h k = k
apart_or_none (Some x) all h k = apart_cons x all (h x refl) k

apart_rate : (l : Ladder) (o : Option Rate) (rest : List Rate) → ForRate o (λ g. ForSome (step_on l g) (λ x. All (λ y. eqb x.from y.from ≡ false) (filter_map (step_on l) rest))) → AreApart (filter_map (step_on l) rest) → AreApart (filter_map (step_on l) (cons_option o rest))
apart_rate l None rest h k = k
apart_rate l (Some g) rest h k = apart_or_none (step_on l g) (filter_map (step_on l) rest) (h g refl) k

pub rows_head : (x : TariffRow) (xs : List TariffRow) → AllPairs (λ a b. same_key a b ≡ false) (x ∷ xs) → All (λ y. same_key x y ≡ false) xs
rows_head x xs h = λ k d below. h 0 (suc k) d (omega arith) (omega arith)

pub rows_tail : (x : TariffRow) (xs : List TariffRow) → AllPairs (λ a b. same_key a b ≡ false) (x ∷ xs) → AllPairs (λ a b. same_key a b ≡ false) xs
rows_tail x xs h = λ i j d less below. h (suc i) (suc j) d (omega arith) (omega arith)

-- a step of a row is apart from those of the rows after it
apart_after : (l : Ladder) (row : TariffRow) (rows : List TariffRow) (g : Rate) (x : Step) → rate_of row ≡ Some g → step_on l g ≡ Some x → All (λ y. same_key row y ≡ false) rows → All (λ y. eqb x.from y.from ≡ false) (steps_by l rows)
apart_after l row rows g x e f h =
    let P : TariffRow → Type 0 = λ other. ForRate (rate_of other) (λ u. ForSome (step_on l u) (λ y. eqb x.from y.from ≡ false)) in
    each_step (λ y. eqb x.from y.from ≡ false) l rows (recursion_from_All P rows (All-weaker (λ (y : TariffRow). same_key row y ≡ false) P (λ other k u eu y ey. step_apart l g u x y f ey (apart_purposes row other g u e eu k)) rows h))

pub steps_apart : (l : Ladder) (rows : List TariffRow) → AllPairs (λ a b. same_key a b ≡ false) rows → AreApart (steps_by l rows)
unfolding steps_by
steps_apart l [] h = λ i j d less below. absurd (omega arith)
steps_apart l (row ∷ rows) h =
    apart_rate l (rate_of row) (filter_map rate_of rows) (λ g e x f. apart_after l row rows g x e f (rows_head row rows h)) (steps_apart l rows (rows_tail row rows h))
