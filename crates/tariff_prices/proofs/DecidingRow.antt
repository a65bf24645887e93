-- Where no two rows are for the same, each row decides what it is for.
use Rattle.std.proofs.Common.{◌≡◌, ℕ, true, false, cond, eqb, zero, suc, List, [], ◌∷◌, get_or, Option, Some, None, refl, ap, ◌∙◌, arith}
use Rattle.std.specs.Option.{ForSome}
use Rattle.std.specs.List.{All, AllPairs, cons_option, filter_map, find}
use Rattle.std.proofs.lemmas.Bool.{eq-eqb, and_from}
use Rattle.desk_units.specs.declared.tariff.TariffRow.{TariffRow}
use Rattle.desk_units.specs.Ranks.{cabin_rank, haul_rank, term_rank}
use Rattle.tariff_prices.specs.Purposes.{rate_of, same_haul, same_cabin, same_ladder, same_threshold, same_purpose}
use Rattle.tariff_prices.specs.Rows.{same_key}
use Rattle.tariff_prices.specs.Prices.{first_rate}
use Rattle.tariff_prices.specs.declared.purpose.Ladder.{Ladder}
use Rattle.tariff_prices.specs.declared.purpose.Ladder.TheVariants as ladder
use Rattle.tariff_prices.specs.declared.purpose.Purpose.{Purpose}
use Rattle.tariff_prices.specs.declared.purpose.Purpose.TheVariants as purpose
use Rattle.tariff_prices.specs.declared.purpose.Rate.{Rate}
use Rattle.tariff_prices.proofs.StepLemmas.{apart_purposes, rows_head, rows_tail}

-- each purpose is the same as itself
equal : (n : ℕ) → eqb n n ≡ true
equal n = eq-eqb n n refl

ladder_itself : (l : Ladder) → same_ladder l l ≡ true
ladder_itself (ladder.Care haul) = equal (haul_rank haul)
ladder_itself (ladder.Compensation haul) = equal (haul_rank haul)

threshold_itself : (t : Option ℕ) → same_threshold t t ≡ true
threshold_itself None = refl
threshold_itself (Some n) = equal n

purpose_itself : (of : Purpose) → same_purpose of of ≡ true
unfolding same_purpose
purpose_itself (purpose.Weight term) = equal (term_rank term)
purpose_itself (purpose.Delay h k) = and_from (same_haul h h) (same_cabin k k) (equal (haul_rank h)) (equal (cabin_rank k))
purpose_itself (purpose.Cancel h k) = and_from (same_haul h h) (same_cabin k k) (equal (haul_rank h)) (equal (cabin_rank k))
purpose_itself (purpose.Downgrade h k l) = and_from (same_haul h h) _ (equal (haul_rank h)) (and_from (same_cabin k k) (same_cabin l l) (equal (cabin_rank k)) (equal (cabin_rank l)))
purpose_itself (purpose.Legal l t) = and_from (same_ladder l l) (same_threshold t t) (ladder_itself l) (threshold_itself t)
purpose_itself purpose.Position = refl

-- a rate that is for something else is passed over
passed_over : (o : Option Rate) (of : Purpose) (rest : List Rate) → ForSome o (λ u. same_purpose u.purpose of ≡ false) → find (λ u. same_purpose u.purpose of) (cons_option o rest) ≡ find (λ u. same_purpose u.purpose of) rest
passed_over None of rest h = refl
passed_over (Some u) of rest h = ap (λ t. cond t (Some u) (find (λ v. same_purpose v.purpose of) rest)) (h u refl)

found_first : (o : Option Rate) (rate : Rate) (rest : List Rate) → o ≡ Some rate → find (λ u. same_purpose u.purpose rate.purpose) (cons_option o rest) ≡ Some rate
found_first o rate rest e =
    ap (λ p. find (λ u. same_purpose u.purpose rate.purpose) (cons_option p rest)) e
    ∙ ap (λ t. cond t (Some rate) (find (λ u. same_purpose u.purpose rate.purpose) rest)) (purpose_itself rate.purpose)

pub each_decides : (rows : List TariffRow) → AllPairs (λ a b. same_key a b ≡ false) rows → All (λ row. ForSome (rate_of row) (λ rate. first_rate rate.purpose rows ≡ Some rate)) rows
each_decides [] h k d below = absurd (omega arith)
each_decides (row ∷ rows) h zero d below = λ rate e. found_first (rate_of row) rate (filter_map rate_of rows) e
each_decides (row ∷ rows) h (suc k) d below = λ rate e.
    let other = rows_head row rows h k d (omega arith) in
    passed_over (rate_of row) rate.purpose (filter_map rate_of rows) (λ u eu. apart_purposes row (get_or rows k d) u rate eu e other)
    ∙ each_decides rows (rows_tail row rows h) k d (omega arith) rate e
