use Rattle.std.proofs.Common.{◌<◌, ℕ, length, ◌≡◌, Bool, true, false, refl, rules, tests}
use Rattle.std.specs.Bool.{MatchBool}
use Rattle.std.specs.List.{AllWithin, HoldsAt}
use Rattle.std.proofs.lemmas.Iterator.{cases_from_all, YieldsList-from_slice}
use Rattle.std.proofs.lemmas.Iterator.Search.{true_from_All}
use Rattle.std.proofs.lemmas.List.Elements.{All-from_all_within}
use Rattle.desk_data.specs.declared.info.AirportInfo.{AirportInfo}
use Rattle.desk_data.specs.Valid.{IsAirport}
use Rattle.day_checks.proofs.parts.are_airports.Goals as goal

when_true : {P : Type 0} (Q : Type 0) (r : Bool) → MatchBool r P Q → r ≡ true → P
when_true Q true h e = h
when_true Q false h e = cc

pub returns : goal.returns
returns c =
    let airports = c.args.parts.now.airports in
    let cases : MatchBool c.all.result (AllWithin IsAirport airports 0 (length airports)) ((k : ℕ) × (k < length airports) × HoldsAt (λ (a : AirportInfo). ¬ IsAirport a) airports k)
    = cases_from_all _ _ _ IsAirport (λ a. ¬ IsAirport a) c.all.ensures.ran (YieldsList-from_slice airports cc) (λ x q k. (search (rules, tests), k.met.0 refl)) (λ x q k. search (rules, tests)) in
    (λ true_. All-from_all_within IsAirport airports (when_true _ c.all.result cases true_), λ all. true_from_All IsAirport (λ (a : AirportInfo). ¬ IsAirport a) c.all.result airports (λ a h no_. no_ h) cases all)
