use Rattle.std.proofs.Common.{◌≡◌, ℕ, eqb, ◌++◌, List, map, ap, subst, ◌∙◌}
use Rattle.std.specs.Prelude.{filter}
use Rattle.std.specs.List.Sorted.{IsPermutation}
use Rattle.std.proofs.lemmas.List.Filters.{dedup_is}
use Rattle.desk_units.specs.declared.numbers.Leg.{Leg}
use Rattle.desk_data.specs.Situation.{legs_of}
use Rattle.desk_rules.specs.Numbers.{numbers}
use Rattle.desk_rules.specs.Rotations.{dep}
use Rattle.near_legs.specs.declared.lists.By.TheVariants.{Aircraft}
use Rattle.near_legs.specs.LegTables.{is_listed}
use Rattle.near_legs.proofs.ListsLaws.{flown-within, moments-are}
use Rattle.near_legs.proofs.moments.moments.Goals as goal

pub add_departures-requires : goal.add_departures-requires
add_departures-requires c =
    flown-within c.args.inst.now c.args.plan.now c.args.first.0 c.args.tables.now.flown c.flown.result.now c.requires.plan c.requires.lists.flown c.requires.first c.flown.ensures

pub add_departures-requires-2 : goal.add_departures-requires-2
add_departures-requires-2 c =
    flown-within c.args.inst.now c.args.plan.now c.args.second.0 c.args.tables.now.flown c.flown-2.result.now c.requires.plan c.requires.lists.flown c.requires.second c.flown-2.ensures

pub returns : goal.returns
returns c =
    let I = c.args.inst.now in
    let P = c.args.plan.now in
    let first = c.flown.result.now in
    let second = c.flown-2.result.now in
    let are_first : map (λ (l : Leg). l.0) first ≡ filter (is_listed I P Aircraft c.args.first.0) (numbers (legs_of I)) = ap (map (λ (l : Leg). l.0)) c.flown.ensures ∙ c.requires.lists.flown.each c.args.first.0 c.requires.first in
    let are_second : map (λ (l : Leg). l.0) second ≡ filter (is_listed I P Aircraft c.args.second.0) (numbers (legs_of I)) = ap (map (λ (l : Leg). l.0)) c.flown-2.ensures ∙ c.requires.lists.flown.each c.args.second.0 c.requires.second in
    let all : c.add_departures-2.new.all.items ≡ map (λ (l : Leg). dep P l.0) first ++ map (λ (l : Leg). dep P l.0) second =
    c.in_ok-add_departures-2.ensures ∙ ap (λ (xs : List ℕ). xs ++ map (λ (l : Leg). dep P l.0) second) (c.in_ok-add_departures.ensures ∙ ap (λ (xs : List ℕ). xs ++ map (λ (l : Leg). dep P l.0) first) c.new-all.ensures.items) in
    dedup_is eqb c.sort.new.self.items c.dedup.new.self.items c.dedup.ensures.filtered
    ∙ moments-are I P c.args.first.0 c.args.second.0 first second c.sort.new.self.items c.requires.plan are_first are_second
    (subst (λ (xs : List ℕ). IsPermutation xs c.sort.new.self.items) all c.in_ok-sort.ensures.permutation) c.in_ok-sort.ensures.sorted
