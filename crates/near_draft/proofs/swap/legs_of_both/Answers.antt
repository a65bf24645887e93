use Rattle.std.proofs.Common.{◌≡◌, ◌≢◌, ◌++◌, Vec, Global, rules, ap, ◌∙◌, map}
use Rattle.desk_units.specs.declared.numbers.Leg.{Leg}
use Rattle.desk_model.specs.Push.{rotation}
use Rattle.step_laws.specs.Swapped.{legs_of_both}
use Rattle.near_moves.proofs.ListLaws.{for_some}
use Rattle.near_draft.specs.Drafts.{plan_of}
use Rattle.near_draft.specs.Legs.{numbers_of}
use Rattle.near_draft.proofs.LegLaws.{both-one, both-two, numbers-both}
use Rattle.near_draft.proofs.swap.legs_of_both.Goals as goal

pub returns-then-exchange : goal.returns-then-exchange
returns-then-exchange c =
    let I = c.args.draft.now.inst in
    let P = plan_of c.args.draft.now in
    let p = c.args.exchange.first.0 in
    let q = c.args.exchange.second.0 in
    let own : numbers_of c.in-Some.legs.items ≡ rotation I P p = c.in_ok-legs.ensures.order c.in-Some.legs c.in-Some.is in
    let same : q ≡ p = search rules in
    for_some (λ (legs : Vec Leg Global). map (λ (leg : Leg). leg.0) legs.items ≡ legs_of_both I P p q) c.in-Some.legs (own ∙ both-one I P p q same)

pub returns : goal.returns
returns c =
    let I = c.args.draft.now.inst in
    let P = plan_of c.args.draft.now in
    let p = c.args.exchange.first.0 in
    let q = c.args.exchange.second.0 in
    let own : numbers_of c.in-Some.legs.items ≡ rotation I P p = c.in_ok-legs.ensures.order c.in-Some.legs c.in-Some.is in
    let second : numbers_of c.in-Some-2.others.items ≡ rotation I P q = c.in_ok-others.ensures.order c.in-Some-2.others c.in-Some-2.is in
    let other : q ≢ p = search rules in
    let all = c.extend_from_slice.new.self in
    let are : all.items ≡ c.in-Some.legs.items ++ c.in-Some-2.others.items = c.in_ok-extend_from_slice.ensures.items ∙ ap (λ xs. c.in-Some.legs.items ++ xs) c.as_slice.ensures.value in
    let numbers : numbers_of all.items ≡ rotation I P p ++ rotation I P q =
    ap numbers_of are ∙ numbers-both c.in-Some.legs.items c.in-Some-2.others.items ∙ ap (λ xs. xs ++ numbers_of c.in-Some-2.others.items) own ∙ ap (λ xs. rotation I P p ++ xs) second in
    for_some (λ (legs : Vec Leg Global). map (λ (leg : Leg). leg.0) legs.items ≡ legs_of_both I P p q) all (numbers ∙ both-two I P p q other)
