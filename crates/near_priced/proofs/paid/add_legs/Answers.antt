use Rattle.std.proofs.Common.{◌≡◌, ℕ, ◌+◌, ◌^◌, ◌<◌, ◌≤◌, length, get_or, set, take, subst, ◌∙◌, arith}
use Rattle.std.proofs.lemmas.List.{take_all, length-set, get_or_default}
use Rattle.std.proofs.lemmas.List.Elements.{All-more}
use Rattle.desk_units.specs.declared.numbers.Leg.{Leg}
use Rattle.desk_units.specs.declared.numbers.Cabin.{Cabin}
use Rattle.desk_data.specs.Paths.{no_pair}
use Rattle.near_priced.specs.Tables.{AreGrown, IsGrown, amount}
use Rattle.near_priced.proofs.TableLaws.{path-later, grown-sooner, kept-then, set-kept, set-grown}
use Rattle.near_priced.proofs.paid.add_legs.Goals as goal

pub loop-pair-preserved : goal.loop-pair-preserved
unfolding no_pair
loop-pair-preserved c =
    let cost = c.args.cost in
    let path = c.args.path.now in
    let i = c.loop-pair.pair-index in
    let pair = get_or path i no_pair in
    let x = pair.0.0 in
    let old = c.args.amounts.now.items in
    let mid = c.loop-pair.amounts.items in
    let v = c.grown.result in
    let new = set mid x v in
    let same = c.loop-pair.invariant.amounts in
    let short = c.requires i no_pair c.loop-pair-test.true in
    let within : x < length mid = omega (arith, short, same) in
    let read : c.index-amount.result.now ≡ amount mid x = c.index-amount.ensures ∙ get_or_default mid x c.index-amount.result.now 0 within in
    let stays : amount mid x ≤ v = (let more = c.grown.ensures.kept in omega (arith, more, read)) in
    let grows : (n : ℕ) → n ≤ amount mid x + cost → n ≤ 10 ^ 38 → n ≤ v = λ n less few. c.grown.ensures.grown n (omega (arith, less, read)) few in
    let kept = set-kept mid x v stays in
    record {
      amounts = length-set mid x v ∙ same;
      kept = kept-then old mid new c.loop-pair.invariant.kept kept;
      grown = All-more (λ (q : Leg × Cabin). IsGrown cost old new q.0.0) path i no_pair c.loop-pair-test.true
          (path-later cost old mid new (take i path) c.loop-pair.invariant.grown kept)
          (grown-sooner cost old mid new x (set-grown cost mid x v within grows) c.loop-pair.invariant.kept);
    }

pub returns-clause-grown : goal.returns-clause-grown
returns-clause-grown c =
    subst (AreGrown c.args.cost c.args.amounts.now.items c.loop-pair.amounts.items) (take_all c.loop-pair.pair-index c.args.path.now (omega arith)) c.loop-pair.invariant.grown
