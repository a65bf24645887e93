use Rattle.std.proofs.Common.{◌≡◌, ◌<◌, ℕ, Option, ap, sym, ◌∙◌, subst}
use Rattle.build_tables.specs.Keys.{between}
use Rattle.build_tables.specs.Found.{place_in}
use Rattle.build_tables.specs.Names.{is_between}
use Rattle.build_tables.specs.Pairs.{pair_of, pair_at, numbered_with, named_with, place_by}
use Rattle.build_tables.proofs.PairLemmas.{kept_more, pair_within}
use Rattle.build_tables.proofs.pairs.PairPlaces.put.Goals as goal

pub returns-clause-kept : goal.returns-clause-kept
returns-clause-kept c = λ origin dest.
    let airports = c.args.files.now.airports in
    let row = c.args.row.now in
    let old = c.args.self.now in
    let own : c.pair_at.result ≡ pair_of airports row.origin row.dest = c.pair_at.ensures ∙ (λ j. pair_at (c.place_near-origin.ensures j) (c.place_near-dest.ensures j)) in
    let named = place_in old.others (between origin dest) in
    (λ j. place_by (c.in_ok-keep.ensures.numbered j) (pair_of airports origin dest) (c.in_ok-keep.ensures.named (between origin dest) j))
    ∙ ap (λ (pair : Option ℕ). place_by (numbered_with old.pairs.items pair c.args.place) (pair_of airports origin dest) (named_with named pair (is_between origin dest row) c.args.place)) own
    ∙ kept_more airports row old.pairs.items named c.args.place origin dest (λ k at. subst (λ n. k < n) (sym c.requires.long) (pair_within airports row.origin row.dest k at))
