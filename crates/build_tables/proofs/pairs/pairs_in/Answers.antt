use Rattle.std.proofs.Common.{◌≡◌, ◌<◌, ◌+◌, ◌-◌, ◌*◌, ℕ, List, cond, drop, length, min, [], Some, ap, sym, ◌∙◌, arith}
use Rattle.std.specs.Prelude.{option_map, position}
use Rattle.std.proofs.lemmas.List.{drop_all}
use Rattle.file_rows.specs.declared.network.AirportRow.{AirportRow}
use Rattle.file_rows.specs.declared.network.DistRow.{DistRow}
use Rattle.build_tables.specs.Found.{place_in}
use Rattle.build_tables.specs.Keys.{Key, between}
use Rattle.build_tables.specs.Names.{is_between}
use Rattle.build_tables.specs.Pairs.{pair_of}
use Rattle.build_tables.proofs.PlaceLemmas.{places_before, counted_from_first}
use Rattle.build_tables.proofs.PairLemmas.{none_kept}
use Rattle.build_tables.proofs.pairs.pairs_in.Goals as goal

-- what a row is found by
abbrev key_of : DistRow → Key
key_of row = between row.origin row.dest

pub loop-place-init : goal.loop-place-init
loop-place-init c =
    let rows = c.as_slice-rows.result.now in
    let airports = c.args.files.now.airports in
    let none : drop (length rows) rows ≡ [] = drop_all (length rows) rows (omega arith) in
    record {
      long = c.in_ok-found.ensures.long ∙ ap (λ (rows : List AirportRow). 500 * min (length rows) 500) c.as_slice.ensures;
      kept = λ origin dest.
          none_kept c.in_ok-found.found.pairs.items (pair_of airports origin dest) (place_in c.in_ok-found.found.others (between origin dest)) (c.in_ok-found.ensures.named (between origin dest)) c.in_ok-found.ensures.numbered
          ∙ ap (λ (rs : List DistRow). option_map (λ n. length rows + n) (position (is_between origin dest) rs)) (sym none);
      within = omega arith;
    }

pub loop-place-preserved : goal.loop-place-preserved
loop-place-preserved c =
    let rows = c.as_slice-rows.result.now in
    let airports = c.args.files.now.airports in
    let i : ℕ = c.loop-place.place - 1 in
    let row = c.index-rows-place.result in
    let next : i + 1 ≡ c.loop-place.place = omega (arith, c.loop-place-test.true) in
    let below : i < length rows = omega (arith, c.loop-place-test.true, c.loop-place.invariant.within) in
    record {
      long = c.in_ok-near.ensures.long ∙ c.loop-place.invariant.long;
      kept = λ origin dest.
          c.in_ok-near.ensures.kept origin dest
          ∙ ap (cond (is_between origin dest row) (Some i)) (c.loop-place.invariant.kept origin dest)
          ∙ ap (λ m. cond (is_between origin dest row) (Some i) (option_map (λ n. m + n) (position (is_between origin dest) (drop m rows)))) (sym next)
          ∙ sym (places_before key_of rows i row below c.index-rows-place.is (between origin dest));
      within = omega (arith, c.loop-place.invariant.within);
    }

pub returns : goal.returns
returns c =
    let at_first : c.loop-place.place ≡ 0 = omega (arith, c.loop-place-test.false) in
    let rows = c.as_slice-rows.result.now in
    record {
      long = c.loop-place.invariant.long;
      places = λ origin dest.
          c.loop-place.invariant.kept origin dest
          ∙ ap (λ m. option_map (λ n. m + n) (position (is_between origin dest) (drop m rows))) at_first
          ∙ counted_from_first (position (is_between origin dest) rows)
          ∙ ap (position (is_between origin dest)) c.as_slice-rows.ensures;
    }
