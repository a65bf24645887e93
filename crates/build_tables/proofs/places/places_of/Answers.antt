use Rattle.std.proofs.Common.{◌≡◌, ◌<◌, ◌+◌, ◌-◌, ℕ, cond, drop, length, [], Some, None, ap, sym, subst, ◌∙◌, arith}
use Rattle.std.specs.Prelude.{option_map}
use Rattle.std.specs.Map.{lookup}
use Rattle.std.proofs.lemmas.List.{drop_all}
use Rattle.build_tables.specs.Keys.{is_key, key_place, AreApart}
use Rattle.build_tables.specs.Found.{key_of_borrowed, place_in}
use Rattle.build_tables.proofs.PlaceLemmas.{places_before, counted_from_first, apart_before}
use Rattle.build_tables.proofs.places.places_of.Goals as goal

pub loop-place-init : goal.loop-place-init
loop-place-init g c =
    let none : drop (length c.args.rows.now) c.args.rows.now ≡ [] = drop_all (length c.args.rows.now) c.args.rows.now (omega arith) in
    record {
      kept = λ key.
          ap (lookup (λ x. is_key key (key_of_borrowed x))) c.in_ok-with_capacity.ensures.empty
          ∙ ap (λ rs. option_map (λ n. length c.args.rows.now + n) (key_place g.T.Keyed.key_of rs key)) (sym none);
      apart = λ _. subst (AreApart g.T.Keyed.key_of) (sym none) (λ i j d before within. absurd (omega (arith, within)));
      within = omega arith;
    }

pub loop-place-preserved : goal.loop-place-preserved
loop-place-preserved g c =
    let key_of = g.T.Keyed.key_of in
    let rows = c.args.rows.now in
    let i : ℕ = c.loop-place.place - 1 in
    let row = c.index-rows-place.result in
    let next : i + 1 ≡ c.loop-place.place = omega (arith, c.loop-place-test.true) in
    let below : i < length rows = omega (arith, c.loop-place-test.true, c.loop-place.invariant.within) in
    let found = λ (m : ℕ). option_map (λ n. m + n) (key_place key_of (drop m rows) (key_of row)) in
    record {
      kept = λ key.
          c.in_ok-put.ensures.kept key
          ∙ (λ j. cond (is_key key (c.key.ensures j)) (Some i) (c.loop-place.invariant.kept key j))
          ∙ ap (λ m. cond (is_key key (key_of row)) (Some i) (option_map (λ n. m + n) (key_place key_of (drop m rows) key))) (sym next)
          ∙ sym (places_before key_of rows i row below c.index-rows-place.is key);
      apart = λ holds.
          let absent : found c.loop-place.place ≡ None =
          sym (c.loop-place.invariant.kept (key_of row))
          ∙ (λ j. place_in c.loop-place.found (sym c.key.ensures j))
          ∙ c.in_ok-put.ensures.new holds in
          apart_before key_of rows i row below c.index-rows-place.is
          (subst (λ m. AreApart key_of (drop m rows)) (sym next) (c.loop-place.invariant.apart (c.in_ok-put.ensures.apart holds)))
          (subst (λ m. found m ≡ None) (sym next) absent);
      within = omega (arith, c.loop-place.invariant.within);
    }

pub returns-clause-places : goal.returns-clause-places
returns-clause-places g c = λ key.
    let at_first : c.loop-place.place ≡ 0 = omega (arith, c.loop-place-test.false) in
    c.loop-place.invariant.kept key
    ∙ ap (λ m. option_map (λ n. m + n) (key_place g.T.Keyed.key_of (drop m c.args.rows.now) key)) at_first
    ∙ counted_from_first (key_place g.T.Keyed.key_of c.args.rows.now key)

pub returns-clause-apart : goal.returns-clause-apart
returns-clause-apart g c = λ holds.
    let at_first : c.loop-place.place ≡ 0 = omega (arith, c.loop-place-test.false) in
    subst (λ m. AreApart g.T.Keyed.key_of (drop m c.args.rows.now)) at_first (c.loop-place.invariant.apart holds)
