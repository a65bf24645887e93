-- The stems of routes, in their order.
use Rattle.std.proofs.Common.{◌≡◌, ℕ, ◌<◌, ◌≤◌, inl, inr, true, not, List, [], ◌∷◌, length, map, refl, sym, ap, subst, ◌∙◌, arith}
use Rattle.std.specs.Prelude.{filter}
use Rattle.std.specs.Ordering.{is_eq}
use Rattle.std.specs.List.{AllPairs, Contains}
use Rattle.std.specs.declared.cmp.Ordering.TheVariants.{Less}
use Rattle.std.proofs.lemmas.Bool.{cases_Bool, true≢false, and_parts, and_from, not-true}
use Rattle.std.proofs.lemmas.List.{get_or-map, length-map}
use Rattle.std.proofs.lemmas.List.Elements.{All-get_or}
use Rattle.std.proofs.lemmas.List.Kept.{AllPairs-filter}
use Rattle.desk_units.specs.declared.numbers.Leg.{Leg}
use Rattle.desk_units.specs.declared.numbers.Cabin.{Cabin}
use Rattle.desk_data.specs.Paths.{is_carried}
use Rattle.desk_data.specs.PlanRows.{path_cmp, same_path}
use Rattle.desk_data.specs.Situation.{PassengersGone, Situation, reservations_of, tally_at}
use Rattle.desk_data.specs.Valid.{AreTallied, IsValid}
use Rattle.desk_data.proofs.PathOrder.{path_itself}
use Rattle.near_moves.specs.Routes.{begun_path, is_other_stem, stems}
use Rattle.near_moves.proofs.ListLaws.{contains_filter, contains_map, filter_contains, map_contains}
use Rattle.near_moves.proofs.RepeatLaws.{same_path-holds}
use Rattle.near_moves.specs.StemWords.{AreStemsInOrder, IsOtherStem}

abbrev legs_gone : PassengersGone → List (Leg × Cabin)
legs_gone entry = entry.0

some-carried : (path : List (Leg × Cabin)) → is_carried path ≡ true → 1 ≤ length path
some-carried [] h = absurd (true≢false (sym h))
some-carried (pair ∷ path) h = omega arith

carried-some : (path : List (Leg × Cabin)) → 1 ≤ length path → is_carried path ≡ true
carried-some [] h = absurd (omega (arith, h))
carried-some (pair ∷ path) h = refl

abbrev others_of : Situation → ℕ → List (List (Leg × Cabin))
others_of I r = filter (is_other_stem (begun_path I r)) (map legs_gone (tally_at I r))

-- ---- each of them

others-hold : (I : Situation) (r : ℕ) (stem : List (Leg × Cabin)) → Contains (others_of I r) stem → IsOtherStem I r stem
others-hold I r stem has =
    let first = begun_path I r in
    let parts = filter_contains (is_other_stem first) (map legs_gone (tally_at I r)) stem has in
    let at = map_contains legs_gone (tally_at I r) stem parts.0 in
    let own = and_parts (is_carried stem) (not (same_path first stem)) parts.1 in
    record {
      count = at.from.1;
      flown = subst (λ (z : List (Leg × Cabin)). Contains (tally_at I r) (z, at.from.1)) at.is at.there;
      some = some-carried stem own.0;
      other = λ same.
          let itself : same_path first stem ≡ true = ap (λ (z : List (Leg × Cabin)). same_path first z) same ∙ ap is_eq (path_itself first) in
          true≢false (sym itself ∙ not-true (same_path first stem) own.1);
    }

others-each : (I : Situation) (r : ℕ) (stem : List (Leg × Cabin)) → IsOtherStem I r stem → Contains (others_of I r) stem
others-each I r stem h =
    let first = begun_path I r in
    contains_filter (is_other_stem first) (map legs_gone (tally_at I r)) stem
    (contains_map legs_gone (tally_at I r) (stem, h.count) h.flown)
    (and_from (is_carried stem) (not (same_path first stem)) (carried-some stem h.some)
    (elim (cases_Bool (same_path first stem)) [
      | inl same ↦ absurd (h.other (sym (same_path-holds first stem same)))
      | inr differs ↦ ap not differs
    ]))

-- ---- in the order of paths

lists-ascend : (entries : List PassengersGone) → AllPairs (λ a b. path_cmp a.0 b.0 ≡ Less) entries → AllPairs (λ a b. path_cmp a b ≡ Less) (map legs_gone entries)
lists-ascend entries ascending = λ i j d before within.
    let d0 : PassengersGone = (d, 0) in
    let inside : j < length entries = omega (arith, within, length-map entries legs_gone) in
    let first = get_or-map legs_gone entries i d0 d (omega (arith, before, inside)) in
    let second = get_or-map legs_gone entries j d0 d inside in
    rw (first, second) (ascending i j d0 before inside)

pub stems-ordered : (I : Situation) (r : ℕ) → IsValid I → r < reservations_of I → AreStemsInOrder I r
unfolding stems
stems-ordered I r valid within =
    let tallied : AreTallied I.progress.frozen (tally_at I r) = All-get_or (AreTallied I.progress.frozen) I.progress.tally r [] (omega (arith, within, valid.progress.res)) valid.progress.tallied in
    record {
      others = others_of I r;
      all = refl;
      each = λ stem. (others-hold I r stem, others-each I r stem);
      ascending = AllPairs-filter (λ a b. path_cmp a b ≡ Less) (is_other_stem (begun_path I r)) (map legs_gone (tally_at I r)) (lists-ascend (tally_at I r) tallied.ascending);
    }
