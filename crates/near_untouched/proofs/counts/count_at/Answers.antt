use Rattle.std.proofs.Common.{◌≡◌, ℕ, ◌<◌, length, get_or, sym, ap, subst, ◌∙◌, arith}
use Rattle.std.proofs.lemmas.List.{get_or_read}
use Rattle.desk_data.specs.Situation.{airports_of}
use Rattle.near_untouched.specs.Counts.{place_number}
use Rattle.near_untouched.proofs.MarkLaws.{mark-kept}
use Rattle.near_untouched.proofs.CountLaws.{counted-more, counted-full, place-within}
use Rattle.near_untouched.proofs.counts.count_at.Goals as goal

pub returns-then-count-lt-HALF_MARGIN : goal.returns-then-count-lt-HALF_MARGIN
returns-then-count-lt-HALF_MARGIN c =
    let I = c.args.inst.now in
    let airports = airports_of I in
    let b = c.place_of.result.0 in
    let q = c.args.plane.0 in
    let counts = c.args.counts.now.items in
    let below = c.place_of.ensures.there in
    let by = c.requires.plane in
    let place = c.place_number-place.ensures in
    let within : c.place_number-place.result < length counts = subst (λ (k : ℕ). k < length counts) (sym place) (place-within I q b counts c.requires.counted.places by below) in
    let read : c.index-count.result.now ≡ get_or counts (place_number airports q b) 0 =
    get_or_read counts c.place_number-place.result c.index-count.result.now within c.index-count.ensures 0 ∙ ap (λ (k : ℕ). get_or counts k 0) place in
    record {
      kept = λ k on. on;
      counted = rw place
          (counted-more c.args.movement I c.args._plan.now c.args.leg.0 c.index-count.result.now q b counts c.args.touched.now.items c.requires.counted c.requires.flown by
          c.place_of.ensures.place below read c.if-count-lt-HALF_MARGIN.true);
    }

pub index-count-requires : goal.index-count-requires
index-count-requires c =
    let I = c.args.inst.now in
    let counts = c.args.counts.now.items in
    let place = place-within I c.args.plane.0 c.place_of.result.0 counts c.requires.counted.places c.requires.plane c.place_of.ensures.there in
    let within : c.place_number-place.result < length counts = subst (λ (k : ℕ). k < length counts) (sym c.place_number-place.ensures) place in
    let len = c.args.counts.now.ok.0 in
    omega (arith, within, len)

pub returns : goal.returns
returns c = record {
  kept = mark-kept c.args.touched.now.items c.args.plane.0;
  counted = counted-full c.args.movement c.args.inst.now c.args._plan.now c.args.leg.0 c.args.plane.0 c.args.counts.now.items c.args.touched.now.items c.requires.counted c.requires.flown c.requires.plane;
}
