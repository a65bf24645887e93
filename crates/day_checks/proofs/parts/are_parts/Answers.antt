use Rattle.std.proofs.Common.{refl}
use Rattle.std.proofs.lemmas.Result.{IfOk-weaker}
use Rattle.day_checks.proofs.parts.are_parts.Goals as goal

pub returns : goal.returns
returns c =
    let window = c.if-not-is_window.ensures.0 refl in
    IfOk-weaker c.are_distinct.result _ _ (λ distinct decides. (
      λ yes_. record {
        few = c.if-not-are_within_limits.ensures.0 refl;
        airports = c.if-not-are_airports.ensures.0 refl;
        planes = c.if-not-are_planes.ensures.0 refl;
        legs = c.if-not-are_legs.ensures.0 refl;
        res = c.if-not-are_reservations.ensures.0 refl;
        from = window.0;
        to = window.1;
        positions = c.if-not-are_positions.ensures.0 refl;
        dist = c.if-not-are_distances.ensures.0 refl;
        tariff = rw c.as_slice.ensures at (c.if-not-are_tariff_rows.ensures.0 refl);
        distinct = decides.0 yes_;
      },
      λ parts. decides.1 parts.distinct,
    )) c.are_distinct.ensures
