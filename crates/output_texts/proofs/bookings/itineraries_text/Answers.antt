use Rattle.std.proofs.Common.{◌≡◌, ℕ, ◌+◌, ◌*◌, length, arith, ap, sym, ◌∙◌, subst}
use Rattle.output_texts.specs.Draws.{state_after}
use Rattle.output_texts.specs.Demand.{after_tours, lines_of}
use Rattle.output_texts.specs.Seats.{IsTripWithin}
use Rattle.output_texts.proofs.DrawLaws.{after_step}
use Rattle.output_texts.proofs.LineLaws.{left_next, text_next}
use Rattle.output_texts.proofs.bookings.itineraries_text.Goals as goal

pub loop-number-init : goal.loop-number-init
unfolding state_after lines_of
loop-number-init c = record { words = c.after_tours-words.ensures; left = c.in_ok-rows.ensures; text = c.new-text.ensures.items }

pub serve-requires-clause-within : goal.serve-requires-clause-within
serve-requires-clause-within c = subst (λ n. IsTripWithin n c.next_request-request.result.trip) (sym c.loop-number.invariant.left.legs) c.next_request-request.ensures.within

pub loop-number-preserved : goal.loop-number-preserved
loop-number-preserved c =
    let within : IsTripWithin (length c.loop-number.rows.items) c.next_request-request.result.trip =
    subst (λ n. IsTripWithin n c.next_request-request.result.trip) (sym c.loop-number.invariant.left.legs) c.next_request-request.ensures.within in
    record {
      words =
          c.next_request-request.ensures.moved
          ∙ after_step (after_tours c.args.seed c.args.size) c.loop-number.words (5 * c.loop-number.number) (5 * (c.loop-number.number + 1)) 5 c.loop-number.invariant.words (omega arith);
      left =
          left_next c.args.seed c.args.size c.loop-number.number c.loop-number.words c.next_request-request.result c.loop-number.rows.items c.serve.new.rows.items
          c.loop-number.invariant.words c.next_request-request.ensures.request c.loop-number.invariant.left within c.in_ok-serve.ensures.rows;
      text =
          text_next c.args.seed c.args.size c.loop-number.number c.loop-number.words c.next_request-request.result c.loop-number.rows.items c.loop-number.text.items c.serve.new.text.items
          c.loop-number.invariant.words c.next_request-request.ensures.request c.loop-number.invariant.left within c.loop-number.invariant.text c.in_ok-serve.ensures.text;
    }
