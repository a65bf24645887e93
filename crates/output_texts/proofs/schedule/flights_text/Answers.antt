use Rattle.std.proofs.Common.{◌≡◌, ◌+◌, ◌*◌, arith, ap, ◌∙◌}
use Rattle.output_texts.specs.Draws.{seeded, state_after}
use Rattle.output_texts.specs.Schedule.{tour_at, tour_of, tour_lines}
use Rattle.output_texts.proofs.DrawLaws.{after_step}
use Rattle.output_texts.proofs.NumberLaws.{text_next}
use Rattle.output_texts.proofs.schedule.flights_text.Goals as goal

pub loop-plane-init : goal.loop-plane-init
unfolding state_after
loop-plane-init c = record { words = c.seeded-words.ensures; text = c.new-text.ensures.items }

pub loop-plane-preserved : goal.loop-plane-preserved
loop-plane-preserved c = record {
  words =
      c.next_tour-tour.ensures.moved
      ∙ after_step (seeded c.args.seed) c.loop-plane.words (3 * c.loop-plane.plane) (3 * (c.loop-plane.plane + 1)) 3 c.loop-plane.invariant.words (omega arith);
  text =
      text_next (λ plane. tour_lines plane (tour_of c.args.seed plane)) c.loop-plane.plane c.loop-plane.text.items c.push_tour.new.text.items (tour_lines c.loop-plane.plane c.next_tour-tour.result)
      c.loop-plane.invariant.text c.in_ok-push_tour.ensures
      (ap (tour_lines c.loop-plane.plane) (c.next_tour-tour.ensures.tour ∙ ap tour_at c.loop-plane.invariant.words));
}
