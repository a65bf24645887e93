-- The lines of the reservations, one after another.
use Rattle.std.proofs.Common.{◌≡◌, ℕ, suc, ◌+◌, ◌*◌, List, ◌++◌, length, arith, ap, sym, ◌∙◌, subst}
use Rattle.std.specs.List.{flat_map}
use Rattle.desk_units.specs.declared.numbers.Seats.{Seats}
use Rattle.output_texts.specs.declared.demand.Request.{Request}
use Rattle.output_texts.specs.Draws.{state_after}
use Rattle.output_texts.specs.Demand.{request_at, request_of, after_tours, with_request, lines_of, itinerary_line}
use Rattle.output_texts.specs.Seats.{AreLeft, IsTripWithin, rows_served, text_served}
use Rattle.output_texts.proofs.SeatLaws.{left_served, text_of_served}

lines_next : (seed size j : ℕ) (words : List ℕ) (request : Request) → words ≡ state_after (after_tours seed size) (5 * j) → request ≡ request_at words size j → lines_of seed size (j + 1) ≡ with_request (lines_of seed size j) request
unfolding lines_of
lines_next seed size j words request is asks =
    ap (lines_of seed size) (let e : j + 1 ≡ suc j = omega arith in e)
    ∙ ap (with_request (lines_of seed size j)) (sym (asks ∙ ap (λ w. request_at w size j) is))

-- the table after one reservation more
pub left_next : (seed size j : ℕ) (words : List ℕ) (request : Request) (rows after : List Seats) → words ≡ state_after (after_tours seed size) (5 * j) → request ≡ request_at words size j → AreLeft size (lines_of seed size j) rows → IsTripWithin (length rows) request.trip → after ≡ rows_served rows request → AreLeft size (lines_of seed size (j + 1)) after
left_next seed size j words request rows after is asks h within served =
    subst (λ lines. AreLeft size lines after) (sym (lines_next seed size j words request is asks))
    (subst (λ table. AreLeft size (with_request (lines_of seed size j) request) table) (sym served) (left_served size (lines_of seed size j) rows request h within))

-- and the text
pub text_next : (seed size j : ℕ) (words : List ℕ) (request : Request) (rows : List Seats) (before after : List ℕ) → words ≡ state_after (after_tours seed size) (5 * j) → request ≡ request_at words size j → AreLeft size (lines_of seed size j) rows → IsTripWithin (length rows) request.trip → before ≡ flat_map itinerary_line (lines_of seed size j) → after ≡ before ++ text_served rows request → after ≡ flat_map itinerary_line (lines_of seed size (j + 1))
text_next seed size j words request rows before after is asks h within so_far more =
    more ∙ ap (λ t. t ++ text_served rows request) so_far ∙ sym (text_of_served size (lines_of seed size j) rows request h within)
    ∙ ap (flat_map itinerary_line) (sym (lines_next seed size j words request is asks))
