use Rattle.std.proofs.Common.{rules, ◌∷◌, [], ap, ◌∙◌, ◌+◌, arith}
use Rattle.std.proofs.lemmas.List.{length-append}
use Rattle.std.proofs.lemmas.List.Elements.{All-push}
use Rattle.desk_journal.specs.Facts.{IsNamedLeg}
use Rattle.desk_journal.specs.Steps.{seats_at}
use Rattle.desk_journal.proofs.SeatLemmas.{Seat, goes_on, stops, all_read}
use Rattle.desk_journal.proofs.parts.next_seats.Goals as goal

pub returns-in_err-next_seat-clause-exact : goal.returns-in_err-next_seat-clause-exact
returns-in_err-next_seat-clause-exact g c =
    let T = g.F.TokenForm.readers c.args.form.now in
    let is = stops T c.loop.seats.items (seats_at T c.args.count c.args.tokens.now) c.args.count c.loop.counter c.loop.tokens c.loop-test.true c.loop.invariant.read c.in_err-next_seat.field-0.0 c.in_err-next_seat.ensures.exact in
    rw is (search rules)

pub loop-preserved : goal.loop-preserved
loop-preserved g c =
    let T = g.F.TokenForm.readers c.args.form.now in
    rw c.in_ok-push.ensures.items (record {
      read = goes_on T c.loop.seats.items (seats_at T c.args.count c.args.tokens.now) c.args.count c.loop.counter c.loop.tokens c.loop-test.true c.loop.invariant.read c.in_ok-next_seat.field-0 c.next_seat.new.tokens c.in_ok-next_seat.ensures.exact;
      size = length-append c.loop.seats.items (c.in_ok-next_seat.field-0 ∷ []) ∙ ap (λ n. n + 1) c.loop.invariant.size;
      facts = All-push (λ (seat : Seat). IsNamedLeg seat.0) c.loop.seats.items c.in_ok-next_seat.field-0 c.loop.invariant.facts c.in_ok-next_seat.ensures.facts;
    })

pub returns-clause-exact : goal.returns-clause-exact
returns-clause-exact g c =
    let T = g.F.TokenForm.readers c.args.form.now in
    all_read T c.loop.seats.items (seats_at T c.args.count c.args.tokens.now) c.args.count c.loop.counter c.loop.tokens (omega arith) c.loop.invariant.read
