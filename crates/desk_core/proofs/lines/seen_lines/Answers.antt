use Rattle.std.proofs.Common.{◌≡◌, ◌<◌, length, arith, refl, sym, subst, List}
use Rattle.std.specs.Prelude.{Some, slice_get}
use Rattle.std.proofs.lemmas.Option.{slice_get_read}
use Rattle.desk_model.specs.States.{opening}
use Rattle.desk_core.specs.Recorded.{Recorded}
use Rattle.live_board.specs.Histories.{history, origin}
use Rattle.live_board.specs.Words.{stands_for}
use Rattle.live_board.proofs.Beginnings.{prefix_length}
use Rattle.live_board.proofs.Tellings.{histories_begin}
use Rattle.desk_model.specs.declared.view.View.{View}
use Rattle.desk_model.specs.Views.{AreSeen, IsSightOf}
use Rattle.desk_model.proofs.SightLaws.{sights_end}
use Rattle.desk_core.specs.Sights.{HaveLines}
use Rattle.desk_core.proofs.LineLaws.{told_last, told_count, from_both, fewer_sight, rising_to, adds_few, lined_none, lined_more, lined_end}
use Rattle.desk_core.proofs.lines.seen_lines.Goals as goal

pub loop-note-preserved : goal.loop-note-preserved
loop-note-preserved g c =
    let note = c.note-item.result in
    let notes = c.args.notes.now in
    let log = stands_for c.args.last.now in
    let both = stands_for c.later-both.result in
    let whole = c.view.result in
    let one = c.view-in-loop-note.result in
    let m = c.loop-note.note-index in
    let on = c.loop-note.invariant in
    let lines = c.loop-note.lines.items in
    let few = adds_few c.loop-note.least c.in_ok-least.least one.view whole.view lines c.add_sight.new.lines.items c.in_ok-least.ensures.added in
    let here : slice_get notes m ≡ Some note = slice_get_read notes (length notes) m note refl c.loop-note-test.true c.note-item.is in
    let sees : (B : Recorded) → origin log ≡ Some B → one.view.entries < whole.view.entries → IsSightOf (opening B.opening) (history log) one.view = λ B from.
    fewer_sight B (stands_for note) log both one whole from c.view-in-loop-note.ensures.opened c.later-both.ensures.this c.later-both.ensures.that c.view-in-loop-note.ensures.view c.view.ensures.view in (
      c.in_ok-least.ensures.least,
      c.in_ok-least.ensures.few,
      (λ B from. c.in_ok-least.ensures.seen (opening B.opening) (history log) (on.2 B from) (sees B from)),
      omega (arith, few, on.3),
      (λ B from rising short.
          let S = opening B.opening in
          let h = history log in
          let is = told_last B (stands_for note) one (from_both B (stands_for note) log both from c.view-in-loop-note.ensures.opened c.later-both.ensures.this c.later-both.ensures.that) c.view-in-loop-note.ensures.view in
          let count = told_count B log whole from c.view.ensures.view in
          lined_more S h (λ n. history (stands_for n)) notes m c.loop-note.least c.in_ok-least.least lines c.add_sight.new.lines.items one.view whole.view note here is
          (λ less. sees B from (omega (arith, less, count)))
          (λ k n le at. prefix_length (history (stands_for note)) (history (stands_for n)) (histories_begin (stands_for note) (stands_for n) (rising_to stands_for notes m k note n rising here at le)))
          count on.3 short (on.2 B from).each (on.4 B from rising short) c.in_ok-least.ensures.added),
    )

pub returns-clause-seen : goal.returns-clause-seen
returns-clause-seen g c B from =
    let log = stands_for c.args.last.now in
    subst (λ (l : List View). AreSeen (opening B.opening) (history log) l) (sym c.in_ok-push.ensures.items)
    (sights_end (opening B.opening) (history log) c.loop-note.least c.loop-note.lines.items c.view.result.view (c.loop-note.invariant.2 B from) c.loop-note.invariant.1 c.loop-note.invariant.0 (told_last B log c.view.result from c.view.ensures.view))

pub returns-clause-each : goal.returns-clause-each
returns-clause-each g c B from rising short =
    let log = stands_for c.args.last.now in
    subst (λ (l : List View). HaveLines (opening B.opening) (history log) (λ n. history (stands_for n)) c.args.notes.now l) (sym c.in_ok-push.ensures.items)
    (lined_end (opening B.opening) (history log) (λ n. history (stands_for n)) c.args.notes.now c.loop-note.note-index c.loop-note.least c.loop-note.lines.items c.view.result.view
    (omega (arith, c.loop-note-test.false)) (c.loop-note.invariant.4 B from rising short))
