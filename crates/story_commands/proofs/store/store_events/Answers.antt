use Rattle.std.proofs.Common.{◌≡◌, ◌∙◌, ℕ, ◌+◌, ◌≤◌, cond, refl, sym, ap, subst, List, [], ◌∷◌, ◌++◌, length, drop, arith}
use Rattle.desk_disk.specs.Crashes.{RunsTo}
use Rattle.desk_disk.specs.Files.{IsAtRest}
use Rattle.story_commands.specs.Left.{HoldsBeginning}
use Rattle.desk_model.specs.declared.answer.Event.{Event}
use Rattle.desk_model.specs.declared.answer.Entry.{Entry}
use Rattle.desk_model.specs.States.{opening}
use Rattle.desk_model.specs.Histories.{IsAskable, has_room, is_batch}
use Rattle.desk_model.proofs.HistoryLaws.{with_event}
use Rattle.desk_journal.specs.Payloads.{asked_in, batches_among}
use Rattle.story_commands.proofs.RunLaws.{continues-next, continues-end, journal-next}
use Rattle.story_commands.specs.Added.{added, all_entries, lacking}
use Rattle.story_commands.proofs.Storing.{behind, Stands, stands-start, stands-on, stands-next, stands-runs, count-next, few-next, few-batches, length-next, goes-on}
use Rattle.story_commands.proofs.store.store_events.Goals as goal

pub loop-asked-init : goal.loop-asked-init
loop-asked-init g c = record {
  goes = record { same = refl; rest = refl };
  longer = omega arith;
  count = c.requires.number;
  few = omega (arith, c.requires.number, few-batches c.args.book.journal);
  stands = λ was is records rest. stands-start was (g.D.Disk.shown c.args.disk.now) records (records ++ lacking c.args.book c.args.events.now) (length c.args.book.journal) c.args.book.journal c.args.tail is rest refl (lacking c.args.book c.args.events.now) refl;
  ready = c.requires.ready;
  kept = omega arith;
  unshown = λ is. is;
  directory = refl;
}

pub store_event-requires-clause-askable : goal.store_event-requires-clause-askable
store_event-requires-clause-askable g c =
    rw c.loop-asked.invariant.goes.same
    (subst (λ (asked : ℕ × Event). IsAskable c.args.book.opening asked.1) (sym c.asked-item.is)
    (c.requires.askable c.loop-asked.asked-index c.asked-item.result c.loop-asked-test.true))

-- the step of the loop, at each moment of it
pub returns-in_err-next-clause-any_moment : goal.returns-in_err-next-clause-any_moment
returns-in_err-next-clause-any_moment g c = λ was is records rest.
    let inv = c.loop-asked.invariant in
    let B = c.args.book in
    let h = c.loop-asked.book.journal in
    let e = c.asked-item.result in
    let s = inv.stands was is records rest in
    let all = records ++ lacking B c.args.events.now in
    stands-on (opening B.opening) was (g.D.Disk.shown c.loop-asked.disk) (g.D.Disk.shown c.store_event.new.disk) records all (length B.journal) h e (drop (c.loop-asked.asked-index + 1) c.args.events.now) c.loop-asked.tail inv.longer
    (goes-on records B c.loop-asked.book e c.loop-asked.asked-index c.args.events.now c.loop-asked-test.true c.asked-item.is inv.goes)
    s (c.store_event.ensures.any_moment s.now s.shows (records ++ behind (length B.journal) h) s.rest)

pub loop-asked-preserved : goal.loop-asked-preserved
loop-asked-preserved g c =
    let inv = c.loop-asked.invariant in
    let B = c.args.book in
    let C = c.loop-asked.book in
    let h = C.journal in
    let e = c.asked-item.result in
    let i = c.loop-asked.asked-index in
    let events = c.args.events.now in
    let told = g.D.Disk.shown c.store_event.new.disk in
    let next : c.store_event.new.book.journal ≡ with_event (opening B.opening) h e = journal-next B.opening C c.store_event.new.book e c.in_ok-next.ensures.book inv.goes.same in
    let room : c.has_room-room.result ≡ has_room (length h) e.1 = c.has_room-room.ensures ∙ ap (λ (n : ℕ). has_room n e.1) c.entries.ensures.count in
    let more : c.batches_added-number.result ≡ cond (has_room (length h) e.1) (cond (is_batch e.1) 1 0) 0 = c.batches_added-number.ensures ∙ ap (λ b. cond b (cond (is_batch e.1) 1 0) 0) room in
    record {
      goes = continues-next B.opening C c.store_event.new.book e i events (all_entries B events) c.loop-asked-test.true c.asked-item.is c.in_ok-next.ensures.book inv.goes;
      longer = (let w : length h ≤ length (with_event (opening B.opening) h e) = length-next (opening B.opening) h e in let size : length c.store_event.new.book.journal ≡ length (with_event (opening B.opening) h e) = ap length next in omega (arith, inv.longer, w, size));
      count = ap (λ (n : ℕ). n + c.batches_added-number.result) inv.count ∙ ap (λ (k : ℕ). batches_among (asked_in h) + k) more ∙ sym (count-next (opening B.opening) h e) ∙ ap (λ (j : List Entry). batches_among (asked_in j)) (sym next);
      few = (let w = few-next (opening B.opening) h e c.loop-asked.number inv.few in let size : length c.store_event.new.book.journal ≡ length (with_event (opening B.opening) h e) = ap length next in omega (arith, w, size, more));
      stands = λ was is records rest.
          let s = inv.stands was is records rest in
          let all = records ++ lacking B events in
          let front = records ++ behind (length B.journal) h in
          let run = stands-on (opening B.opening) was (g.D.Disk.shown c.loop-asked.disk) told records all (length B.journal) h e (drop (i + 1) events) c.loop-asked.tail inv.longer
          (goes-on records B C e i events c.loop-asked-test.true c.asked-item.is inv.goes) s (c.store_event.ensures.any_moment s.now s.shows front s.rest) in
          let to = c.in_ok-next.ensures.acknowledged s.now s.shows front s.rest in
          stands-next (opening B.opening) was told records all (length B.journal) h c.store_event.new.book.journal e c.in_ok-next.next inv.longer next run to.0 to.1 to.2;
      ready = c.in_ok-next.ensures.ready;
      kept = omega (arith, inv.kept, c.store_event.ensures.kept);
      unshown = λ is. c.store_event.ensures.unshown (inv.unshown is);
      directory = c.store_event.ensures.directory ∙ inv.directory;
    }

pub returns-clause-book : goal.returns-clause-book
returns-clause-book g c = continues-end c.args.book.opening c.loop-asked.book c.loop-asked.asked-index c.args.events.now (all_entries c.args.book c.args.events.now) c.loop-asked-test.false c.loop-asked.invariant.goes

pub returns-clause-acknowledged : goal.returns-clause-acknowledged
returns-clause-acknowledged g c = λ was is records rest.
    let inv = c.loop-asked.invariant in
    let s = inv.stands was is records rest in
    let ended = continues-end c.args.book.opening c.loop-asked.book c.loop-asked.asked-index c.args.events.now (all_entries c.args.book c.args.events.now) c.loop-asked-test.false inv.goes in
    (s.now, c.loop-asked.tail, s.shows, subst (λ (h : List Entry). IsAtRest (records ++ behind (length c.args.book.journal) h) c.loop-asked.tail s.now.file) (ap (λ B. B.journal) ended) s.rest)

pub returns-clause-any_moment : goal.returns-clause-any_moment
returns-clause-any_moment g c = λ was is records rest.
    let inv = c.loop-asked.invariant in
    stands-runs was (g.D.Disk.shown c.loop-asked.disk) records (records ++ lacking c.args.book c.args.events.now) (length c.args.book.journal) c.loop-asked.book.journal c.loop-asked.tail (inv.stands was is records rest)
