use Rattle.std.proofs.Common.{◌≡◌, ◌∙◌, ap, sym, subst, true, List, ℕ, [], ◌∷◌, ◌++◌, length}
use Rattle.std.proofs.lemmas.Result.{IfOk-weaker}
use Rattle.desk_disk.specs.Crashes.{RunsTo}
use Rattle.desk_disk.specs.Files.{IsAtRest}
use Rattle.story_commands.specs.Left.{HoldsBeginning}
use Rattle.desk_model.specs.declared.answer.Entry.{Entry}
use Rattle.desk_model.specs.States.{opening}
use Rattle.desk_model.specs.Histories.{IsAskable, has_room}
use Rattle.desk_journal.specs.Payloads.{payload_by}
use Rattle.story_commands.specs.Added.{added}
use Rattle.story_commands.proofs.Adding.{adds_none, adds_one}
use Rattle.story_commands.proofs.Storing.{entered-entry, added-is}
use Rattle.story_commands.proofs.store.store_event.Goals as goal

pub returns-in_default-clause-any_moment : goal.returns-in_default-clause-any_moment
returns-in_default-clause-any_moment g c = λ was is records rest. adds_none records (added c.args.book.now.journal c.args.asked.now) c.args.tail was (g.D.Disk.shown c.args.disk.now) is rest

pub returns-clause-any_moment : goal.returns-clause-any_moment
returns-clause-any_moment g c = λ was is records rest. adds_none records (added c.args.book.now.journal c.args.asked.now) c.args.tail was (g.D.Disk.shown c.args.disk.now) is rest

pub append-requires-clause-askable : goal.append-requires-clause-askable
append-requires-clause-askable g c =
    let B = c.args.book.now in
    let asked = c.args.asked.now in
    let room : has_room (length B.journal) asked.1 ≡ true = ap (λ (n : ℕ). has_room n asked.1) (sym c.entries-entries.ensures.count) ∙ sym c.has_room-room.ensures ∙ c.if-room.true in
    let is = entered-entry B c.take_event.new.book c.journal.result.now c.index-journal-entries.result asked.0 asked.1 c.entries-entries.result c.in-Ok.ensures room c.journal.ensures.entries c.entries-entries.ensures.count c.index-journal-entries.is in
    (B.opening, subst (λ (e : Entry). IsAskable B.opening e.event) (sym is) c.requires.askable)

pub returns-then-room-clause-acknowledged : goal.returns-then-room-clause-acknowledged
returns-then-room-clause-acknowledged g c =
    let B = c.args.book.now in
    let asked = c.args.asked.now in
    let entry = c.index-journal-entries.result in
    let room : has_room (length B.journal) asked.1 ≡ true = ap (λ (n : ℕ). has_room n asked.1) (sym c.entries-entries.ensures.count) ∙ sym c.has_room-room.ensures ∙ c.if-room.true in
    let is = entered-entry B c.take_event.new.book c.journal.result.now entry asked.0 asked.1 c.entries-entries.result c.in-Ok.ensures room c.journal.ensures.entries c.entries-entries.ensures.count c.index-journal-entries.is in
    let same : payload_by c.args.number entry.caller entry.event ∷ [] ≡ added B.journal asked = added-is (opening B.opening) B.journal entry asked c.args.number is c.requires.number room in
    IfOk-weaker c.append.result _ _ (λ next done was shown records rest.
    let to = done was shown records rest in
    (to.0, to.1, subst (λ (ps : List (List ℕ)). IsAtRest (records ++ ps) next to.0.file) same to.2)) c.append.ensures.acknowledged

pub returns-then-room-clause-any_moment : goal.returns-then-room-clause-any_moment
returns-then-room-clause-any_moment g c = λ was shown records rest.
    let B = c.args.book.now in
    let asked = c.args.asked.now in
    let entry = c.index-journal-entries.result in
    let told = g.D.Disk.shown c.append.new.disk in
    let room : has_room (length B.journal) asked.1 ≡ true = ap (λ (n : ℕ). has_room n asked.1) (sym c.entries-entries.ensures.count) ∙ sym c.has_room-room.ensures ∙ c.if-room.true in
    let is = entered-entry B c.take_event.new.book c.journal.result.now entry asked.0 asked.1 c.entries-entries.result c.in-Ok.ensures room c.journal.ensures.entries c.entries-entries.ensures.count c.index-journal-entries.is in
    let same : payload_by c.args.number entry.caller entry.event ∷ [] ≡ added B.journal asked = added-is (opening B.opening) B.journal entry asked c.args.number is c.requires.number room in
    subst (λ (ps : List (List ℕ)). RunsTo was told (HoldsBeginning (records ++ ps) (length records))) same
    (adds_one records (payload_by c.args.number entry.caller entry.event) was told (c.append.ensures.any_moment was shown records rest))
