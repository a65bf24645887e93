use Rattle.std.proofs.Common.{◌≡◌, ◌∙◌, ℕ, ◌≤◌, sym, ap, subst, List, ◌++◌, length, take, drop, arith}
use Rattle.std.proofs.lemmas.List.Elements.{All-drop}
use Rattle.desk_data.specs.Situation.{Situation}
use Rattle.desk_disk.specs.FileStates.{DiskSide}
use Rattle.desk_disk.specs.Crashes.{RunsTo}
use Rattle.desk_disk.specs.Files.{IsAtRest}
use Rattle.story_commands.specs.Left.{HoldsBeginning}
use Rattle.desk_model.specs.declared.answer.Event.{Event}
use Rattle.desk_model.specs.declared.answer.Entry.{Entry}
use Rattle.desk_model.specs.States.{opening}
use Rattle.desk_model.specs.Histories.{AreAskable, IsAskable, run}
use Rattle.desk_core.specs.Recorded.{Recorded}
use Rattle.desk_journal.specs.Payloads.{history_payloads}
use Rattle.story_commands.specs.Added.{all_entries, lacking}
use Rattle.story_commands.proofs.Adding.{adds_none}
use Rattle.story_commands.proofs.Keeping.{whole-is, lacking-is, front-within}
use Rattle.story_commands.proofs.keep.store_rest.Goals as goal

pub returns-in-Err-clause-any_moment : goal.returns-in-Err-clause-any_moment
returns-in-Err-clause-any_moment g c = λ was is records rest.
    let S = opening c.args.inst in
    adds_none records (drop (length (run S (take c.args.taken c.args.events.now))) (history_payloads (run S c.args.events.now))) c.args.tail was (g.D.Disk.shown c.args.disk.now) is rest

pub store_events-requires-clause-askable : goal.store_events-requires-clause-askable
store_events-requires-clause-askable g c =
    let asked : AreAskable c.args.inst c.split_at.result.1.now = subst (AreAskable c.args.inst) (sym c.split_at.ensures.back) (All-drop (λ (asked : ℕ × Event). IsAskable c.args.inst asked.1) c.args.taken c.args.events.now c.requires.asked) in
    subst (λ (I : Situation). AreAskable I c.split_at.result.1.now) (sym (ap (λ (B : Recorded). B.opening) c.in-Ok.ensures)) asked

pub returns-in-Ok-store_events-clause-book : goal.returns-in-Ok-store_events-clause-book
returns-in-Ok-store_events-clause-book g c =
    c.in-Ok-store_events.ensures.book ∙ whole-is c.args.inst c.args.events.now c.args.taken c.in-Ok.book c.split_at.result.0.now c.split_at.result.1.now c.split_at.ensures.front c.split_at.ensures.back c.in-Ok.ensures

pub returns-in-Ok-store_events-clause-most : goal.returns-in-Ok-store_events-clause-most
returns-in-Ok-store_events-clause-most g c =
    let S = opening c.args.inst in
    let front : c.in-Ok.book.journal ≡ run S (take c.args.taken c.args.events.now) = ap (λ (B : Recorded). B.journal) c.in-Ok.ensures ∙ ap (run S) c.split_at.ensures.front in
    omega (arith, c.entries-held.ensures.count, ap length front, front-within S c.args.events.now c.args.taken)

pub returns-in-Ok-store_events-clause-stored : goal.returns-in-Ok-store_events-clause-stored
returns-in-Ok-store_events-clause-stored g c = λ was is records rest.
    let to = c.in-Ok-store_events.ensures.acknowledged was is records rest in (
      to.0,
      to.1,
      to.2,
      subst (λ (ps : List (List ℕ)). IsAtRest (records ++ ps) to.1 to.0.file)
          (lacking-is c.args.inst c.args.events.now c.args.taken c.in-Ok.book c.split_at.result.0.now c.split_at.result.1.now c.split_at.ensures.front c.split_at.ensures.back c.in-Ok.ensures) to.3,
    )

pub returns-in-Ok-store_events-clause-any_moment : goal.returns-in-Ok-store_events-clause-any_moment
returns-in-Ok-store_events-clause-any_moment g c = λ was is records rest.
    subst (λ (ps : List (List ℕ)). RunsTo was (g.D.Disk.shown c.store_events.new.disk) (HoldsBeginning (records ++ ps) (length records)))
    (lacking-is c.args.inst c.args.events.now c.args.taken c.in-Ok.book c.split_at.result.0.now c.split_at.result.1.now c.split_at.ensures.front c.split_at.ensures.back c.in-Ok.ensures)
    (c.store_events.ensures.any_moment was is records rest)

pub returns-in-Err-store_events-clause-any_moment : goal.returns-in-Err-store_events-clause-any_moment
returns-in-Err-store_events-clause-any_moment g c = λ was is records rest.
    subst (λ (ps : List (List ℕ)). RunsTo was (g.D.Disk.shown c.store_events.new.disk) (HoldsBeginning (records ++ ps) (length records)))
    (lacking-is c.args.inst c.args.events.now c.args.taken c.in-Ok.book c.split_at.result.0.now c.split_at.result.1.now c.split_at.ensures.front c.split_at.ensures.back c.in-Ok.ensures)
    (c.store_events.ensures.any_moment was is records rest)
