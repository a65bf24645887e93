use Rattle.std.proofs.Common.{◌≡◌, ◌∙◌, ℕ, refl, sym, ap, subst, List, length, map, take}
use Rattle.desk_disk.specs.Stored.{lists_of}
use Rattle.desk_model.specs.States.{opening}
use Rattle.desk_tasks.specs.declared.ending.Ending.{Ending}
use Rattle.story_commands.specs.Held.{entered}
use Rattle.story_commands.specs.Compared.{IsFront}
use Rattle.story_commands.specs.Journal.{kept_story}
use Rattle.story_commands.proofs.Keeping.{Left, open-left, memory-left, other-left, stopped-left, kept-left, front-of, other-of, if-both, if-err}
use Rattle.story_commands.proofs.Opening.{nothing_in}
use Rattle.story_commands.proofs.keep.keep_journal.Goals as goal

pub returns-in-Err-clause-left : goal.returns-in-Err-clause-left
returns-in-Err-clause-left g c = λ was is.
    let k = kept_story c.args.inst c.args.batches.now c.args.events.now in
    let told = g.D.Disk.shown c.open_records.new.disk in
    subst (λ (how : Ending). Left k was told how) (sym c.open_end.ensures) (open-left k was told c.in-Err.fault (nothing_in (g.D.Disk.shown c.args.disk.now) was c.requires.nothing_pending is) (c.open_records.ensures.any_moment was is) (c.in-Err.ensures.damaged was is) (c.in-Err.ensures.untouched was is))

pub returns-in-Err-entered-clause-left : goal.returns-in-Err-entered-clause-left
returns-in-Err-entered-clause-left g c = λ was is. memory-left (kept_story c.args.inst c.args.batches.now c.args.events.now) was (g.D.Disk.shown c.open_records.new.disk) (c.open_records.ensures.any_moment was is)

pub returns-in-Err-compare-clause-left : goal.returns-in-Err-compare-clause-left
returns-in-Err-compare-clause-left g c = λ was is. memory-left (kept_story c.args.inst c.args.batches.now c.args.events.now) was (g.D.Disk.shown c.open_records.new.disk) (c.open_records.ensures.any_moment was is)

pub store_rest-requires-clause-within : goal.store_rest-requires-clause-within
store_rest-requires-clause-within g c =
    let records = lists_of c.in-Ok.opened.1.items in
    let held : List (List ℕ) = map (λ p. p.now) c.as_slice-2.result.now in
    let same : held ≡ entered records = ap (map (λ p. p.now)) c.as_slice-2.ensures.value ∙ c.in-Ok-entered.ensures ∙ ap (λ rs. entered (lists_of rs)) c.as_slice.ensures.value in
    let front : IsFront (opening c.args.inst) c.args.events.now (entered records) c.in-Ok-First.taken c.in-Ok-First.number =
    front-of c.compare.result c.in-Ok-First.field-0 c.in-Ok-First.taken c.in-Ok-First.number (opening c.args.inst) c.args.events.now held (entered records) c.compare.ensures c.in-Ok-First.is c.in-Ok-First.field-0-is same in
    front.within

pub store_rest-requires-clause-number : goal.store_rest-requires-clause-number
store_rest-requires-clause-number g c =
    let records = lists_of c.in-Ok.opened.1.items in
    let held : List (List ℕ) = map (λ p. p.now) c.as_slice-2.result.now in
    let same : held ≡ entered records = ap (map (λ p. p.now)) c.as_slice-2.ensures.value ∙ c.in-Ok-entered.ensures ∙ ap (λ rs. entered (lists_of rs)) c.as_slice.ensures.value in
    let front : IsFront (opening c.args.inst) c.args.events.now (entered records) c.in-Ok-First.taken c.in-Ok-First.number =
    front-of c.compare.result c.in-Ok-First.field-0 c.in-Ok-First.taken c.in-Ok-First.number (opening c.args.inst) c.args.events.now held (entered records) c.compare.ensures c.in-Ok-First.is c.in-Ok-First.field-0-is same in
    front.count

pub returns-in-Ok-First-clause-stored : goal.returns-in-Ok-First-clause-stored
returns-in-Ok-First-clause-stored g c =
    let records = lists_of c.in-Ok.opened.1.items in
    let held : List (List ℕ) = map (λ p. p.now) c.as_slice-2.result.now in
    let same : held ≡ entered records = ap (map (λ p. p.now)) c.as_slice-2.ensures.value ∙ c.in-Ok-entered.ensures ∙ ap (λ rs. entered (lists_of rs)) c.as_slice.ensures.value in
    let front : IsFront (opening c.args.inst) c.args.events.now (entered records) c.in-Ok-First.taken c.in-Ok-First.number =
    front-of c.compare.result c.in-Ok-First.field-0 c.in-Ok-First.taken c.in-Ok-First.number (opening c.args.inst) c.args.events.now held (entered records) c.compare.ensures c.in-Ok-First.is c.in-Ok-First.field-0-is same in
    let k = kept_story c.args.inst c.args.batches.now c.args.events.now in
    let mid = g.D.Disk.shown c.open_records.new.disk in
    let told = g.D.Disk.shown c.store_rest.new.disk in
    let tail = c.in-Ok.opened.0 in
    if-both _ _ _ c.store_rest.result (λ kept size stored was is.
    let rest = c.in-Ok.ensures.at_rest was is in
    let to = stored rest.0 rest.1 records rest.2 in
    let done = kept-left k records was rest.0 to.0 mid told tail to.1 c.in-Ok-First.taken c.in-Ok-First.number kept.held (c.in-Ok.ensures.opened was is) c.in-Ok.ensures.accepted (c.open_records.ensures.any_moment was is) rest.1 front
    (c.store_rest.ensures.any_moment rest.0 rest.1 records rest.2) to.2 to.3 size in
    (to.0, to.2, (records, done.0, done.1, done.2))) c.store_rest.ensures.held c.store_rest.ensures.stored

pub returns-in-Ok-First-clause-left : goal.returns-in-Ok-First-clause-left
returns-in-Ok-First-clause-left g c =
    let records = lists_of c.in-Ok.opened.1.items in
    let held : List (List ℕ) = map (λ p. p.now) c.as_slice-2.result.now in
    let same : held ≡ entered records = ap (map (λ p. p.now)) c.as_slice-2.ensures.value ∙ c.in-Ok-entered.ensures ∙ ap (λ rs. entered (lists_of rs)) c.as_slice.ensures.value in
    let front : IsFront (opening c.args.inst) c.args.events.now (entered records) c.in-Ok-First.taken c.in-Ok-First.number =
    front-of c.compare.result c.in-Ok-First.field-0 c.in-Ok-First.taken c.in-Ok-First.number (opening c.args.inst) c.args.events.now held (entered records) c.compare.ensures c.in-Ok-First.is c.in-Ok-First.field-0-is same in
    let k = kept_story c.args.inst c.args.batches.now c.args.events.now in
    let mid = g.D.Disk.shown c.open_records.new.disk in
    let told = g.D.Disk.shown c.store_rest.new.disk in
    let tail = c.in-Ok.opened.0 in
    if-err _ _ c.store_rest.result (λ how stopped was is.
    let rest = c.in-Ok.ensures.at_rest was is in
    stopped-left k records was rest.0 mid told tail c.in-Ok-First.taken c.in-Ok-First.number how stopped (c.in-Ok.ensures.opened was is) c.in-Ok.ensures.accepted (c.open_records.ensures.any_moment was is) rest.1 front
    (c.store_rest.ensures.any_moment rest.0 rest.1 records rest.2)) c.store_rest.ensures.early

pub returns-in-Ok-Other-clause-left : goal.returns-in-Ok-Other-clause-left
returns-in-Ok-Other-clause-left g c = λ was is.
    let records = lists_of c.in-Ok.opened.1.items in
    let held : List (List ℕ) = map (λ p. p.now) c.as_slice-2.result.now in
    let same : held ≡ entered records = ap (map (λ p. p.now)) c.as_slice-2.ensures.value ∙ c.in-Ok-entered.ensures ∙ ap (λ rs. entered (lists_of rs)) c.as_slice.ensures.value in
    let k = kept_story c.args.inst c.args.batches.now c.args.events.now in
    other-left k records held was (g.D.Disk.shown c.open_records.new.disk) c.in-Ok.opened.0 c.in-Ok-Other.line (c.in-Ok.ensures.opened was is) c.in-Ok.ensures.accepted same
    (other-of c.compare.result c.in-Ok-Other.field-0 c.in-Ok-Other.line (opening c.args.inst) c.args.events.now held c.compare.ensures c.in-Ok-Other.is c.in-Ok-Other.field-0-is) (c.open_records.ensures.any_moment was is) (c.in-Ok.ensures.at_rest was is)
