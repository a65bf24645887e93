use Rattle.std.proofs.Common.{◌∙◌, ap, sym, subst}
use Rattle.desk_disk.specs.FileStates.{HasNothingPending}
use Rattle.desk_disk.proofs.Steps.{if_shown}
use Rattle.desk_disk.specs.Records.{Opens}
use Rattle.desk_disk.specs.Files.{opened_at}
use Rattle.desk_disk.proofs.Opened.{read_only, nothing_pending_still, sets_end_mark, rests, read_bytes, still, ready_opened}
use Rattle.desk_disk.proofs.opening.open.Goals as goal

pub returns-in_err-bytes-clause-any_moment : goal.returns-in_err-bytes-clause-any_moment
returns-in_err-bytes-clause-any_moment g c = λ was is.
    read_only was (g.D.Disk.shown c.read_whole.new.disk) (if_shown (g.D.Disk.shown c.args.disk.now) was (λ d. HasNothingPending d.file) is c.requires.nothing_pending) (c.read_whole.ensures.reads was is)

pub returns-in_err-bytes-clause-whole : goal.returns-in_err-bytes-clause-whole
returns-in_err-bytes-clause-whole g c = λ was is ps next whole. still was (g.D.Disk.shown c.read_whole.new.disk) ps next whole (returns-in_err-bytes-clause-any_moment g c was is)

pub returns-in_err-place-clause-any_moment : goal.returns-in_err-place-clause-any_moment
returns-in_err-place-clause-any_moment g c = λ was is.
    read_only was (g.D.Disk.shown c.read_whole.new.disk) (if_shown (g.D.Disk.shown c.args.disk.now) was (λ d. HasNothingPending d.file) is c.requires.nothing_pending) (c.read_whole.ensures.reads was is)

pub returns-in_err-place-clause-whole : goal.returns-in_err-place-clause-whole
returns-in_err-place-clause-whole g c = λ was is ps next whole. still was (g.D.Disk.shown c.read_whole.new.disk) ps next whole (returns-in_err-place-clause-any_moment g c was is)

pub returns-then-place-gt-MAX_PLACE-clause-any_moment : goal.returns-then-place-gt-MAX_PLACE-clause-any_moment
returns-then-place-gt-MAX_PLACE-clause-any_moment g c = λ was is.
    read_only was (g.D.Disk.shown c.read_whole.new.disk) (if_shown (g.D.Disk.shown c.args.disk.now) was (λ d. HasNothingPending d.file) is c.requires.nothing_pending) (c.read_whole.ensures.reads was is)

pub returns-then-place-gt-MAX_PLACE-clause-whole : goal.returns-then-place-gt-MAX_PLACE-clause-whole
returns-then-place-gt-MAX_PLACE-clause-whole g c = λ was is ps next whole. still was (g.D.Disk.shown c.read_whole.new.disk) ps next whole (returns-then-place-gt-MAX_PLACE-clause-any_moment g c was is)

pub set_end_mark-requires-clause-bytes : goal.set_end_mark-requires-clause-bytes
set_end_mark-requires-clause-bytes g c =
    read_bytes (g.D.Disk.shown c.args.disk.now) (g.D.Disk.shown c.read_whole.new.disk) c.deref-2.result.now c.read_whole.ensures.reads c.read_whole.ensures.unshown (λ was is. c.deref-2.ensures.value ∙ c.in_ok-bytes.ensures.bytes was is)

pub returns-in_err-set_end_mark-clause-any_moment : goal.returns-in_err-set_end_mark-clause-any_moment
returns-in_err-set_end_mark-clause-any_moment g c = λ was is.
    let nothing_pending = (if_shown (g.D.Disk.shown c.args.disk.now) was (λ d. HasNothingPending d.file) is c.requires.nothing_pending) in
    let r = c.read_whole.ensures.reads was is in
    let ps = g.R.PayloadReader.taken c.read_records.new.reader in
    let bytes = c.deref-2.result.now in
    let opens = subst (Opens ps c.in_ok-place.place) (c.deref.ensures.value ∙ sym c.deref-2.ensures.value) c.in_ok-place.ensures.opened in
    sets_end_mark was (g.D.Disk.shown c.read_whole.new.disk) (g.D.Disk.shown c.set_end_mark.new.disk) bytes ps c.in_ok-place.place nothing_pending r (c.deref-2.ensures.value ∙ c.in_ok-bytes.ensures.bytes was is) opens
    (c.set_end_mark.ensures.any_moment r.now r.shows (nothing_pending_still was (g.D.Disk.shown c.read_whole.new.disk) nothing_pending r))

pub returns-in_err-set_end_mark-clause-whole : goal.returns-in_err-set_end_mark-clause-whole
returns-in_err-set_end_mark-clause-whole g c = λ was is ps next whole. still was (g.D.Disk.shown c.set_end_mark.new.disk) ps next whole (returns-in_err-set_end_mark-clause-any_moment g c was is)

pub returns-clause-any_moment : goal.returns-clause-any_moment
returns-clause-any_moment g c = λ was is.
    let nothing_pending = (if_shown (g.D.Disk.shown c.args.disk.now) was (λ d. HasNothingPending d.file) is c.requires.nothing_pending) in
    let r = c.read_whole.ensures.reads was is in
    let ps = g.R.PayloadReader.taken c.read_records.new.reader in
    let bytes = c.deref-2.result.now in
    let opens = subst (Opens ps c.in_ok-place.place) (c.deref.ensures.value ∙ sym c.deref-2.ensures.value) c.in_ok-place.ensures.opened in
    sets_end_mark was (g.D.Disk.shown c.read_whole.new.disk) (g.D.Disk.shown c.set_end_mark.new.disk) bytes ps c.in_ok-place.place nothing_pending r (c.deref-2.ensures.value ∙ c.in_ok-bytes.ensures.bytes was is) opens
    (c.set_end_mark.ensures.any_moment r.now r.shows (nothing_pending_still was (g.D.Disk.shown c.read_whole.new.disk) nothing_pending r))

pub returns-clause-whole : goal.returns-clause-whole
returns-clause-whole g c = λ was is ps next whole. still was (g.D.Disk.shown c.set_end_mark.new.disk) ps next whole (returns-clause-any_moment g c was is)

pub returns-clause-at_rest : goal.returns-clause-at_rest
returns-clause-at_rest g c = λ was is.
    let nothing_pending = (if_shown (g.D.Disk.shown c.args.disk.now) was (λ d. HasNothingPending d.file) is c.requires.nothing_pending) in
    let r = c.read_whole.ensures.reads was is in
    let ps = g.R.PayloadReader.taken c.read_records.new.reader in
    let opens = subst (Opens ps c.in_ok-place.place) (c.deref.ensures.value ∙ sym c.deref-2.ensures.value) c.in_ok-place.ensures.opened in
    let ok = c.in_ok-set_end_mark.ensures.ok r.now r.shows (nothing_pending_still was (g.D.Disk.shown c.read_whole.new.disk) nothing_pending r) in
    let read = c.deref-2.ensures.value ∙ c.in_ok-bytes.ensures.bytes was is in
    (ok.0, ok.1, rests ps c.in_ok-place.place c.deref-2.result.now ok.0 opens ok.2 ok.3, ok.2 ∙ ap (opened_at c.in_ok-place.place) read)

pub returns-clause-ready : goal.returns-clause-ready
returns-clause-ready g c = ready_opened (g.D.Disk.shown c.args.disk.now) (g.D.Disk.shown c.set_end_mark.new.disk) (g.R.PayloadReader.taken c.read_records.new.reader) c.in_ok-place.place (λ is. c.set_end_mark.ensures.unshown (c.read_whole.ensures.unshown is)) (returns-clause-at_rest g c)
