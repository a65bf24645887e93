use Rattle.std.proofs.Common.{◌≡◌, ◌∙◌, sym, ap, subst, List, ℕ, Some, length, ◌+◌}
use Rattle.desk_disk.specs.FileStates.{synced, written}
use Rattle.desk_disk.proofs.Torn.{nothing_pending_synced}
use Rattle.desk_disk.specs.Files.{IsAtRest, added_at}
use Rattle.desk_disk.proofs.Opened.{behind, staged_on, added_on, nothing_on, behind_on, mark_on, added_bytes, added_rests, mark_within, four_calls, ready_next}
use Rattle.desk_disk.proofs.appending.append.Goals as goal

pub returns-then-place-gt-MAX_PLACE-clause-any_moment : goal.returns-then-place-gt-MAX_PLACE-clause-any_moment
returns-then-place-gt-MAX_PLACE-clause-any_moment g c = λ was is ps rest. nothing_on was (g.D.Disk.shown c.args.disk.now) ps c.args.payload.now c.args.tail is rest

pub returns-in_err-behind-clause-any_moment : goal.returns-in_err-behind-clause-any_moment
returns-in_err-behind-clause-any_moment g c = λ was is ps rest. nothing_on was (g.D.Disk.shown c.args.disk.now) ps c.args.payload.now c.args.tail is rest

pub returns-in_err-write_through-clause-any_moment : goal.returns-in_err-write_through-clause-any_moment
returns-in_err-write_through-clause-any_moment g c = λ was is ps rest.
    let mark = c.tail.inside.place in
    let at = subst (λ (k : ℕ). IsAtRest ps k was.file) (sym c.tail.view_is) rest in
    behind_on was (g.D.Disk.shown c.write_through.new.disk) ps c.args.payload.now mark (length c.deref.result.now) at (c.write_through.ensures.any_moment was is at.nothing_pending)

pub write_through-requires-2 : goal.write_through-requires-2
write_through-requires-2 g c =
    let mark = c.tail.inside.place in
    let p = c.args.payload.now in
    let same : c.deref.result.now ≡ behind p = c.deref.ensures.value ∙ c.in_ok-behind.ensures in
    mark_within (g.D.Disk.shown c.args.disk.now) (g.D.Disk.shown c.write_through.new.disk) p mark c.requires.short (rw c.tail.view_is c.requires.ready) c.write_through.ensures.unshown
    (λ was is. c.in_ok-write_through.ensures.ok was is ∙ ap (λ (l : List ℕ). Some (synced (written (mark + 1) (length l) l was))) same)

pub returns-in_err-write_through-2-clause-any_moment : goal.returns-in_err-write_through-2-clause-any_moment
returns-in_err-write_through-2-clause-any_moment g c = λ was is ps rest.
    let mark = c.tail.inside.place in
    let p = c.args.payload.now in
    let at = subst (λ (k : ℕ). IsAtRest ps k was.file) (sym c.tail.view_is) rest in
    let same : c.deref.result.now ≡ behind p = c.deref.ensures.value ∙ c.in_ok-behind.ensures in
    let first = behind_on was (g.D.Disk.shown c.write_through.new.disk) ps p mark (length c.deref.result.now) at (c.write_through.ensures.any_moment was is at.nothing_pending) in
    let staged = c.in_ok-write_through.ensures.ok was is ∙ ap (λ (l : List ℕ). Some (synced (written (mark + 1) (length l) l was))) same in
    let second = c.write_through-2.ensures.any_moment (staged_on mark p was) staged (nothing_pending_synced (written (mark + 1) (length (behind p)) (behind p) was).file) in
    mark_on was (g.D.Disk.shown c.write_through.new.disk) (g.D.Disk.shown c.write_through-2.new.disk) ps p mark at c.requires.short first staged second

pub returns-clause-acknowledged : goal.returns-clause-acknowledged
returns-clause-acknowledged g c = λ was is ps rest.
    let mark = c.tail.inside.place in
    let p = c.args.payload.now in
    let at = subst (λ (k : ℕ). IsAtRest ps k was.file) (sym c.tail.view_is) rest in
    let same : c.deref.result.now ≡ behind p = c.deref.ensures.value ∙ c.in_ok-behind.ensures in
    let staged = c.in_ok-write_through.ensures.ok was is ∙ ap (λ (l : List ℕ). Some (synced (written (mark + 1) (length l) l was))) same in
    (added_on mark p was, c.in_ok-write_through-2.ensures.ok (staged_on mark p was) staged, added_rests was ps p mark at c.requires.short, added_bytes was ps p mark at ∙ ap (λ (k : ℕ). added_at k p was.file.bytes) c.tail.view_is)

pub returns-clause-calls : goal.returns-clause-calls
returns-clause-calls g c = λ was is.
    let mark = c.tail.inside.place in
    let p = c.args.payload.now in
    let same : c.deref.result.now ≡ behind p = c.deref.ensures.value ∙ c.in_ok-behind.ensures in
    let staged = c.in_ok-write_through.ensures.ok was is ∙ ap (λ (l : List ℕ). Some (synced (written (mark + 1) (length l) l was))) same in
    (added_on mark p was, c.in_ok-write_through-2.ensures.ok (staged_on mark p was) staged, four_calls mark p was)

pub returns-clause-any_moment : goal.returns-clause-any_moment
returns-clause-any_moment g c = λ was is ps rest.
    let mark = c.tail.inside.place in
    let p = c.args.payload.now in
    let at = subst (λ (k : ℕ). IsAtRest ps k was.file) (sym c.tail.view_is) rest in
    let same : c.deref.result.now ≡ behind p = c.deref.ensures.value ∙ c.in_ok-behind.ensures in
    let first = behind_on was (g.D.Disk.shown c.write_through.new.disk) ps p mark (length c.deref.result.now) at (c.write_through.ensures.any_moment was is at.nothing_pending) in
    let staged = c.in_ok-write_through.ensures.ok was is ∙ ap (λ (l : List ℕ). Some (synced (written (mark + 1) (length l) l was))) same in
    let second = c.write_through-2.ensures.any_moment (staged_on mark p was) staged (nothing_pending_synced (written (mark + 1) (length (behind p)) (behind p) was).file) in
    mark_on was (g.D.Disk.shown c.write_through.new.disk) (g.D.Disk.shown c.write_through-2.new.disk) ps p mark at c.requires.short first staged second

pub returns-clause-ready : goal.returns-clause-ready
returns-clause-ready g c = ready_next (g.D.Disk.shown c.args.disk.now) (g.D.Disk.shown c.write_through-2.new.disk) c.args.payload.now c.args.tail (c.tail.inside.place + 5 + length c.args.payload.now) c.requires.ready (λ is. c.write_through-2.ensures.unshown (c.write_through.ensures.unshown is)) (returns-clause-acknowledged g c)
