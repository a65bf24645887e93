use Rattle.std.proofs.Common.{◌≡◌, [], ◌∷◌, List, ℕ, ap, length}
use Rattle.std.proofs.lemmas.Result.{on_ok_weaker}
use Rattle.desk_disk.specs.FileStates.{put_at, synced, written}
use Rattle.desk_disk.proofs.Torn.{nothing_pending_synced}
use Rattle.desk_disk.proofs.Steps.{if_shown}
use Rattle.desk_disk.proofs.Opened.{end_mark_none, end_mark_on}
use Rattle.desk_disk.proofs.end_mark.set_end_mark.Goals as goal

pub returns-then-has_end_mark-clause-any_moment : goal.returns-then-has_end_mark-clause-any_moment
returns-then-has_end_mark-clause-any_moment g c = λ was is nothing_pending.
    end_mark_none was (g.D.Disk.shown c.args.disk.now) c.args.bytes.now c.args.place is (if_shown (g.D.Disk.shown c.args.disk.now) was (λ d. d.file.bytes ≡ c.args.bytes.now) is c.requires.bytes) nothing_pending

pub returns-clause-ok : goal.returns-clause-ok
returns-clause-ok g c =
    let zero_byte : List ℕ = 0 ∷ [] in
    on_ok_weaker c.write_through.result (λ ok was is nothing_pending. (
      synced (written c.args.place (length zero_byte) zero_byte was),
      ok was is,
      ap (λ (l : List ℕ). put_at c.args.place zero_byte l) (if_shown (g.D.Disk.shown c.args.disk.now) was (λ d. d.file.bytes ≡ c.args.bytes.now) is c.requires.bytes),
      nothing_pending_synced (written c.args.place (length zero_byte) zero_byte was).file,
    )) c.write_through.ensures.ok

pub returns-clause-any_moment : goal.returns-clause-any_moment
returns-clause-any_moment g c = λ was is nothing_pending.
    end_mark_on was (g.D.Disk.shown c.write_through.new.disk) c.args.bytes.now c.args.place (if_shown (g.D.Disk.shown c.args.disk.now) was (λ d. d.file.bytes ≡ c.args.bytes.now) is c.requires.bytes) c.if-has_end_mark.ensures.lacks (c.write_through.ensures.any_moment was is nothing_pending)
