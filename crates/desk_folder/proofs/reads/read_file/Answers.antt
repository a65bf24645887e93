use Rattle.std.proofs.Common.{◌≤◌, arith}
use Rattle.std.proofs.KnownBytes.{Consumes-trans}
use Rattle.desk_folder.proofs.Frames.{ReadsOnly-trans}
use Rattle.desk_folder.proofs.reads.read_file.Goals as goal

-- the bytes of the last read are lost as well
pub returns-then-is_err : goal.returns-then-is_err
returns-then-is_err g c =
    let before = g.F.Folder.outside c.args.folder.now in
    let mid = g.F.Folder.outside c.loop-piece.folder in
    let now = g.F.Folder.outside c.next.new.self in
    let file = c.args.file in
    let faults : mid.next_faults file ≤ now.next_faults file = c.in_ok-taken.ensures.faults.kept in
    record {
      whole = tt;
      fits = tt;
      size = λ e. absurd (cc);
      failed = λ e. absurd (cc);
      kept = omega arith;
      turns = let turn = c.in_ok-taken.ensures.turn in let so_far = c.loop-piece.invariant.turns in let fits = c.loop-piece.invariant.fits in omega (arith, turn, so_far, fits);
      left = (_, Consumes-trans (before.left file) (mid.left file) (now.left file) _ _ c.loop-piece.invariant.bytes c.in_ok-taken.ensures.bytes.0);
      others = ReadsOnly-trans file before mid now c.loop-piece.invariant.others c.in_ok-taken.ensures.others;
    }
