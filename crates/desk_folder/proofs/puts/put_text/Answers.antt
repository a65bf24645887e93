use Rattle.std.proofs.Common.{arith}
use Rattle.desk_folder.proofs.Frames.{WritesOnly-trans}
use Rattle.desk_folder.proofs.PutLemmas.{Appends-more, AppendsPrefix-more, Counts-more}
use Rattle.desk_folder.proofs.puts.put_text.Goals as goal

pub loop-at-preserved : goal.loop-at-preserved
loop-at-preserved g c =
    let file = c.args.file in
    let text = c.args.text.now in
    let at = c.loop-at.at in
    let before = g.F.Folder.outside c.args.folder.now in
    let mid = g.F.Folder.outside c.loop-at.folder in
    let now = g.F.Folder.outside c.put.new.self in
    let so_far = c.loop-at.invariant in
    let call = c.in-Ok.ensures in
    record {
      within = omega (arith, call.count);
      bytes = Appends-more (before.written file) (mid.written file) (now.written file) text c.line_from.result.now at _ c.in-Ok.taken c.line_from.ensures.exact call.count.1 so_far.bytes call.bytes;
      kept = omega (arith, call.faults.kept);
      others = WritesOnly-trans file before mid now so_far.others call.others;
    }

pub returns-in-Err : goal.returns-in-Err
returns-in-Err g c =
    let file = c.args.file in
    let before = g.F.Folder.outside c.args.folder.now in
    let mid = g.F.Folder.outside c.loop-at.folder in
    let now = g.F.Folder.outside c.put.new.self in
    let so_far = c.loop-at.invariant in
    let call = c.in-Err.ensures in
    record {
      bytes = AppendsPrefix-more (before.written file) (mid.written file) (now.written file) c.args.text.now c.line_from.result.now c.loop-at.at _ c.in-Err.fault c.line_from.ensures.exact so_far.bytes call.bytes;
      faults = Counts-more (before.put_faults file) (mid.put_faults file) (now.put_faults file) c.in-Err.fault so_far.kept call.faults;
      others = WritesOnly-trans file before mid now so_far.others call.others;
    }
