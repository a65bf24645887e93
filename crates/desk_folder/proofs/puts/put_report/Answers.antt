use Rattle.std.proofs.Common.{arith}
use Rattle.desk_folder.proofs.PutLemmas.{Appends-more, AppendsPrefix-more, Counts-more}
use Rattle.desk_folder.proofs.puts.put_report.Goals as goal

pub loop-at-preserved : goal.loop-at-preserved
loop-at-preserved g c =
    let before = g.O.Sink.report c.args.sink.now in
    let mid = g.O.Sink.report c.loop-at.sink in
    let now = g.O.Sink.report c.put.new.self in
    let call = c.in-Ok.ensures in
    record {
      within = omega (arith, call.count);
      bytes = Appends-more before.written mid.written now.written c.args.text.now c.line_from.result.now c.loop-at.at _ c.in-Ok.taken c.line_from.ensures.exact call.count.1 c.loop-at.invariant.bytes call.bytes;
      kept = omega (arith, call.faults.kept);
    }

pub returns-in-Err : goal.returns-in-Err
returns-in-Err g c =
    let before = g.O.Sink.report c.args.sink.now in
    let mid = g.O.Sink.report c.loop-at.sink in
    let now = g.O.Sink.report c.put.new.self in
    let call = c.in-Err.ensures in
    record {
      bytes = AppendsPrefix-more before.written mid.written now.written c.args.text.now c.line_from.result.now c.loop-at.at _ c.in-Err.fault c.line_from.ensures.exact c.loop-at.invariant.bytes call.bytes;
      faults = Counts-more before.faults mid.faults now.faults c.in-Err.fault c.loop-at.invariant.kept call.faults;
    }
