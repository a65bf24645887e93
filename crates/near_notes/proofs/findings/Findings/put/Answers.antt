use Rattle.std.proofs.lemmas.Result.{on_ok_weaker}
use Rattle.near_notes.proofs.NotesLaws.{put-now}
use Rattle.near_notes.proofs.findings.Findings.put.Goals as goal

pub returns : goal.returns
returns c = on_ok_weaker c.put.result (λ is. put-now c.args.self.now c.put.new.self c.args.there c.args.search is) c.put.ensures
