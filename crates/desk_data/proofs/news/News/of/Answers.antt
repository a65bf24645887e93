use Rattle.desk_data.proofs.KeepsLemmas.{keeps_nothing, keeps_no_spans}
use Rattle.desk_data.proofs.news.News.of.Goals as goal

pub returns-clause-kept : goal.returns-clause-kept
returns-clause-kept c =
    let parts = c.args.parts.now in
    record {
      said = rw c.in_ok-kept.ensures (rw (c.as_slice.ensures, c.as_slice-planes.ensures, c.as_slice-2.ensures) (keeps_nothing parts));
      out = rw c.in_ok-spans.ensures (rw c.as_slice-planes.ensures (keeps_no_spans parts));
    }
