use Rattle.std.proofs.Common.{◌∙◌}
use Rattle.file_joins.specs.Keys.{with_key}
use Rattle.file_joins.proofs.KeyLemmas.{keyed_more}
use Rattle.file_joins.proofs.places.places_of.Goals as goal

pub loop-row-preserved : goal.loop-row-preserved
loop-row-preserved g c =
    c.in_ok-put.ensures
    ∙ (λ i. with_key (c.loop-row.invariant i) (c.key.ensures i))
    ∙ keyed_more g.T.Keyed.key_of c.args.rows.now c.loop-row.row-index c.row-item.result c.loop-row-test.true c.row-item.is c.requires
