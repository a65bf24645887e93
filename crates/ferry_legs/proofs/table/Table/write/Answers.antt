use Rattle.std.proofs.Common.{ℕ, List, subst}
use Rattle.hour_counts.specs.Counts.{IsWritten}
use Rattle.hour_counts.proofs.TableLaws.{written_from}
use Rattle.ferry_legs.proofs.table.Table.write.Goals as goal

pub returns : goal.returns
returns c =
    subst (λ (old : List ((ℕ × ℕ) × ℕ)). IsWritten old c.insert.new.self.entries c.args.airport c.args.hour c.args.count) c.self.view_is
    (written_from c.self.inside.counts.entries c.insert.new.self.entries c.args.airport c.args.hour c.args.count c.in_ok-insert.ensures.updates.0)
