use Rattle.desk_units.specs.declared.headway.Headway.{Headway}
use Rattle.std.proofs.Common.{subst}
use Rattle.recovery_commands.proofs.DescendLaws.{told-is}
use Rattle.recovery_commands.proofs.descent.tell.Goals as goal

pub returns : goal.returns
returns g c =
    subst (λ (h : Headway). g.L.Listener.hears c.args.listener.now h c.reached.new.self)
    (told-is c.args.book.now c.args.batch c.changes.result c.cost.result c.requires c.changes.ensures c.cost.ensures) c.reached.ensures
