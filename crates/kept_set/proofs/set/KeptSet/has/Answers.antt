use Rattle.std.proofs.Common.{refl}
use Rattle.kept_set.proofs.SetLaws.{gap_lacks}
use Rattle.kept_set.proofs.set.KeptSet.has.Goals as goal

pub returns-in-Ok : goal.returns-in-Ok
returns-in-Ok g c exact = (λ _. (c.in-Ok._at, c.in-Ok.ensures.bound, exact _ c.args.item (c.in-Ok.ensures.found c.args.item)), λ _. refl)

pub returns-in-Err : goal.returns-in-Err
returns-in-Err g c exact = (λ none. absurd cc, λ is. absurd (gap_lacks {cmp = g.K.Ord.cmp} g.met.K.Ord.total c.args.self.now.items c.in-Err._at c.args.item c.in-Err.ensures.missing is))
