use Rattle.std.proofs.Common.{subst, ap, List}
use Rattle.std.specs.Prelude.{IsTrue, ◌↔◌}
use Rattle.std.specs.List.{Contains}
use Rattle.desk_data.specs.declared.broken.Broken.{Broken}
use Rattle.board_kit.specs.declared.key.ItemKey.{ItemKey}
use Rattle.board_kit.specs.Items.{key_of}
use Rattle.board_kit.proofs.ItemLaws.{keys_exact, held, holds}
use Rattle.board_kit.proofs.items.BrokenItems.has.Goals as goal

pub returns : goal.returns
returns c =
    let ks = c.self.inside.keys.items in
    let is : IsTrue c.has.result ↔ Contains ks (key_of c.args.item) = subst (λ (k : ItemKey). IsTrue c.has.result ↔ Contains ks k) c.key_of.ensures (c.has.ensures keys_exact) in
    subst (λ (items : List Broken). IsTrue c.has.result ↔ Contains items c.args.item) (ap (λ k. k.items) c.self.view_is)
    ((λ so. holds ks c.args.item (is.0 so)), (λ there. is.1 (held ks c.args.item c.self.invariant there)))
