use Rattle.std.proofs.Common.{◌≡◌, sym, subst, ap, ◌∙◌, List, [], ◌∷◌, refl}
use Rattle.std.specs.Prelude.{map, find, Bool, None, Some}
use Rattle.std.specs.List.{AllPairs}
use Rattle.desk_data.specs.declared.broken.Broken.{Broken}
use Rattle.desk_rules.specs.Order.{ComesBefore}
use Rattle.kept_set.specs.Kept.{AreRising, first}
use Rattle.board_kit.specs.declared.key.ItemKey.{ItemKey}
use Rattle.board_kit.specs.Items.{AreThose, AreKeys, item_of}
use Rattle.board_kit.specs.contracts.key.ItemKeyOrd.TheImpl as keys
use Rattle.board_kit.proofs.FirstLaws.{first_is_find}
use Rattle.board_kit.proofs.ItemLaws.{comes_before-asym, items_rise}
use Rattle.board_kit.proofs.items.BrokenItems.first.Goals as goal

first_of : (ks : List ItemKey) (k : ItemKey) → Some k ≡ first ks → Some (item_of k) ≡ first (map item_of ks)
first_of [] k is = absurd cc
first_of (x ∷ ks) k is = let same : k ≡ x = cc in ap (λ y. Some (item_of y)) same

none_of : (ks : List ItemKey) → None ≡ first ks → None ≡ first (map item_of ks)
none_of [] is = refl
none_of (x ∷ ks) is = absurd cc

found : (ks : List ItemKey) (test : Broken → Bool) (all : List Broken) → AreKeys ks → AreRising keys.cmp-value.it ks → AllPairs ComesBefore all → AreThose test all (map item_of ks) → first (map item_of ks) ≡ find test all
found ks test all are rising order those = first_is_find ComesBefore test all (map item_of ks) comes_before-asym order (items_rise ks are rising) those

pub returns-in-Some : goal.returns-in-Some
returns-in-Some c test all order those =
    ap Some c.item_of.ensures ∙ first_of c.self.inside.keys.items c.in-Some.key (sym c.in-Some.is ∙ c.first.ensures.first)
    ∙ found c.self.inside.keys.items test all c.self.invariant c.first.ensures.rising order (subst (AreThose test all) (sym (ap (λ k. k.items) c.self.view_is)) those)

pub returns-in-None : goal.returns-in-None
returns-in-None c test all order those =
    none_of c.self.inside.keys.items (sym c.in-None.is ∙ c.first.ensures.first)
    ∙ found c.self.inside.keys.items test all c.self.invariant c.first.ensures.rising order (subst (AreThose test all) (sym (ap (λ k. k.items) c.self.view_is)) those)
