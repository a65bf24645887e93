use Rattle.std.proofs.Common.{◌≡◌, ◌<◌, length, get_or, take, true, false, eqb, refl, sym, ◌∙◌, arith}
use Rattle.std.proofs.lemmas.Bool.{eq-eqb}
use Rattle.std.proofs.lemmas.List.{get_or_default}
use Rattle.std.proofs.lemmas.List.Folds.{list_any_at}
use Rattle.desk_units.specs.declared.numbers.Leg.{Leg}
use Rattle.desk_units.specs.declared.numbers.Cabin.{Cabin}
use Rattle.desk_data.specs.Paths.{no_pair}
use Rattle.desk_model.specs.Refill.{has_leg}
use Rattle.near_priced.specs.Tables.{amount}
use Rattle.near_dear.proofs.DropTableLaws.{leg-room}
use Rattle.near_dear.proofs.owed.add_path.Goals as goal

pub overflow_add-amount : goal.overflow_add-amount
unfolding no_pair
overflow_add-amount c =
    let path = c.args.path.now in
    let k = c.loop-k.k in
    let leg = (get_or path k no_pair).0.0 in
    let mid = c.loop-k.owed.items in
    let lt : k < length path = c.loop-k-test.true in
    let short = c.requires.path k no_pair lt in
    let same = c.loop-k.invariant.legs in
    let within : leg < length mid = omega (arith, short, same) in
    let read : c.index-amount.result.now ≡ amount mid leg = c.index-amount.ensures ∙ get_or_default mid leg c.index-amount.result.now 0 within in
    let off : has_leg leg (take k path) ≡ false = sym c.has_leg.ensures ∙ c.if-not-has_leg.true in
    let on : has_leg leg path ≡ true = list_any_at (λ (pair : Leg × Cabin). eqb pair.0.0 leg) path k no_pair lt (eq-eqb leg leg refl) in
    let room = leg-room c.args.cost path c.args.owed.now.items mid k no_pair lt off on c.loop-k.invariant.put c.requires.room in
    omega (arith, read, room)
