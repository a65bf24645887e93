use Rattle.std.proofs.Common.{◌≡◌, map, reverse, refl, sym, ap, ◌∙◌, arith}
use Rattle.std.proofs.lemmas.List.{reverse-reverse}
use Rattle.near_legs.specs.Choices.{unit_of}
use Rattle.near_legs.specs.Walk.{UnitWalk}
use Rattle.near_legs.proofs.WalkLaws.{owner-left, owner-nearer, neighbourhood-left, neighbourhood-nearer}
use Rattle.near_legs.proofs.walk.LegUnits.take_owner.Goals as goal

pub returns-then-is_after_owners-clause-left : goal.returns-then-is_after_owners-clause-left
returns-then-is_after_owners-clause-left c =
    let W = c.args.self.now in
    neighbourhood-left c.args.inst.now c.args.plan.now c.take_neighbourhood.new.self W W c.take_neighbourhood.ensures refl (sym c.is_after_owners.ensures.after ∙ c.if-is_after_owners.true)

pub returns-then-is_after_owners-clause-nearer : goal.returns-then-is_after_owners-clause-nearer
returns-then-is_after_owners-clause-nearer c =
    let W = c.args.self.now in
    let limit = c.is_after_owners.ensures.limit in
    let within = c.requires.walk.owner in
    neighbourhood-nearer c.args.inst.now c.take_neighbourhood.new.self W W c.take_neighbourhood.ensures refl c.requires.more (sym c.is_after_owners.ensures.after ∙ c.if-is_after_owners.true) (omega (arith, limit, within))

pub overflow_add-self : goal.overflow_add-self
overflow_add-self c =
    let limit = c.is_after_owners.ensures.limit in
    let within = c.requires.walk.owner in
    let own : c.self.inside.owner ≡ c.args.self.now.owner = ap (λ (w : UnitWalk). w.owner) c.self.view_is in
    omega (arith, limit, within, own)

pub returns-clause-left : goal.returns-clause-left
returns-clause-left c =
    let I = c.args.inst.now in
    let P = c.args.plan.now in
    let W = c.args.self.now in
    let V : UnitWalk = record { lists = c.self.inside.tables; shard = c.self.inside.shard; shards = c.self.inside.shards; neighbourhood = c.self.inside.neighbourhood; owner = c.self.inside.owner; at_hand = reverse c.self.inside.at_hand.items } in
    owner-left I P V W (reverse c.reverse.new.self.items) c.self.view_is c.requires.empty (sym c.is_after_owners.ensures.after ∙ c.if-is_after_owners.false)
    (ap (λ us. map unit_of (reverse us)) c.reverse.ensures.items ∙ ap (map unit_of) (reverse-reverse c.in_ok-units.units.items) ∙ c.in_ok-units.ensures.units)

pub returns-clause-nearer : goal.returns-clause-nearer
returns-clause-nearer c =
    let W = c.args.self.now in
    let V : UnitWalk = record { lists = c.self.inside.tables; shard = c.self.inside.shard; shards = c.self.inside.shards; neighbourhood = c.self.inside.neighbourhood; owner = c.self.inside.owner; at_hand = reverse c.self.inside.at_hand.items } in
    owner-nearer c.args.inst.now V W (reverse c.reverse.new.self.items) c.self.view_is (sym c.is_after_owners.ensures.after ∙ c.if-is_after_owners.false) c.is_after_owners.ensures.limit
