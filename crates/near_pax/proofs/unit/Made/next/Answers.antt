use Rattle.std.proofs.Common.{◌≡◌, ℕ, ◌+◌, ◌<◌, ◌≤◌, List, [], ◌∷◌, length, get_or, refl, sym, ap, ◌∙◌, arith}
use Rattle.std.proofs.lemmas.List.{get_or_read}
use Rattle.desk_units.specs.declared.numbers.Leg.{Leg}
use Rattle.desk_units.specs.declared.numbers.Cabin.{Cabin}
use Rattle.plan_moves.specs.declared.moves.Move.{Move}
use Rattle.near_moves.specs.Near.{move_of}
use Rattle.near_moves.specs.PassengerMoves.{rebooking}
use Rattle.near_pax.specs.declared.unit.Made.{Made}
use Rattle.near_pax.specs.Left.{left_of_made}
use Rattle.near_pax.proofs.MadeLaws.{made-none, made-same_aim, made-next_aim}
use Rattle.near_pax.proofs.unit.Made.next.Goals as goal
use Rattle.near_pax.proofs.unit.Made.next.Goals.{then-self-len-2, else-self-len-2}

pub returns-then-self-len-clause-ok : goal.returns-then-self-len-clause-ok
returns-then-self-len-clause-ok c =
    let made = c.args.self.now in
    let past : length made.aims.items ≤ made.aim = omega arith in
    let none = made-none c.args.res.0 c.args.path.now made past in
    (none, none)

pub returns-clause-ok : goal.returns-clause-ok
returns-clause-ok c =
    let made = c.args.self.now in
    let r = c.args.res.0 in
    let path = c.args.path.now in
    let lt : made.aim < length made.aims.items = omega arith in
    let low : made.count < length made.counts.items = c.requires in
    let aim : c.index.result.now ≡ get_or made.aims.items made.aim [] = get_or_read made.aims.items made.aim c.index.result.now lt c.index.ensures [] in
    let count : c.index-count.result.now ≡ get_or made.counts.items made.count 0 = get_or_read made.counts.items made.count c.index-count.result.now low c.index-count.ensures 0 in
    let next : c.in_ok-next.next ≡ move_of (rebooking r path (get_or made.aims.items made.aim []) (get_or made.counts.items made.count 0)) =
    c.in_ok-next.ensures ∙ ap (λ (to : List (Leg × Cabin)). move_of (rebooking r path to c.index-count.result.now)) aim ∙ ap (λ (n : ℕ). move_of (rebooking r path (get_or made.aims.items made.aim []) n)) count in
    elim c.if-self-len-2.branch [
      | then-self-len-2 w ↦
          let v : Made = record { aims = made.aims; counts = made.counts; aim = made.aim + 1; count = 0 } in
          let last : made.count + 1 ≡ length made.counts.items = omega (arith, w.if-self-len-2.true) in
          made-next_aim r path made v lt low last refl refl refl refl
          ∙ ap (λ (m : Move). m ∷ left_of_made r path v) (sym next)
          ∙ ap (λ (s : Made). c.in_ok-next.next ∷ left_of_made r path s) (sym w.self-is)
      | else-self-len-2 w ↦
          let v : Made = record { aims = made.aims; counts = made.counts; aim = made.aim; count = made.count + 1 } in
          made-same_aim r path made v lt low refl refl refl refl
          ∙ ap (λ (m : Move). m ∷ left_of_made r path v) (sym next)
          ∙ ap (λ (s : Made). c.in_ok-next.next ∷ left_of_made r path s) (sym w.self-is)
    ]
