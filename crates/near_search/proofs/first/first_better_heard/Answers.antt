use Rattle.std.proofs.Common.{◌≡◌, List, sym, ap, subst, ◌∙◌}
use Rattle.std.specs.Prelude.{find, All}
use Rattle.plan_moves.specs.Fits.{Fits}
use Rattle.desk_data.specs.Valid.{IsValid, IsPlanFor}
use Rattle.near_moves.specs.Units.{MoveUnit}
use Rattle.near_moves.specs.PassengerMoves.{rebooked_units}
use Rattle.near_moves.specs.Near.{leg_units, moves_of, of_shard}
use Rattle.near_moves.specs.Descent.{is_better, first_better}
use Rattle.near_moves.proofs.UnitLaws.{moves_of_legs-fit}
use Rattle.near_moves.proofs.RebookingLaws.{rebookings-fit}
use Rattle.near_search.proofs.FirstLaws.{first-leg, first-passengers, none_is}
use Rattle.near_search.proofs.PassedLaws.{shard-all}
use Rattle.near_search.proofs.VainLaws.{none_left}
use Rattle.near_search.proofs.first.first_better_heard.Goals as goal
use Rattle.near_search.proofs.first.first_better_heard.Goals.{In_ok-found}

pub returns-then-is_noted_quiet-clause-ok : goal.returns-then-is_noted_quiet-clause-ok
returns-then-is_noted_quiet-clause-ok g c = sym (c.is_noted_quiet.ensures c.if-is_noted_quiet.true)

pub first_of_legs-requires-clause-fits : goal.first_of_legs-requires-clause-fits
first_of_legs-requires-clause-fits g c =
    let I = c.args.eval.now.inst in
    let P = c.args.eval.now.rows in
    let plan : IsPlanFor I P = rw c.plan.ensures.rows at c.plan.ensures.valid in
    let left = rw (c.instance-2.ensures, c.plan.ensures.rows) at c.in_ok-units.ensures.left in
    subst (λ (us : List MoveUnit). All (Fits I) (moves_of I P us)) (sym left) (shard-all I P (Fits I) c.args.shard c.args.shards (leg_units I P) (moves_of_legs-fit I P plan))

pub first_of_passengers-requires-clause-fits : goal.first_of_passengers-requires-clause-fits
first_of_passengers-requires-clause-fits g c =
    let I = c.args.eval.now.inst in
    let P = c.args.eval.now.rows in
    let valid : IsValid I = rw c.instance.ensures at c.parts-rows.ensures.valid in
    let plan : IsPlanFor I P = rw c.plan.ensures.rows at c.plan.ensures.valid in
    let stays = c.first_of_legs.ensures.eval in
    let left = rw (c.instance-3.ensures, c.plan-2.ensures.rows, stays) at c.in_ok-passengers.ensures.left in
    rw stays (subst (All (Fits I)) (sym left) (shard-all I P (Fits I) c.args.shard c.args.shards (rebooked_units I P) (rebookings-fit I P valid plan)))

pub returns-in-Some-clause-ok : goal.returns-in-Some-clause-ok
returns-in-Some-clause-ok g c =
    let I = c.args.eval.now.inst in
    let P = c.args.eval.now.rows in
    let left = rw (c.instance-2.ensures, c.plan.ensures.rows) at c.in_ok-units.ensures.left in
    let found : c.in_ok-of_legs.of_legs ≡ find (is_better I P) (moves_of I P (of_shard c.args.shard c.args.shards (leg_units I P))) = c.in_ok-of_legs.ensures.ok ∙ ap (λ (us : List MoveUnit). find (is_better I P) (moves_of I P us)) left in
    first-leg I P c.args.shard c.args.shards c.in_ok-of_legs.of_legs c.in-Some.m found c.in-Some.is

-- what is found of the moves of passengers is what is found of all
found-is : (g : _) (c : In_ok-found g) → c.in_ok-found.found ≡ first_better c.args.eval.now.inst c.args.eval.now.rows c.args.shard c.args.shards
found-is g c =
    let I = c.args.eval.now.inst in
    let P = c.args.eval.now.rows in
    let left = rw (c.instance-2.ensures, c.plan.ensures.rows) at c.in_ok-units.ensures.left in
    let found : c.in_ok-of_legs.of_legs ≡ find (is_better I P) (moves_of I P (of_shard c.args.shard c.args.shards (leg_units I P))) = c.in_ok-of_legs.ensures.ok ∙ ap (λ (us : List MoveUnit). find (is_better I P) (moves_of I P us)) left in
    let stays = c.first_of_legs.ensures.eval in
    let more = rw (c.instance-3.ensures, c.plan-2.ensures.rows, stays) at c.in_ok-passengers.ensures.left in
    let units_after : find (is_better I P) (moves_of I P (of_shard c.args.shard c.args.shards (rebooked_units I P))) ≡ first_better I P c.args.shard c.args.shards =
    first-passengers I P c.args.shard c.args.shards c.in_ok-of_legs.of_legs found c.in_default.is in
    (rw stays at c.in_ok-found.ensures.ok) ∙ ap (find (is_better I P)) more ∙ units_after

pub note_quiet-requires-clause-quiet : goal.note_quiet-requires-clause-quiet
note_quiet-requires-clause-quiet g c =
    let stays = c.first_of_passengers.ensures.eval ∙ c.first_of_legs.ensures.eval in
    let none = none_left c.in_ok-found.found (sym (none_is c.in_ok-found.found c.is_none.result c.is_none.ensures) ∙ c.if-is_none.true) in
    rw stays (sym (found-is g (goal.at.note_quiet-requires-clause-quiet g c).In_ok-found) ∙ none)

pub returns-clause-ok : goal.returns-clause-ok
returns-clause-ok g c = found-is g (goal.at.returns-clause-ok g c).In_ok-found
