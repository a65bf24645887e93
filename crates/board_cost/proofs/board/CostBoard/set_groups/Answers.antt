use Rattle.std.proofs.Common.{◌+◌, ◌<◌, List, [], ◌∷◌, ◌++◌, reverse, length, Ok, Err, refl, ap, sym, subst, ◌∙◌, arith}
use Rattle.std.specs.Prelude.{Result, OnErr, None, sum_by}
use Rattle.std.proofs.lemmas.List.{length-reverse}
use Rattle.board_cost.specs.declared.change.CostChange.{CostChange}
use Rattle.board_cost.specs.Board.{Board, IsBoardOf, IsLogged, edits_of}
use Rattle.board_cost.proofs.LogLaws.{edits_same, log_push}
use Rattle.board_cost.proofs.BoardLaws.{groups_board}
use Rattle.board_cost.proofs.board.CostBoard.set_groups.Goals as goal

on_err : {X E : Type 0} (r : Result X E) (T : Type 0) → T → OnErr r T
on_err (Ok x) T is = tt
on_err (Err e) T is = is

few_past : (past : List CostChange) → length (reverse past) < 2000000000 → length past < 2000000000
few_past past few = omega (arith, few, length-reverse past)

pub change_groups-self-inside-requires : goal.change_groups-self-inside-requires
change_groups-self-inside-requires g c = record {
  plan = c.requires.plan;
  res = c.requires.res;
  groups = c.requires.groups;
  passengers = c.requires.passengers;
  total = ap (λ (b : Board). b.total) c.self.view_is ∙ c.requires.ready.board.stands.total;
}

pub invariant_of-self-2 : goal.invariant_of-self-2
invariant_of-self-2 g c =
    let s = c.self.inside in
    let past = c.reserve.new.self.items in
    let change : CostChange = record { total = s.total; gone = None; come = None } in
    let log = subst (IsLogged s.fleet.rotations) (sym c.in_ok-reserve.ensures.items) c.self.invariant in
    let few : length past < 2000000000 = few_past past (omega (arith, c.requires.ready.few, c.requires.ready.board.depth, ap (λ (b : Board). length b.past) c.self.view_is, ap (λ (xs : List CostChange). length (reverse xs)) c.in_ok-reserve.ensures.items)) in
    log_push s.fleet.rotations s.fleet.rotations past c.push_change.new.past.items change refl c.push_change.ensures few
    tt tt (edits_same (λ p. sum_by (edits_of p) past) (λ p. sum_by (edits_of p) past + 0 + 0) s.fleet.rotations log.edits (λ p. omega arith)) log

pub returns-clause-ok : goal.returns-clause-ok
returns-clause-ok g c Ps is =
    let I = c.args.inst.now in
    let P = c.args.plan.now in
    let s = c.self.inside in
    let change : CostChange = record { total = s.total; gone = None; come = None } in
    groups_board I P Ps c.args.res.0 c.args.groups.now s.total c.change_groups-self-inside.result s.fleet s.past.items c.push_change.new.past.items change
    (c.push_change.ensures ∙ ap (λ (xs : List CostChange). xs ++ change ∷ []) c.in_ok-reserve.ensures.items) refl refl refl
    c.change_groups-self-inside.ensures.total
    (subst (IsBoardOf I P Ps) (sym c.self.view_is) is)
