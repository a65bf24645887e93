use Rattle.std.proofs.Common.{Ok, Err, subst, List}
use Rattle.std.specs.Prelude.{Result, OnErr, true}
use Rattle.desk_units.specs.declared.numbers.Res.{Res}
use Rattle.kept_set.specs.Kept.{AreSet}
use Rattle.board_kit.proofs.UserLaws.{res_exact, kept_more, kept_same}
use Rattle.board_kit.proofs.users.LegUsers.keep.Goals as goal

on_err : {X E : Type 0} (r : Result X E) (T : Type 0) → T → OnErr r T
on_err (Ok x) T is = tt
on_err (Err e) T is = is

pub returns-in_err-reserve-clause-err : goal.returns-in_err-reserve-clause-err
returns-in_err-reserve-clause-err c = on_err c.from_residual.result _
    (kept_same c.self.inside.legs.items c.args.self.now c.args.leg.0 c.index_mut-kept.result.now c.reserve.new.self c.self.view_is c.index_mut-kept.ensures.value c.in_err-reserve.ensures.items)

pub returns-clause-ok : goal.returns-clause-ok
returns-clause-ok c =
    kept_more c.self.inside.legs.items c.args.self.now c.args.leg.0 c.index_mut-kept.result.now c.put.new.self c.args.res c.self.view_is c.requires c.index_mut-kept.ensures.value
    (subst (λ (xs : List Res). AreSet xs c.put.new.self.items c.args.res true) c.in_ok-reserve.ensures.items (c.put.ensures.set res_exact))
