use Rattle.std.proofs.Common.{◌≡◌, sym, ◌∙◌, [], ◌∷◌, arith}
use Rattle.near_search.proofs.FirstLaws.{begins-is, one-is, one-dear}
use Rattle.near_search.proofs.OutLaws.{dear-out}
use Rattle.near_search.proofs.ruled_out.ruled_out.Goals as goal
use Rattle.near_search.proofs.ruled_out.ruled_out.Goals.{then-goes_dearly, else-goes_dearly}

pub returns-in-len1 : goal.returns-in-len1
returns-in-len1 c = λ yes.
    let m = c.args.m.now in
    let step = c.step-item.result in
    let alone : m.steps ≡ step ∷ [] = sym c.as_slice.ensures ∙ one-is c.as_slice.result.now step c.in-len1.len_at_least c.in-len1.len_below c.step-item.is in
    dear-out c.args.eval.now.inst c.args.eval.now.rows m (one-dear c.args.eval.now.inst c.args.eval.now.rows m step alone (c.is_no_cheaper.ensures yes))

pub returns-then-drop_dearly : goal.returns-then-drop_dearly
returns-then-drop_dearly c = λ yes.
    let first = c.first-item.result in
    let some = c.in-len1-up.len_at_least in
    let steps = sym c.as_slice.ensures ∙ begins-is c.as_slice.result.now first (omega (arith, some)) c.first-item.is in
    elim c.if-goes_dearly.branch [
      | then-goes_dearly w ↦ c.goes_dearly.ensures w.if-goes_dearly.true c.args.m.now c.requires.fits steps
      | else-goes_dearly w ↦ w.drop_dearly.ensures (sym w.value-is ∙ yes)
    ]
