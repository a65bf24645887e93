use Rattle.std.proofs.Common.{sym, ◌∙◌, arith}
use Rattle.near_search.proofs.FirstLaws.{begins-is}
use Rattle.near_search.proofs.in_vain.gives_in_vain.Goals as goal

pub returns-in-len1-up : goal.returns-in-len1-up
returns-in-len1-up c = λ yes.
    let some = c.in-len1-up.len_at_least in
    let first = c.first-item.result in
    c.are_in_vain.ensures yes c.args.m.now (sym c.as_slice.ensures ∙ begins-is c.as_slice.result.now first (omega (arith, some)) c.first-item.is)
