use Rattle.std.proofs.Common.{sym, ◌∙◌}
use Rattle.near_search.proofs.FirstLaws.{none_is}
use Rattle.near_search.proofs.VainLaws.{none_left}
use Rattle.near_search.proofs.noted.is_feasible.Goals as goal

pub returns : goal.returns
returns c = λ is.
    (sym c.least_broken.ensures ∙ none_left c.least_broken.result (sym (none_is c.least_broken.result c.is_none.result c.is_none.ensures) ∙ is))
