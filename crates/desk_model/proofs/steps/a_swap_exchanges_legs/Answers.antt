use Rattle.desk_model.proofs.SwapLaws.{after_swap-swaps, after_swap-groups, after_swap-twice, after_swap-same}
use Rattle.desk_model.proofs.steps.a_swap_exchanges_legs.Goals as goal

pub returns : goal.returns
returns c = record { leg = after_swap-swaps; groups = after_swap-groups; twice = after_swap-twice; same = after_swap-same }
