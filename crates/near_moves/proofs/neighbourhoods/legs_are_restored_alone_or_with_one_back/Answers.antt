use Rattle.near_moves.proofs.StepLaws.{restorings-hold, restorings-each}
use Rattle.near_moves.proofs.neighbourhoods.legs_are_restored_alone_or_with_one_back.Goals as goal

pub returns : goal.returns
returns c = λ I P x p steps. (restorings-hold I P x p steps, restorings-each I P x p steps)
