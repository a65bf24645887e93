use Rattle.desk_model.proofs.TidyLaws.{after_tidy-tidies, after_tidy-rows, after_tidy-twice}
use Rattle.desk_model.proofs.steps.a_tidy_leaves_no_path_that_breaks_a_rule.Goals as goal

pub returns : goal.returns
returns c = record { reservation = after_tidy-tidies; rows = after_tidy-rows; twice = after_tidy-twice }
