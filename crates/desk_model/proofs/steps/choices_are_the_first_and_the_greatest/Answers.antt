use Rattle.std.proofs.Common.{subst}
use Rattle.desk_model.specs.Choices.{IsGreatestWithin}
use Rattle.desk_model.proofs.ChoiceLaws.{first_within-holds, first_within-from, first_within-none, none-first_within, greatest_within-holds, greatest_within-is}
use Rattle.desk_model.proofs.steps.choices_are_the_first_and_the_greatest.Goals as goal

pub returns : goal.returns
returns c = record {
  first = λ low high test t. (first_within-holds low high test t, first_within-from low high test t);
  none = λ low high test. (first_within-none low high test, none-first_within low high test);
  greatest = λ n test k. ((λ is. subst (IsGreatestWithin n test) is (greatest_within-holds n test)), greatest_within-is n test k);
}
