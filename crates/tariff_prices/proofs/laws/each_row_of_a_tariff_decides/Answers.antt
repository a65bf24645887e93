use Rattle.tariff_prices.proofs.DecidingRow.{each_decides}
use Rattle.tariff_prices.proofs.laws.each_row_of_a_tariff_decides.Goals as goal

pub returns : goal.returns
returns c = λ rows are. each_decides rows are.distinct
