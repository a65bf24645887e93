use Rattle.desk_text.proofs.DateLemmas.{two_digit_year}
use Rattle.desk_text.proofs.CalendarLemmas.{parts_are}
use Rattle.desk_text.proofs.days.date_of.Goals as goal

pub returns-clause-day : goal.returns-clause-day
returns-clause-day c = (parts_are c.args.day c.requires c.date_after.result c.date_after.ensures).2

pub returns-clause-month : goal.returns-clause-month
returns-clause-month c = (parts_are c.args.day c.requires c.date_after.result c.date_after.ensures).1

pub returns-clause-year : goal.returns-clause-year
returns-clause-year c = (parts_are c.args.day c.requires c.date_after.result c.date_after.ensures).0

pub returns-clause-year_fits : goal.returns-clause-year_fits
returns-clause-year_fits c = two_digit_year c.args.day c.requires
