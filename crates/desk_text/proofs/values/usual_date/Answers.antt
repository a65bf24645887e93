use Rattle.desk_text.proofs.DateForms.{day_of_eight_bytes}
use Rattle.desk_text.proofs.values.usual_date.Goals as goal

pub returns-in_ok-year-in-len8-clause-exact : goal.returns-in_ok-year-in-len8-clause-exact
returns-in_ok-year-in-len8-clause-exact c = day_of_eight_bytes c.args.bytes.now c.in_ok-day-in-len8.day c.in_ok-month-in-len8.month c.in_ok-year-in-len8.year c.in-len8.len_at_least c.in-len8.len_below c.if-first-eq-SLASH.true c.if-second-eq-SLASH.true c.in_ok-day-in-len8.ensures.exact c.in_ok-month-in-len8.ensures.exact c.in_ok-year-in-len8.ensures.exact
