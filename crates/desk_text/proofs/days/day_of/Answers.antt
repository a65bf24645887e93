use Rattle.std.proofs.Common.{◌≡◌, refl, sym, ◌∙◌, arith, false, true}
use Rattle.jiff_core.proofs.SignedLemmas.{signed_arith}
use Rattle.desk_text.proofs.CalendarLemmas.{no_day, epoch_day_is, same_number}
use Rattle.desk_text.proofs.days.day_of.Goals as goal

pub returns-in_err-date-clause-exact : goal.returns-in_err-date-clause-exact
returns-in_err-date-clause-exact c = c.from_residual.ensures ∙ sym (no_day c.args.day c.args.month c.args.year c.requires (λ h. let none : false ≡ true = c.in_err-date.ensures.there.1 h in cc))

pub number_of-requires : goal.number_of-requires
number_of-requires c = rw (epoch_day_is c.args.day c.args.month c.args.year c.requires c.in_ok-date.date (c.in_ok-date.ensures.there.0 refl) c.in_ok-date.ensures.parts) (omega (arith, signed_arith))

pub returns-clause-exact : goal.returns-clause-exact
returns-clause-exact c = (same_number c.args.day c.args.month c.args.year c.requires c.in_ok-date.date c.number_of.result (c.in_ok-date.ensures.there.0 refl) c.in_ok-date.ensures.parts c.number_of.ensures).0

pub returns-clause-small : goal.returns-clause-small
returns-clause-small c = (same_number c.args.day c.args.month c.args.year c.requires c.in_ok-date.date c.number_of.result (c.in_ok-date.ensures.there.0 refl) c.in_ok-date.ensures.parts c.number_of.ensures).1
