use Rattle.std.proofs.Common.{sym, ◌∙◌, refl}
use Rattle.std.proofs.lemmas.List.{take_all}
use Rattle.tariff_prices.specs.Rows.{same_key}
use Rattle.tariff_prices.proofs.KeyLemmas.{apart_more, not_apart}
use Rattle.tariff_prices.proofs.validity.are_distinct.Goals as goal

pub loop-i-preserved : goal.loop-i-preserved
loop-i-preserved c =
    apart_more same_key c.args.rows.now c.loop-i.i c.index-rows-i.result c.loop-i-test.true c.index-rows-i.is (sym c.is_among.ensures ∙ c.if-is_among.false) c.loop-i.invariant

pub returns-then-is_among : goal.returns-then-is_among
returns-then-is_among c =
    (λ false_. cc, λ apart. absurd (not_apart same_key c.args.rows.now c.loop-i.i c.index-rows-i.result c.loop-i-test.true c.index-rows-i.is (sym c.is_among.ensures ∙ c.if-is_among.true) apart))

pub returns : goal.returns
returns c = (λ true_. rw (take_all _ _ c.loop-i-test.false) at c.loop-i.invariant, λ apart. refl)
