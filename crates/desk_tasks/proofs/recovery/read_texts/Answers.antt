use Rattle.std.proofs.Common.{◌+◌, drop, refl}
use Rattle.desk_folder.specs.Entries.{named_texts}
use Rattle.desk_tasks.specs.Facts.{as_rows}
use Rattle.desk_tasks.proofs.RecoveryLaws.{texts-left, texts-next, texts-fault, texts-end}
use Rattle.desk_tasks.proofs.recovery.read_texts.Goals as goal

pub loop-named-init : goal.loop-named-init
loop-named-init c = record { exact = refl; facts = c.requires.facts }

pub take_text-requires : goal.take_text-requires
take_text-requires c = record { facts = c.loop-named.invariant.facts }

pub loop-named-preserved : goal.loop-named-preserved
loop-named-preserved c =
    texts-next c.loop-named.rows c.in-Ok.more (as_rows c.args.rows) _ (named_texts (drop (c.loop-named.named-index + 1) c.args.texts.now)) (named_texts c.args.texts.now) (c.named-item.result.0, c.as_slice.result.now)
    (texts-left c.args.texts.now c.loop-named.named-index c.named-item.result c.as_slice.result.now c.loop-named-test.true c.named-item.is c.as_slice.ensures.value) c.in-Ok.ensures.exact c.in-Ok.ensures.facts c.loop-named.invariant

pub returns-in-Err-clause-exact : goal.returns-in-Err-clause-exact
returns-in-Err-clause-exact c =
    texts-fault c.loop-named.rows (as_rows c.args.rows) _ (named_texts (drop (c.loop-named.named-index + 1) c.args.texts.now)) (named_texts c.args.texts.now) (c.named-item.result.0, c.as_slice.result.now) c.in-Err.fault
    (texts-left c.args.texts.now c.loop-named.named-index c.named-item.result c.as_slice.result.now c.loop-named-test.true c.named-item.is c.as_slice.ensures.value) c.in-Err.ensures.cause c.in-Err.ensures.exact c.loop-named.invariant

pub returns-clause-exact : goal.returns-clause-exact
returns-clause-exact c = texts-end c.loop-named.rows (as_rows c.args.rows) c.args.texts.now c.loop-named.named-index (named_texts c.args.texts.now) c.loop-named-test.false c.loop-named.invariant

pub returns-clause-facts : goal.returns-clause-facts
returns-clause-facts c = c.loop-named.invariant.facts
