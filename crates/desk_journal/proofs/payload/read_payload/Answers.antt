use Rattle.std.proofs.Common.{arith}
use Rattle.std.proofs.lemmas.Result.{IfOk-weaker}
use Rattle.desk_journal.proofs.Read.{is_found, is_none}
use Rattle.desk_journal.proofs.payload.read_payload.Goals as goal

pub returns-clause-found : goal.returns-clause-found
returns-clause-found c = IfOk-weaker c.whole_payload.result _ _ (λ o given. is_found c.args.bytes.now o (λ i. omega (arith, c.type_inv.bytes i)) given) c.whole_payload.ensures

pub returns-clause-none : goal.returns-clause-none
returns-clause-none c = IfOk-weaker c.whole_payload.result _ _ (λ o given. is_none c.args.bytes.now o given) c.whole_payload.ensures
