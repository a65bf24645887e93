use Rattle.std.proofs.Common.{◌≡◌, true, rules}
use Rattle.near_draft.specs.Drafts.{plan_of}
use Rattle.near_priced.proofs.EndLaws.{hands-alike-one, hands-alike-two}
use Rattle.near_priced.proofs.FlyingLaws.{positions-stay}
use Rattle.near_priced.proofs.balance.end_alike.Goals as goal

pub returns-in-Some : goal.returns-in-Some
returns-in-Some c = λ yes.
    (let I = c.args.inst.now in
    let P = c.args._plan.now in
    let Q = plan_of c.args._draft.now in
    let one : c.ends_alike.result ≡ true = search rules in
    positions-stay I P Q (hands-alike-two I P Q c.args.ends c.in-Some.other c.requires c.in-Some.is (c.ends_alike.ensures one) (c.ends_alike-in-Some.ensures yes)))

pub returns-in-None : goal.returns-in-None
returns-in-None c = λ yes.
    (let I = c.args.inst.now in
    let P = c.args._plan.now in
    let Q = plan_of c.args._draft.now in
    let one : c.ends_alike.result ≡ true = search rules in
    positions-stay I P Q (hands-alike-one I P Q c.args.ends c.requires c.in-None.is (c.ends_alike.ensures one)))
