use Rattle.std.proofs.Common.{◌≡◌, ℕ, ◌+◌, [], ◌∷◌, List, take, length, ap, ◌∙◌, arith}
use Rattle.std.proofs.lemmas.List.{length-take-le, length-append}
use Rattle.std.proofs.lemmas.List.Elements.{All-push}
use Rattle.crew_rules.specs.Valid.{IsCrew}
use Rattle.file_joins.specs.CrewJoin.{has_name, crews_after}
use Rattle.file_joins.proofs.CrewLemmas.{goes_on, stops, ends, seen_more, again_is}
use Rattle.file_joins.proofs.join.crews_of.Goals as goal

pub returns-in-Err-clause-exact : goal.returns-in-Err-clause-exact
returns-in-Err-clause-exact c =
    let I = c.args.names.now in
    let rows = c.args.rows.now in
    let here = c.loop-row in
    let k = here.row-index in
    let row = c.row-item.result in
    let len : length (take k rows) ≡ k = length-take-le k rows (let lt = c.loop-row-test.true in omega (arith, lt)) in
    let again = again_is c.in_ok-is_new.is_new _ (has_name row.name (take k rows)) c.in_ok-is_new.ensures.added (here.invariant.names c.as_slice.result ∙ ap (λ (name : List ℕ). has_name name (take k rows)) c.as_slice.ensures.bytes) in
    let gives = c.in-Err.ensures.exact (take k rows) (let count = here.invariant.count in let size = c.len.ensures in grind (arith, len, count, size)) again in
    stops I rows here.crews.items k row c.in-Err.fault c.at.result (crews_after I [] rows) c.loop-row-test.true c.row-item.is c.at.ensures gives here.invariant.joined

pub loop-row-preserved : goal.loop-row-preserved
loop-row-preserved c =
    let I = c.args.names.now in
    let rows = c.args.rows.now in
    let here = c.loop-row in
    let k = here.row-index in
    let row = c.row-item.result in
    let before = here.crews.items in
    let crew = c.in-Ok.crew in
    let len : length (take k rows) ≡ k = length-take-le k rows (let lt = c.loop-row-test.true in omega (arith, lt)) in
    let again = again_is c.in_ok-is_new.is_new _ (has_name row.name (take k rows)) c.in_ok-is_new.ensures.added (here.invariant.names c.as_slice.result ∙ ap (λ (name : List ℕ). has_name name (take k rows)) c.as_slice.ensures.bytes) in
    let gives = c.in-Ok.ensures.exact (take k rows) (let count = here.invariant.count in let size = c.len.ensures in grind (arith, len, count, size)) again in
    let more : length c.push.new.self.items ≡ length before + 1 = ap length c.in_ok-push-in-Ok.ensures.items ∙ length-append before (crew ∷ []) in
    let fits = c.in-Ok.ensures.few in
    record {
      joined = rw c.in_ok-push-in-Ok.ensures.items (goes_on I rows before k row crew (crews_after I [] rows) c.loop-row-test.true c.row-item.is gives here.invariant.joined);
      count = let same = here.invariant.count in omega (arith, more, same);
      few = let size = c.len.ensures in grind (arith, more, fits, size);
      each = rw c.in_ok-push-in-Ok.ensures.items (All-push (IsCrew I.parts) before crew here.invariant.each c.in-Ok.ensures.facts);
      names = λ q. rw (c.in_ok-is_new.ensures.updates.0 q, c.as_slice.ensures.bytes, here.invariant.names q) (seen_more q.now rows k row c.loop-row-test.true c.row-item.is);
    }

pub returns-clause-exact : goal.returns-clause-exact
returns-clause-exact c =
    let I = c.args.names.now in
    let rows = c.args.rows.now in
    let here = c.loop-row in
    ends I rows here.crews.items here.row-index (crews_after I [] rows) c.loop-row-test.false here.invariant.joined
