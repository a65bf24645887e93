use Rattle.std.proofs.Common.{◌≡◌, ◌∙◌, ap, subst, List, ℕ, [], ◌∷◌, ◌++◌}
use Rattle.std.proofs.lemmas.Result.{IfOk-weaker}
use Rattle.desk_disk.specs.Files.{IsAtRest, added_at}
use Rattle.desk_disk.proofs.Opened.{nothing_on}
use Rattle.desk_journal.specs.Payloads.{payload_by}
use Rattle.desk_journal.proofs.add.append.Goals as goal

pub returns-in_default-clause-any_moment : goal.returns-in_default-clause-any_moment
returns-in_default-clause-any_moment g c = λ was is ps rest. nothing_on was (g.D.Disk.shown c.args.disk.now) ps (payload_by c.args.number c.args.entry.now.caller c.args.entry.now.event) c.args.tail is rest

pub returns-then-len-clause-any_moment : goal.returns-then-len-clause-any_moment
returns-then-len-clause-any_moment g c = λ was is ps rest. nothing_on was (g.D.Disk.shown c.args.disk.now) ps (payload_by c.args.number c.args.entry.now.caller c.args.entry.now.event) c.args.tail is rest

pub returns-clause-acknowledged : goal.returns-clause-acknowledged
returns-clause-acknowledged g c =
    let same : c.as_slice.result.now ≡ payload_by c.args.number c.args.entry.now.caller c.args.entry.now.event = c.as_slice.ensures.value ∙ c.in-Ok.ensures in
    IfOk-weaker c.append.result _ _ (λ next done was is ps rest.
    let to = done was is ps rest in
    (to.0, to.1, subst (λ (p : List ℕ). IsAtRest (ps ++ p ∷ []) next to.0.file) same to.2, to.3 ∙ ap (λ (p : List ℕ). added_at c.args.tail p was.file.bytes) same)) c.append.ensures.acknowledged
