use Rattle.std.proofs.Common.{◌≡◌, ◌∙◌, inl, ap, subst, [], ◌∷◌, ◌++◌, List, ℕ, arith}
use Rattle.std.proofs.lemmas.Bool.{MatchBool-at_true}
use Rattle.desk_disk.specs.Records.{records}
use Rattle.desk_disk.proofs.Spelled.{length-records-push, short-push}
use Rattle.desk_disk.proofs.Walked.{accepted-push, walks, shut_front}
use Rattle.desk_disk.proofs.walk.read_records.Goals as goal

pub records-preserved : goal.records-preserved
records-preserved g c =
    let inv = c.records.invariant in
    let before = g.R.PayloadReader.taken c.records.reader in
    let taken = g.R.PayloadReader.taken c.take.new.self in
    let payload = c.in-Some-first_payload.payload.now in
    let behind = c.in-Some-first_payload.behind.now in
    let accepts = g.R.PayloadReader.accepts (g.R.PayloadReader.rules c.records.reader) in
    let took = MatchBool-at_true (accepts before payload × (taken ≡ before ++ payload ∷ [])) ((accepts before payload → ⊥) × (taken ≡ before)) c.if-not-branch.false c.in_ok-take.ensures.takes in
    let so_far = inv.parts ∙ ap (λ (l : List ℕ). records before ++ l) c.in-Some.ensures.some in
    let kept = accepted-push (g.R.PayloadReader.accepts (g.R.PayloadReader.rules c.args.reader.now)) [] before payload inv.accepted (subst (λ (r : _). g.R.PayloadReader.accepts r before payload) inv.same took.0) in
    record {
      parts = rw took.1 (walks before payload c.args.bytes.now c.in-Some.after.now behind so_far c.in-Some-first_payload.ensures.parts);
      place_is = rw took.1 (omega (arith, inv.place_is, length-records-push before payload));
      some = c.in-Some-first_payload.ensures.behind;
      short = rw took.1 (short-push before payload inv.short c.in-Some-first_payload.ensures.short);
      accepted = rw took.1 kept;
      same = c.in_ok-take.ensures.rules ∙ inv.same;
    }

pub returns-clause-opened : goal.returns-clause-opened
returns-clause-opened g c =
    let inv = c.records.invariant in
    inl (shut_front (g.R.PayloadReader.taken c.records.reader) c.records.place c.args.bytes.now c.records.rest.now inv.parts inv.some c.in_default.ensures.none inv.place_is inv.short)
