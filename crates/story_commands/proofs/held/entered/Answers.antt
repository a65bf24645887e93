use Rattle.std.proofs.Common.{◌≡◌, ◌∙◌, ℕ, ◌+◌, Bool, true, false, List, [], ◌∷◌, ◌++◌, length, drop, map, ap, sym, subst, arith}
use Rattle.std.proofs.lemmas.List.{length-map, map-append}
use Rattle.desk_disk.specs.Stored.{lists_of}
use Rattle.story_commands.specs.Held.{takes}
use Rattle.story_commands.proofs.Entered.{Enters, enters_takes, enters_passes, enters_end, left_is, none_left}
use Rattle.story_commands.proofs.held.entered.Goals.{then-takes+in_ok-push, else-takes}
use Rattle.story_commands.proofs.held.entered.Goals as goal

pub loop-record-preserved : goal.loop-record-preserved
loop-record-preserved c =
    let all = lists_of c.args.records.now in
    let held : List (List ℕ) = map (λ p. p.now) c.loop-record.held.items in
    let r = c.record-item.result in
    let left = lists_of (drop (c.loop-record.record-index + 1) c.args.records.now) in
    let parts : Enters held (r.items ∷ left) all = subst (λ (ps : List (List ℕ)). Enters held ps all) (left_is c.args.records.now c.loop-record.record-index r c.loop-record-test.true c.record-item.is) c.loop-record.invariant in
    let size : c.len.result ≡ length held = omega (arith, c.len.ensures, c.loop-record.held.ok.0, length-map c.loop-record.held.items (λ p. p.now)) in
    let asks : c.takes.result ≡ takes (length held) r.items = c.takes.ensures ∙ ap (λ (n : ℕ). takes n c.as_slice-payload.result.now) size ∙ ap (takes (length held)) c.as_slice-payload.ensures.value in
    elim c.if-takes.branch [
      | then-takes+in_ok-push w ↦
          let grown : map (λ p. p.now) c.if-takes.held.items ≡ held ++ r.items ∷ [] =
          ap (λ v. map (λ p. p.now) v.items) w.held-is ∙ ap (map (λ p. p.now)) w.in_ok-push.ensures.items ∙ map-append (λ p. p.now) c.loop-record.held.items (c.as_slice-payload.result ∷ [])
          ∙ ap (λ (p : List ℕ). held ++ p ∷ []) c.as_slice-payload.ensures.value in
          subst (λ (ps : List (List ℕ)). Enters ps left all) (sym grown) (enters_takes held r.items left all (sym asks ∙ w.if-takes.true) parts)
      | else-takes w ↦ subst (λ v. Enters (map (λ p. p.now) v.items) left all) (sym w.held-is) (enters_passes held r.items left all (sym asks ∙ w.if-takes.false) parts)
    ]

pub returns : goal.returns
returns c =
    let all = lists_of c.args.records.now in
    let held : List (List ℕ) = map (λ p. p.now) c.loop-record.held.items in
    enters_end held all (subst (λ (ps : List (List ℕ)). Enters held ps all) (none_left c.args.records.now c.loop-record.record-index c.loop-record-test.false) c.loop-record.invariant)
