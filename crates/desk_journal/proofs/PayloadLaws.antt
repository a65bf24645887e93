-- The payloads of events, one after another.
use Rattle.std.proofs.Common.{◌≡◌, ℕ, suc, ◌+◌, List, [], ◌∷◌, ◌++◌, length, refl, sym, ap, ◌∙◌, arith}
use Rattle.std.specs.Prelude.{cond}
use Rattle.std.proofs.lemmas.List.{map-append}
use Rattle.std.proofs.lemmas.List.Sums.{sum_by-cons}
use Rattle.desk_model.specs.declared.answer.Entry.{Entry}
use Rattle.desk_model.specs.declared.answer.Event.{Event}
use Rattle.desk_model.specs.declared.answer.Event.TheVariants as event
use Rattle.desk_model.specs.Histories.{is_batch}
use Rattle.desk_journal.specs.Payloads.{batches_among, batches_in, spells_batch, payload_by, payloads_from, asked_in, history_payloads}

counts : (e : ℕ × Event) (es : List (ℕ × Event)) → batches_among (e ∷ es) ≡ cond (is_batch e.1) 1 0 + batches_among es
counts e es = sum_by-cons (λ (asked : ℕ × Event). cond (is_batch asked.1) 1 0) e es

-- the payloads of one event more
pub payloads-push : (n : ℕ) (es : List (ℕ × Event)) (e : ℕ × Event) → payloads_from n (es ++ e ∷ []) ≡ payloads_from n es ++ payload_by (n + batches_among es) e.0 e.1 ∷ []
payloads-push n [] e =
    let k : n ≡ n + 0 = omega arith in
    ap (λ (k : ℕ). payload_by k e.0 e.1 ∷ []) k
payloads-push n ((c, event.Batch B) ∷ es) e =
    let k : (n + 1) + batches_among es ≡ n + batches_among ((c, event.Batch B) ∷ es) = omega (arith, counts (c, event.Batch B) es) in
    ap (λ (l : List (List ℕ)). payload_by n c (event.Batch B) ∷ l)
    (payloads-push (n + 1) es e ∙ ap (λ (k : ℕ). payloads_from (n + 1) es ++ payload_by k e.0 e.1 ∷ []) k)
payloads-push n ((c, event.Move m) ∷ es) e =
    let k : n + batches_among es ≡ n + batches_among ((c, event.Move m) ∷ es) = omega (arith, counts (c, event.Move m) es) in
    ap (λ (l : List (List ℕ)). payload_by n c (event.Move m) ∷ l)
    (payloads-push n es e ∙ ap (λ (k : ℕ). payloads_from n es ++ payload_by k e.0 e.1 ∷ []) k)

-- how many of them spell a batch, and how many there are
pub batches-spelled : (n : ℕ) (es : List (ℕ × Event)) → batches_in (payloads_from n es) ≡ batches_among es
batches-spelled n [] = refl
batches-spelled n ((c, event.Batch B) ∷ es) =
    sum_by-cons (λ (p : List ℕ). cond (spells_batch p) 1 0) (payload_by n c (event.Batch B)) (payloads_from (n + 1) es)
    ∙ ap (λ (k : ℕ). 1 + k) (batches-spelled (n + 1) es) ∙ sym (counts (c, event.Batch B) es)
batches-spelled n ((c, event.Move m) ∷ es) =
    sum_by-cons (λ (p : List ℕ). cond (spells_batch p) 1 0) (payload_by n c (event.Move m)) (payloads_from n es)
    ∙ ap (λ (k : ℕ). 0 + k) (batches-spelled n es) ∙ sym (counts (c, event.Move m) es)

pub length-payloads : (n : ℕ) (es : List (ℕ × Event)) → length (payloads_from n es) ≡ length es
length-payloads n [] = refl
length-payloads n ((c, event.Batch B) ∷ es) = ap suc (length-payloads (n + 1) es)
length-payloads n ((c, event.Move m) ∷ es) = ap suc (length-payloads n es)

-- a history with one entry more
pub history-push : (h : List Entry) (entry : Entry) → history_payloads (h ++ entry ∷ []) ≡ history_payloads h ++ payload_by (batches_among (asked_in h)) entry.caller entry.event ∷ []
history-push h entry =
    let none : 0 + batches_among (asked_in h) ≡ batches_among (asked_in h) = omega arith in
    ap (payloads_from 0) (map-append (λ (e : Entry). (e.caller, e.event)) h (entry ∷ [])) ∙ payloads-push 0 (asked_in h) (entry.caller, entry.event) ∙ ap (λ (k : ℕ). payloads_from 0 (asked_in h) ++ payload_by k entry.caller entry.event ∷ []) none
