-- How long a legal history can be.
use Rattle.std.proofs.Common.{◌≡◌, ℕ, zero, suc, ◌+◌, ◌<◌, ◌≤◌, true, List, [], ◌∷◌, ◌++◌, length, take, sym, ap, ◌∙◌, subst, arith, length-append}
use Rattle.std.proofs.lemmas.Bool.Decides.{nat_tests}
use Rattle.std.proofs.lemmas.List.{take_all, append-nil, length-take-le}
use Rattle.std.proofs.lemmas.List.Concat.{flat_map-append}
use Rattle.day_orders.specs.declared.orders.Batch.{Batch}
use Rattle.desk_model.specs.declared.answer.Event.{Event}
use Rattle.desk_model.specs.declared.answer.Event.TheVariants as event
use Rattle.desk_model.specs.declared.answer.Entry.{Entry}
use Rattle.desk_model.specs.States.{State}
use Rattle.desk_model.specs.Histories.{has_room, proposal_limit, IsLegal}
use Rattle.desk_model.proofs.HistoryLaws.{take-next, entry_at}
use Rattle.near_moves.specs.Descents.{batch_in, batches_in}

-- the batches of a history with one entry more
batches-more : (h : List Entry) (entry : Entry) → batches_in (h ++ entry ∷ []) ≡ batches_in h ++ batch_in entry.event
batches-more h entry =
    flat_map-append (λ (e : Entry). batch_in e.event) h (entry ∷ [])
    ∙ ap (λ (l : List Batch). batches_in h ++ l) (append-nil (batch_in entry.event))

-- one entry more: a proposal has fewer than 900,000 entries before it, and a batch counts
few-more : (n b : ℕ) (e : Event) → has_room n e ≡ true → n ≤ proposal_limit + b → n + 1 ≤ proposal_limit + (b + length (batch_in e))
few-more n b (event.Batch B) room le = omega (arith, le)
few-more n b (event.Move m) room le = grind (arith, nat_tests)

few-first : (S : State) (h : List Entry) → IsLegal S h → (n : ℕ) → n ≤ length h → n ≤ proposal_limit + length (batches_in (take n h))
few-first S h legal zero within = omega arith
few-first S h legal (suc n) within =
    let at = entry_at h n (omega (arith, within)) in
    let before = few-first S h legal n (omega (arith, within)) in
    let low : n ≤ length h = omega (arith, within) in
    let room : has_room n at.0.event ≡ true = ap (λ (k : ℕ). has_room k at.0.event) (sym (length-take-le n h low)) ∙ (legal n at.0 at.1).room in
    let more : batches_in (take (n + 1) h) ≡ batches_in (take n h) ++ batch_in at.0.event = ap batches_in (take-next h n at.0 at.1) ∙ batches-more (take n h) at.0 in
    let long : length (batches_in (take (n + 1) h)) ≡ length (batches_in (take n h)) + length (batch_in at.0.event) = ap length more ∙ length-append (batches_in (take n h)) (batch_in at.0.event) in
    let e : n + 1 ≡ suc n = omega arith in
    let next = few-more n (length (batches_in (take n h))) at.0.event room before in
    subst (λ (k : ℕ). k ≤ proposal_limit + length (batches_in (take k h))) e (omega (arith, next, long))

pub few-entries : (S : State) (h : List Entry) → IsLegal S h → length h ≤ proposal_limit + length (batches_in h)
few-entries S h legal = subst (λ (g : List Entry). length h ≤ proposal_limit + length (batches_in g)) (take_all (length h) h (omega arith)) (few-first S h legal (length h) (omega arith))

pub batch-room : (S : State) (h : List Entry) (B : Batch) → IsLegal S h → length (batches_in h) < 100000 → has_room (length h) (event.Batch B) ≡ true
batch-room S h B legal few = (let long = few-entries S h legal in grind (arith, nat_tests))
