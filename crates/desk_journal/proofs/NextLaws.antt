-- What may come next in a journal, by what a payload spells.
use Rattle.std.proofs.Common.{◌≡◌, ℕ, ◌+◌, ◌<◌, ◌^◌, List, [], ◌∷◌, ◌++◌, get_or, refl, sym, ap, subst, ◌∙◌, arith}
use Rattle.std.specs.Prelude.{Option, Some, None, IfSome, cond}
use Rattle.std.proofs.lemmas.Option.{slice_get_within, slice_get-get_or}
use Rattle.std.proofs.lemmas.List.Sums.{sum_by-append}
use Rattle.std.proofs.lemmas.List.{map-append}
use Rattle.std.specs.declared.alloc.Global.{Global}
use Rattle.std.specs.declared.vec.Vec.{Vec}
use Rattle.day_orders.specs.declared.orders.Batch.{Batch}
use Rattle.desk_data.specs.Situation.{Situation}
use Rattle.desk_data.specs.Valid.{AreWithinLimits}
use Rattle.desk_model.specs.declared.answer.Event.{Event}
use Rattle.desk_model.specs.declared.answer.Event.TheVariants as event
use Rattle.desk_disk.specs.Stored.{lists_of}
use Rattle.desk_journal.specs.declared.payload.StoredEvent.{StoredEvent}
use Rattle.desk_journal.specs.declared.payload.StoredEvent.TheVariants as stored
use Rattle.desk_journal.specs.Spelling.{HasSpelling, payload}
use Rattle.desk_journal.specs.Reading.{spelled_by}
use Rattle.desk_journal.proofs.Readers.{some_is}
use Rattle.desk_journal.proofs.Moves.{spelled_again}
use Rattle.desk_journal.specs.Payloads.{ComesNext, MayBeNext, MayCome, MayStand, batches_in, spells_batch, stored_by}
use Rattle.desk_journal.proofs.FitLaws.{steps_spelled}

pub at_some : {X : Type 0} (o : Option X) (x : X) (P : X → Type 0) → o ≡ Some x → IfSome o P → P x
at_some o x P is h = subst (λ (q : Option _). IfSome q P) is h

some_batch : Batch
some_batch = record { at = None; orders = [] }

-- what comes next may come
pub comes_may : (I : Situation) (batches : List Batch) (due : ℕ) (s : StoredEvent) → HasSpelling s → ComesNext I batches due s → MayCome I batches due (payload s)
comes_may I batches due (stored.Batch caller number) fits next = record {
  asked = (caller, event.Batch (get_or batches due some_batch));
  caller = fits.0;
  next = (omega (arith, fits.1, next.0), slice_get-get_or batches due some_batch next.1);
  is = ap (λ (n : ℕ). payload (stored.Batch caller n)) next.0;
}
comes_may I batches due (stored.Move caller m) fits next = record { asked = (caller, event.Move m); caller = fits.0; next = next; is = refl }

-- what may come next has a spelling
pub asked_spelled : (I : Situation) (batches : List Batch) (due caller : ℕ) (e : Event) → AreWithinLimits I.parts → caller < 2 ^ 32 → MayBeNext I batches due e → HasSpelling (stored_by due caller e)
asked_spelled I batches due caller (event.Batch B) few fits next = (fits, next.0)
asked_spelled I batches due caller (event.Move m) few fits next = (fits, steps_spelled I m few next)

comes_by : (I : Situation) (batches : List Batch) (due caller : ℕ) (e : Event) → MayBeNext I batches due e → ComesNext I batches due (stored_by due caller e)
comes_by I batches due caller (event.Batch B) next = (refl, slice_get_within batches due B next.1)
comes_by I batches due caller (event.Move m) next = next

-- no two events have one spelling
spelled_one : (s t : StoredEvent) → HasSpelling s → HasSpelling t → payload s ≡ payload t → s ≡ t
spelled_one s t one two is = some_is s t (sym (spelled_again s one) ∙ ap spelled_by is ∙ spelled_again t two)

-- what may come is what comes next
pub may_comes : (I : Situation) (batches : List Batch) (due : ℕ) (s : StoredEvent) (p : List ℕ) → AreWithinLimits I.parts → HasSpelling s → p ≡ payload s → MayCome I batches due p → ComesNext I batches due s
may_comes I batches due s p few fits is m =
    let two = asked_spelled I batches due m.asked.0 m.asked.1 few m.caller m.next in
    let same : s ≡ stored_by due m.asked.0 m.asked.1 = spelled_one s (stored_by due m.asked.0 m.asked.1) fits two (sym is ∙ m.is) in
    subst (ComesNext I batches due) (sym same) (comes_by I batches due m.asked.0 m.asked.1 m.next)

-- what spells nothing may not come
pub unread_never : (I : Situation) (batches : List Batch) (due : ℕ) (p : List ℕ) → AreWithinLimits I.parts → ((s : StoredEvent) → HasSpelling s → p ≡ payload s → ⊥) → MayCome I batches due p → ⊥
unread_never I batches due p few none m = none (stored_by due m.asked.0 m.asked.1) (asked_spelled I batches due m.asked.0 m.asked.1 few m.caller m.next) m.is

-- and one more, where the event is a batch, is still a number
pub one_more : (I : Situation) (batches : List Batch) (due : ℕ) (s : StoredEvent) → due < 2 ^ 64 → HasSpelling s → ComesNext I batches due s → due + batches_in (payload s ∷ []) < 2 ^ 64
one_more I batches due (stored.Batch caller number) small fits next = omega (arith, fits.1, next.0)
one_more I batches due (stored.Move caller m) small fits next = omega (arith, small)

pub batches-push : (ps : List (List ℕ)) (p : List ℕ) → batches_in (ps ++ p ∷ []) ≡ batches_in ps + batches_in (p ∷ [])
batches-push ps p = sum_by-append (λ (q : List ℕ). cond (spells_batch q) 1 0) ps (p ∷ [])

-- ---- of payloads that are kept

pub lists_pushed : (vs : List (Vec ℕ Global)) (v : Vec ℕ Global) → lists_of (vs ++ v ∷ []) ≡ lists_of vs ++ v.items ∷ []
lists_pushed vs v = map-append (λ (q : Vec ℕ Global). q.items) vs (v ∷ [])

pub stands_kept : (I : Situation) (batches : List Batch) (due : ℕ) (vs : List (Vec ℕ Global)) (p : List ℕ) → due ≡ batches_in (lists_of vs) → MayCome I batches due p → MayStand I batches (lists_of vs) p
stands_kept I batches due vs p counted m = subst (λ (k : ℕ). MayCome I batches k p) counted m

pub never_kept : (I : Situation) (batches : List Batch) (due : ℕ) (vs : List (Vec ℕ Global)) (p : List ℕ) → due ≡ batches_in (lists_of vs) → (MayCome I batches due p → ⊥) → MayStand I batches (lists_of vs) p → ⊥
never_kept I batches due vs p counted never m = never (subst (λ (k : ℕ). MayCome I batches k p) (sym counted) m)

-- one payload more is kept
pub counted_kept : (due : ℕ) (vs : List (Vec ℕ Global)) (v : Vec ℕ Global) (p : List ℕ) → due ≡ batches_in (lists_of vs) → v.items ≡ p → due + batches_in (p ∷ []) ≡ batches_in (lists_of (vs ++ v ∷ []))
counted_kept due vs v p counted is =
    let more : batches_in (lists_of (vs ++ v ∷ [])) ≡ batches_in (lists_of vs) + batches_in (v.items ∷ []) = ap batches_in (lists_pushed vs v) ∙ batches-push (lists_of vs) v.items in
    let same : batches_in (v.items ∷ []) ≡ batches_in (p ∷ []) = ap (λ (l : List ℕ). batches_in (l ∷ [])) is in
    omega (arith, counted, more, same)
