-- Batches that the desk takes while others add entries.
use Rattle.std.proofs.Common.{◌≡◌, ℕ, ◌+◌, ◌<◌, ◌≤◌, Bool, true, false, List, [], ◌∷◌, ◌++◌, length, take, get_or, slice_get, refl, sym, ap, ◌∙◌, subst, arith, ⊎_elim, true≢false}
use Rattle.std.specs.Prelude.{Some, not, Result, Ok, Err}
use Rattle.std.specs.Result.{is_err}
use Rattle.std.proofs.lemmas.Bool.Decides.{nat_tests}
use Rattle.std.proofs.lemmas.List.{append-nil, append_assoc, take_more}
use mathlib.Core.List.{IsPrefix}
use Rattle.turn_book.specs.Places.{has}
use Rattle.turn_book.specs.Passes.{Called, Looked}
use Rattle.turn_book.proofs.Bools.{refute}
use Rattle.turn_book.proofs.Places.{has_snoc}
use Rattle.turn_book.proofs.Prefixes.{prefix_trans}
use Rattle.day_orders.specs.declared.orders.Batch.{Batch}
use Rattle.desk_data.specs.Situation.{Situation}
use Rattle.desk_model.specs.declared.answer.Answer.{Answer}
use Rattle.desk_model.specs.declared.answer.Event.TheVariants as event
use Rattle.desk_model.specs.declared.answer.Entry.{Entry}
use Rattle.desk_model.specs.States.{opening}
use Rattle.desk_model.specs.Histories.{state, entry_of, is_batch, has_room, batch_limit}
use Rattle.near_moves.specs.Descents.{batch_in, batches_in}
use Rattle.desk_core.specs.Turned.{GetsAnswer, Replies, is_full, tells_entry}
use Rattle.desk_core.proofs.TurnedLaws.{reported_of}
use Rattle.desk_teams.proofs.TrailLaws.{get-left, get-last, get-below}
use Rattle.desk_pool.specs.Rounds.{Knows}
use Rattle.recovery_commands.specs.Taking.{TakesNone, TakesOne, TakesBy, HasTaken, OnlyAt, AreDeskBatches, TakesFirst}
use Rattle.recovery_commands.specs.declared.batches.Intake.{Intake}
use Rattle.recovery_commands.specs.declared.batches.Intake.TheVariants.{Taken, Full}
use Rattle.recovery_commands.proofs.Running.{desk_longer, batches-append, no_batches, get-right}

-- ---- the answer to a batch

full_room : (n : ℕ) (B : Batch) (full : Bool) → full ≡ not (has_room n (event.Batch B)) → full ≡ true → has_room n (event.Batch B) ≡ false
full_room n B full is yes_full = by_room (has_room n (event.Batch B)) (sym is ∙ yes_full)
  where
    by_room : (room : Bool) → not room ≡ true → room ≡ false
    by_room true e = absurd (true≢false (sym e))
    by_room false e = refl

taken_room : (n : ℕ) (B : Batch) (full : Bool) → full ≡ not (has_room n (event.Batch B)) → full ≡ false → has_room n (event.Batch B) ≡ true
taken_room n B full is not_full = by_room (has_room n (event.Batch B)) (sym is ∙ not_full)
  where
    by_room : (room : Bool) → not room ≡ false → room ≡ true
    by_room true e = refl
    by_room false e = absurd (true≢false e)

no_room : (n : ℕ) (B : Batch) → has_room n (event.Batch B) ≡ false → batch_limit ≤ n
no_room n B e = grind (arith, nat_tests)

pub reply_full : (I : Situation) (v w : Knows) (B C : Batch) (reply : Answer) → C ≡ B → Called Replies tells_entry I v 0 (event.Batch C) reply w → is_full reply ≡ true → TakesBy I B v w Full
reply_full I v w B C reply same called full =
    let call = subst (λ (D : Batch). Called Replies tells_entry I v 0 (event.Batch D) reply w) same called in
    let told : GetsAnswer I v 0 (event.Batch B) reply w = reported_of I v 0 (event.Batch B) reply w call in
    let room = full_room (length told.history) B (is_full reply) told.tells full in
    let came = told.none room in
    let long = no_room (length told.history) B room in
    let seen_is = ap length came.1 in
    (record { began = subst (IsPrefix v.seen) (sym came.1) told.began; made = came.2 }, omega (arith, long, seen_is))

pub reply_taken : (I : Situation) (v w : Knows) (B C : Batch) (reply : Answer) → C ≡ B → Called Replies tells_entry I v 0 (event.Batch C) reply w → is_full reply ≡ false → TakesBy I B v w Taken
reply_taken I v w B C reply same called taken =
    let call = subst (λ (D : Batch). Called Replies tells_entry I v 0 (event.Batch D) reply w) same called in
    let told : GetsAnswer I v 0 (event.Batch B) reply w = reported_of I v 0 (event.Batch B) reply w call in
    let came = told.room (taken_room (length told.history) B (is_full reply) told.tells taken) in
    record { before = told.history; began = told.began; seen = came.1; made = came.2 }

pub has_full : {E : Type 0} (I : Situation) (B : Batch) (v w : Knows) → TakesBy I B v w Full → HasTaken {E = E} I B v w (let r : Result Intake E = Ok Full in r)
has_full I B v w h = record { none = tt; reported = h }

pub has_taken : {E : Type 0} (I : Situation) (B : Batch) (v w : Knows) → TakesBy I B v w Taken → HasTaken {E = E} I B v w (let r : Result Intake E = Ok Taken in r)
has_taken I B v w h = record { none = tt; reported = h }

pub has_none : {E : Type 0} (I : Situation) (B : Batch) (v w : Knows) (r : Result Intake E) → is_err r ≡ true → TakesNone v w → HasTaken I B v w r
has_none I B v w (Ok b) err h = absurd (true≢false (sym err))
has_none I B v w (Err e) err h = record { none = h; reported = tt }

pub looked_none : (v w : Knows) → Looked v w → TakesNone v w
looked_none v w h = record { began = h.began; made = h.made }

-- ---- a history goes on

only_before : (h g : List Entry) (desk : List ℕ) → IsPrefix h g → OnlyAt desk g → OnlyAt desk h
only_before h g desk p only k entry at batch = only k entry (ap (λ (l : List Entry). slice_get l k) (sym p.1) ∙ get-left h p.0 k entry at) batch

pub desk_goes_on : (h g : List Entry) (desk : List ℕ) (done : List Batch) → IsPrefix h g → AreDeskBatches h desk done → AreDeskBatches g desk done
desk_goes_on h g desk done p are = record {
  entries = λ k is. desk_longer h g k p (are.entries k is);
  taken = λ only.
      ap batches_in (sym p.1) ∙ batches-append h p.0
      ∙ ap (λ (l : List Batch). batches_in h ++ l) (no_batches p.0 (λ k other at. refute (is_batch other.event) (λ batch.
      let there : slice_get g (length h + k) ≡ Some other = ap (λ (l : List Entry). slice_get l (length h + k)) (sym p.1) ∙ get-right h p.0 k other at in
      let d = are.entries (length h + k) (only (length h + k) other there batch) in
      let low = get-below h (length h + k) d.entry d.there in
      omega (arith, low))))
      ∙ append-nil (batches_in h) ∙ are.taken (only_before h g desk p only);
}

desk_snoc : (h : List Entry) (entry : Entry) (B : Batch) (desk : List ℕ) (done : List Batch) → entry.event ≡ event.Batch B → entry.caller ≡ 0 → AreDeskBatches h desk done → AreDeskBatches (h ++ entry ∷ []) (desk ++ length h ∷ []) (done ++ B ∷ [])
desk_snoc h entry B desk done batch caller are = record {
  entries = λ k is. ⊎_elim
      (λ (old : has k desk ≡ true). desk_longer h (h ++ entry ∷ []) k (entry ∷ [], refl) (are.entries k old))
      (λ (last : k ≡ length h). record { entry = entry; there = ap (slice_get (h ++ entry ∷ [])) last ∙ get-last h entry; batch = ap is_batch batch; caller = caller })
      (has_snoc k desk (length h) is);
  taken = λ only.
      batches-append h (entry ∷ [])
      ∙ ap (λ (l : List Batch). batches_in h ++ l) (append-nil (batch_in entry.event) ∙ ap batch_in batch)
      ∙ ap (λ (l : List Batch). l ++ B ∷ []) (are.taken (λ k other at is. ⊎_elim
      (λ (old : has k desk ≡ true). old)
      (λ (last : k ≡ length h). absurd (let low = get-below h k other at in omega (arith, low, last)))
      (has_snoc k desk (length h) (only k other (get-left h (entry ∷ []) k other at) is))));
}

pub desk_more : (I : Situation) (B : Batch) (v w : Knows) (desk : List ℕ) (done : List Batch) → (one : TakesOne I B v w) → AreDeskBatches v.seen desk done → AreDeskBatches w.seen (desk ++ length one.before ∷ []) (done ++ B ∷ [])
desk_more I B v w desk done one are =
    subst (λ (h : List Entry). AreDeskBatches h (desk ++ length one.before ∷ []) (done ++ B ∷ [])) (sym one.seen)
    (desk_snoc one.before (entry_of (state (opening I) one.before) 0 (event.Batch B)) B desk done refl refl (desk_goes_on v.seen one.before desk done one.began are))

-- ---- batches one after another

pub takes_none : (batches : List Batch) (v : Knows) → TakesFirst 0 batches v v
takes_none batches v = record {
  places = [];
  made = sym (append-nil v.made);
  goes_on = λ desk done are. subst (λ (d : List ℕ). AreDeskBatches v.seen d (done ++ [])) (sym (append-nil desk)) (subst (AreDeskBatches v.seen desk) (sym (append-nil done)) are);
}

pub takes_more : (I : Situation) (batches : List Batch) (i : ℕ) (B : Batch) (v u w : Knows) → i < length batches → B ≡ get_or batches i B → TakesFirst i batches v u → TakesOne I B u w → TakesFirst (i + 1) batches v w
takes_more I batches i B v u w lt is first one =
    let place : List ℕ = length one.before ∷ [] in
    let next : take (i + 1) batches ≡ take i batches ++ B ∷ [] = take_more batches i B lt ∙ ap (λ (x : Batch). take i batches ++ x ∷ []) (sym is) in
    record {
      places = first.places ++ place;
      made = one.made ∙ ap (λ (m : List ℕ). m ++ place) first.made ∙ append_assoc v.made first.places place;
      goes_on = λ desk done are.
          let more : AreDeskBatches w.seen ((desk ++ first.places) ++ place) ((done ++ take i batches) ++ B ∷ []) = desk_more I B u w (desk ++ first.places) (done ++ take i batches) one (first.goes_on desk done are) in
          subst (λ (d : List ℕ). AreDeskBatches w.seen d (done ++ take (i + 1) batches)) (append_assoc desk first.places place)
          (subst (AreDeskBatches w.seen ((desk ++ first.places) ++ place)) (append_assoc done (take i batches) (B ∷ []) ∙ ap (λ (l : List Batch). done ++ l) (sym next)) more);
    }

pub takes_on : (n : ℕ) (batches : List Batch) (v u w : Knows) → TakesFirst n batches v u → TakesNone u w → TakesFirst n batches v w
takes_on n batches v u w first none_more = record {
  places = first.places;
  made = none_more.made ∙ first.made;
  goes_on = λ desk done are. desk_goes_on u.seen w.seen (desk ++ first.places) (done ++ take n batches) none_more.began (first.goes_on desk done are);
}

-- what became of a batch, by its name
pub by_full : (I : Situation) (B : Batch) (v w : Knows) (b : Intake) → b ≡ Full → TakesBy I B v w b → TakesBy I B v w Full
by_full I B v w b is h = subst (TakesBy I B v w) is h

pub by_taken : (I : Situation) (B : Batch) (v w : Knows) (b : Intake) → b ≡ Taken → TakesBy I B v w b → TakesBy I B v w Taken
by_taken I B v w b is h = subst (TakesBy I B v w) is h

-- a batch that is taken after a look
pub taken_later : {E : Type 0} (I : Situation) (B : Batch) (v u w : Knows) (r : Result Intake E) → Looked v u → HasTaken I B u w r → HasTaken I B v w r
taken_later I B v u w (Ok Taken) look h = record {
  none = tt;
  reported = (let one = h.reported in record { before = one.before; began = prefix_trans v.seen u.seen one.before look.began one.began; seen = one.seen; made = one.made ∙ ap (λ (m : List ℕ). m ++ length one.before ∷ []) look.made });
}
taken_later I B v u w (Ok Full) look h = record {
  none = tt;
  reported = (record { began = prefix_trans v.seen u.seen w.seen look.began h.reported.0.began; made = h.reported.0.made ∙ look.made }, h.reported.1);
}
taken_later I B v u w (Err e) look h = record {
  none = record { began = prefix_trans v.seen u.seen w.seen look.began h.none.began; made = h.none.made ∙ look.made };
  reported = tt;
}
