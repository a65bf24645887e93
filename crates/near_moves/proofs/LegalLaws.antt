-- Descents and recoveries are legal.
use Rattle.std.proofs.Common.{◌≡◌, ℕ, zero, suc, ◌+◌, ◌<◌, ◌≤◌, List, [], ◌∷◌, ◌++◌, length, refl, sym, subst, arith, length-append}
use Rattle.std.specs.Prelude.{Option, None, Some, All}
use Rattle.std.specs.List.{AllByRecursion}
use Rattle.std.proofs.lemmas.Bool.{lt-ltb}
use Rattle.std.proofs.lemmas.List.{take_all}
use Rattle.std.proofs.lemmas.List.Elements.{recursion_from_All, All-append}
use Rattle.std.proofs.lemmas.List.Concat.{flat_map-append}
use Rattle.day_orders.specs.declared.orders.Batch.{Batch}
use Rattle.plan_moves.specs.declared.moves.Move.{Move}
use Rattle.plan_moves.specs.Fits.{Fits}
use Rattle.desk_data.specs.Situation.{Situation}
use Rattle.desk_data.specs.PlanRows.{PlanRows}
use Rattle.desk_data.specs.Valid.{IsBatch, IsValid, IsPlanFor}
use Rattle.desk_model.specs.declared.answer.Event.TheVariants as event
use Rattle.desk_model.specs.declared.answer.Entry.{Entry}
use Rattle.desk_model.specs.States.{opening}
use Rattle.desk_model.specs.Histories.{state, proposal_limit, batch_limit, Stands, IsLegal, entry_of}
use Rattle.desk_model.specs.Batches.{HasPlanRows}
use Rattle.desk_model.proofs.HistoryLaws.{legal-append, legal-nil}
use Rattle.desk_model.proofs.StatePlans.{plans_of_history, askable_along}
use Rattle.near_moves.specs.PassengerMoves.{rebooked_units}
use Rattle.near_moves.specs.Near.{leg_units, units, unit_moves, moves_of, near}
use Rattle.near_moves.specs.Descent.{is_better, next_proposal, with_proposal, descent_of, descent, recovery_after, recovery}
use Rattle.near_moves.proofs.RebookingLaws.{rebookings-fit}
use Rattle.near_moves.proofs.UnitLaws.{moves_of_legs-fit}
use Rattle.near_moves.proofs.DescentLaws.{IsNext, next-some, find-holds, unspent-room, step_entry, descent-length}

-- the moves near a plan fit: those of legs, and after them those of passengers
pub near-fit : (I : Situation) (P : PlanRows) → IsValid I → IsPlanFor I P → All (Fits I) (near I P)
unfolding near units
near-fit I P valid plan =
    let front = moves_of I P (leg_units I P) in
    let back = moves_of I P (rebooked_units I P) in
    let parts : moves_of I P (leg_units I P ++ rebooked_units I P) ≡ front ++ back = flat_map-append (unit_moves I P) (leg_units I P) (rebooked_units I P) in
    subst (All (Fits I)) (sym parts) (All-append (Fits I) front back (moves_of_legs-fit I P plan) (rebookings-fit I P valid plan))

-- what comes after a legal history is a plan for its instance
rows_after : (I : Situation) (h : List Entry) → IsValid I → IsLegal (opening I) h → HasPlanRows (state (opening I) h)
rows_after I h valid legal =
    subst (λ (t : List Entry). HasPlanRows (state (opening I) t)) (take_all (length h) h (omega arith)) (plans_of_history I h valid legal (length h))

step_fits : (most : ℕ) (I : Situation) (h : List Entry) (m : Move) → IsValid I → IsLegal (opening I) h → IsNext most (opening I) h m → Fits (state (opening I) h).inst m
step_fits most I h m valid legal next =
    let T = state (opening I) h in
    let there = rows_after I h valid legal in
    let all = recursion_from_All (Fits T.inst) (near T.inst T.plan) (near-fit T.inst T.plan there.inst there.plan) in
    find-holds (Fits T.inst) (is_better T.inst T.plan) (near T.inst T.plan) m all next.first

step_legal : (most : ℕ) (I : Situation) (h : List Entry) (o : Option Move) → next_proposal most (opening I) h ≡ o → IsValid I → IsLegal (opening I) h → IsLegal (opening I) (with_proposal (opening I) h o)
step_legal most I h None is valid legal = legal
step_legal most I h (Some m) is valid legal =
    let next = next-some most (opening I) h m is in
    let entry = step_entry (opening I) h m in
    let stands : Stands (opening I) h entry = record {
      room = lt-ltb (length h) proposal_limit (unspent-room most h next.unspent);
      asked = step_fits most I h m valid legal next;
      answered = refl;
    } in
    legal-append (opening I) h entry legal stands

descent_legal : (n most : ℕ) (I : Situation) (h : List Entry) → IsValid I → IsLegal (opening I) h → IsLegal (opening I) (descent_of n most (opening I) h)
unfolding descent_of
descent_legal zero most I h valid legal = legal
descent_legal (suc n) most I h valid legal =
    descent_legal n most I (with_proposal (opening I) h (next_proposal most (opening I) h)) valid
    (step_legal most I h (next_proposal most (opening I) h) refl valid legal)

pub descent-legal : (most : ℕ) (I : Situation) (h : List Entry) → IsValid I → IsLegal (opening I) h → IsLegal (opening I) (descent most (opening I) h)
descent-legal most I h valid legal = descent_legal most most I h valid legal

batch_legal : (I : Situation) (h : List Entry) (B : Batch) → length h < batch_limit → IsBatch I.parts B → IsLegal (opening I) h → IsLegal (opening I) (h ++ entry_of (state (opening I) h) 0 (event.Batch B) ∷ [])
batch_legal I h B few batch legal =
    let entry = entry_of (state (opening I) h) 0 (event.Batch B) in
    let stands : Stands (opening I) h entry = record {
      room = lt-ltb (length h) batch_limit few;
      asked = (askable_along I h (event.Batch B)).1 batch;
      answered = refl;
    } in
    legal-append (opening I) h entry legal stands

recovery_legal : (most b : ℕ) (I : Situation) (h : List Entry) (batches : List Batch) → IsValid I → AllByRecursion (IsBatch I.parts) batches → IsLegal (opening I) h → length h ≤ b → proposal_limit ≤ b → b + length batches ≤ batch_limit → IsLegal (opening I) (recovery_after most (opening I) h batches)
unfolding recovery_after
recovery_legal most b I h [] valid taken legal le limit room = legal
recovery_legal most b I h (B ∷ batches) valid taken legal le limit room =
    let g = h ++ entry_of (state (opening I) h) 0 (event.Batch B) ∷ [] in
    let one = length-append h (entry_of (state (opening I) h) 0 (event.Batch B) ∷ []) in
    let more = batch_legal I h B (omega (arith, le, room)) taken.0 legal in
    let long = descent-length most most (b + 1) (opening I) g (omega (arith, one, le)) (omega (arith, limit)) in
    recovery_legal most (b + 1) I (descent most (opening I) g) batches valid taken.1 (descent-legal most I g valid more) long (omega (arith, limit)) (omega (arith, room))

pub recovery-legal : (most : ℕ) (I : Situation) (batches : List Batch) → IsValid I → All (IsBatch I.parts) batches → length batches ≤ 100000 → IsLegal (opening I) (recovery most (opening I) batches)
recovery-legal most I batches valid taken few =
    recovery_legal most 900000 I [] batches valid (recursion_from_All (IsBatch I.parts) batches taken) (legal-nil (opening I)) (omega arith) (omega arith) (omega arith)
