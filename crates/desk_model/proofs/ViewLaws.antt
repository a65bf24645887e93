-- What one entry more makes of the view of a history.
use Rattle.std.proofs.Common.{◌≡◌, ℕ, ◌+◌, ◌<◌, ◌≤◌, true, false, cond, List, [], ◌∷◌, ◌++◌, length, refl, sym, ap, ◌∙◌, subst, arith, length-append, sum_by, ◌⊎◌, inl, inr}
use Rattle.std.specs.Prelude.{Option, Some, None}
use Rattle.std.proofs.lemmas.List.Sums.{count_by-le-length, sum_by-append}
use Rattle.std.proofs.lemmas.Bool.Decides.{nat_tests}
use Rattle.desk_units.specs.declared.money.Grains.{Grains}
use Rattle.day_orders.specs.declared.orders.Batch.{Batch}
use Rattle.desk_data.specs.declared.broken.Broken.{Broken}
use Rattle.plan_moves.specs.declared.moves.Move.{Move}
use Rattle.desk_rules.specs.Cost.{grains}
use Rattle.desk_model.specs.declared.answer.Entry.{Entry}
use Rattle.desk_model.specs.declared.answer.Event.{Event}
use Rattle.desk_model.specs.declared.answer.Event.TheVariants as event
use Rattle.desk_model.specs.declared.answer.Answer.{Answer}
use Rattle.desk_model.specs.declared.answer.Answer.TheVariants.{Taken, Accepted, Breaks, Dearer, NoPlan, Full}
use Rattle.desk_model.specs.declared.fallbacks.Which.{Which}
use Rattle.desk_data.specs.Progress.{with_batch}
use Rattle.desk_data.specs.Situation.{Situation}
use Rattle.desk_model.specs.declared.fallbacks.Fallback.{Fallback}
use Rattle.desk_model.specs.declared.fallbacks.Fallback.TheVariants as fallen
use Rattle.desk_model.specs.States.{State, answer, after, batch_answer, fallen_state, fallback_on}
use Rattle.desk_model.specs.Histories.{state, changes, is_change, is_accepted, has_room}
use Rattle.desk_model.specs.Promises.{cost_of}
use Rattle.desk_model.proofs.HistoryLaws.{state-append}
use Rattle.desk_model.proofs.StateLaws.{batch-priced, batch-published, batch-unplanned, after-accepted, after-unchanged, accepted-cause}
use Rattle.desk_model.specs.declared.view.View.{View}
use Rattle.desk_model.specs.Views.{shown, view_of, Follows}

counted : (h : List Entry) (e : Entry) → is_change e.event e.answer ≡ true → changes (h ++ e ∷ []) ≡ changes h + 1
counted h e is = let more : sum_by (λ (x : Entry). cond (is_change x.event x.answer) 1 0) (e ∷ []) ≡ 1 = rw is refl in
    omega (arith, sum_by-append (λ (x : Entry). cond (is_change x.event x.answer) 1 0) h (e ∷ []), more)

uncounted : (h : List Entry) (e : Entry) → is_change e.event e.answer ≡ false → changes (h ++ e ∷ []) ≡ changes h
uncounted h e is = let more : sum_by (λ (x : Entry). cond (is_change x.event x.answer) 1 0) (e ∷ []) ≡ 0 = rw is refl in
    omega (arith, sum_by-append (λ (x : Entry). cond (is_change x.event x.answer) 1 0) h (e ∷ []), more)

bump : (n m : ℕ) (S : State) (b : Option Broken) (w : View) → w ≡ shown n m S b → record { entries = w.entries + 1; changes = w.changes; cost = w.cost; broken = w.broken } ≡ shown (n + 1) m S b
bump n m S None w is = λ i. record { entries = (is i).entries + 1; changes = (is i).changes; cost = (is i).cost; broken = (is i).broken }
bump n m S (Some item) w is = λ i. record { entries = (is i).entries + 1; changes = (is i).changes; cost = (is i).cost; broken = (is i).broken }

room_few : (n : ℕ) (ev : Event) → has_room n ev ≡ true → n < 1000000
room_few n (event.Batch B) is = grind (arith, nat_tests)
room_few n (event.Move m) is = let lt : n < 900000 = grind (arith, nat_tests) in omega (arith, lt)

batch_kinds : (J : Situation) (F : Fallback) → ((which : Which) × (cost : Grains) × (batch_answer J F ≡ Taken which cost)) ⊎ ((item : Broken) × (batch_answer J F ≡ NoPlan item))
batch_kinds J (fallen.Chosen which Q) = inl (which, grains (cost_of (fallen_state J (fallen.Chosen which Q))), refl)
batch_kinds J (fallen.NoPlan item Q) = inr (item, refl)

pub batch_told : (S : State) (B : Batch) → ((which : Which) × (cost : Grains) × (answer S (event.Batch B) ≡ Taken which cost)) ⊎ ((item : Broken) × (answer S (event.Batch B) ≡ NoPlan item))
unfolding answer
batch_told S B = batch_kinds (with_batch S.inst S.plan B) (fallback_on S B)

pub counts : (n m : ℕ) (S : State) (b : Option Broken) → ((shown n m S b).entries ≡ n) × ((shown n m S b).changes ≡ m)
counts n m S None = (refl, refl)
counts n m S (Some item) = (refl, refl)

next : (S T : State) (h : List Entry) (e : Entry) (b : Option Broken) (m : ℕ) → after (state S h) e.event ≡ T → T.broken ≡ b → changes (h ++ e ∷ []) ≡ m → view_of S (h ++ e ∷ []) ≡ shown (length h + 1) m T b
next S T h e b m step broken count =
    let st : state S (h ++ e ∷ []) ≡ T = state-append S h (e ∷ []) ∙ step in
    let br : (state S (h ++ e ∷ [])).broken ≡ b = ap (λ (U : State). U.broken) st ∙ broken in
    let len : length (h ++ e ∷ []) ≡ length h + 1 = length-append h (e ∷ []) in
    λ i. shown (len i) (count i) (st i) (br i)

module _ (S : State) (h : List Entry) (e : Entry) (v : View) (follows : Follows S h e) (is : v ≡ view_of S h) where
  entries_is : v.entries ≡ length h
  entries_is = ap (λ (w : View). w.entries) is ∙ (counts (length h) (changes h) (state S h) (state S h).broken).0

  pub changes_is : v.changes ≡ changes h
  changes_is = ap (λ (w : View). w.changes) is ∙ (counts (length h) (changes h) (state S h) (state S h).broken).1

  pub few_changes : v.changes ≤ length h
  few_changes = subst (λ n. n ≤ length h) (sym changes_is) (count_by-le-length (λ (x : Entry). is_change x.event x.answer) h)

  told : (ev : Event) (a : Answer) → e.event ≡ ev → e.answer ≡ a → answer (state S h) ev ≡ a
  told ev a here an = ap (answer (state S h)) (sym here) ∙ (sym follows.1.answered ∙ an)

  made_change : (ev : Event) (a : Answer) → e.event ≡ ev → e.answer ≡ a → is_change ev a ≡ true → changes (h ++ e ∷ []) ≡ changes h + 1
  made_change ev a here an sure = counted h e (ap (λ (x : Event). is_change x e.answer) here ∙ (ap (is_change ev) an ∙ sure))

  priced : (n m : ℕ) (T : State) (cost : Grains) → n ≡ length h → m ≡ changes h → cost ≡ grains (cost_of T) → record { entries = n + 1; changes = m + 1; cost = cost; broken = None } ≡ shown (length h + 1) (changes h + 1) T None
  priced n m T cost en ch pr = λ i. record { entries = en i + 1; changes = ch i + 1; cost = pr i; broken = None }

  pub view_taken : (B : Batch) (which : Which) (cost : Grains) → e.event ≡ event.Batch B → e.answer ≡ Taken which cost
      → record { entries = v.entries + 1; changes = v.changes + 1; cost = cost; broken = None } ≡ view_of S (h ++ e ∷ [])
  view_taken B which cost here an =
      let T = after (state S h) (event.Batch B) in
      let a = told (event.Batch B) (Taken which cost) here an in
      priced v.entries v.changes T cost entries_is changes_is (batch-priced (state S h) B which cost a)
      ∙ sym (next S T h e None (changes h + 1) (ap (after (state S h)) here) (batch-published (state S h) B which cost a) (made_change (event.Batch B) (Taken which cost) here an refl))

  pub view_unplanned : (B : Batch) (item : Broken) → e.event ≡ event.Batch B → e.answer ≡ NoPlan item
      → record { entries = v.entries + 1; changes = v.changes + 1; cost = grains 0; broken = Some item } ≡ view_of S (h ++ e ∷ [])
  view_unplanned B item here an =
      let T = after (state S h) (event.Batch B) in
      let a = told (event.Batch B) (NoPlan item) here an in
      let counted' : record { entries = v.entries + 1; changes = v.changes + 1; cost = grains 0; broken = Some item } ≡ shown (length h + 1) (changes h + 1) T (Some item) = λ i. record { entries = entries_is i + 1; changes = changes_is i + 1; cost = grains 0; broken = Some item } in
      counted' ∙ sym (next S T h e (Some item) (changes h + 1) (ap (after (state S h)) here) (batch-unplanned (state S h) B item a) (made_change (event.Batch B) (NoPlan item) here an refl))

  pub view_accepted : (m : Move) (cost : Grains) → e.event ≡ event.Move m → e.answer ≡ Accepted cost
      → record { entries = v.entries + 1; changes = v.changes + 1; cost = cost; broken = None } ≡ view_of S (h ++ e ∷ [])
  view_accepted m cost here an =
      let a = told (event.Move m) (Accepted cost) here an in
      let step = after-accepted (state S h) m cost a in
      let T = after (state S h) (event.Move m) in
      let cause = accepted-cause (state S h) m cost a in
      let price : cost ≡ grains (cost_of T) = cause.stored ∙ ap (λ (U : State). grains (cost_of U)) (sym step) in
      priced v.entries v.changes T cost entries_is changes_is price
      ∙ sym (next S T h e None (changes h + 1) (ap (after (state S h)) here) (ap (λ (U : State). U.broken) step) (made_change (event.Move m) (Accepted cost) here an refl))

  pub view_same : (m : Move) → e.event ≡ event.Move m → is_accepted e.answer ≡ false
      → record { entries = v.entries + 1; changes = v.changes; cost = v.cost; broken = v.broken } ≡ view_of S (h ++ e ∷ [])
  view_same m here refused =
      let T = state S h in
      let none : is_change e.event e.answer ≡ false = ap (λ (x : Event). is_change x e.answer) here ∙ refused in
      let same : after T e.event ≡ T = after-unchanged T e.event (ap (is_change e.event) (sym follows.1.answered) ∙ none) in
      bump (length h) (changes h) T T.broken v is ∙ sym (next S T h e T.broken (changes h) same refl (uncounted h e none))

  pub few : v.changes + 1 < 4294967296
  few = omega (arith, few_changes, room_few (length h) e.event follows.1.room)

pub not_accepted : (a : Answer) → ((cost : Grains) → a ≡ Accepted cost → ⊥) → is_accepted a ≡ false
not_accepted (Accepted cost) never = absurd (never cost refl)
not_accepted (Taken which cost) never = refl
not_accepted (Breaks item) never = refl
not_accepted (Dearer now would) never = refl
not_accepted (NoPlan item) never = refl
not_accepted (Full entries) never = refl
