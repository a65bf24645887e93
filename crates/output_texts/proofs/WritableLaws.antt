-- Each entry of a legal history can be reported.
use Rattle.std.proofs.Common.{◌≡◌, ℕ, zero, suc, ◌<◌, Bool, true, false, cond, leb, List, [], ◌∷◌, ◌++◌, length, get_or, take, refl, sym, subst, ◌∙◌, arith}
use Rattle.std.specs.Prelude.{find, map, None, Some, Option, All}
use Rattle.std.specs.List.{AllByRecursion, flat_map}
use Rattle.std.proofs.lemmas.List.{map-append}
use Rattle.std.proofs.lemmas.List.Concat.{flat_map-append}
use Rattle.std.proofs.lemmas.Option.{slice_get-get_or}
use Rattle.desk_units.specs.declared.numbers.Leg.{Leg}
use Rattle.desk_units.specs.declared.numbers.Plane.{Plane}
use Rattle.desk_units.specs.declared.numbers.Airport.{Airport}
use Rattle.desk_units.specs.declared.numbers.Res.{Res}
use Rattle.desk_units.specs.declared.numbers.Cabin.{Cabin}
use Rattle.desk_units.specs.declared.numbers.Cabin.TheVariants.{F, B, E}
use Rattle.desk_data.specs.declared.broken.Broken.{Broken}
use Rattle.desk_data.specs.declared.broken.Broken.TheVariants.{C1, C2, C3, C4, C5, C6, C7, C8, C9, C10, C11, C12, C13, C14, C15}
use Rattle.desk_data.specs.declared.parts.Parts.{Parts}
use Rattle.plan_moves.specs.declared.moves.Move.{Move}
use Rattle.desk_data.specs.Progress.{with_batch}
use Rattle.desk_data.specs.Situation.{Situation, legs_of, planes_of, airports_of, reservations_of}
use Rattle.desk_data.proofs.BatchLaws.{with_batch-parts}
use Rattle.desk_data.specs.PlanRows.{PlanRows}
use Rattle.desk_rules.specs.Numbers.{numbers}
use Rattle.desk_rules.specs.Least.{breaks, leg, plane, airport, res, all_hours, each_leg, each_plane, each_hour, each_cabin, each_res, rotation_items, slot_items, pax_items, items, least}
use Rattle.desk_rules.specs.Cost.{cost, grains}
use Rattle.desk_rules.proofs.OrderLaws.{each_append}
use Rattle.desk_model.specs.declared.answer.Answer.{Answer}
use Rattle.desk_model.specs.declared.answer.Answer.TheVariants.{Taken, Accepted, Breaks, Dearer, NoPlan, Full}
use Rattle.desk_model.specs.declared.answer.Event.{Event}
use Rattle.desk_model.specs.declared.answer.Event.TheVariants as event
use Rattle.desk_model.specs.declared.answer.Entry.{Entry}
use Rattle.desk_model.specs.declared.fallbacks.Which.{Which}
use Rattle.desk_model.specs.declared.fallbacks.Which.TheVariants as which
use Rattle.desk_model.specs.declared.fallbacks.Fallback.{Fallback}
use Rattle.desk_model.specs.Fallback.{chosen_or, fallback, grounded, last_choice, shifted}
use Rattle.desk_model.specs.Steps.{after_move}
use Rattle.desk_model.specs.States.{State, opening, verdict, move_answer, batch_answer, answer, fallback_on}
use Rattle.desk_model.specs.Histories.{state, IsAskable, Stands, IsLegal}
use Rattle.desk_model.proofs.StateLaws.{KnowsBroken, opening-known}
use Rattle.desk_model.proofs.HistoryLaws.{state-known, state-parts, askable-parts}
use Rattle.output_texts.specs.Writable.{Names, AnswerNames, EventNames, CanBeWritten}

-- ---- the items of an instance

all_of_numbers : {X : Type 0} (P : X → Type 0) (f : ℕ → X) (n : ℕ) → ((k : ℕ) → k < n → P (f k)) → AllByRecursion P (map f (numbers n))
all_of_numbers P f zero h = tt
all_of_numbers P f (suc n) h =
    subst (AllByRecursion P) (sym (map-append f (numbers n) (n ∷ [])))
    (each_append P (map f (numbers n)) (f n ∷ []) (all_of_numbers P f n (λ k lt. h k (omega arith))) (h n (omega arith), tt))

found_one : {X : Type 0} (P : X → Type 0) (p : X → Bool) (x y : X) (ys : List X) (b : Bool) → cond b (Some y) (find p ys) ≡ Some x → P y → (find p ys ≡ Some x → P x) → P x
found_one P p x y ys true h here more = let same : y ≡ x = cc in subst P same here
found_one P p x y ys false h here more = more h

-- what is found is one of them
found_among : {X : Type 0} (P : X → Type 0) (p : X → Bool) (xs : List X) (x : X) → AllByRecursion P xs → find p xs ≡ Some x → P x
found_among P p [] x all h = absurd cc
found_among P p (y ∷ ys) x all h = found_one P p x y ys (p y) h all.0 (found_among P p ys x all.1)

all_of_lists : {X : Type 0} (P : X → Type 0) (f : ℕ → List X) (n : ℕ) → ((k : ℕ) → k < n → AllByRecursion P (f k)) → AllByRecursion P (flat_map f (numbers n))
all_of_lists P f zero h = tt
all_of_lists P f (suc n) h =
    subst (AllByRecursion P) (sym (flat_map-append f (numbers n) (n ∷ [])))
    (each_append P (flat_map f (numbers n)) (f n ++ []) (all_of_lists P f n (λ k lt. h k (omega arith))) (each_append P (f n) [] (h n (omega arith)) tt))

legs_name : (I : Situation) (item : Leg → Broken) → ((x : ℕ) → x < legs_of I → Names I (item (leg x))) → AllByRecursion (Names I) (each_leg I item)
legs_name I item h = all_of_numbers (Names I) (λ x. item (leg x)) (legs_of I) h

planes_name : (I : Situation) (item : Plane → Broken) → ((p : ℕ) → p < planes_of I → Names I (item (plane p))) → AllByRecursion (Names I) (each_plane I item)
planes_name I item h = all_of_numbers (Names I) (λ p. item (plane p)) (planes_of I) h

hours_name : (I : Situation) (item : Airport → ℕ → Broken) → ((a h : ℕ) → a < airports_of I → h < all_hours → Names I (item (airport a) h)) → AllByRecursion (Names I) (each_hour I item)
hours_name I item named =
    all_of_lists (Names I) (λ a. map (item (airport a)) (numbers all_hours)) (airports_of I)
    (λ a lt. all_of_numbers (Names I) (item (airport a)) all_hours (λ h before. named a h lt before))

cabins_name : (I : Situation) (item : Leg → Cabin → Broken) → ((x : ℕ) (c : Cabin) → x < legs_of I → Names I (item (leg x) c)) → AllByRecursion (Names I) (each_cabin I item)
cabins_name I item named =
    all_of_lists (Names I) (λ x. item (leg x) F ∷ item (leg x) B ∷ item (leg x) E ∷ []) (legs_of I)
    (λ x lt. (named x F lt, (named x B lt, (named x E lt, tt))))

reservations_name : (I : Situation) (item : Res → Broken) → ((r : ℕ) → r < reservations_of I → Names I (item (res r))) → AllByRecursion (Names I) (each_res I item)
reservations_name I item h = all_of_numbers (Names I) (λ r. item (res r)) (reservations_of I) h

-- an hour that an item can name is within the hundred years
within_years : (h : ℕ) → h < all_hours → h < 876600
unfolding all_hours
within_years h lt = lt

rotation_items_name : (I : Situation) → AllByRecursion (Names I) (rotation_items I)
unfolding rotation_items
rotation_items_name I =
    let c1 = legs_name I C1 (λ x lt. lt) in
    let c2 = each_append (Names I) (each_leg I C1) (each_leg I C2) c1 (legs_name I C2 (λ x lt. lt)) in
    let c3 = each_append (Names I) _ (each_leg I C3) c2 (legs_name I C3 (λ x lt. lt)) in
    let c4 = each_append (Names I) _ (each_leg I C4) c3 (legs_name I C4 (λ x lt. lt)) in
    let c5 = each_append (Names I) _ (each_leg I C5) c4 (legs_name I C5 (λ x lt. lt)) in
    let c6 = each_append (Names I) _ (each_leg I C6) c5 (legs_name I C6 (λ x lt. lt)) in
    let c7 = each_append (Names I) _ (each_leg I C7) c6 (legs_name I C7 (λ x lt. lt)) in
    let c8 = each_append (Names I) _ (each_plane I C8) c7 (planes_name I C8 (λ p lt. lt)) in
    each_append (Names I) _ (each_plane I C9) c8 (planes_name I C9 (λ p lt. lt))

slot_items_name : (I : Situation) → AllByRecursion (Names I) (slot_items I)
unfolding slot_items
slot_items_name I =
    each_append (Names I) (each_hour I C10) (each_hour I C11)
    (hours_name I C10 (λ a h lt before. (lt, within_years h before)))
    (hours_name I C11 (λ a h lt before. (lt, within_years h before)))

pax_items_name : (I : Situation) → AllByRecursion (Names I) (pax_items I)
unfolding pax_items
pax_items_name I =
    let c12 = cabins_name I C12 (λ x c lt. lt) in
    let c13 = each_append (Names I) (each_cabin I C12) (each_res I C13) c12 (reservations_name I C13 (λ r lt. lt)) in
    let c14 = each_append (Names I) _ (each_res I C14) c13 (reservations_name I C14 (λ r lt. lt)) in
    each_append (Names I) _ (each_res I C15) c14 (reservations_name I C15 (λ r lt. lt))

items_name : (I : Situation) → AllByRecursion (Names I) (items I)
unfolding items
items_name I =
    let slots = each_append (Names I) (rotation_items I) (slot_items I) (rotation_items_name I) (slot_items_name I) in
    each_append (Names I) (rotation_items I ++ slot_items I) (pax_items I) slots (pax_items_name I)

-- the first broken item names what there is
pub least-names : (I : Situation) (P : PlanRows) (item : Broken) → least I P ≡ Some item → Names I item
unfolding least
least-names I P item h = found_among (Names I) (breaks I P) (items I) item (items_name I) h

-- ---- orders and progress name nothing

module _ (I J : Situation) (same : J.parts ≡ I.parts) where
  -- what an item names of a day is there on any day of the same rows
  item_under : (item : Broken) → Names J item → Names I item
  item_under (C1 leg) h = subst (λ (p : Parts). leg.0 < length p.legs) same h
  item_under (C2 leg) h = subst (λ (p : Parts). leg.0 < length p.legs) same h
  item_under (C3 leg) h = subst (λ (p : Parts). leg.0 < length p.legs) same h
  item_under (C4 leg) h = subst (λ (p : Parts). leg.0 < length p.legs) same h
  item_under (C5 leg) h = subst (λ (p : Parts). leg.0 < length p.legs) same h
  item_under (C6 leg) h = subst (λ (p : Parts). leg.0 < length p.legs) same h
  item_under (C7 leg) h = subst (λ (p : Parts). leg.0 < length p.legs) same h
  item_under (C8 plane) h = subst (λ (p : Parts). plane.0 < length p.planes) same h
  item_under (C9 plane) h = subst (λ (p : Parts). plane.0 < length p.planes) same h
  item_under (C10 airport hour) h = (subst (λ (p : Parts). airport.0 < length p.airports) same h.0, h.1)
  item_under (C11 airport hour) h = (subst (λ (p : Parts). airport.0 < length p.airports) same h.0, h.1)
  item_under (C12 leg cabin) h = subst (λ (p : Parts). leg.0 < length p.legs) same h
  item_under (C13 res) h = subst (λ (p : Parts). res.0 < length p.res) same h
  item_under (C14 res) h = subst (λ (p : Parts). res.0 < length p.res) same h
  item_under (C15 res) h = subst (λ (p : Parts). res.0 < length p.res) same h

  answer_under : (a : Answer) → AnswerNames J a → AnswerNames I a
  answer_under (Taken which cost) h = tt
  answer_under (Accepted cost) h = tt
  answer_under (Breaks item) h = item_under item h
  answer_under (Dearer now would) h = tt
  answer_under (NoPlan item) h = item_under item h
  answer_under (Full entries) h = tt

-- ---- answers

judged_names : (I : Situation) (P : PlanRows) (b : Option Broken) (now would : ℕ) → least I P ≡ b → AnswerNames I (verdict b now would)
judged_names I P (Some item) now would is = least-names I P item is
judged_names I P None now would is =
    elim (leb now would) as (λ (dear : Bool). AnswerNames I (cond dear (Dearer (grains now) (grains would)) (Accepted (grains would)))) [ true ↦ tt | false ↦ tt ]

proposed_names : (S : State) (m : Move) (b : Option Broken) → S.broken ≡ b → KnowsBroken S → AnswerNames S.inst (move_answer S m b)
proposed_names S m (Some item) is given = least-names S.inst S.plan item (sym given ∙ is)
proposed_names S m None is given = judged_names S.inst (after_move S.inst S.plan m) (least S.inst (after_move S.inst S.plan m)) (cost S.inst S.plan) (cost S.inst (after_move S.inst S.plan m)) refl

last_names : (J : Situation) (Q : PlanRows) (b : Option Broken) → least J Q ≡ b → AnswerNames J (batch_answer J (last_choice Q b))
last_names J Q None is = tt
last_names J Q (Some item) is = least-names J Q item is

chosen_names : (J : Situation) (which : Which) (Q : PlanRows) (b : Option Broken) (next : Fallback) → AnswerNames J (batch_answer J next) → AnswerNames J (batch_answer J (chosen_or which Q b next))
chosen_names J which Q None next h = tt
chosen_names J which Q (Some item) next h = h

-- what nothing mends is named
fallen_names : (J : Situation) (P : PlanRows) → AnswerNames J (batch_answer J (fallback J P))
unfolding fallback
fallen_names J P =
    let last = last_names J (grounded J P) (least J (grounded J P)) refl in
    let shift = chosen_names J which.Shift (shifted J P) (least J (shifted J P)) (last_choice (grounded J P) (least J (grounded J P))) last in
    chosen_names J which.Keep P (least J P) (chosen_or which.Shift (shifted J P) (least J (shifted J P)) (last_choice (grounded J P) (least J (grounded J P)))) shift

answer_names : (S : State) (e : Event) → KnowsBroken S → AnswerNames S.inst (answer S e)
unfolding answer fallback_on
answer_names S (event.Batch batch) given =
    let J = with_batch S.inst S.plan batch in
    answer_under S.inst J (with_batch-parts S.inst S.plan batch) (batch_answer J (fallback J S.plan)) (fallen_names J S.plan)
answer_names S (event.Move m) given = proposed_names S m S.broken refl given

-- ---- histories

-- the steps of a move that can be asked have numbers in range
event_names : (I : Situation) (e : Event) → IsAskable I e → EventNames I e
event_names I (event.Batch batch) asked = tt
event_names I (event.Move m) asked = asked.each

stands_reported : (I J : Situation) → I.parts ≡ J.parts → (before : List Entry) (entry : Entry) → Stands (opening I) before entry → CanBeWritten J entry
unfolding opening
stands_reported I J rows before entry stands =
    let S = state (opening I) before in
    let same : S.inst.parts ≡ J.parts = state-parts (opening I) before ∙ rows in
    record {
      event = event_names J entry.event (askable-parts S.inst J entry.event same stands.asked);
      answer = answer_under J S.inst same entry.answer (subst (AnswerNames S.inst) (sym stands.answered) (answer_names S entry.event (state-known (opening I) before (opening-known I))));
    }

-- a legal history from the opening of a day can be reported of each day of the same rows, whatever orders that has and however far it has gone on
pub legal-written-of : (I J : Situation) → I.parts ≡ J.parts → (h : List Entry) → IsLegal (opening I) h → All (CanBeWritten J) h
legal-written-of I J rows h legal k d lt = stands_reported I J rows (take k h) (get_or h k d) (legal k (get_or h k d) (slice_get-get_or h k d lt))

pub legal-written : (I : Situation) (h : List Entry) → IsLegal (opening I) h → All (CanBeWritten I) h
legal-written I h legal = legal-written-of I I refl h legal
