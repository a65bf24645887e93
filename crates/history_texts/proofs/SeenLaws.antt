-- The lines of the views that were seen.
use Rattle.std.proofs.Common.{◌≡◌, ℕ, ◌+◌, ◌<◌, List, [], ◌∷◌, ◌++◌, length, take, get_or, refl, sym, ap, ◌∙◌, subst, append_assoc}
use Rattle.std.specs.Prelude.{Option, Some, None, IfSome, codes, decimal}
use Rattle.std.proofs.lemmas.List.{append-nil, take_more}
use Rattle.desk_units.specs.declared.money.Grains.{Grains}
use Rattle.desk_data.specs.declared.broken.Broken.{Broken}
use Rattle.desk_data.specs.declared.broken.Broken.TheVariants.{C1, C2, C3, C4, C5, C6, C7, C8, C9, C10, C11, C12, C13, C14, C15}
use Rattle.desk_data.specs.declared.parts.Parts.{Parts}
use Rattle.desk_data.specs.Situation.{Situation}
use Rattle.desk_model.specs.declared.answer.Answer.TheVariants.{NoPlan}
use Rattle.desk_model.specs.declared.answer.Entry.{Entry}
use Rattle.desk_model.specs.States.{State, opening}
use Rattle.desk_model.specs.Histories.{state}
use Rattle.desk_model.proofs.StateLaws.{KnowsBroken, opening-inst, opening-known}
use Rattle.desk_model.proofs.HistoryLaws.{state-known, state-parts}
use Rattle.desk_model.specs.declared.view.View.{View}
use Rattle.desk_model.specs.Views.{shown, IsSightOf}
use Rattle.output_texts.specs.Lines.{answer_text}
use Rattle.output_texts.specs.Writable.{Names}
use Rattle.output_texts.proofs.PartsLaws.{answer-same}
use Rattle.output_texts.proofs.WritableLaws.{least-names}
use Rattle.desk_tasks.specs.Outcome.{line}
use Rattle.desk_tasks.specs.Play.{seen_end, seen_line, seen_lines}

-- ---- what a view names

-- what an item names on one day is there on each day of the same rows
names_under : (I J : Situation) → J.parts ≡ I.parts → (item : Broken) → Names J item → Names I item
names_under I J same (C1 leg) h = subst (λ (p : Parts). leg.0 < length p.legs) same h
names_under I J same (C2 leg) h = subst (λ (p : Parts). leg.0 < length p.legs) same h
names_under I J same (C3 leg) h = subst (λ (p : Parts). leg.0 < length p.legs) same h
names_under I J same (C4 leg) h = subst (λ (p : Parts). leg.0 < length p.legs) same h
names_under I J same (C5 leg) h = subst (λ (p : Parts). leg.0 < length p.legs) same h
names_under I J same (C6 leg) h = subst (λ (p : Parts). leg.0 < length p.legs) same h
names_under I J same (C7 leg) h = subst (λ (p : Parts). leg.0 < length p.legs) same h
names_under I J same (C8 plane) h = subst (λ (p : Parts). plane.0 < length p.planes) same h
names_under I J same (C9 plane) h = subst (λ (p : Parts). plane.0 < length p.planes) same h
names_under I J same (C10 airport hour) h = (subst (λ (p : Parts). airport.0 < length p.airports) same h.0, h.1)
names_under I J same (C11 airport hour) h = (subst (λ (p : Parts). airport.0 < length p.airports) same h.0, h.1)
names_under I J same (C12 leg cabin) h = subst (λ (p : Parts). leg.0 < length p.legs) same h
names_under I J same (C13 res) h = subst (λ (p : Parts). res.0 < length p.res) same h
names_under I J same (C14 res) h = subst (λ (p : Parts). res.0 < length p.res) same h
names_under I J same (C15 res) h = subst (λ (p : Parts). res.0 < length p.res) same h

shown_names : (I : Situation) (n m : ℕ) (S : State) (b : Option Broken) → KnowsBroken S → S.inst.parts ≡ I.parts → S.broken ≡ b → IfSome (shown n m S b).broken (Names I)
shown_names I n m S None known same is = tt
shown_names I n m S (Some item) known same is = names_under I S.inst same item (least-names S.inst S.plan item (sym known ∙ is))

-- a view of a beginning of a history names what there is on each day of the same rows
pub sight-names : (O I : Situation) → O.parts ≡ I.parts → (h : List Entry) (v : View) → IsSightOf (opening O) h v → IfSome v.broken (Names I)
sight-names O I same h v sight =
    let g = take v.entries h in
    let S = state (opening O) g in
    let rows : S.inst.parts ≡ I.parts = state-parts (opening O) g ∙ ap (λ (J : Situation). J.parts) (opening-inst O) ∙ same in
    subst (λ (w : View). IfSome w.broken (Names I)) (sym sight.view) (shown_names I _ _ S S.broken (state-known (opening O) g (opening-known O)) rows refl)

-- ---- one line more

seen_append : (I : Situation) (xs ys : List View) → seen_lines I (xs ++ ys) ≡ seen_lines I xs ++ seen_lines I ys
unfolding seen_lines
seen_append I [] ys = refl
seen_append I (v ∷ xs) ys = ap (λ (t : List ℕ). seen_line I v ++ t) (seen_append I xs ys) ∙ sym (append_assoc (seen_line I v) (seen_lines I xs) (seen_lines I ys))

seen_one : (I : Situation) (v : View) → seen_lines I (v ∷ []) ≡ seen_line I v
unfolding seen_lines
seen_one I v = append-nil (seen_line I v)

pub seen-start : (I : Situation) (before : List ℕ) (views : List View) → before ≡ before ++ seen_lines I (take 0 views)
unfolding seen_lines
seen-start I before views = sym (append-nil before)

pub seen-more : (I : Situation) (before mid now : List ℕ) (i : ℕ) (views : List View) (d : View) → i < length views → now ≡ mid ++ seen_line I (get_or views i d) → mid ≡ before ++ seen_lines I (take i views) → now ≡ before ++ seen_lines I (take (i + 1) views)
seen-more I before mid now i views d lt text given =
    let v = get_or views i d in
    let more : take (i + 1) views ≡ take i views ++ v ∷ [] = take_more views i d lt in
    text
    ∙ ap (λ (t : List ℕ). t ++ seen_line I v) given
    ∙ append_assoc before (seen_lines I (take i views)) (seen_line I v)
    ∙ ap (λ (t : List ℕ). before ++ (seen_lines I (take i views) ++ t)) (sym (seen_one I v))
    ∙ ap (λ (t : List ℕ). before ++ t) (sym (seen_append I (take i views) (v ∷ [])))
    ∙ ap (λ (t : List View). before ++ seen_lines I t) (sym more)

-- ---- the orders taken and how far the day has gone on make no difference to the lines

end_same : (I J : Situation) → I.parts ≡ J.parts → (cost : Grains) (b : Option Broken) → seen_end I cost b ≡ seen_end J cost b
unfolding answer_text
end_same I J same cost None = refl
end_same I J same cost (Some item) = answer-same I J same (NoPlan item)

line_same : (I J : Situation) → I.parts ≡ J.parts → (v : View) → seen_line I v ≡ seen_line J v
line_same I J same v = ap (λ (t : List ℕ). line (codes "seen " ++ decimal v.entries ++ codes " " ++ decimal v.changes ++ codes " " ++ t)) (end_same I J same v.cost v.broken)

pub seen-same : (I J : Situation) → I.parts ≡ J.parts → (views : List View) → seen_lines I views ≡ seen_lines J views
unfolding seen_lines
seen-same I J same [] = refl
seen-same I J same (v ∷ views) = ap (λ (t : List ℕ). t ++ seen_lines I views) (line_same I J same v) ∙ ap (λ (t : List ℕ). seen_line J v ++ t) (seen-same I J same views)
