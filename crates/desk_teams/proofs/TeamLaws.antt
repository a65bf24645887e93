-- Changes of a history, and searches that have stopped.
use Rattle.std.proofs.Common.{◌≡◌, ℕ, zero, suc, ◌+◌, ◌-◌, ◌<◌, ◌≤◌, Bool, true, false, cond, List, [], ◌∷◌, ◌++◌, Some, None, length, take, slice_get, refl, sym, ap, ◌∙◌, subst, arith, inl, inr, ⊎_elim, ◌⊎◌}
use Rattle.std.specs.Prelude.{IsSome, reverse, take_while, count_by, not}
use Rattle.std.proofs.lemmas.Bool.{cases_Bool, true≢false}
use Rattle.std.proofs.lemmas.Bool.Decides.{nat_tests}
use Rattle.std.proofs.lemmas.List.{reverse-append, length-take-le}
use Rattle.std.proofs.lemmas.List.Sums.{sum_by-append, sum_by-cons, take_while-cons}
use Rattle.desk_data.specs.Situation.{Situation}
use Rattle.desk_model.specs.declared.answer.Answer.{Answer}
use Rattle.desk_model.specs.declared.answer.Event.{Event}
use Rattle.desk_model.specs.declared.answer.Event.TheVariants as event
use Rattle.desk_model.specs.declared.answer.Entry.{Entry}
use Rattle.desk_model.specs.States.{State, opening, answer}
use Rattle.desk_model.specs.Histories.{state, IsLegal, is_batch, is_accepted, is_change, changes, since_batch, accepted_since_batch}
use Rattle.desk_model.specs.Promises.{state_at}
use Rattle.desk_model.proofs.HistoryLaws.{promises, take-next, entry_at}
use Rattle.near_moves.specs.Descent.{is_better, first_better, IsQuiet, is_spent}
use Rattle.near_moves.proofs.ShardLaws.{none-better}
use Rattle.near_moves.proofs.DescentLaws.{find-passes, accepted-better}
use Rattle.desk_teams.specs.Trails.{IsFirstBetter}
use Rattle.desk_teams.proofs.TrailLaws.{get-below}
use Rattle.desk_teams.specs.Teams.{HasStopped, IsProposal, ChangesBetween}

-- ---- an entry that changes nothing

no-batch : (e : Event) (told : Answer) → is_change e told ≡ false → (is_batch e ≡ false) × (is_accepted told ≡ false)
no-batch (event.Batch B) told is = absurd (true≢false is)
no-batch (event.Move m) told is = (refl, is)

since_is : (h : List Entry) (entry : Entry) → since_batch (h ++ entry ∷ []) ≡ cond (not (is_batch entry.event)) (entry ∷ since_batch h) []
since_is h entry =
    ap (take_while (λ (e : Entry). not (is_batch e.event))) (reverse-append h (entry ∷ []))
    ∙ take_while-cons (λ (e : Entry). not (is_batch e.event)) entry (reverse h)

pub since-same : (h : List Entry) (entry : Entry) → is_change entry.event entry.answer ≡ false → accepted_since_batch (h ++ entry ∷ []) ≡ accepted_since_batch h
since-same h entry is =
    let no = no-batch entry.event entry.answer is in
    let more : since_batch (h ++ entry ∷ []) ≡ entry ∷ since_batch h = since_is h entry ∙ rw no.0 refl in
    ap (count_by (λ (e : Entry). is_accepted e.answer)) more
    ∙ sum_by-cons (λ (e : Entry). cond (is_accepted e.answer) 1 0) entry (since_batch h)
    ∙ rw no.1 (omega arith)

pub changes-more : (h : List Entry) (entry : Entry) (b : Bool) → is_change entry.event entry.answer ≡ b → changes (h ++ entry ∷ []) ≡ changes h + cond b 1 0
changes-more h entry b is = sum_by-append (λ (e : Entry). cond (is_change e.event e.answer) 1 0) h (entry ∷ []) ∙ rw is (omega arith)

-- ---- beginnings with equally many changes

-- one more entry adds a change or none
step : (h : List Entry) (i : ℕ) (entry : Entry) (b : Bool) → slice_get h i ≡ Some entry → is_change entry.event entry.answer ≡ b → changes (take (i + 1) h) ≡ changes (take i h) + cond b 1 0
step h i entry b at is = ap changes (take-next h i entry at) ∙ changes-more (take i h) entry b is

grow : (h : List Entry) (i n : ℕ) → i + n ≤ length h → changes (take i h) ≤ changes (take (i + n) h)
grow h i zero le = subst (λ (k : ℕ). changes (take i h) ≤ changes (take k h)) (let e : i ≡ i + 0 = omega arith in e) (omega arith)
grow h i (suc n) le =
    let at = entry_at h (i + n) (omega (arith, le)) in
    let less = grow h i n (omega (arith, le)) in
    let one = step h (i + n) at.0 (is_change at.0.event at.0.answer) at.1 refl in
    let e : i + n + 1 ≡ i + suc n = omega arith in
    subst (λ (k : ℕ). changes (take i h) ≤ changes (take k h)) e (omega (arith, less, one))

-- where no change is added, none of the entries between is one
between : (h : List Entry) (i n : ℕ) → i + suc n ≤ length h → changes (take i h) ≡ changes (take (i + suc n) h) → (entry : Entry) → slice_get h (i + n) ≡ Some entry → (changes (take i h) ≡ changes (take (i + n) h)) × (is_change entry.event entry.answer ≡ false)
between h i n le same entry at =
    let less = grow h i n (omega (arith, le)) in
    let e : i + n + 1 ≡ i + suc n = omega arith in
    let whole : changes (take (i + n + 1) h) ≡ changes (take i h) = ap (λ (k : ℕ). changes (take k h)) e ∙ sym same in
    elim (cases_Bool (is_change entry.event entry.answer)) [
      | inl one_is ↦ absurd (let one = step h (i + n) entry true at one_is in omega (arith, one, whole, less))
      | inr not_one ↦ (let one = step h (i + n) entry false at not_one in (omega (arith, one, whole, less), not_one))
    ]

since_by : (h : List Entry) (i n : ℕ) → i + n ≤ length h → changes (take i h) ≡ changes (take (i + n) h) → accepted_since_batch (take i h) ≡ accepted_since_batch (take (i + n) h)
since_by h i zero le same = ap (λ (k : ℕ). accepted_since_batch (take k h)) (let e : i ≡ i + 0 = omega arith in e)
since_by h i (suc n) le same =
    let at = entry_at h (i + n) (omega (arith, le)) in
    let b = between h i n le same at.0 at.1 in
    let e : i + n + 1 ≡ i + suc n = omega arith in
    since_by h i n (omega (arith, le)) b.0
    ∙ sym (since-same (take (i + n) h) at.0 b.1)
    ∙ ap accepted_since_batch (sym (take-next h (i + n) at.0 at.1))
    ∙ ap (λ (k : ℕ). accepted_since_batch (take k h)) e

pub equal-since : (h : List Entry) (i j : ℕ) → i ≤ j → j ≤ length h → changes (take i h) ≡ changes (take j h) → accepted_since_batch (take i h) ≡ accepted_since_batch (take j h)
equal-since h i j le within same =
    let e : i + (j - i) ≡ j = omega (arith, le) in
    since_by h i (j - i) (omega (arith, le, within)) (same ∙ ap (λ (k : ℕ). changes (take k h)) (sym e)) ∙ ap (λ (k : ℕ). accepted_since_batch (take k h)) e

-- a history that is spent stays so while none changes it
pub spent-longer : (most : ℕ) (h g : List Entry) → accepted_since_batch h ≡ accepted_since_batch g → length h ≤ length g → is_spent most h ≡ true → is_spent most g ≡ true
unfolding is_spent
spent-longer most h g same longer is = grind (arith, nat_tests)

pub stopped-longer : (most : ℕ) (I : Situation) (h : List Entry) (i j : ℕ) → IsLegal (opening I) h → i ≤ j → j ≤ length h → changes (take i h) ≡ changes (take j h) → HasStopped most (opening I) (take i h) → HasStopped most (opening I) (take j h)
stopped-longer most I h i j legal le within same stopped =
    let there : state_at I h i ≡ state_at I h j = (promises I h legal).same i j le within same in
    ⊎_elim
    (λ (none : IsSome (state_at I h i).broken). inl (subst (λ (S : State). IsSome S.broken) there none))
    (λ (rest : (is_spent most (take i h) ≡ true) ⊎ IsQuiet (state_at I h i)). inr (⊎_elim
    (λ (spent : is_spent most (take i h) ≡ true). inl (spent-longer most (take i h) (take j h) (equal-since h i j le within same) (omega (arith, le, within, length-take-le i h (omega (arith, le, within)), length-take-le j h within)) spent))
    (λ (quiet : IsQuiet (state_at I h i)). inr (subst IsQuiet there quiet))
    rest))
    stopped

-- ---- shards

pub shards-quiet : (n : ℕ) (S : State) → 0 < n → S.broken ≡ None → ((s : ℕ) → s < n → first_better S.inst S.plan s n ≡ None) → IsQuiet S
shards-quiet n S some planned none = record { planned = planned; none = none-better S.inst S.plan n some none }

-- ---- refused proposals

-- an entry from place i up to but not including place k that is a change
record IsChangeIn (h : List Entry) (i k : ℕ) : Type 0 where
  pub place : ℕ
  pub from : i ≤ place
  pub to : place < k
  pub entry : Entry
  pub there : slice_get h place ≡ Some entry
  pub change : is_change entry.event entry.answer ≡ true

wider : (h : List Entry) (i k m : ℕ) → k ≤ m → IsChangeIn h i k → IsChangeIn h i m
wider h i k m le c = record { place = c.place; from = c.from; to = (let t = c.to in omega (arith, t, le)); entry = c.entry; there = c.there; change = c.change }

some-change : (h : List Entry) (i n : ℕ) → i + n ≤ length h → (changes (take i h) ≡ changes (take (i + n) h)) ⊎ IsChangeIn h i (i + n)
some-change h i zero le = inl (ap (λ (k : ℕ). changes (take k h)) (let e : i ≡ i + 0 = omega arith in e))
some-change h i (suc n) le =
    let at = entry_at h (i + n) (omega (arith, le)) in
    let e : i + n + 1 ≡ i + suc n = omega arith in
    ⊎_elim
    (λ (same : changes (take i h) ≡ changes (take (i + n) h)). elim (cases_Bool (is_change at.0.event at.0.answer)) [
      | inl one_is ↦ inr (record { place = i + n; from = omega arith; to = omega arith; entry = at.0; there = at.1; change = one_is })
      | inr not_one ↦ inl (let one = step h (i + n) at.0 false at.1 not_one in let same_one : changes (take (i + n + 1) h) ≡ changes (take i h) = omega (arith, one, same) in sym same_one ∙ ap (λ (k : ℕ). changes (take k h)) e)
    ])
    (λ (c : IsChangeIn h i (i + n)). inr (wider h i (i + n) (i + suc n) (omega arith) c))
    (some-change h i n (omega (arith, le)))

-- a proposal that meets the state at which it was found is accepted
met : (n : ℕ) (S T : State) (h : List Entry) (saw : ℕ) (entry : Entry) → IsFirstBetter n S h saw entry → state S (take saw h) ≡ T → entry.answer ≡ answer T entry.event → is_accepted entry.answer ≡ true
met n S T h saw entry first same told =
    let U = state S (take saw h) in
    let better : is_better U.inst U.plan first.move ≡ true = find-passes (is_better U.inst U.plan) _ first.move first.first in
    let accepted : is_accepted (answer U (event.Move first.move)) ≡ true = accepted-better U first.move ∙ rw (first.planned, better) refl in
    ap is_accepted (told ∙ ap (answer T) first.proposed ∙ ap (λ (V : State). answer V (event.Move first.move)) (sym same)) ∙ accepted

pub refused-between : (n most : ℕ) (I : Situation) (h : List Entry) (k : ℕ) (entry : Entry) → IsLegal (opening I) h → slice_get h k ≡ Some entry → (p : IsProposal n most (opening I) h k entry) → is_accepted entry.answer ≡ false → ChangesBetween h p.saw k entry.caller
refused-between n most I h k entry legal at p refused =
    let low = p.before in
    let within = get-below h k entry at in
    let e : p.saw + (k - p.saw) ≡ k = omega (arith, low) in
    ⊎_elim
    (λ (same : changes (take p.saw h) ≡ changes (take (p.saw + (k - p.saw)) h)).
    let equal : changes (take p.saw h) ≡ changes (take k h) = same ∙ ap (λ (m : ℕ). changes (take m h)) e in
    let there : state_at I h p.saw ≡ state_at I h k = (promises I h legal).same p.saw k low (omega (arith, within)) equal in
    absurd (true≢false (sym (met n (opening I) (state_at I h k) h p.saw entry p.first there (legal k entry at).answered) ∙ refused)))
    (λ (c : IsChangeIn h p.saw (p.saw + (k - p.saw))).
    let from = c.from in
    let to = c.to in
    record {
      place = c.place;
      from = from;
      to = omega (arith, to, e);
      entry = c.entry;
      there = c.there;
      change = c.change;
      other = λ is. (let lt = p.own c.place c.entry (omega (arith, to, e)) c.there is in omega (arith, lt, from));
    })
    (some-change h p.saw (k - p.saw) (omega (arith, low, within)))
