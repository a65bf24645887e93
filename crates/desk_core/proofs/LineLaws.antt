-- What is reported of notes.
use Rattle.std.proofs.Common.{◌≡◌, ◌≢◌, ◌⊎◌, ℕ, zero, suc, ◌+◌, ◌<◌, ◌≤◌, List, [], ◌∷◌, ◌++◌, length, take, refl, sym, ap, ◌∙◌, subst, arith, length-append, ⊎_elim, inl, inr}
use Rattle.std.specs.Prelude.{Some, None, slice_get}
use mathlib.Core.List.{IsPrefix}
use Rattle.desk_model.specs.declared.answer.Entry.{Entry}
use Rattle.desk_model.specs.States.{State, opening}
use Rattle.desk_core.specs.Recorded.{Recorded}
use Rattle.live_board.specs.declared.told.Told.{Told}
use Rattle.live_board.specs.Histories.{history, origin, IsViewOf}
use Rattle.live_board.proofs.Tellings.{histories_begin, origin_same}
use Rattle.live_board.proofs.Beginnings.{prefix_self, prefix_trans, prefix_shorter, prefix_length}
use Rattle.live_board.specs.Watched.{AreRising}
use Rattle.desk_model.specs.declared.view.View.{View}
use Rattle.desk_model.specs.Views.{view_of, IsSightOf}
use Rattle.desk_model.proofs.SightLaws.{sight, entries_of}
use Rattle.desk_core.specs.declared.sight.Sight.{Sight}
use Rattle.desk_core.specs.Sights.{sights, AddsSight, HasLine, HaveLines}
use Rattle.desk_core.proofs.TellingLaws.{some_is}

-- a note of what was told so far has the view of a beginning of the history
pub told_sight : (B : Recorded) (noted log : List (Told Recorded Entry)) (s : Sight) → origin log ≡ Some B → origin noted ≢ None → IsPrefix noted log → IsViewOf sights s noted → IsSightOf (opening B.opening) (history log) s.view
told_sight B noted log s from opened p is =
    sight (opening B.opening) (history noted) (history log) s.view (histories_begin noted log p) (ap (λ (t : Sight). t.view) (is B (sym (origin_same noted log opened p) ∙ from)))

pub told_last : (B : Recorded) (log : List (Told Recorded Entry)) (s : Sight) → origin log ≡ Some B → IsViewOf sights s log → s.view ≡ view_of (opening B.opening) (history log)
told_last B log s from is = ap (λ (t : Sight). t.view) (is B from)

-- ---- of two notes of a board one begins with the other

shorter_or : (m n : ℕ) → (m ≤ n) ⊎ (n ≤ m)
shorter_or zero n = inl (omega arith)
shorter_or (suc m) zero = inr (omega arith)
shorter_or (suc m) (suc n) = ⊎_elim (λ (a : m ≤ n). inl (omega (arith, a))) (λ (b : n ≤ m). inr (omega (arith, b))) (shorter_or m n)

-- so one with fewer entries is a beginning of the other
nested_below : (noted log both : List (Told Recorded Entry)) → IsPrefix noted both → IsPrefix log both → length (history noted) < length (history log) → IsPrefix noted log
nested_below noted log both p q less = ⊎_elim
    (λ (le : length noted ≤ length log). prefix_shorter noted log both p q le)
    (λ (le : length log ≤ length noted). absurd (let more = prefix_length (history log) (history noted) (histories_begin log noted (prefix_shorter log noted both q p le)) in omega (arith, more, less)))
    (shorter_or (length noted) (length log))

-- and both are of one book
pub from_both : (B : Recorded) (noted log both : List (Told Recorded Entry)) → origin log ≡ Some B → origin noted ≢ None → IsPrefix noted both → IsPrefix log both → origin noted ≡ Some B
from_both B noted log both from opened p q = sym (origin_same noted both opened p) ∙ origin_same log both (some_is B (origin log) from) q ∙ from

pub told_count : (B : Recorded) (log : List (Told Recorded Entry)) (s : Sight) → origin log ≡ Some B → IsViewOf sights s log → s.view.entries ≡ length (history log)
told_count B log s from is = ap (λ (w : View). w.entries) (told_last B log s from is) ∙ entries_of (opening B.opening) (history log)

-- the view of the one with fewer entries is that of a beginning of the history of the other
pub fewer_sight : (B : Recorded) (noted log both : List (Told Recorded Entry)) (s last : Sight) → origin log ≡ Some B → origin noted ≢ None → IsPrefix noted both → IsPrefix log both → IsViewOf sights s noted → IsViewOf sights last log
    → s.view.entries < last.view.entries → IsSightOf (opening B.opening) (history log) s.view
fewer_sight B noted log both s last from opened p q is whole less =
    let few = told_count B noted s (from_both B noted log both from opened p q) is in
    let all = told_count B log last from whole in
    told_sight B noted log s from opened (nested_below noted log both p q (omega (arith, less, few, all))) is

-- ---- none of a few notes is left out

-- each note begins with what an earlier one stands for
pub rising_to : {N L : Type 0} (log : N → List L) (xs : List N) (m k : ℕ) (a b : N) → AreRising log xs → slice_get xs m ≡ Some a → slice_get xs k ≡ Some b → m ≤ k → IsPrefix (log a) (log b)
rising_to log [] m k a b r am bk le = absurd (cc am)
rising_to {N} log (x ∷ []) zero zero a b r am bk le = (let same : a ≡ b = cc (am, bk) in subst (λ (z : N). IsPrefix (log a) (log z)) same (prefix_self (log a)))
rising_to log (x ∷ []) zero (suc k) a b r am bk le = absurd (cc bk)
rising_to log (x ∷ []) (suc m) k a b r am bk le = absurd (cc am)
rising_to {N} log (x ∷ y ∷ xs) zero zero a b r am bk le = (let same : a ≡ b = cc (am, bk) in subst (λ (z : N). IsPrefix (log a) (log z)) same (prefix_self (log a)))
rising_to {N} log (x ∷ y ∷ xs) zero (suc k) a b r am bk le =
    let same : x ≡ a = cc am in
    prefix_trans (log a) (log y) (log b) (subst (λ (z : N). IsPrefix (log z) (log y)) same r.0.0) (rising_to log (y ∷ xs) zero k y b r.1 refl bk (omega arith))
rising_to log (x ∷ y ∷ xs) (suc m) zero a b r am bk le = absurd (omega (arith, le))
rising_to log (x ∷ y ∷ xs) (suc m) (suc k) a b r am bk le = rising_to log (y ∷ xs) m k a b r.1 am bk (omega (arith, le))

low_or_last : (k m : ℕ) → k < m + 1 → (k < m) ⊎ (k ≡ m)
low_or_last zero zero lt = inr refl
low_or_last zero (suc m) lt = inl (omega arith)
low_or_last (suc k) zero lt = absurd (omega (arith, lt))
low_or_last (suc k) (suc m) lt = ⊎_elim (λ (a : k < m). inl (omega (arith, a))) (λ (b : k ≡ m). inr (ap suc b)) (low_or_last k m (omega (arith, lt)))

get_first : {X : Type 0} (xs ys : List X) (i : ℕ) (x : X) → slice_get xs i ≡ Some x → slice_get (xs ++ ys) i ≡ Some x
get_first [] ys i x at = absurd (cc at)
get_first (z ∷ xs) ys zero x at = at
get_first (z ∷ xs) ys (suc i) x at = get_first xs ys i x at

get_next : {X : Type 0} (xs : List X) (y : X) → slice_get (xs ++ y ∷ []) (length xs) ≡ Some y
get_next [] y = refl
get_next (x ∷ xs) y = get_next xs y

get_within : {X : Type 0} (xs : List X) (i : ℕ) (x : X) → slice_get xs i ≡ Some x → i < length xs
get_within [] i x at = absurd (cc at)
get_within (y ∷ xs) zero x at = omega arith
get_within (y ∷ xs) (suc i) x at = (let low = get_within xs i x at in omega (arith, low))

line_stays : (S : State) (g : List Entry) (lines more : List View) → HasLine S g lines → HasLine S g (lines ++ more)
line_stays S g lines more line = (line.0, get_first lines more line.0 (view_of S g) line.1)

same_sights : (S : State) (h : List Entry) (v w : View) → IsSightOf S h v → IsSightOf S h w → v.entries ≡ w.entries → v ≡ w
same_sights S h v w one other count = one.view ∙ ap (λ (n : ℕ). view_of S (take n h)) count ∙ sym other.view

pub adds_few : (least next : ℕ) (view last : View) (lines later : List View) → AddsSight least view last next lines later → length later ≤ length lines + 1
adds_few least next view last lines later (inl added) = (let long = length-append lines (view ∷ []) in omega (arith, ap length added.0, long))
adds_few least next view last lines later (inr stays) = omega (arith, ap length stays.0)

-- the notes before this place have their lines, and what comes next has no fewer entries than the last line
pub record AreLined {N : Type 0} (S : State) (h : List Entry) (stands : N → List Entry) (notes : List N) (m least : ℕ) (lines : List View) : Type 0 where
  pub lined : (k : ℕ) (n : N) → k < m → slice_get notes k ≡ Some n → length (stands n) < length h → HasLine S (stands n) lines
  pub next : (k : ℕ) (n : N) → m ≤ k → slice_get notes k ≡ Some n → least ≤ length (stands n) + 1
  pub top : (least ≡ 0) ⊎ ((i : ℕ) × (w : View) × (slice_get lines i ≡ Some w) × (w.entries + 1 ≡ least))

pub lined_none : {N : Type 0} (S : State) (h : List Entry) (stands : N → List Entry) (notes : List N) → AreLined S h stands notes 0 0 []
lined_none S h stands notes = record {
  lined = λ k n low at below. absurd (omega (arith, low));
  next = λ k n le at. omega arith;
  top = inl refl;
}

module _ {N : Type 0} (S : State) (h : List Entry) (stands : N → List Entry) (notes : List N) (m least next : ℕ) (lines later : List View) (v last : View) (note : N)
    (here : slice_get notes m ≡ Some note) (is : v ≡ view_of S (stands note)) (sees : v.entries < length h → IsSightOf S h v)
    (rises : (k : ℕ) (n : N) → m ≤ k → slice_get notes k ≡ Some n → length (stands note) ≤ length (stands n))
    (whole : last.entries ≡ length h) (few : length lines ≤ m) (short : length notes ≤ 63)
    (each : (i : ℕ) (w : View) → slice_get lines i ≡ Some w → IsSightOf S h w) (on : AreLined S h stands notes m least lines) where
  count : v.entries ≡ length (stands note)
  count = ap (λ (w : View). w.entries) is ∙ entries_of S (stands note)

  same_note : (n : N) (k : ℕ) → k ≡ m → slice_get notes k ≡ Some n → note ≡ n
  same_note n k last at = (let there : slice_get notes m ≡ Some n = ap (slice_get notes) (sym last) ∙ at in cc (here, there))

  -- a view that is no line of its own is one already, or is not to be one
  stands_already : (n : N) → note ≡ n → length (stands n) < length h → (v.entries < least) ⊎ ((last.entries ≤ v.entries) ⊎ (63 ≤ length lines)) → HasLine S (stands n) lines
  stands_already n same below (inl low) = ⊎_elim
      (λ (none : least ≡ 0). absurd (omega (arith, none, low)))
      (λ (top : (i : ℕ) × (w : View) × (slice_get lines i ≡ Some w) × (w.entries + 1 ≡ least)).
      let next = on.next m note (omega arith) here in
      let equal : top.1.entries ≡ v.entries = omega (arith, top.3, low, next, count) in
      let less : v.entries < length h = (let e : length (stands note) ≡ length (stands n) = ap (λ (x : N). length (stands x)) same in omega (arith, count, e, below)) in
      subst (λ (x : N). HasLine S (stands x) lines) same (top.0, top.2 ∙ ap Some (same_sights S h top.1 v (each top.0 top.1 top.2) (sees less) equal ∙ is)))
      on.top
  stands_already n same below (inr (inl long)) = absurd (let e : length (stands note) ≡ length (stands n) = ap (λ (x : N). length (stands x)) same in omega (arith, long, below, whole, count, e))
  stands_already n same below (inr (inr full)) = absurd (let low = get_within notes m note here in omega (arith, full, few, short, low))

  pub lined_more : AddsSight least v last next lines later → AreLined S h stands notes (m + 1) next later
  lined_more (inl added) = record {
    lined = λ k n low at below. subst (HasLine S (stands n)) (sym added.0) (⊎_elim
        (λ (old : k < m). line_stays S (stands n) lines (v ∷ []) (on.lined k n old at below))
        (λ (new : k ≡ m). (length lines, get_next lines v ∙ ap Some (is ∙ ap (λ (x : N). view_of S (stands x)) (same_note n k new at))))
        (low_or_last k m low));
    next = λ k n le at. (let more = rises k n (omega (arith, le)) at in omega (arith, more, count, added.1));
    top = inr (length lines, v, subst (λ (l : List View). slice_get l (length lines) ≡ Some v) (sym added.0) (get_next lines v), sym added.1);
  }
  lined_more (inr stays) = record {
    lined = λ k n low at below. subst (HasLine S (stands n)) (sym stays.0) (⊎_elim
        (λ (old : k < m). on.lined k n old at below)
        (λ (new : k ≡ m). stands_already n (same_note n k new at) below stays.2)
        (low_or_last k m low));
    next = λ k n le at. (let more = on.next k n (omega (arith, le)) at in omega (arith, more, stays.1));
    top = subst (λ (l : List View). (next ≡ 0) ⊎ ((i : ℕ) × (w : View) × (slice_get l i ≡ Some w) × (w.entries + 1 ≡ next))) (sym stays.0)
        (subst (λ (n : ℕ). (n ≡ 0) ⊎ ((i : ℕ) × (w : View) × (slice_get lines i ≡ Some w) × (w.entries + 1 ≡ n))) (sym stays.1) on.top);
  }

-- with the last line all have theirs
pub lined_end : {N : Type 0} (S : State) (h : List Entry) (stands : N → List Entry) (notes : List N) (m least : ℕ) (lines : List View) (last : View) → length notes ≤ m → AreLined S h stands notes m least lines → HaveLines S h stands notes (lines ++ last ∷ [])
lined_end S h stands notes m least lines last all on k n at below =
    line_stays S (stands n) lines (last ∷ []) (on.lined k n (let low = get_within notes k n at in omega (arith, low, all)) at below)
