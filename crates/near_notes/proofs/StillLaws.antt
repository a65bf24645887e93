-- Legs that were not touched.
use Rattle.std.proofs.Common.{◌≡◌, ℕ, ◌+◌, ◌<◌, inl, inr, Bool, true, false, eqb, List, [], ◌∷◌, ◌++◌, length, get_or, refl, sym, ap, subst, ◌∙◌, arith}
use Rattle.std.specs.List.{All, Contains}
use Rattle.std.proofs.lemmas.Bool.{cases_lt, ne_eqb, true≢false}
use Rattle.std.proofs.Math.Seq.{get_or-append_seam}
use Rattle.std.proofs.lemmas.List.{get_or_append_left, length-append}
use Rattle.std.proofs.lemmas.List.Elements.{All-nil, All-cons, All-append, Contains-append_left, Contains-append_right}
use Rattle.std.proofs.lemmas.List.Folds.{list_any_none}
use Rattle.desk_units.specs.declared.numbers.Leg.{Leg}
use Rattle.desk_units.specs.declared.numbers.Cabin.{Cabin}
use Rattle.desk_data.specs.Situation.{Situation, legs_of}
use Rattle.desk_data.specs.PlanRows.{PlanRows}
use Rattle.desk_data.specs.Valid.{IsPathOf}
use Rattle.near_moves.proofs.ListLaws.{contains_head}
use Rattle.near_memory.specs.Untouched.{is_on, HasSameRows, IsStill}
use Rattle.near_notes.specs.declared.changes.Changes.{Changes}
use Rattle.near_notes.specs.Changes.{AreAllStill, AreChanges, is_touched}

-- a leg that was touched is not on such a path
pub still-off : (touched : List Bool) (path : List (Leg × Cabin)) (x : ℕ) → AreAllStill touched path → is_touched touched x ≡ true → is_on path x ≡ false
still-off touched path x still on =
    list_any_none (λ (pair : Leg × Cabin). eqb pair.0.0 x) path
    (λ k d lt. ne_eqb (get_or path k d).0.0 x (λ same.
    true≢false (sym on ∙ sym (ap (is_touched touched) same) ∙ still k d lt)))

-- the legs of such a path have the same rows
pub still-rows : (I : Situation) (P Q : PlanRows) (changes : Changes) (path : List (Leg × Cabin)) → AreChanges I P Q changes → IsPathOf (legs_of I) path → AreAllStill changes.touched.items path → HasSameRows P Q path
still-rows I P Q changes path are within still =
    λ k d lt. sym (are.still (get_or path k d).0.0 (within k d lt) (still k d lt)).row

-- ---- one leg more

-- of the first n legs those that were touched are told, and listed
pub record AreSeen (I : Situation) (P Q : PlanRows) (n : ℕ) (touched : List Bool) (legs : List Leg) : Type 0 where
  pub all : length touched ≡ n
  pub still : (x : ℕ) → x < n → is_touched touched x ≡ false → IsStill P Q x
  pub listed : (x : ℕ) → x < n → is_touched touched x ≡ true → let leg : Leg = record { 0 = x } in Contains legs leg
  pub within : All (λ leg. leg.0 < legs_of I) legs

pub seen-first : (I : Situation) (P Q : PlanRows) → AreSeen I P Q 0 [] []
seen-first I P Q = record {
  all = refl;
  still = λ x lt is. absurd (omega (arith, lt));
  listed = λ x lt is. absurd (omega (arith, lt));
  within = All-nil (λ (leg : Leg). leg.0 < legs_of I);
}

at-front : (touched : List Bool) (t : Bool) (x : ℕ) → x < length touched → is_touched (touched ++ t ∷ []) x ≡ is_touched touched x
at-front touched t x lt = get_or_append_left touched (t ∷ []) false x lt

at-end : (touched : List Bool) (t : Bool) (n : ℕ) → length touched ≡ n → is_touched (touched ++ t ∷ []) n ≡ t
at-end touched t n long = subst (λ (k : ℕ). get_or (touched ++ t ∷ []) k false ≡ t) long (get_or-append_seam touched t [] false)

pub seen-touched : (I : Situation) (P Q : PlanRows) (n : ℕ) (touched : List Bool) (legs : List Leg) → AreSeen I P Q n touched legs → n < legs_of I → let leg : Leg = record { 0 = n } in AreSeen I P Q (n + 1) (touched ++ true ∷ []) (legs ++ leg ∷ [])
seen-touched I P Q n touched legs seen within =
    let leg : Leg = record { 0 = n } in
    let all = seen.all in
    record {
      all = omega (arith, all, length-append touched (true ∷ []));
      still = λ x lt is. elim (cases_lt x n) [
        | inl before ↦ seen.still x before (sym (at-front touched true x (omega (arith, before, all))) ∙ is)
        | inr past ↦
            let same : x ≡ n = omega (arith, lt, past) in
            absurd (true≢false (sym (at-end touched true n all) ∙ ap (is_touched (touched ++ true ∷ [])) (sym same) ∙ is))
      ];
      listed = λ x lt is. elim (cases_lt x n) [
        | inl before ↦ let it : Leg = record { 0 = x } in Contains-append_left legs (leg ∷ []) it (seen.listed x before (sym (at-front touched true x (omega (arith, before, all))) ∙ is))
        | inr past ↦
            let same : n ≡ x = omega (arith, lt, past) in
            subst (λ (y : ℕ). let it : Leg = record { 0 = y } in Contains (legs ++ leg ∷ []) it) same (Contains-append_right legs (leg ∷ []) leg (contains_head leg []))
      ];
      within = All-append (λ (l : Leg). l.0 < legs_of I) legs (leg ∷ []) seen.within (All-cons (λ (l : Leg). l.0 < legs_of I) leg [] within (All-nil (λ (l : Leg). l.0 < legs_of I)));
    }

pub seen-still : (I : Situation) (P Q : PlanRows) (n : ℕ) (touched : List Bool) (legs : List Leg) → AreSeen I P Q n touched legs → IsStill P Q n → AreSeen I P Q (n + 1) (touched ++ false ∷ []) legs
seen-still I P Q n touched legs seen own =
    let all = seen.all in
    record {
      all = omega (arith, all, length-append touched (false ∷ []));
      still = λ x lt is. elim (cases_lt x n) [
        | inl before ↦ seen.still x before (sym (at-front touched false x (omega (arith, before, all))) ∙ is)
        | inr past ↦
            let same : n ≡ x = omega (arith, lt, past) in
            subst (IsStill P Q) same own
      ];
      listed = λ x lt is. elim (cases_lt x n) [
        | inl before ↦ seen.listed x before (sym (at-front touched false x (omega (arith, before, all))) ∙ is)
        | inr past ↦
            let same : x ≡ n = omega (arith, lt, past) in
            absurd (true≢false (sym is ∙ ap (is_touched (touched ++ false ∷ [])) same ∙ at-end touched false n all))
      ];
      within = seen.within;
    }

-- all legs
pub seen-all : (I : Situation) (P Q : PlanRows) (changes : Changes) → AreSeen I P Q (legs_of I) changes.touched.items changes.legs.items → AreChanges I P Q changes
seen-all I P Q changes seen = record { all = seen.all; still = seen.still; listed = seen.listed; within = seen.within }
