-- Going back.
use Rattle.std.proofs.Common.{◌≡◌, ℕ, ◌+◌, ◌<◌, ◌≤◌, inl, inr, List, [], ◌∷◌, length, refl, sym, ap, subst, ◌∙◌, arith}
use Rattle.std.proofs.lemmas.Bool.{cases_lt, lt-ltb, le-ltb}
use Rattle.desk_data.specs.Situation.{Situation}
use Rattle.desk_data.specs.PlanRows.{PlanRows}
use Rattle.desk_eval.specs.Evaluated.{Evaluated, after_change}
use Rattle.desk_eval.specs.Back.{back_from, back_to, IsAfter}

-- a past of no more than d plans stays
back_from-shallow : (d : ℕ) (I : Situation) (P : PlanRows) (past : List PlanRows) → length past ≤ d → back_from d I P past ≡ record { inst = I; rows = P; past = past }
back_from-shallow d I P [] few = refl
back_from-shallow d I P (before ∷ past) few = rw (le-ltb d (length (before ∷ past)) few) refl

-- of more, the first takes the plan's place
back_from-deep : (d : ℕ) (I : Situation) (P before : PlanRows) (past : List PlanRows) → d ≤ length past → back_from d I P (before ∷ past) ≡ back_from d I before past
back_from-deep d I P before past deep =
    let more : d < length (before ∷ past) = omega arith in
    rw (lt-ltb d (length (before ∷ past)) more) refl

pub back_to-shallow : (d : ℕ) (E : Evaluated) → length E.past ≤ d → back_to d E ≡ E
unfolding back_to
back_to-shallow d E few = back_from-shallow d E.inst E.rows E.past few

-- where the past is no deeper, all stays
pub back_to-itself : (E : Evaluated) → back_to (length E.past) E ≡ E
back_to-itself E = back_to-shallow (length E.past) E (omega arith)

-- a change is taken back
pub back_to-change : (d : ℕ) (E : Evaluated) (P : PlanRows) → d ≤ length E.past → back_to d (after_change E P) ≡ back_to d E
unfolding back_to
back_to-change d E P deep = back_from-deep d E.inst P E.rows E.past deep

-- one change back: E is the evaluator, and F that before its last change
pub back_to-before : (d : ℕ) (E F : Evaluated) → F.rows ∷ F.past ≡ E.past → F.inst ≡ E.inst → d < length E.past → back_to d E ≡ back_to d F
unfolding back_to
back_to-before d E F past inst deep =
    let more : d ≤ length F.past = omega (arith, ap length past, deep) in
    ap (back_from d E.inst E.rows) (sym past)
    ∙ back_from-deep d E.inst E.rows F.rows F.past more
    ∙ ap (λ (I : Situation). back_from d I F.rows F.past) (sym inst)

-- to go back and then further back is to go further back
back_from-twice : (d e : ℕ) (I : Situation) (P : PlanRows) (past : List PlanRows) → d ≤ e → back_to d (back_from e I P past) ≡ back_from d I P past
unfolding back_to
back_from-twice d e I P [] le = refl
back_from-twice d e I P (before ∷ past) le =
    elim (cases_lt e (length (before ∷ past))) [
      | inl deep ↦
          let more : d ≤ length past = omega (arith, le, deep) in
          ap (back_to d) (back_from-deep e I P before past (omega (arith, deep))) ∙ back_from-twice d e I before past le ∙ sym (back_from-deep d I P before past more)
      | inr few ↦ ap (back_to d) (back_from-shallow e I P (before ∷ past) few)
    ]

pub back_to-twice : (d e : ℕ) (E : Evaluated) → d ≤ e → back_to d (back_to e E) ≡ back_to d E
unfolding back_to
back_to-twice d e E le = back_from-twice d e E.inst E.rows E.past le

-- ---- some changes

pub after-itself : (n : ℕ) (E : Evaluated) → IsAfter n E E
after-itself n E = record { inst = refl; deep = omega arith; few = omega arith; back = back_to-itself E }

pub after-same : (n : ℕ) (E F : Evaluated) → F ≡ E → IsAfter n E F
after-same n E F same = subst (IsAfter n E) (sym same) (after-itself n E)

pub after-change : (E F : Evaluated) (P : PlanRows) → F ≡ after_change E P → IsAfter 1 E F
after-change E F P is =
    subst (IsAfter 1 E) (sym is)
    (record { inst = refl; deep = omega arith; few = omega arith; back = back_to-change (length E.past) E P (omega arith) ∙ back_to-itself E })

pub after-more : (n m : ℕ) (E F : Evaluated) → n ≤ m → IsAfter n E F → IsAfter m E F
after-more n m E F le h = record { inst = h.inst; deep = h.deep; few = let few = h.few in omega (arith, few, le); back = h.back }

pub after-then : (n m k : ℕ) (E F G : Evaluated) → n + m ≤ k → IsAfter n E F → IsAfter m F G → IsAfter k E G
after-then n m k E F G le first second =
    let deep = first.deep in
    let few = first.few in
    let deeper = second.deep in
    let more = second.few in
    record {
      inst = second.inst ∙ first.inst;
      deep = omega (arith, deep, deeper);
      few = omega (arith, few, more, le);
      back = sym (back_to-twice (length E.past) (length F.past) G deep) ∙ ap (back_to (length E.past)) second.back ∙ first.back;
    }
