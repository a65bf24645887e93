-- The report of a recovery says why its last search ended.
use Rattle.std.proofs.Common.{◌≡◌, ℕ, ◌≤◌, Bool, true, false, List, [], ◌∷◌, ◌++◌, length, refl, sym, subst, ◌∙◌, arith}
use Rattle.std.specs.Prelude.{Option, None, Some, IsSome}
use Rattle.std.proofs.lemmas.Bool.{true≢false, false≢true}
use Rattle.day_orders.specs.declared.orders.Batch.{Batch}
use Rattle.desk_data.specs.Situation.{Situation}
use Rattle.desk_data.specs.declared.broken.Broken.{Broken}
use Rattle.desk_model.specs.declared.answer.Event.TheVariants as event
use Rattle.desk_model.specs.declared.answer.Entry.{Entry}
use Rattle.desk_model.specs.States.{State, opening}
use Rattle.desk_model.specs.Histories.{state, entry_of}
use Rattle.near_moves.specs.Descent.{IsQuiet, end_by, is_spent, next_proposal, descent, recovery_after}
use Rattle.near_moves.proofs.DescentLaws.{next-quiet, descent-ends}
use Rattle.desk_tasks.specs.Recover.{search_end, IsSearchEnd}

-- ---- the last search

-- after a recovery of a batch or more nothing more is proposed
pub recovery-rests : (most : ℕ) (S : State) (h : List Entry) (batches : List Batch) → 1 ≤ length batches → next_proposal most S (recovery_after most S h batches) ≡ None
unfolding recovery_after
recovery-rests most S h [] some = absurd (omega (arith, some))
recovery-rests most S h (B ∷ []) some = descent-ends most S (h ++ entry_of (state S h) 0 (event.Batch B) ∷ [])
recovery-rests most S h (B ∷ C ∷ batches) some = recovery-rests most S (descent most S (h ++ entry_of (state S h) 0 (event.Batch B) ∷ [])) (C ∷ batches) (omega arith)

ends_by : (I : Situation) (most : ℕ) (h : List Entry) (b : Option Broken) (spent : Bool) → (state (opening I) h).broken ≡ b → is_spent most h ≡ spent → (b ≡ None → spent ≡ false → IsQuiet (state (opening I) h)) → IsSearchEnd I most h (end_by b spent)
ends_by I most h None true is so quiet = record {
  budget = (λ e. (is, so), λ e. refl);
  quiet = (λ e. absurd cc, λ q. absurd (true≢false (sym so ∙ q.1)));
  unreported = (λ e. absurd cc, λ some. absurd (let none : IsSome (let o : Option Broken = None in o) = subst IsSome is some in false≢true none));
}
ends_by I most h None false is so quiet = record {
  budget = (λ e. absurd cc, λ q. absurd (false≢true (sym so ∙ q.1)));
  quiet = (λ e. (quiet refl refl, so), λ q. refl);
  unreported = (λ e. absurd cc, λ some. absurd (let none : IsSome (let o : Option Broken = None in o) = subst IsSome is some in false≢true none));
}
ends_by I most h (Some item) spent is so quiet = record {
  budget = (λ e. absurd cc, λ q. absurd (let no : Some item ≡ None = sym is ∙ q.0 in cc));
  quiet = (λ e. absurd cc, λ q. absurd (let no : Some item ≡ None = sym is ∙ q.0.planned in cc));
  unreported = (λ e. subst IsSome (sym is) refl, λ some. refl);
}

pub search-ended : (I : Situation) (most : ℕ) (h : List Entry) → next_proposal most (opening I) h ≡ None → IsSearchEnd I most h (search_end I most h)
unfolding search_end
search-ended I most h rests =
    ends_by I most h (state (opening I) h).broken (is_spent most h) refl refl (λ planned unspent. next-quiet most (opening I) h rests planned unspent)
