-- The steps of a move, as a loop reads them.
use Rattle.std.proofs.Common.{◌≡◌, ℕ, zero, suc, ◌+◌, ◌<◌, ◌≤◌, List, [], ◌∷◌, ◌++◌, length, Result, Ok, Err, refl, sym, ap, subst, ◌∙◌, arith, append_assoc}
use Rattle.std.specs.Result.{IsErr, IsErrAnd}
use Rattle.std.proofs.lemmas.List.{append-nil}
use Rattle.file_rows.specs.declared.cause.Cause.{Cause}
use Rattle.desk_text.specs.declared.fault.RowFault.{RowFault}
use Rattle.desk_text.specs.declared.fault.RowFault.TheVariants as row_fault
use Rattle.desk_text.specs.Rows.{◌>>=◌}
use Rattle.desk_journal.specs.declared.rows.NamedStep.{NamedStep}
use Rattle.desk_journal.specs.Tokens.{TokenReaders, Reading, TakesInMemory}
use Rattle.desk_journal.specs.Steps.{step_at, before_all, steps_within, steps_of, steps_from, StepsAre}
use Rattle.desk_journal.proofs.ShortLemmas.{Leaves, leaves-step}

module _ (T : TokenReaders) where
  same_by : (n m most : ℕ) (step : Reading NamedStep) → Leaves most step → ((rest : List (List ℕ)) → length rest ≤ most → steps_within T n rest ≡ steps_within T m rest)
      → (step >>= λ s. before_all s.0 (steps_within T n s.1)) ≡ (step >>= λ s. before_all s.0 (steps_within T m s.1))
  same_by n m most (Ok s) short same = ap (before_all s.0) (same s.1 short)
  same_by n m most (Err cause) short same = refl

  -- a bound that is no less than the tokens makes no difference
  any_bound : (n m : ℕ) (tokens : List (List ℕ)) → length tokens ≤ n → length tokens ≤ m → steps_within T n tokens ≡ steps_within T m tokens
  unfolding steps_within
  any_bound n m [] hn hm = refl
  any_bound zero m (word ∷ tokens) hn hm = absurd (omega arith)
  any_bound (suc n) zero (word ∷ tokens) hn hm = absurd (omega arith)
  any_bound (suc n) (suc m) (word ∷ tokens) hn hm = same_by n m (length tokens) (step_at T word tokens) (leaves-step T word tokens) (λ rest short. any_bound n m rest (omega arith) (omega arith))

  -- no tokens are no steps
  pub no_steps : steps_of T [] ≡ Ok []
  unfolding steps_of steps_within
  no_steps = refl

  by_its_length : (most : ℕ) (step : Reading NamedStep) → Leaves most step → (step >>= λ s. before_all s.0 (steps_within T most s.1)) ≡ steps_from T step
  unfolding steps_of
  by_its_length most (Ok s) short = ap (before_all s.0) (any_bound most (length s.1) s.1 short (omega arith))
  by_its_length most (Err cause) short = refl

  -- the first step, and the steps of the tokens after it
  pub first_step : (word : List ℕ) (tokens : List (List ℕ)) → steps_of T (word ∷ tokens) ≡ steps_from T (step_at T word tokens)
  unfolding steps_of steps_within
  first_step word tokens = by_its_length (length tokens) (step_at T word tokens) (leaves-step T word tokens)

-- these steps, and after them those that are read
abbrev pub prepended : List NamedStep → Result (List NamedStep) Cause → Result (List NamedStep) Cause
prepended before (Ok steps) = Ok (before ++ steps)
prepended before (Err cause) = Err cause

one_more : (before : List NamedStep) (step : NamedStep) (others : Result (List NamedStep) Cause) → prepended before (before_all step others) ≡ prepended (before ++ step ∷ []) others
one_more before step (Ok steps) = ap (λ steps. Ok steps) (sym (append_assoc before (step ∷ []) steps))
one_more before step (Err cause) = refl

module _ (T : TokenReaders) (before : List NamedStep) (total : Result (List NamedStep) Cause) where
  -- no tokens are left
  pub all_read : (tokens : List (List ℕ)) → tokens ≡ [] → prepended before (steps_of T tokens) ≡ total → total ≡ Ok before
  all_read tokens none so_far = sym so_far ∙ ap (λ left. prepended before (steps_of T left)) none ∙ ap (prepended before) (no_steps T) ∙ ap (λ steps. Ok steps) (append-nil before)

  module _ (all : List (List ℕ)) (word : List ℕ) (tokens : List (List ℕ)) (first : all ≡ word ∷ tokens) (so_far : prepended before (steps_of T all) ≡ total) where
    abbrev after : Reading NamedStep → Result (List NamedStep) Cause
    after step = prepended before (steps_from T step)

    one_step : after (step_at T word tokens) ≡ total
    one_step = sym (ap (λ left. prepended before (steps_of T left)) first ∙ ap (prepended before) (first_step T word tokens)) ∙ so_far

    -- a step is read
    pub goes_on : (step : NamedStep) (rest : List (List ℕ)) → step_at T word tokens ≡ Ok (step, rest) → prepended (before ++ step ∷ []) (steps_of T rest) ≡ total
    goes_on step rest e = sym (ap after e ∙ one_more before step (steps_of T rest)) ∙ one_step

    -- a step is refused
    stops : (cause : Cause) → step_at T word tokens ≡ Err cause → total ≡ Err cause
    stops cause e = sym one_step ∙ ap after e

    refused_by : {Answer : Type 0} (steps : Answer → List NamedStep) (fault : RowFault) (rest : List (List ℕ)) → TakesInMemory {X = NamedStep} (Err fault) rest (step_at T word tokens) → StepsAre steps (Err fault) total
    refused_by steps (row_fault.Refused cause) rest e = stops cause e
    refused_by steps row_fault.Memory rest e = tt

    -- a step that is refused, or for which there is no memory, ends the reading
    pub refused : {Answer : Type 0} (steps : Answer → List NamedStep) (result : Result Answer RowFault) (fault : RowFault) (rest : List (List ℕ)) → IsErr result × IsErrAnd result (λ e. e ≡ fault) → TakesInMemory {X = NamedStep} (Err fault) rest (step_at T word tokens) → StepsAre steps result total
    refused steps (Ok answer) fault rest failed e = let wrong = failed.0 in absurd cc
    refused steps (Err other) fault rest failed e = subst (λ (f : RowFault). StepsAre steps (Err f) total) (sym failed.1) (refused_by steps fault rest e)

    -- a step leaves fewer tokens
    pub fewer : (step : NamedStep) (rest : List (List ℕ)) → step_at T word tokens ≡ Ok (step, rest) → length rest < length all
    fewer step rest e =
        let short : length rest ≤ length tokens = subst (Leaves (length tokens)) e (leaves-step T word tokens) in
        let count : length all ≡ length tokens + 1 = ap length first ∙ omega arith in
        omega arith
