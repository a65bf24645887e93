-- Words, one after another.
use Rattle.std.proofs.Common.{◌≡◌, ℕ, zero, suc, ◌+◌, List, arith, ap, sym, ◌∙◌, refl}
use Rattle.output_texts.specs.Draws.{next_state, state_after}

-- words after words
after_more : (state : List ℕ) (a b : ℕ) → state_after state (a + b) ≡ state_after (state_after state a) b
unfolding state_after
after_more state a zero = ap (state_after state) (let e : a + 0 ≡ a = omega arith in e)
after_more state a (suc b) = ap (state_after state) (let e : a + suc b ≡ suc (a + b) = omega arith in e) ∙ ap next_state (after_more state a b)

-- so many words more
pub after_step : (start state : List ℕ) (k n m : ℕ) → state ≡ state_after start k → k + m ≡ n → state_after state m ≡ state_after start n
after_step start state k n m is sum = ap (λ s. state_after s m) is ∙ sym (after_more start k m) ∙ ap (state_after start) sum
