-- Plans that have the same, place by place.
use Rattle.std.proofs.Common.{◌≡◌, ℕ, ◌+◌, ◌<◌, ◌≤◌, inl, inr, List, length, get_or, sym, subst, ◌∙◌, arith}
use Rattle.std.proofs.lemmas.List.{ext_get_or}
use Rattle.std.proofs.lemmas.Bool.{cases_lt}

-- two lists have the same in the places up to n
abbrev pub AreSameUpTo : {X : Type 0} → X → List X → List X → ℕ → Type 0
AreSameUpTo d one other n = (k : ℕ) → k < n → get_or one k d ≡ get_or other k d

pub same-none : {X : Type 0} (d : X) (one other : List X) → AreSameUpTo d one other 0
same-none d one other = λ k lt. absurd (omega (arith, lt))

pub same-more : {X : Type 0} (d : X) (one other : List X) (n : ℕ) → AreSameUpTo d one other n → get_or one n d ≡ get_or other n d → AreSameUpTo d one other (n + 1)
same-more d one other n same is = λ k lt.
    elim (cases_lt k n) [
      | inl before ↦ same k before
      | inr at_least ↦
          let at : k ≡ n = omega (arith, lt, at_least) in
          subst (λ (j : ℕ). get_or one j d ≡ get_or other j d) (sym at) is
    ]

pub same-all : {X : Type 0} (d : X) (one other : List X) (n k : ℕ) → length one ≡ n → length other ≡ n → n ≤ k → AreSameUpTo d one other k → one ≡ other
same-all d one other n k long long_too all same =
    ext_get_or d one other (long ∙ sym long_too) (λ i lt. same i (omega (arith, lt, long, all)))
