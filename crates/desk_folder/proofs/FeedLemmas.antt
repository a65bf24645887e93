-- The first line feed that `memchr` finds.
use Rattle.std.proofs.Common.{◌≡◌, ℕ, ◌<◌, Bool, List, length, Option, Some, None, sym, ap, ◌∙◌, arith, position}
use Rattle.std.specs.List.{position_or_len}
use Rattle.std.proofs.lemmas.Bool.{lt-ltb, le-ltb, cond-true, cond-false, false_from_ne_true}
use Rattle.std.proofs.lemmas.List.Sums.{position_or_len_is}
use Rattle.memchr.specs.Find.{IsFirstByte}

-- the first place that passes, where there is one, is the position
pub first_is_position : (p : ℕ → Bool) (bytes : List ℕ) (r : Option ℕ) → IsFirstByte p bytes r → r ≡ position p bytes
first_is_position p bytes None none =
    let at_end : position_or_len p bytes ≡ length bytes = position_or_len_is p bytes (length bytes) 0 (omega arith) (λ k lt. false_from_ne_true _ (none k (omega arith) lt)) (λ lt. absurd (omega arith)) in
    sym (cond-false _ (Some (position_or_len p bytes)) None (le-ltb (position_or_len p bytes) (length bytes) (omega arith)))
first_is_position p bytes (Some k) first =
    let high : k < length bytes = first.0.high in
    let there : position_or_len p bytes ≡ k = position_or_len_is p bytes k 0 (omega arith) (λ j lt. false_from_ne_true _ (first.0.before j (omega arith) lt)) (λ lt. first.1) in
    ap Some (sym there) ∙ sym (cond-true _ (Some (position_or_len p bytes)) None (lt-ltb (position_or_len p bytes) (length bytes) (omega arith)))
