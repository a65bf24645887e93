-- What is taken in one call after another.
use Rattle.std.proofs.Common.{◌≡◌, List, ◌++◌, ap, ◌∙◌, append_assoc}

pub two_taken : {X : Type 0} (none one two a b : List X) → one ≡ none ++ a → two ≡ one ++ b → two ≡ none ++ (a ++ b)
two_taken {X} none one two a b first second = second ∙ ap (λ (xs : List X). xs ++ b) first ∙ append_assoc none a b

pub three_taken : {X : Type 0} (none one two all a b c : List X) → one ≡ none ++ a → two ≡ one ++ b → all ≡ two ++ c → all ≡ none ++ (a ++ (b ++ c))
three_taken {X} none one two all a b c first second third =
    two_taken none two all (a ++ b) c (two_taken none one two a b first second) third ∙ ap (λ (xs : List X). none ++ xs) (append_assoc a b c)
