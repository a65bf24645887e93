-- The legs of each aircraft at its place.
use Rattle.std.proofs.Common.{◌≡◌, ℕ, ◌<◌, List, [], length, get_or, map, sym, ap, ◌∙◌, arith}
use Rattle.std.proofs.lemmas.List.{get_or-map, length-map}
use Rattle.desk_rules.specs.Numbers.{numbers}
use Rattle.desk_rules.proofs.HourLaws.{length-numbers}
use Rattle.desk_model.proofs.GroupPlans.{numbers-at}

pub lists-long : {X : Type 0} (f : X → List ℕ) (g : ℕ → List ℕ) (xs : List X) (n : ℕ) → map f xs ≡ map g (numbers n) → length xs ≡ n
lists-long f g xs n are = sym (length-map xs f) ∙ ap length are ∙ length-map (numbers n) g ∙ length-numbers n

pub list-at : {X : Type 0} (f : X → List ℕ) (g : ℕ → List ℕ) (xs : List X) (n p : ℕ) (d : X) → map f xs ≡ map g (numbers n) → p < n → f (get_or xs p d) ≡ g p
list-at f g xs n p d are lt =
    let long : length xs ≡ n = lists-long f g xs n are in
    sym (get_or-map f xs p d [] (omega (arith, long, lt)))
    ∙ ap (λ (ys : List (List ℕ)). get_or ys p []) are
    ∙ get_or-map g (numbers n) p 0 [] (rw length-numbers lt)
    ∙ ap g (numbers-at n p 0 lt)
