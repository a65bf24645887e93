-- The last row that says anything.
use Rattle.std.proofs.Common.{◌≡◌, List, [], ◌∷◌, ◌++◌, Option, Some, None, refl, sym, ap, ◌∙◌}
use Rattle.std.specs.Option.{option_or}
use Rattle.std.specs.List.{All}
use Rattle.std.proofs.lemmas.List.Elements.{All-head, All-tail}
use Rattle.day_orders.specs.LastOrders.{last_word}

pub or_none : {Y : Type 0} (o : Option Y) → option_or o None ≡ o
or_none None = refl
or_none (Some y) = refl

pub or_assoc : {Y : Type 0} (a b c : Option Y) → option_or (option_or a b) c ≡ option_or a (option_or b c)
or_assoc None b c = refl
or_assoc (Some y) b c = refl

-- the later rows decide before the earlier ones
pub last_word-append : {X Y : Type 0} (says : X → Option Y) (xs ys : List X) → last_word says (xs ++ ys) ≡ option_or (last_word says ys) (last_word says xs)
unfolding last_word
last_word-append says [] ys = sym (or_none (last_word says ys))
last_word-append says (x ∷ xs) ys =
    ap (λ o. option_or o (says x)) (last_word-append says xs ys) ∙ or_assoc (last_word says ys) (last_word says xs) (says x)

pub last_word-one : {X Y : Type 0} (says : X → Option Y) (x : X) → last_word says (x ∷ []) ≡ says x
unfolding last_word
last_word-one says x = refl

pub last_word-nil : {X Y : Type 0} (says : X → Option Y) → last_word says [] ≡ None
unfolding last_word
last_word-nil says = refl

-- one more row
pub last_word-push : {X Y : Type 0} (says : X → Option Y) (xs : List X) (x : X) → last_word says (xs ++ x ∷ []) ≡ option_or (says x) (last_word says xs)
last_word-push says xs x = last_word-append says xs (x ∷ []) ∙ ap (λ o. option_or o (last_word says xs)) (last_word-one says x)

-- where no row says anything
pub last_word_none : {X Y : Type 0} (says : X → Option Y) (xs : List X) → All (λ x. says x ≡ None) xs → last_word says xs ≡ None
unfolding last_word
last_word_none says [] h = refl
last_word_none says (x ∷ xs) h =
    ap (λ o. option_or o (says x)) (last_word_none says xs (All-tail (λ y. says y ≡ None) x xs h)) ∙ All-head (λ y. says y ≡ None) x xs h

-- where two readings agree on each row
pub last_word_agree : {X Y : Type 0} (says tells : X → Option Y) (xs : List X) → All (λ x. says x ≡ tells x) xs → last_word says xs ≡ last_word tells xs
unfolding last_word
last_word_agree says tells [] h = refl
last_word_agree says tells (x ∷ xs) h =
    ap (λ o. option_or o (says x)) (last_word_agree says tells xs (All-tail (λ y. says y ≡ tells y) x xs h)) ∙ ap (λ o. option_or (last_word tells xs) o) (All-head (λ y. says y ≡ tells y) x xs h)
