-- The steps by which a tally is made: where a list of legs is put among others, and what is counted entry by entry.
use Rattle.std.proofs.Common.{◌≡◌, ℕ, ◌+◌, ◌<◌, ◌≤◌, true, false, List, [], ◌∷◌, ◌++◌, length, get_or, take, drop, map, refl, sym, ap, subst, ◌∙◌, arith, Bor}
use Rattle.std.specs.Prelude.{Option, fold, sum_by}
use Rattle.std.specs.List.{All, AllPairs, filter_map, insert, prefix_len, range_with_len}
use Rattle.std.specs.declared.cmp.Ordering.TheVariants.{Less, Equal, Greater}
use Rattle.std.proofs.lemmas.Bool.{eq-eqb, ne_eqb}
use Rattle.std.proofs.lemmas.List.{append-nil, length-map, get_or-map, map-append, take-map, drop-map, take_more, map_push, take_all}
use Rattle.std.proofs.lemmas.List.Edits.{insert_end}
use Rattle.std.proofs.lemmas.List.Elements.{All-more, filter_map-append}
use Rattle.std.proofs.lemmas.List.FromFn.{map-range_with_len_more}
use Rattle.std.proofs.lemmas.List.Sums.{fold-append, prefix_len_is, sum_by_more_le, sum_by-take-le}
use Rattle.desk_units.specs.declared.numbers.Cabin.{Cabin}
use Rattle.desk_units.specs.declared.numbers.Leg.{Leg}
use Rattle.desk_data.specs.declared.row.Row.{Row}
use Rattle.desk_data.specs.declared.row.Group.{Group}
use Rattle.desk_data.specs.PlanRows.{path_cmp}
use Rattle.desk_data.specs.Progress.{entry_of, with_list}
use Rattle.desk_data.specs.Situation.{PassengersGone, carried_gone}
use Rattle.desk_data.proofs.CountLaws.{at_frozen, carried_all}
use Rattle.desk_data.proofs.GoneLists.{IsBefore, lists-ascend, with_list-at, with_list-last, with_list-there}

-- the lists of pairs that are lent
abbrev pub lent : List (Bor (List (Leg × Cabin))) → List (List (Leg × Cabin))
lent lists = map (λ other. other.now) lists

-- ---- the place of a list of pairs among others

lent_at : (lists : List (Bor (List (Leg × Cabin)))) (n : ℕ) (d : Bor (List (Leg × Cabin))) → n < length lists → get_or (lent lists) n [] ≡ (get_or lists n d).now
lent_at lists n d within = get_or-map (λ (other : Bor (List (Leg × Cabin))). other.now) lists n d [] within

length_lent : (lists : List (Bor (List (Leg × Cabin)))) → length (lent lists) ≡ length lists
length_lent lists = length-map lists (λ (other : Bor (List (Leg × Cabin))). other.now)

pub place_after : (lists : List (Bor (List (Leg × Cabin)))) (one : List (Leg × Cabin)) (n : ℕ) (d : Bor (List (Leg × Cabin))) → AllPairs IsBefore (lent lists) → n < length lists → All (λ other. IsBefore other one) (take n (lent lists)) → path_cmp (get_or lists n d).now one ≡ Greater → with_list (lent lists) one ≡ insert (lent lists) n one
place_after lists one n d up within before after =
    with_list-at (lent lists) one n up (omega (arith, within, length_lent lists)) before (ap (λ (other : List (Leg × Cabin)). path_cmp other one) (lent_at lists n d within) ∙ after)

pub place_there : (lists : List (Bor (List (Leg × Cabin)))) (one : List (Leg × Cabin)) (n : ℕ) (d : Bor (List (Leg × Cabin))) → AllPairs IsBefore (lent lists) → n < length lists → All (λ other. IsBefore other one) (take n (lent lists)) → path_cmp (get_or lists n d).now one ≡ Equal → with_list (lent lists) one ≡ lent lists
place_there lists one n d up within before same =
    with_list-there (lent lists) one n up (omega (arith, within, length_lent lists)) before (ap (λ (other : List (Leg × Cabin)). path_cmp other one) (lent_at lists n d within) ∙ same)

pub place_more : (lists : List (Bor (List (Leg × Cabin)))) (one : List (Leg × Cabin)) (n : ℕ) (d : Bor (List (Leg × Cabin))) → n < length lists → All (λ other. IsBefore other one) (take n (lent lists)) → path_cmp (get_or lists n d).now one ≡ Less → All (λ other. IsBefore other one) (take (n + 1) (lent lists))
place_more lists one n d within before less =
    All-more (λ (other : List (Leg × Cabin)). IsBefore other one) (lent lists) n [] (omega (arith, within, length_lent lists)) before (ap (λ (other : List (Leg × Cabin)). path_cmp other one) (lent_at lists n d within) ∙ less)

pub place_last : (lists : List (Bor (List (Leg × Cabin)))) (one : List (Leg × Cabin)) (n : ℕ) → length lists ≤ n → All (λ other. IsBefore other one) (take n (lent lists)) → with_list (lent lists) one ≡ insert (lent lists) (length lists) one
place_last lists one n past before =
    let whole : take n (lent lists) ≡ lent lists = take_all n (lent lists) (omega (arith, past, length_lent lists)) in
    with_list-last (lent lists) one (subst (All (λ (other : List (Leg × Cabin)). IsBefore other one)) whole before)
    ∙ sym (insert_end (lent lists) one)
    ∙ ap (λ (k : ℕ). insert (lent lists) k one) (length_lent lists)

pub lent_insert : (lists : List (Bor (List (Leg × Cabin)))) (n : ℕ) (one : Bor (List (Leg × Cabin))) → lent (insert lists n one) ≡ insert (lent lists) n one.now
lent_insert lists n one =
    let now = λ (other : Bor (List (Leg × Cabin))). other.now in
    map-append now (take n lists) (one ∷ drop n lists)
    ∙ ap (λ (front : List (List (Leg × Cabin))). front ++ (one.now ∷ map now (drop n lists))) (sym (take-map now n lists))
    ∙ ap (λ (back : List (List (Leg × Cabin))). take n (map now lists) ++ (one.now ∷ back)) (sym (drop-map now n lists))

-- ---- lists one by one

-- lists that stand in order stay so as others are put among them
pub still_ascends : (lists start ones : List (List (Leg × Cabin))) → lists ≡ fold with_list start ones → AllPairs IsBefore start → AllPairs IsBefore lists
still_ascends lists start ones is up = subst (AllPairs IsBefore) (sym is) (lists-ascend start ones up)

-- ---- passengers group by group

-- the legs at the start of a path that are frozen
pub front_is : (frozen : List (Option Row)) (path : List (Leg × Cabin)) (n : ℕ) (d : Leg × Cabin) → n ≤ length path → ((k : ℕ) → k < n → at_frozen frozen (get_or path k d) ≡ true) → (n < length path → at_frozen frozen (get_or path n d) ≡ false) → n ≡ prefix_len (at_frozen frozen) path
front_is frozen path n d within before stops = sym (prefix_len_is (at_frozen frozen) path n d within before stops)

pub carried_so_far : (frozen : List (Option Row)) (groups : List Group) (legs : List (Leg × Cabin)) (i : ℕ) → sum_by (λ group. group.count) groups ≤ 1000 → carried_gone frozen (take i groups) legs ≤ 1000
carried_so_far frozen groups legs i most = let all = carried_all frozen (take i groups) legs in let less = sum_by-take-le (λ (group : Group). group.count) groups i in omega (arith, all, less, most)

pub carried_and_one : (frozen : List (Option Row)) (groups : List Group) (legs : List (Leg × Cabin)) (i : ℕ) (one : Group) → i < length groups → one ≡ get_or groups i one → sum_by (λ group. group.count) groups ≤ 1000 → carried_gone frozen (take i groups) legs + one.count ≤ 1000
carried_and_one frozen groups legs i one within is most =
    let all = carried_all frozen (take i groups) legs in
    let sum = sum_by_more_le (λ (group : Group). group.count) groups i one within in
    let same : (get_or groups i one).count ≡ one.count = ap (λ (group : Group). group.count) (sym is) in
    omega (arith, all, sum, same, most)

-- ---- entries list by list

entries_more : (count : List (Leg × Cabin) → ℕ) (lists : List (Bor (List (Leg × Cabin)))) (i : ℕ) (d : Bor (List (Leg × Cabin))) → i < length lists → take (i + 1) (lent lists) ≡ take i (lent lists) ++ (get_or lists i d).now ∷ []
entries_more count lists i d within = take_more (lent lists) i [] (omega (arith, within, length_lent lists)) ∙ ap (λ (one : List (Leg × Cabin)). take i (lent lists) ++ one ∷ []) (lent_at lists i d within)

-- one that some have flown
pub entry_kept : (count : List (Leg × Cabin) → ℕ) (lists : List (Bor (List (Leg × Cabin)))) (i : ℕ) (d : Bor (List (Leg × Cabin))) (entries : List PassengersGone) (n : ℕ) → i < length lists → entries ≡ filter_map (λ legs. entry_of (count legs) legs) (take i (lent lists)) → n ≡ count (get_or lists i d).now → 1 ≤ n → entries ++ ((get_or lists i d).now, n) ∷ [] ≡ filter_map (λ legs. entry_of (count legs) legs) (take (i + 1) (lent lists))
entry_kept count lists i d entries n within so_far is some =
    let says = λ (legs : List (Leg × Cabin)). entry_of (count legs) legs in
    let legs = (get_or lists i d).now in
    let differs : count legs ≡ 0 → ⊥ = λ none. absurd (omega (arith, is, some, none)) in
    let one : filter_map says (legs ∷ []) ≡ (legs, count legs) ∷ [] = rw (ne_eqb (count legs) 0 differs) refl in
    sym
    (ap (filter_map says) (entries_more count lists i d within)
    ∙ filter_map-append says (take i (lent lists)) (legs ∷ [])
    ∙ ap (λ (more : List PassengersGone). filter_map says (take i (lent lists)) ++ more) one
    ∙ ap (λ (front : List PassengersGone). front ++ (legs, count legs) ∷ []) (sym so_far)
    ∙ ap (λ (k : ℕ). entries ++ (legs, k) ∷ []) (sym is))

-- and one that none have
pub entry_skipped : (count : List (Leg × Cabin) → ℕ) (lists : List (Bor (List (Leg × Cabin)))) (i : ℕ) (d : Bor (List (Leg × Cabin))) (entries : List PassengersGone) (n : ℕ) → i < length lists → entries ≡ filter_map (λ legs. entry_of (count legs) legs) (take i (lent lists)) → n ≡ count (get_or lists i d).now → n < 1 → entries ≡ filter_map (λ legs. entry_of (count legs) legs) (take (i + 1) (lent lists))
entry_skipped count lists i d entries n within so_far is none =
    let says = λ (legs : List (Leg × Cabin)). entry_of (count legs) legs in
    let legs = (get_or lists i d).now in
    let zero_count : count legs ≡ 0 = omega (arith, is, none) in
    let one : filter_map says (legs ∷ []) ≡ [] = rw (eq-eqb (count legs) 0 zero_count) refl in
    so_far
    ∙ sym
    (ap (filter_map says) (entries_more count lists i d within)
    ∙ filter_map-append says (take i (lent lists)) (legs ∷ [])
    ∙ ap (λ (more : List PassengersGone). filter_map says (take i (lent lists)) ++ more) one
    ∙ append-nil (filter_map says (take i (lent lists))))

-- ---- reservations one by one

pub tallies_more : {V : Type 0} (items : V → List PassengersGone) (f : ℕ → List PassengersGone) (old : List V) (new : V) (r : ℕ) → map items old ≡ map f (range_with_len 0 r) → items new ≡ f r → map items (old ++ new ∷ []) ≡ map f (range_with_len 0 (r + 1))
tallies_more items f old new r so_far is =
    map_push items old new
    ∙ ap (λ (entries : List PassengersGone). map items old ++ entries ∷ []) is
    ∙ ap (λ (front : List (List PassengersGone)). front ++ f r ∷ []) so_far
    ∙ sym (map-range_with_len_more f 0 r r (omega arith))

-- lists that stood in order, and others put among them
pub lists_join : (lists first were left : List (List (Leg × Cabin))) → lists ≡ fold with_list first left → first ≡ fold with_list [] were → lists ≡ fold with_list [] (were ++ left)
lists_join lists first were left last is = last ∙ ap (λ (start : List (List (Leg × Cabin))). fold with_list start left) is ∙ sym (fold-append with_list [] were left)
