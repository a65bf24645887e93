-- What pages keep of a plan, where a page is made anew or put back.
use Rattle.std.proofs.Common.{◌≡◌, ◌≢◌, ℕ, zero, suc, ◌+◌, ◌*◌, ◌<◌, ◌≤◌, List, [], ◌∷◌, ◌++◌, length, get_or, set, take, drop, refl, sym, subst, ◌∙◌, ap, arith, length-append, append-nil}
use Rattle.std.specs.List.{All}
use Rattle.std.proofs.lemmas.List.{get_or-append-add, get_or_append_left, get_or-set_other, length-set, take_more, take_all, drop_all}
use Rattle.std.proofs.lemmas.List.Elements.{All-append, All-take, All-drop, All-set}
use Rattle.desk_data.specs.declared.row.Row.{Row}
use Rattle.desk_data.specs.declared.row.Row.TheVariants.{Cancelled}
use Rattle.desk_data.specs.declared.row.Group.{Group}
use Rattle.desk_data.specs.PlanRows.{PlanRows, IsRow, AreGroups, IsSound, row_at, groups_at, with_row, with_groups}
use Rattle.paged_list.specs.Pages.{PageItems, with_former_page}

-- a list with a page in its place: what is true of both is true of it
all_with_page : {X : Type 0} (P : X → Type 0) (xs : List X) (page : PageItems X) → All P xs → All P page.items → All P (with_former_page xs page)
all_with_page P xs page all on_page =
    All-append P (take (page.number * 16) xs ++ page.items) (drop (page.number * 16 + length page.items) xs)
    (All-append P (take (page.number * 16) xs) page.items (All-take P (page.number * 16) xs all) on_page)
    (All-drop P (page.number * 16 + length page.items) xs all)

-- and the other way round
all_between : {X : Type 0} (P : X → Type 0) (front items back : List X) → All P ((front ++ items) ++ back) → All P items
all_between P front items back all k d lt =
    let within : length front + k < length (front ++ items) = omega (arith, lt, length-append front items) in
    let is : get_or ((front ++ items) ++ back) (length front + k) d ≡ get_or items k d =
    get_or_append_left (front ++ items) back d (length front + k) within ∙ get_or-append-add front items k d in
    subst P is (all (length front + k) d (omega (arith, within, length-append (front ++ items) back)))

pub all_on_page : {X : Type 0} (P : X → Type 0) (new old : List X) (page : PageItems X) → with_former_page new page ≡ old → All P old → All P page.items
all_on_page {X = X} P new old page back all =
    all_between P (take (page.number * 16) new) page.items (drop (page.number * 16 + length page.items) new)
    (subst (λ (xs : List X). All P xs) (sym back) all)

-- a sound plan stays sound
pub row_sound : (P : PlanRows) (rows : List Row) (x : ℕ) (row : Row) → IsSound P → rows ≡ set P.rows x row → IsRow row → IsSound (record P { rows = rows })
row_sound P rows x row sound is fits = record {
  rows = subst (λ (all : List Row). All IsRow all) (sym is) (All-set IsRow P.rows x row fits sound.rows);
  groups = sound.groups;
}

pub groups_sound : (P : PlanRows) (groups : List (List Group)) (r : ℕ) (others : List Group) → IsSound P → groups ≡ set P.groups r others → AreGroups others → IsSound (record P { groups = groups })
groups_sound P groups r others sound is fits = record {
  rows = sound.rows;
  groups = subst (λ (all : List (List Group)). All AreGroups all) (sym is) (All-set AreGroups P.groups r others fits sound.groups);
}

pub rows_back_sound : (P : PlanRows) (rows : List Row) (page : PageItems Row) → IsSound P → rows ≡ with_former_page P.rows page → All IsRow page.items → IsSound (record P { rows = rows })
rows_back_sound P rows page sound is on_page = record {
  rows = subst (λ (all : List Row). All IsRow all) (sym is) (all_with_page IsRow P.rows page sound.rows on_page);
  groups = sound.groups;
}

pub groups_back_sound : (P : PlanRows) (groups : List (List Group)) (page : PageItems (List Group)) → IsSound P → groups ≡ with_former_page P.groups page → All AreGroups page.items → IsSound (record P { groups = groups })
groups_back_sound P groups page sound is on_page = record {
  rows = sound.rows;
  groups = subst (λ (all : List (List Group)). All AreGroups all) (sym is) (all_with_page AreGroups P.groups page sound.groups on_page);
}

-- groups that are taken out of a plan one after the other: those that are left, and those that were taken
pub record AreTaken (whole left : List (List Group)) (taken : List (List Group)) (r : ℕ) : Type 0 where
  pub long : length left ≡ length whole
  pub rest : (k : ℕ) → r ≤ k → get_or left k [] ≡ get_or whole k []
  pub gone : taken ≡ take r whole

pub one_taken : (whole left now taken more : List (List Group)) (groups shared : List Group) (r : ℕ) → AreTaken whole left taken r → r < length whole → groups ≡ get_or left r [] → now ≡ set left r [] → shared ≡ groups → more ≡ taken ++ shared ∷ [] → AreTaken whole now more (r + 1)
one_taken whole left now taken more groups shared r so_far lt of_groups of_now of_shared of_more = record {
  long = ap length of_now ∙ length-set left r [] ∙ so_far.long;
  rest = λ k above.
      ap (λ (all : List (List Group)). get_or all k []) of_now
      ∙ get_or-set_other left r k [] [] (omega (arith, above))
      ∙ so_far.rest k (omega (arith, above));
  gone = of_more
      ∙ ap (λ (all : List (List Group)). all ++ shared ∷ []) so_far.gone
      ∙ ap (λ (one : List Group). take r whole ++ one ∷ []) (of_shared ∙ of_groups ∙ so_far.rest r (omega arith))
      ∙ sym (take_more whole r [] lt);
}

-- the first x items of one list and the others of another: with one more item of the first, they are the first x + 1
next_put : {X : Type 0} (old new : List X) (x : ℕ) (d : X) → length new ≡ length old → x < length new → set (take x new ++ drop x old) x (get_or new x d) ≡ take (suc x) new ++ drop (suc x) old
next_put old [] x d same lt = absurd (omega (arith, lt))
next_put [] (z ∷ new) x d same lt = absurd (omega (arith, same))
next_put (y ∷ old) (z ∷ new) zero d same lt = refl
next_put {X = X} (y ∷ old) (z ∷ new) (suc x) d same lt = ap (λ (xs : List X). z ∷ xs) (next_put old new x d (omega (arith, same)) (omega (arith, lt)))

one_put : {X : Type 0} (old new : List X) (x : ℕ) (d : X) → length new ≡ length old → x < length new → set (take x new ++ drop x old) x (get_or new x d) ≡ take (x + 1) new ++ drop (x + 1) old
one_put old new x d same lt =
    let next : suc x ≡ x + 1 = omega arith in
    next_put old new x d same lt ∙ ap (λ n. take n new ++ drop n old) next

-- a plan with the rows of the first x legs of another
abbrev pub with_first_rows : PlanRows → PlanRows → ℕ → PlanRows
with_first_rows P Q x = record P { rows = take x Q.rows ++ drop x P.rows }

pub row_put : (P Q now next : PlanRows) (x : ℕ) (row : Row) → length Q.rows ≡ length P.rows → x < length Q.rows → now ≡ with_first_rows P Q x → row ≡ row_at Q x → next ≡ with_row now x row → next ≡ with_first_rows P Q (x + 1)
row_put P Q now next x row same lt is of_row of_next =
    of_next
    ∙ ap (λ (R : PlanRows). with_row R x row) is
    ∙ ap (λ (one : Row). record P { rows = set (take x Q.rows ++ drop x P.rows) x one }) of_row
    ∙ ap (λ (rows : List Row). record P { rows = rows }) (one_put P.rows Q.rows x Cancelled same lt)

-- all of them
whole_put : {X : Type 0} (old new : List X) (x : ℕ) → length new ≡ length old → x ≡ length new → take x new ++ drop x old ≡ new
whole_put {X = X} old new x same all =
    let none : drop x old ≡ [] = drop_all x old (omega (arith, same, all)) in
    let whole : take x new ≡ new = take_all x new (omega (arith, all)) in
    ap (λ (xs : List X). take x new ++ xs) none ∙ append-nil (take x new) ∙ whole

pub rows_put : (P Q now : PlanRows) (x : ℕ) → length Q.rows ≡ length P.rows → x ≡ length Q.rows → now ≡ with_first_rows P Q x → now ≡ record P { rows = Q.rows }
rows_put P Q now x same all is = is ∙ ap (λ (rows : List Row). record P { rows = rows }) (whole_put P.rows Q.rows x same all)

-- a plan with the groups of the first r reservations of another, of which those after them are left
pub record ArePut (P Q now left : PlanRows) (r : ℕ) : Type 0 where
  pub put : now ≡ record P { groups = take r Q.groups ++ drop r P.groups }
  pub long : length left.groups ≡ length Q.groups
  pub rest : (k : ℕ) → r ≤ k → groups_at left k ≡ groups_at Q k

pub one_moved : (P Q now left next rest : PlanRows) (r : ℕ) → length Q.groups ≡ length P.groups → r < length Q.groups → ArePut P Q now left r → next ≡ with_groups now r (groups_at left r) → length rest.groups ≡ length left.groups → ((k : ℕ) → k ≢ r → groups_at rest k ≡ groups_at left k) → ArePut P Q next rest (r + 1)
one_moved P Q now left next rest r same lt so_far of_next of_long others = record {
  put = of_next
      ∙ ap (λ (R : PlanRows). with_groups R r (groups_at left r)) so_far.put
      ∙ ap (λ (one : List Group). record P { groups = set (take r Q.groups ++ drop r P.groups) r one }) (so_far.rest r (omega arith))
      ∙ ap (λ (groups : List (List Group)). record P { groups = groups }) (one_put P.groups Q.groups r [] same lt);
  long = of_long ∙ so_far.long;
  rest = λ k above. others k (omega (arith, above)) ∙ so_far.rest k (omega (arith, above));
}

pub groups_put : (P Q now left : PlanRows) (r : ℕ) → length Q.groups ≡ length P.groups → r ≡ length Q.groups → ArePut P Q now left r → now ≡ record P { groups = Q.groups }
groups_put P Q now left r same all so_far = so_far.put ∙ ap (λ (groups : List (List Group)). record P { groups = groups }) (whole_put P.groups Q.groups r same all)
