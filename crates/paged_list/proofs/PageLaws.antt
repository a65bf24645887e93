-- Lists in pages: where an item stands, and what is written there.
use Rattle.std.proofs.Common.{◌≡◌, ℕ, zero, suc, ◌+◌, ◌-◌, ◌*◌, ◌/◌, ◌%◌, ◌<◌, ◌≤◌, List, [], ◌∷◌, ◌++◌, length, get_or, set, take, drop, refl, sym, ap, subst, ◌∙◌, arith, length-append, append_assoc, append-nil}
use Rattle.std.specs.Prelude.{min}
use Rattle.std.proofs.lemmas.List.{length-set, set-set, set-get_or, set_split, get_or-set_same, get_or_read, set-append_left, set-append_right, take_at, drop_at}
use Rattle.std.proofs.lemmas.List.Concat.{flat_map-append, get_or-flat_map}
use Rattle.paged_list.specs.Pages.{joined, ArePages, PageItems, with_former_page, IsFormerPageOf}

-- before page k stand 16 items for each page before it
before : {X : Type 0} (pages : List (List X)) (k : ℕ) → ArePages pages → k < length pages → length (joined (take k pages)) ≡ k * 16
before [] k are lt = omega (arith, lt)
before (page ∷ later) zero are lt = refl
before (page ∷ later) (suc k) are lt =
    let full = are.0.full (omega (arith, lt)) in
    let rest = before later k are.1 (omega (arith, lt)) in
    omega (arith, full, rest, length-append page (joined (take k later)))

-- where there is an item at place i of page k, there is the page
has_page : {X : Type 0} (pages : List (List X)) (k i : ℕ) → ArePages pages → k * 16 + i < length (joined pages) → i < 16 → k < length pages
has_page [] k i are lt place = omega (arith, lt)
has_page (page ∷ later) zero i are lt place = omega arith
has_page (page ∷ later) (suc k) i are lt place =
    let few = are.0.few in
    let rest = has_page later k i are.1 (omega (arith, lt, few, length-append page (joined later))) place in
    omega (arith, rest)

-- and the place
has_place : {X : Type 0} (pages : List (List X)) (k i : ℕ) (d : List X) → ArePages pages → k * 16 + i < length (joined pages) → i < 16 → i < length (get_or pages k d)
has_place [] k i d are lt place = omega (arith, lt)
has_place (page ∷ []) zero i d are lt place = omega (arith, lt, length-append page [])
has_place (page ∷ next ∷ later) zero i d are lt place = (let full = are.0.full (omega arith) in omega (arith, full, place))
has_place (page ∷ later) (suc k) i d are lt place =
    let few = are.0.few in
    has_place later k i d are.1 (omega (arith, lt, few, length-append page (joined later))) place

-- a page has as many items as the list has in its places
size : {X : Type 0} (pages : List (List X)) (k : ℕ) (d : List X) → ArePages pages → k < length pages → length (get_or pages k d) ≡ min 16 (length (joined pages) - k * 16)
size [] k d are lt = omega (arith, lt)
size (page ∷ []) zero d are lt = (let few = are.0.few in omega (arith, few, length-append page []))
size (page ∷ next ∷ later) zero d are lt = (let full = are.0.full (omega arith) in omega (arith, full, length-append page (joined (next ∷ later))))
size (page ∷ later) (suc k) d are lt =
    let full = are.0.full (omega (arith, lt)) in
    let rest = size later k d are.1 (omega (arith, lt)) in
    omega (arith, full, rest, length-append page (joined later))

-- the item at place i of page k
item_at : {X : Type 0} (pages : List (List X)) (k i : ℕ) (d : List X) (e : X) → ArePages pages → k < length pages → i < length (get_or pages k d) → get_or (joined pages) (k * 16 + i) e ≡ get_or (get_or pages k d) i e
item_at pages k i d e are lt within =
    ap (λ n. get_or (joined pages) (n + i) e) (sym (before pages k are lt)) ∙ get_or-flat_map (λ page. page) pages k i d e lt within

-- another item there
item_set : {X : Type 0} (pages : List (List X)) (k i : ℕ) (d : List X) (a : X) → ArePages pages → k < length pages → i < length (get_or pages k d) → joined (set pages k (set (get_or pages k d) i a)) ≡ set (joined pages) (k * 16 + i) a
item_set [] k i d a are lt within = absurd (omega (arith, lt))
item_set {X = X} (page ∷ later) zero i d a are lt within =
    let at : i ≡ zero * 16 + i = omega arith in
    sym (set-append_left page (joined later) i a within) ∙ ap (λ n. set (page ++ joined later) n a) at
item_set {X = X} (page ∷ later) (suc k) i d a are lt within =
    let full = are.0.full (omega (arith, lt)) in
    let at : suc k * 16 + i - 16 ≡ k * 16 + i = omega arith in
    let rest = item_set later k i d a are.1 (omega (arith, lt)) within in
    ap (λ (xs : List X). page ++ xs) (rest ∙ ap (λ n. set (joined later) n a) (sym at))
    ∙ sym (set-append_right page (joined later) 16 (suc k * 16 + i) a full (omega arith))

-- pages of which one is another of the same size
pages_set : {X : Type 0} (pages : List (List X)) (k : ℕ) (d other : List X) → ArePages pages → length other ≡ length (get_or pages k d) → ArePages (set pages k other)
pages_set [] k d other are same = tt
pages_set (page ∷ later) zero d other are same = (record { few = (let few = are.0.few in omega (arith, few, same)); full = λ more. same ∙ are.0.full more }, are.1)
pages_set (page ∷ later) (suc k) d other are same =
    (record { few = are.0.few; full = λ more. are.0.full (omega (arith, more, length-set later k other)) }, pages_set later k d other are.1 same)

-- what stands before a page, on it, and after it
split_at : {X : Type 0} (pages : List (List X)) (k : ℕ) (other : List X) → k < length pages → joined (set pages k other) ≡ joined (take k pages) ++ (other ++ joined (drop (suc k) pages))
split_at pages k other lt = ap joined (set_split pages k other lt) ∙ flat_map-append (λ page. page) (take k pages) (other ∷ drop (suc k) pages)

-- all items of pages of which one is another of the same size
joined_set : {X : Type 0} (pages : List (List X)) (k : ℕ) (d other : List X) → ArePages pages → k < length pages → length other ≡ length (get_or pages k d) → joined (set pages k other) ≡ with_former_page (joined pages) (record { number = k; items = other })
joined_set pages k d other are lt same =
    let front = joined (take k pages) in
    let page = get_or pages k d in
    let back = joined (drop (suc k) pages) in
    let whole : joined pages ≡ front ++ (page ++ back) = ap joined (sym (set-get_or pages k d)) ∙ split_at pages k page lt in
    let head : take (k * 16) (joined pages) ≡ front = ap (take (k * 16)) whole ∙ take_at front (page ++ back) (k * 16) (before pages k are lt) in
    let long : length (front ++ page) ≡ k * 16 + length other = omega (arith, same, before pages k are lt, length-append front page) in
    let tail : drop (k * 16 + length other) (joined pages) ≡ back =
    ap (drop (k * 16 + length other)) (whole ∙ sym (append_assoc front page back)) ∙ drop_at (front ++ page) back (k * 16 + length other) long in
    rw (head, tail) (split_at pages k other lt ∙ sym (append_assoc front other back))

-- the page and the place of an item
number_and_place : (x : ℕ) → x / 16 * 16 + x % 16 ≡ x
number_and_place x = omega arith

few_places : (x : ℕ) → x % 16 < 16
few_places x = omega arith

pub page_within : {X : Type 0} (pages : List (List X)) (x : ℕ) → ArePages pages → x < length (joined pages) → x / 16 < length pages
page_within pages x are lt = has_page pages (x / 16) (x % 16) are (omega (arith, lt, number_and_place x)) (few_places x)

pub place_within : {X : Type 0} (pages : List (List X)) (x : ℕ) (d : List X) → ArePages pages → x < length (joined pages) → x % 16 < length (get_or pages (x / 16) d)
place_within pages x d are lt = has_place pages (x / 16) (x % 16) d are (omega (arith, lt, number_and_place x)) (few_places x)

read : {X : Type 0} (pages : List (List X)) (x : ℕ) (d : List X) (e : X) → ArePages pages → x < length (joined pages) → get_or (joined pages) x e ≡ get_or (get_or pages (x / 16) d) (x % 16) e
read pages x d e are lt =
    ap (λ n. get_or (joined pages) n e) (sym (number_and_place x))
    ∙ item_at pages (x / 16) (x % 16) d e are (page_within pages x are lt) (place_within pages x d are lt)

-- a page with another item
written : {X : Type 0} (pages : List (List X)) (x : ℕ) (d : List X) (a : X) → ArePages pages → x < length (joined pages) → joined (set pages (x / 16) (set (get_or pages (x / 16) d) (x % 16) a)) ≡ set (joined pages) x a
written pages x d a are lt =
    item_set pages (x / 16) (x % 16) d a are (page_within pages x are lt) (place_within pages x d are lt)
    ∙ ap (λ n. set (joined pages) n a) (number_and_place x)

-- an item that was read on its page
pub item_read : {X : Type 0} (pages : List (List X)) (list : List X) (x : ℕ) (page : List X) (item d : X) → ArePages pages → joined pages ≡ list → x < length list → page ≡ get_or pages (x / 16) page → item ≡ get_or page (x % 16) item → item ≡ get_or list x d
item_read {X = X} pages list x page item d are is lt of_page of_item =
    let lt_joined : x < length (joined pages) = subst (λ (xs : List X). x < length xs) (sym is) lt in
    let within : x % 16 < length page = subst (λ (p : List X). x % 16 < length p) (sym of_page) (place_within pages x page are lt_joined) in
    get_or_read page (x % 16) item within of_item d
    ∙ ap (λ (p : List X). get_or p (x % 16) d) of_page
    ∙ sym (read pages x page d are lt_joined)
    ∙ ap (λ (xs : List X). get_or xs x d) is

-- a page made anew, from a copy of the one that stands, with another item
pub made_anew : {X : Type 0} (pages : List (List X)) (list : List X) (x : ℕ) (a : X) (from copy made new : List X) → ArePages pages → joined pages ≡ list → x < length list → from ≡ get_or pages (x / 16) from → copy ≡ from → made ≡ set copy (x % 16) a → new ≡ made → new ≡ set (get_or pages (x / 16) []) (x % 16) a
made_anew {X = X} pages list x a from copy made new are is lt of_page of_copy of_made of_new =
    let lt_joined : x < length (joined pages) = subst (λ (xs : List X). x < length xs) (sym is) lt in
    of_new ∙ of_made ∙ ap (λ (p : List X). set p (x % 16) a) (of_copy ∙ get_or_read pages (x / 16) from (page_within pages x are lt_joined) of_page [])

-- the page that stood
pub stood : {X : Type 0} (pages : List (List X)) (list : List X) (x : ℕ) (had read : List X) → ArePages pages → joined pages ≡ list → x < length list → had ≡ read → read ≡ get_or pages (x / 16) read → had ≡ get_or pages (x / 16) []
stood {X = X} pages list x had read are is lt of_had of_read =
    let lt_joined : x < length (joined pages) = subst (λ (xs : List X). x < length xs) (sym is) lt in
    of_had ∙ get_or_read pages (x / 16) read (page_within pages x are lt_joined) of_read []

-- pages of which one was made anew with another item: the list
pub anew_list : {X : Type 0} (pages : List (List X)) (list : List X) (x : ℕ) (a : X) (new : List X) → ArePages pages → joined pages ≡ list → x < length list → new ≡ set (get_or pages (x / 16) []) (x % 16) a → joined (set pages (x / 16) new) ≡ set list x a
anew_list {X = X} pages list x a new are is lt of_new =
    ap (λ (p : List X). joined (set pages (x / 16) p)) of_new
    ∙ written pages x [] a are (subst (λ (xs : List X). x < length xs) (sym is) lt)
    ∙ ap (λ (xs : List X). set xs x a) is

same_long : {X : Type 0} (pages : List (List X)) (x : ℕ) (a : X) (new : List X) → new ≡ set (get_or pages (x / 16) []) (x % 16) a → length new ≡ length (get_or pages (x / 16) [])
same_long pages x a new of_new = ap length of_new ∙ length-set (get_or pages (x / 16) []) (x % 16) a

-- that they are pages
pub anew_pages : {X : Type 0} (pages : List (List X)) (x : ℕ) (a : X) (new : List X) → ArePages pages → new ≡ set (get_or pages (x / 16) []) (x % 16) a → ArePages (set pages (x / 16) new)
anew_pages pages x a new are of_new = pages_set pages (x / 16) [] new are (same_long pages x a new of_new)

-- the way back
pub anew_back : {X : Type 0} (pages : List (List X)) (list : List X) (x : ℕ) (a : X) (new had : List X) → ArePages pages → joined pages ≡ list → x < length list → new ≡ set (get_or pages (x / 16) []) (x % 16) a → had ≡ get_or pages (x / 16) [] → with_former_page (joined (set pages (x / 16) new)) (record { number = x / 16; items = had }) ≡ list
anew_back {X = X} pages list x a new had are is lt of_new of_had =
    let k = x / 16 in
    let now = set pages k new in
    let there : k < length pages = page_within pages x are (subst (λ (xs : List X). x < length xs) (sym is) lt) in
    let there_now : k < length now = omega (arith, there, length-set pages k new) in
    let stands : get_or now k [] ≡ new = get_or-set_same pages k new [] there in
    let same : length had ≡ length (get_or now k []) = ap length of_had ∙ sym (same_long pages x a new of_new) ∙ sym (ap length stands) in
    sym (joined_set now k [] had (anew_pages pages x a new are of_new) there_now same)
    ∙ ap joined (set-set pages k new had ∙ ap (set pages k) of_had ∙ set-get_or pages k [])
    ∙ is

-- and that what stood has its place
pub anew_place : {X : Type 0} (pages : List (List X)) (list : List X) (x : ℕ) (a : X) (new had : List X) → ArePages pages → joined pages ≡ list → x < length list → new ≡ set (get_or pages (x / 16) []) (x % 16) a → had ≡ get_or pages (x / 16) [] → IsFormerPageOf (joined (set pages (x / 16) new)) (record { number = x / 16; items = had })
anew_place {X = X} pages list x a new had are is lt of_new of_had =
    let k = x / 16 in
    let now = set pages k new in
    let there : k < length pages = page_within pages x are (subst (λ (xs : List X). x < length xs) (sym is) lt) in
    let there_now : k < length now = omega (arith, there, length-set pages k new) in
    let stands : get_or now k [] ≡ new = get_or-set_same pages k new [] there in
    let long : length (joined now) ≡ length list = ap length (anew_list pages list x a new are is lt of_new) ∙ length-set list x a in
    record {
      within = omega (arith, lt, long, number_and_place x);
      full = ap length of_had ∙ sym (same_long pages x a new of_new) ∙ sym (ap length stands) ∙ size now k [] (anew_pages pages x a new are of_new) there_now;
    }

-- a page of the list, among its pages
pub number_within : {X : Type 0} (pages : List (List X)) (list : List X) (inside page : PageItems X) → ArePages pages → joined pages ≡ list → inside ≡ page → IsFormerPageOf list page → inside.number < length pages
number_within {X = X} pages list inside page are is of_page has =
    let within : page.number * 16 < length (joined pages) = subst (λ (xs : List X). page.number * 16 < length xs) (sym is) has.within in
    subst (λ (p : PageItems X). p.number < length pages) (sym of_page) (has_page pages page.number zero are (omega (arith, within)) (omega arith))

same_size : {X : Type 0} (pages : List (List X)) (list : List X) (inside page : PageItems X) → ArePages pages → joined pages ≡ list → inside ≡ page → IsFormerPageOf list page → length inside.items ≡ length (get_or pages inside.number [])
same_size {X = X} pages list inside page are is of_page has =
    let has_inside : IsFormerPageOf (joined pages) inside = subst (λ (p : PageItems X). IsFormerPageOf (joined pages) p) (sym of_page) (subst (λ (xs : List X). IsFormerPageOf xs page) (sym is) has) in
    has_inside.full ∙ sym (size pages inside.number [] are (number_within pages list inside page are is of_page has))

-- pages in which it was put back
pub back_pages : {X : Type 0} (pages : List (List X)) (list : List X) (inside page : PageItems X) → ArePages pages → joined pages ≡ list → inside ≡ page → IsFormerPageOf list page → ArePages (set pages inside.number inside.items)
back_pages pages list inside page are is of_page has = pages_set pages inside.number [] inside.items are (same_size pages list inside page are is of_page has)

pub back_list : {X : Type 0} (pages : List (List X)) (list : List X) (inside page : PageItems X) → ArePages pages → joined pages ≡ list → inside ≡ page → IsFormerPageOf list page → joined (set pages inside.number inside.items) ≡ with_former_page list page
back_list {X = X} pages list inside page are is of_page has =
    joined_set pages inside.number [] inside.items are (number_within pages list inside page are is of_page has) (same_size pages list inside page are is of_page has)
    ∙ ap (λ (xs : List X). with_former_page xs inside) is
    ∙ ap (with_former_page list) of_page

-- one page more, at its end
joined_pushed : {X : Type 0} (pages : List (List X)) (page : List X) → joined (pages ++ page ∷ []) ≡ joined pages ++ page
joined_pushed pages page = flat_map-append (λ it. it) pages (page ∷ []) ∙ ap (λ xs. joined pages ++ xs) (append-nil page)

-- pages have no more items than places
joined-few : {X : Type 0} (pages : List (List X)) → ArePages pages → length (joined pages) ≤ length pages * 16
joined-few [] are = omega arith
joined-few (page ∷ later) are = (let few = are.0.few in omega (arith, few, joined-few later are.1, length-append page (joined later)))

-- one more page, where all before it are full
page_pushed : {X : Type 0} (pages : List (List X)) (page : List X) → ArePages pages → length (joined pages) ≡ length pages * 16 → length page ≤ 16 → ArePages (pages ++ page ∷ [])
page_pushed [] page are full few = (record { few = few; full = λ more. absurd (omega (arith, more)) }, tt)
page_pushed (first ∷ later) page are full few =
    let fits = are.0.few in
    let so_few = joined-few later are.1 in
    let is_full : length first ≡ 16 = omega (arith, full, fits, so_few, length-append first (joined later)) in
    (record { few = fits; full = λ _. is_full }, page_pushed later page are.1 (omega (arith, full, is_full, length-append first (joined later))) few)

-- the pages of some items, and the items that are left after them: the pages are full where any are
pub record AreBegun {X : Type 0} (items : List X) (pages : List (List X)) (left : List X) : Type 0 where
  pub are : ArePages pages
  pub whole : joined pages ++ left ≡ items
  pub full : 0 < length left → length (joined pages) ≡ length pages * 16

pub one_more : {X : Type 0} (items : List X) (pages now : List (List X)) (left part page later : List X) → AreBegun items pages left → 0 < length left → part ++ later ≡ left → length part ≤ 16 → (0 < length later → length part ≡ 16) → page ≡ part → now ≡ pages ++ page ∷ [] → AreBegun items now later
one_more {X = X} items pages now left part page later begun some parts few full copied pushed =
    let first : length (joined pages) ≡ length pages * 16 = begun.full some in
    let more : now ≡ pages ++ part ∷ [] = pushed ∙ ap (λ (p : List X). pages ++ p ∷ []) copied in
    let long : joined now ≡ joined pages ++ part = ap joined more ∙ joined_pushed pages part in
    record {
      are = subst (λ (all : List (List X)). ArePages all) (sym more) (page_pushed pages part begun.are first few);
      whole = ap (λ (xs : List X). xs ++ later) long
          ∙ append_assoc (joined pages) part later
          ∙ ap (λ (xs : List X). joined pages ++ xs) parts
          ∙ begun.whole;
      full = λ after. omega (arith, full after, first, ap length long, length-append (joined pages) part, ap length more, length-append pages (part ∷ []));
    }

-- where none are left they are the pages of all
pub all_begun : {X : Type 0} (items : List X) (pages : List (List X)) (left : List X) → AreBegun items pages left → length left ≡ 0 → joined pages ≡ items
all_begun items pages [] begun none = sym (append-nil (joined pages)) ∙ begun.whole
all_begun items pages (x ∷ left) begun none = absurd (omega (arith, none))
