-- A list in pages.
use Rattle.std.specs.Prelude.{◌≡◌, ℕ, ◌+◌, ◌-◌, ◌*◌, ◌<◌, ◌≤◌, List, [], ◌∷◌, ◌++◌, length, take, drop, min}
use Rattle.std.specs.List.{flat_map}

-- all items of some pages, one page after the other
abbrev pub joined : {X : Type 0} → List (List X) → List X
joined pages = flat_map (λ page. page) pages

-- a page has at most 16 items, and just so many where there are pages after it
pub record IsFullOrLast {X : Type 0} (page : List X) (later : List (List X)) : Type 0 where
  pub few : length page ≤ 16
  pub full : 0 < length later → length page ≡ 16

abbrev pub ArePages : {X : Type 0} → List (List X) → Type 0
ArePages [] = Unit {0}
ArePages (page ∷ later) = IsFullOrLast page later × ArePages later

-- which page, and its items
pub record PageItems (X : Type 0) : Type 0 where
  pub number : ℕ
  pub items : List X

-- the list with the items of a page in their places, and all else as it is
abbrev pub with_former_page : {X : Type 0} → List X → PageItems X → List X
with_former_page xs page = take (page.number * 16) xs ++ page.items ++ drop (page.number * 16 + length page.items) xs

-- a page that the list has: as many items as the list has in its places
pub record IsFormerPageOf {X : Type 0} (xs : List X) (page : PageItems X) : Type 0 where
  pub within : page.number * 16 < length xs
  pub full : length page.items ≡ min 16 (length xs - page.number * 16)
