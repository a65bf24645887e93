-- The changes of what orders say of an airport's hours.
use Rattle.std.proofs.Common.{◌≡◌, ℕ, ◌+◌, ◌-◌, ◌<◌, ◌≤◌, ◌&&◌, leb, ltb, length, List, [], ◌∷◌, ◌++◌, Option, Some, None, refl, sym, ap, ◌∙◌, take, drop, get_or, arith, ⊎_elim, subst}
use Rattle.std.specs.Option.{option_or, option_flatten}
use Rattle.std.specs.Bool.{if◌then◌else◌}
use Rattle.std.specs.List.{All, AllWithin}
use Rattle.std.proofs.lemmas.Bool.{cases_lt, le-leb, lt-leb, lt-ltb, le-ltb}
use Rattle.std.proofs.lemmas.List.{get_or-take, get_or-drop, length-take, length-drop, length-append, get_or_append_left, get_or-append_right, take-append-drop, take_more}
use Rattle.std.proofs.lemmas.List.Elements.{All-append, All-cons, All-nil, All-weaker}
use Rattle.std.proofs.lemmas.List.Sorted.{IsNonDecreasingBy-short, IsNonDecreasingBy-take, IsNonDecreasingBy-drop}
use Rattle.day_orders.specs.declared.hours.CapChange.{CapChange}
use Rattle.day_orders.specs.declared.hours.HourCap.{HourCap}
use Rattle.day_orders.specs.LastOrders.{last_word}
use Rattle.day_orders.specs.KeptLists.{AreInOrder, cap_from, kept_cap}
use Rattle.day_orders.proofs.LastLemmas.{last_word-append, last_word-one, last_word_none, last_word_agree}

-- what holds up to a place holds of the front, and what holds from it on of the rest
pub All-front : {X : Type 0} (P : X → Type 0) (xs : List X) (i : ℕ) → AllWithin P xs 0 i → All P (take i xs)
All-front P xs i h = λ k d below. let within : k < i = omega (arith, below, length-take i xs) in rw (get_or-take i xs k d within) (h k d (omega arith) within)

pub All-rest : {X : Type 0} (P : X → Type 0) (xs : List X) (i : ℕ) → AllWithin P xs i (length xs) → All P (drop i xs)
All-rest P xs i h = λ k d below. rw (get_or-drop i xs k d) (h (i + k) d (omega arith) (omega (arith, below, length-drop i xs)))

-- two lists of changes, one after the other, with an hour between them
in_order-append : (xs ys : List CapChange) (t : ℕ) → AreInOrder xs → AreInOrder ys → All (λ c. c.hour ≤ t) xs → All (λ c. t ≤ c.hour) ys → AreInOrder (xs ++ ys)
in_order-append xs ys t up_xs up_ys below above = λ i j d le within.
    let len : length (xs ++ ys) ≡ length xs + length ys = length-append xs ys in
    ⊎_elim
    (λ (j_left : j < length xs).
    let i_left : i < length xs = omega arith in
    rw (get_or_append_left xs ys d i i_left, get_or_append_left xs ys d j j_left) (up_xs i j d le j_left))
    (λ (j_right : length xs ≤ j).
    let j_in : j - length xs < length ys = omega arith in
    rw (get_or-append_right xs ys (length xs) j d refl j_right)
    (⊎_elim
    (λ (i_left : i < length xs). rw (get_or_append_left xs ys d i i_left) (omega (arith, below i d i_left, above (j - length xs) d j_in)))
    (λ (i_right : length xs ≤ i). rw (get_or-append_right xs ys (length xs) i d refl i_right) (up_ys (i - length xs) (j - length xs) d (omega arith) j_in))
    (cases_lt i (length xs))))
    (cases_lt j (length xs))

-- later changes say nothing of the hour
silent : (xs : List CapChange) (h : ℕ) → All (λ c. h < c.hour) xs → All (λ c. cap_from h c ≡ None) xs
silent xs h later = All-weaker (λ (c : CapChange). h < c.hour) (λ (c : CapChange). cap_from h c ≡ None) (λ c k. rw (lt-leb c.hour h k)) xs later

pub kept_cap_front : (xs ys : List CapChange) (h : ℕ) → All (λ c. h < c.hour) ys → kept_cap (xs ++ ys) h ≡ kept_cap xs h
unfolding kept_cap
kept_cap_front xs ys h later = rw (last_word-append (cap_from h) xs ys, last_word_none (cap_from h) ys (silent ys h later))

pub kept_cap_none : (xs : List CapChange) (h : ℕ) → All (λ c. h < c.hour) xs → kept_cap xs h ≡ None
unfolding kept_cap
kept_cap_none xs h later = rw (last_word_none (cap_from h) xs (silent xs h later))

-- a last change at or before the hour decides
kept_cap_last : (xs : List CapChange) (c : CapChange) (h : ℕ) → c.hour ≤ h → kept_cap (xs ++ c ∷ []) h ≡ c.cap
unfolding kept_cap
kept_cap_last xs c h le = rw (last_word-append (cap_from h) xs (c ∷ []), last_word-one (cap_from h) c, le-leb c.hour h le)

-- the last of the changes at or before the hour
pub kept_cap_at : (xs : List CapChange) (h n : ℕ) (d : CapChange) → n < length xs → All (λ c. c.hour ≤ h) (take (n + 1) xs) → All (λ c. h < c.hour) (drop (n + 1) xs) → kept_cap xs h ≡ (get_or xs n d).cap
kept_cap_at xs h n d within before later =
    let n_in : n < length (take (n + 1) xs) = omega (arith, length-take (n + 1) xs) in
    let same : get_or (take (n + 1) xs) n d ≡ get_or xs n d = get_or-take (n + 1) xs n d (omega arith) in
    let le : (get_or xs n d).hour ≤ h = subst (λ (c : CapChange). c.hour ≤ h) same (before n d n_in) in
    ap (λ l. kept_cap l h) (sym (take-append-drop (n + 1) xs)) ∙ (kept_cap_front (take (n + 1) xs) (drop (n + 1) xs) h later ∙ (ap (λ l. kept_cap l h) (take_more xs n d within) ∙ kept_cap_last (take n xs) (get_or xs n d) h le))

-- what the changes up to an hour say stays so
kept_cap_stays : (xs : List CapChange) (t h : ℕ) → t ≤ h → All (λ c. c.hour ≤ t) xs → kept_cap xs t ≡ kept_cap xs h
unfolding kept_cap
kept_cap_stays xs t h le before =
    ap option_flatten (last_word_agree (cap_from t) (cap_from h) xs (All-weaker (λ (c : CapChange). c.hour ≤ t) (λ (c : CapChange). cap_from t c ≡ cap_from h c) (λ c k. rw (le-leb c.hour t k, le-leb c.hour h (omega arith))) xs before))

flatten_after : (b n c : Option (Option HourCap)) → option_flatten n ≡ option_flatten c → option_flatten (option_or b n) ≡ option_flatten (option_or b c)
flatten_after None n c e = e
flatten_after (Some z) n c e = refl

-- what follows them decides in the same way
kept_cap_after : (xs ys zs : List CapChange) (h : ℕ) → kept_cap xs h ≡ kept_cap ys h → kept_cap (xs ++ zs) h ≡ kept_cap (ys ++ zs) h
unfolding kept_cap
kept_cap_after xs ys zs h e =
    rw (last_word-append (cap_from h) xs zs, last_word-append (cap_from h) ys zs) (flatten_after (last_word (cap_from h) zs) (last_word (cap_from h) xs) (last_word (cap_from h) ys) e)

one : (P : CapChange → Type 0) (c : CapChange) → P c → All P (c ∷ [])
one P c h = All-cons P c [] h (All-nil P)

-- the changes with a cap from `first` up to `after_last`: `start` stand before the one hour, and `stop` at or before the other
abbrev pub spanned : (xs : List CapChange) (start stop first after_last : ℕ) (cap : HourCap) → List CapChange
spanned xs start stop first after_last cap =
    ((take start xs ++ (record { hour = first; cap = Some cap }) ∷ []) ++ (record { hour = after_last; cap = kept_cap xs after_last }) ∷ []) ++ drop stop xs

pub record IsCut (xs : List CapChange) (start stop first after_last : ℕ) : Type 0 where
  pub up : first < after_last
  pub before : All (λ c. c.hour < first) (take start xs)
  pub from : All (λ c. first ≤ c.hour) (drop start xs)
  pub until : All (λ c. c.hour ≤ after_last) (take stop xs)
  pub after : All (λ c. after_last < c.hour) (drop stop xs)

pub spanned_in_order : (xs : List CapChange) (start stop first after_last : ℕ) (cap : HourCap) → IsCut xs start stop first after_last → AreInOrder xs → AreInOrder (spanned xs start stop first after_last cap)
spanned_in_order xs start stop first after_last cap cut order =
    let front : List CapChange = take start xs in
    let from : CapChange = record { hour = first; cap = Some cap } in
    let to : CapChange = record { hour = after_last; cap = kept_cap xs after_last } in
    let front_le : All (λ (c : CapChange). c.hour ≤ first) front = All-weaker (λ (c : CapChange). c.hour < first) (λ (c : CapChange). c.hour ≤ first) (λ c k. omega arith) front cut.before in
    let two : AreInOrder (front ++ from ∷ [])
    = in_order-append front (from ∷ []) first (IsNonDecreasingBy-take (λ (c : CapChange). c.hour) start xs order) (IsNonDecreasingBy-short (λ (c : CapChange). c.hour) (from ∷ []) (omega arith)) front_le (one (λ (c : CapChange). first ≤ c.hour) from (omega arith)) in
    let two_le : All (λ (c : CapChange). c.hour ≤ after_last) (front ++ from ∷ [])
    = All-append (λ (c : CapChange). c.hour ≤ after_last) front (from ∷ []) (All-weaker (λ (c : CapChange). c.hour ≤ first) (λ (c : CapChange). c.hour ≤ after_last) (λ c k. omega (arith, cut.up)) front front_le) (one (λ (c : CapChange). c.hour ≤ after_last) from (omega (arith, cut.up))) in
    let three : AreInOrder ((front ++ from ∷ []) ++ to ∷ [])
    = in_order-append (front ++ from ∷ []) (to ∷ []) after_last two (IsNonDecreasingBy-short (λ (c : CapChange). c.hour) (to ∷ []) (omega arith)) two_le (one (λ (c : CapChange). after_last ≤ c.hour) to (omega arith)) in
    let three_le : All (λ (c : CapChange). c.hour ≤ after_last) ((front ++ from ∷ []) ++ to ∷ [])
    = All-append (λ (c : CapChange). c.hour ≤ after_last) (front ++ from ∷ []) (to ∷ []) two_le (one (λ (c : CapChange). c.hour ≤ after_last) to (omega arith)) in
    in_order-append ((front ++ from ∷ []) ++ to ∷ []) (drop stop xs) after_last three (IsNonDecreasingBy-drop (λ (c : CapChange). c.hour) stop xs order) three_le (All-weaker (λ (c : CapChange). after_last < c.hour) (λ (c : CapChange). after_last ≤ c.hour) (λ c k. omega arith) (drop stop xs) cut.after)

later_than : (xs : List CapChange) (t h : ℕ) → h ≤ t → All (λ c. t < c.hour) xs → All (λ c. h < c.hour) xs
later_than xs t h le later = All-weaker (λ (c : CapChange). t < c.hour) (λ (c : CapChange). h < c.hour) (λ c k. omega arith) xs later

-- before the span
spanned_before : (xs : List CapChange) (start stop first after_last : ℕ) (cap : HourCap) → IsCut xs start stop first after_last → (h : ℕ) → h < first → kept_cap (spanned xs start stop first after_last cap) h ≡ kept_cap xs h
spanned_before xs start stop first after_last cap cut h lt =
    let front : List CapChange = take start xs in
    let from : CapChange = record { hour = first; cap = Some cap } in
    let to : CapChange = record { hour = after_last; cap = kept_cap xs after_last } in
    let old : kept_cap (front ++ drop start xs) h ≡ kept_cap front h
    = kept_cap_front front (drop start xs) h (All-weaker (λ (c : CapChange). first ≤ c.hour) (λ (c : CapChange). h < c.hour) (λ c k. omega (arith, lt)) (drop start xs) cut.from) in
    kept_cap_front ((front ++ from ∷ []) ++ to ∷ []) (drop stop xs) h (later_than (drop stop xs) after_last h (omega (arith, cut.up)) cut.after)
    ∙ (kept_cap_front (front ++ from ∷ []) (to ∷ []) h (one (λ (c : CapChange). h < c.hour) to (omega (arith, cut.up)))
    ∙ (kept_cap_front front (from ∷ []) h (one (λ (c : CapChange). h < c.hour) from lt)
    ∙ (sym old ∙ ap (λ l. kept_cap l h) (take-append-drop start xs))))

-- in the span
spanned_within : (xs : List CapChange) (start stop first after_last : ℕ) (cap : HourCap) → IsCut xs start stop first after_last → (h : ℕ) → first ≤ h → h < after_last → kept_cap (spanned xs start stop first after_last cap) h ≡ Some cap
spanned_within xs start stop first after_last cap cut h le lt =
    let front : List CapChange = take start xs in
    let from : CapChange = record { hour = first; cap = Some cap } in
    let to : CapChange = record { hour = after_last; cap = kept_cap xs after_last } in
    kept_cap_front ((front ++ from ∷ []) ++ to ∷ []) (drop stop xs) h (later_than (drop stop xs) after_last h (omega arith) cut.after)
    ∙ (kept_cap_front (front ++ from ∷ []) (to ∷ []) h (one (λ (c : CapChange). h < c.hour) to lt) ∙ kept_cap_last front from h le)

-- after the span
spanned_after : (xs : List CapChange) (start stop first after_last : ℕ) (cap : HourCap) → IsCut xs start stop first after_last → (h : ℕ) → after_last ≤ h → kept_cap (spanned xs start stop first after_last cap) h ≡ kept_cap xs h
spanned_after xs start stop first after_last cap cut h le =
    let most : List CapChange = take start xs ++ (record { hour = first; cap = Some cap }) ∷ [] in
    let to : CapChange = record { hour = after_last; cap = kept_cap xs after_last } in
    let whole : take stop xs ++ drop stop xs ≡ xs = take-append-drop stop xs in
    let at_after : kept_cap xs after_last ≡ kept_cap (take stop xs) after_last
    = ap (λ l. kept_cap l after_last) (sym whole) ∙ kept_cap_front (take stop xs) (drop stop xs) after_last cut.after in
    let same : kept_cap (most ++ to ∷ []) h ≡ kept_cap (take stop xs) h
    = kept_cap_last most to h le ∙ (at_after ∙ kept_cap_stays (take stop xs) after_last h le cut.until) in
    kept_cap_after (most ++ to ∷ []) (take stop xs) (drop stop xs) h same ∙ ap (λ l. kept_cap l h) whole

-- what the changes then say of each hour
pub spanned_caps : (xs : List CapChange) (start stop first after_last : ℕ) (cap : HourCap) → IsCut xs start stop first after_last → (h : ℕ) → kept_cap (spanned xs start stop first after_last cap) h ≡ (if leb first h && ltb h after_last then Some cap else kept_cap xs h)
spanned_caps xs start stop first after_last cap cut h =
    ⊎_elim
    (λ (lt : h < first). rw (lt-leb first h lt) (spanned_before xs start stop first after_last cap cut h lt))
    (λ (le : first ≤ h).
    rw (le-leb first h le)
    (⊎_elim
    (λ (lt : h < after_last). rw (lt-ltb h after_last lt) (spanned_within xs start stop first after_last cap cut h le lt))
    (λ (far : after_last ≤ h). rw (le-ltb h after_last far) (spanned_after xs start stop first after_last cap cut h far))
    (cases_lt h after_last)))
    (cases_lt h first)
