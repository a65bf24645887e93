-- What a crash leaves while the byte behind the records is set, or what stands behind it.
use Rattle.std.proofs.Common.{◌≡◌, ℕ, ◌+◌, ◌^◌, ◌<◌, List, [], ◌∷◌, ◌++◌, length, get_or, take, drop, refl, sym, ◌∙◌, ap, subst, arith, append_assoc}
use Rattle.std.proofs.lemmas.List.{take_at, drop_at, drop_more, length-append, take-append-drop}
use Rattle.desk_disk.specs.FileStates.{put_at}
use Rattle.desk_disk.specs.Crashes.{IsTorn}
use Rattle.desk_disk.specs.Records.{framed, records}
use Rattle.desk_disk.specs.Files.{HasEndMark, IsStaged}
use Rattle.desk_disk.proofs.Spelled.{records-push, short-push}

module _ (front after : List ℕ) (g : ℕ) where
  with_mark : front ++ (g ∷ after) ≡ (front ++ g ∷ []) ++ after
  with_mark = sym (append_assoc front (g ∷ []) after)

  length-mark : length (front ++ g ∷ []) ≡ length front + 1
  length-mark = length-append front (g ∷ [])

  -- what stands behind the byte is torn: the byte stays
  pub torn_behind : (n : ℕ) (c : List ℕ) → IsTorn (length front + 1) n (front ++ (g ∷ after)) c → c ≡ front ++ (g ∷ drop (length front + 1) c)
  torn_behind n c torn =
      let kept : take (length front + 1) c ≡ front ++ g ∷ [] = torn.before ∙ ap (λ (l : List ℕ). take (length front + 1) l) with_mark ∙ take_at (front ++ g ∷ []) after (length front + 1) length-mark in
      sym (take-append-drop (length front + 1) c) ∙ ap (λ (l : List ℕ). l ++ drop (length front + 1) c) kept ∙ append_assoc front (g ∷ []) (drop (length front + 1) c)

  -- the byte is torn: what stands behind it stays
  pub torn_mark : (c : List ℕ) → IsTorn (length front) 1 (front ++ (g ∷ after)) c → c ≡ front ++ (get_or c (length front) 0 ∷ after)
  torn_mark c torn =
      let kept : take (length front) c ≡ front = torn.before ∙ take_at front (g ∷ after) (length front) refl in
      let behind : drop (length front + 1) c ≡ after = torn.after ∙ ap (λ (l : List ℕ). drop (length front + 1) l) with_mark ∙ drop_at (front ++ g ∷ []) after (length front + 1) length-mark in
      let within : length front < length c = omega (arith, torn.no_shorter, length-append front (g ∷ after)) in
      let rest : drop (length front) c ≡ get_or c (length front) 0 ∷ after = drop_more c (length front) 0 within ∙ ap (λ (l : List ℕ). get_or c (length front) 0 ∷ l) behind in
      sym (take-append-drop (length front) c) ∙ ap (λ (l : List ℕ). l ++ drop (length front) c) kept ∙ ap (λ (l : List ℕ). front ++ l) rest

  -- the byte is set
  pub put_mark : (v : ℕ) → put_at (length front) (v ∷ []) (front ++ (g ∷ after)) ≡ front ++ (v ∷ after)
  put_mark v =
      let behind : drop (length front + 1) (front ++ (g ∷ after)) ≡ after = ap (λ (l : List ℕ). drop (length front + 1) l) with_mark ∙ drop_at (front ++ g ∷ []) after (length front + 1) length-mark in
      ap (λ (l : List ℕ). l ++ (v ∷ drop (length front + 1) (front ++ (g ∷ after)))) (take_at front (g ∷ after) (length front) refl) ∙ ap (λ (l : List ℕ). front ++ (v ∷ l)) behind

  -- bytes are put behind it
  pub put_behind : (new : List ℕ) → put_at (length front + 1) new (front ++ (g ∷ after)) ≡ front ++ (g ∷ (new ++ drop (length front + 1 + length new) (front ++ (g ∷ after))))
  put_behind new =
      let rest = drop (length front + 1 + length new) (front ++ (g ∷ after)) in
      ap (λ (l : List ℕ). l ++ (new ++ rest)) (ap (λ (l : List ℕ). take (length front + 1) l) with_mark ∙ take_at (front ++ g ∷ []) after (length front + 1) length-mark) ∙ append_assoc front (g ∷ []) (new ++ rest)

-- bytes are put behind the byte, and then the byte is set: as if all were put at once
pub put_both : (front after : List ℕ) (g v : ℕ) (new : List ℕ) → put_at (length front) (v ∷ []) (put_at (length front + 1) new (front ++ (g ∷ after))) ≡ put_at (length front) (v ∷ new) (front ++ (g ∷ after))
put_both front after g v new =
    let old = front ++ (g ∷ after) in
    let rest = drop (length front + 1 + length new) old in
    let place : length front + 1 + length new ≡ length front + length (v ∷ new) = omega arith in
    ap (λ (l : List ℕ). put_at (length front) (v ∷ []) l) (put_behind front after g new) ∙ put_mark front (new ++ rest) g v
    ∙ ap (λ (l : List ℕ). l ++ (v ∷ (new ++ rest))) (sym (take_at front (g ∷ after) (length front) refl))
    ∙ ap (λ (k : ℕ). take (length front) old ++ (v ∷ (new ++ drop k old))) place

-- while a payload is written behind the byte 0
pub keeps_end_mark : (ps : List (List ℕ)) (place n : ℕ) (old c : List ℕ) → HasEndMark ps old → place ≡ length (records ps) → IsTorn (place + 1) n old c → HasEndMark ps c
keeps_end_mark ps place n old c ends is torn =
    let at : IsTorn (length (records ps) + 1) n (records ps ++ (0 ∷ ends.rest)) c = subst (λ (l : List ℕ). IsTorn (length (records ps) + 1) n l c) ends.bytes (subst (λ (k : ℕ). IsTorn (k + 1) n old c) is torn) in
    record { rest = drop (length (records ps) + 1) c; bytes = torn_behind (records ps) ends.rest 0 n c at; short = ends.short }

-- once it is written
pub is_staged : (ps : List (List ℕ)) (p : List ℕ) (place : ℕ) (old : List ℕ) → HasEndMark ps old → length p < 2 ^ 32 → place ≡ length (records ps) → (s : IsStaged ps p (put_at (place + 1) (framed p ++ (0 ∷ [])) old)) × (s.mark ≡ 0)
is_staged ps p place old ends short is =
    let new = framed p ++ (0 ∷ []) in
    let rest = drop (length (records ps) + 1 + length new) (records ps ++ (0 ∷ ends.rest)) in
    let spelled : put_at (place + 1) new old ≡ records ps ++ (0 ∷ (framed p ++ (0 ∷ rest))) =
    ap (λ (k : ℕ). put_at (k + 1) new old) is ∙ ap (put_at (length (records ps) + 1) new) ends.bytes ∙ put_behind (records ps) ends.rest 0 new
    ∙ ap (λ (l : List ℕ). records ps ++ (0 ∷ l)) (append_assoc (framed p) (0 ∷ []) rest) in
    (record { mark = 0; rest = rest; bytes = spelled; short = ends.short; next_short = short }, refl)

-- while the byte is set
pub stays_staged : (ps : List (List ℕ)) (p : List ℕ) (place : ℕ) (old c : List ℕ) → IsStaged ps p old → place ≡ length (records ps) → IsTorn place 1 old c → IsStaged ps p c
stays_staged ps p place old c s is torn =
    let after = framed p ++ (0 ∷ s.rest) in
    let at : IsTorn (length (records ps)) 1 (records ps ++ (s.mark ∷ after)) c = subst (λ (l : List ℕ). IsTorn (length (records ps)) 1 l c) s.bytes (subst (λ (k : ℕ). IsTorn k 1 old c) is torn) in
    record { mark = get_or c (length (records ps)) 0; rest = s.rest; bytes = torn_mark (records ps) after s.mark c at; short = s.short; next_short = s.next_short }

-- once it is 1
pub is_added : (ps : List (List ℕ)) (p : List ℕ) (place : ℕ) (old : List ℕ) → IsStaged ps p old → place ≡ length (records ps) → HasEndMark (ps ++ p ∷ []) (put_at place (1 ∷ []) old)
is_added ps p place old s is =
    let after = framed p ++ (0 ∷ s.rest) in
    let spelled : put_at place (1 ∷ []) old ≡ records ps ++ (1 ∷ after) = ap (λ (k : ℕ). put_at k (1 ∷ []) old) is ∙ ap (put_at (length (records ps)) (1 ∷ [])) s.bytes ∙ put_mark (records ps) after s.mark 1 in
    record { rest = s.rest; bytes = spelled ∙ sym (records-push ps p (0 ∷ s.rest)); short = short-push ps p s.short s.next_short }

-- a 0 over a 0 changes nothing
pub put_same : (bytes : List ℕ) (place : ℕ) → place < length bytes → get_or bytes place 0 ≡ 0 → put_at place (0 ∷ []) bytes ≡ bytes
put_same bytes place within is =
    let rest : 0 ∷ drop (place + 1) bytes ≡ drop place bytes = ap (λ (b : ℕ). b ∷ drop (place + 1) bytes) (sym is) ∙ sym (drop_more bytes place 0 within) in
    ap (λ (l : List ℕ). take place bytes ++ l) rest ∙ take-append-drop place bytes
