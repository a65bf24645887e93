-- A file with records that found no room, from the comparison on.
use Rattle.std.proofs.Common.{◌≡◌, inl, inr, ℕ, ◌+◌, ◌<◌, ◌≤◌, Bool, true, false, cond, List, [], ◌∷◌, ◌++◌, length, take, drop, refl, sym, ap, subst, ◌∙◌, arith, append_assoc}
use Rattle.std.proofs.lemmas.Bool.{cases_Bool}
use Rattle.std.proofs.lemmas.List.{drop_at, length-append, take_at}
use Rattle.std.proofs.lemmas.List.Sums.{sum_by-cons}
use Rattle.std.proofs.lemmas.Option.{slice_get_within}
use Rattle.day_orders.specs.declared.orders.Batch.{Batch}
use Rattle.desk_data.specs.Situation.{Situation}
use Rattle.desk_model.specs.declared.answer.Event.{Event}
use Rattle.desk_model.specs.declared.answer.Event.TheVariants as event
use Rattle.desk_model.specs.Histories.{has_room, is_batch}
use Rattle.desk_disk.specs.Records.{AreAccepted, Opens}
use Rattle.desk_disk.proofs.Storing.{accepted_behind, accepted_front, accepted_joins}
use Rattle.desk_disk.proofs.Unique.{whole_opens}
use Rattle.desk_journal.specs.Payloads.{AreNext, MayCome, MayStand, batches_among, batches_in, with_room_from as events_from}
use Rattle.desk_journal.proofs.NextLaws.{batches-push}
use Rattle.desk_journal.proofs.PayloadLaws.{batches-spelled}
use Rattle.desk_journal.proofs.StoreLaws.{stand_events}
use Rattle.story_commands.specs.Held.{AreFirst, completed, entered, entered_from, takes}
use Rattle.story_commands.specs.Left.{HoldsBeginning}
use Rattle.story_commands.proofs.Owned.{Begins, begins_by}
use Rattle.story_commands.proofs.Spelled.{none, takes_one, takes_past, events_none, events_one, events_past, below, has_below, entered_either}

-- ---- records, and others behind them

entered_again : (n : ℕ) (ps : List (List ℕ)) → entered_from n (entered_from n ps) ≡ entered_from n ps
entered_again n [] = ap (entered_from n) (none n)
entered_again n (p ∷ ps) = elim (cases_Bool (takes n p)) [
  | inl room ↦ ap (entered_from n) (takes_one n p ps room) ∙ takes_one n p (entered_from (n + 1) ps) room ∙ ap (λ (l : List (List ℕ)). p ∷ l) (entered_again (n + 1) ps) ∙ sym (takes_one n p ps room)
  | inr full ↦ ap (entered_from n) (takes_past n p ps full) ∙ entered_again n ps ∙ sym (takes_past n p ps full)
]

entered_few : (n : ℕ) (ps : List (List ℕ)) → length (entered_from n ps) ≤ length ps
entered_few n [] = omega (arith, ap length (none n))
entered_few n (p ∷ ps) = elim (cases_Bool (takes n p)) [
  | inl room ↦ omega (arith, ap length (takes_one n p ps room), entered_few (n + 1) ps)
  | inr full ↦ omega (arith, ap length (takes_past n p ps full), entered_few n ps)
]

entered_append : (n : ℕ) (xs ys : List (List ℕ)) → entered_from n (xs ++ ys) ≡ entered_from n xs ++ entered_from (n + length (entered_from n xs)) ys
entered_append n [] ys =
    let same : n + length (entered_from n []) ≡ n = omega (arith, ap length (none n)) in
    sym (ap (λ (l : List (List ℕ)). l ++ entered_from (n + length (entered_from n [])) ys) (none n) ∙ ap (λ (k : ℕ). entered_from k ys) same)
entered_append n (x ∷ xs) ys = elim (cases_Bool (takes n x)) [
  | inl room ↦
      let place : (n + 1) + length (entered_from (n + 1) xs) ≡ n + length (x ∷ entered_from (n + 1) xs) = omega arith in
      takes_one n x (xs ++ ys) room ∙ ap (λ (l : List (List ℕ)). x ∷ l) (entered_append (n + 1) xs ys)
      ∙ ap (λ (k : ℕ). x ∷ (entered_from (n + 1) xs ++ entered_from k ys)) place
      ∙ ap (λ (l : List (List ℕ)). l ++ entered_from (n + length l) ys) (sym (takes_one n x xs room))
  | inr full ↦ takes_past n x (xs ++ ys) full ∙ entered_append n xs ys ∙ ap (λ (l : List (List ℕ)). l ++ entered_from (n + length l) ys) (sym (takes_past n x xs full))
]

entered_behind : (xs ys : List (List ℕ)) → entered (xs ++ ys) ≡ entered xs ++ entered_from (length (entered xs)) ys
entered_behind xs ys =
    let place : 0 + length (entered xs) ≡ length (entered xs) = omega arith in
    entered_append 0 xs ys ∙ ap (λ (k : ℕ). entered xs ++ entered_from k ys) place

-- where all have an entry, so do the first of them
front_enters : (n : ℕ) (xs ys : List (List ℕ)) → entered_from n (xs ++ ys) ≡ xs ++ ys → entered_from n xs ≡ xs
front_enters n xs ys is =
    let got = entered_from n xs in
    let behind = entered_from (n + length got) ys in
    let parts : got ++ behind ≡ xs ++ ys = sym (entered_append n xs ys) ∙ is in
    let size : length got ≡ length xs = omega (arith, ap length parts, length-append got behind, length-append xs ys, entered_few n xs, entered_few (n + length got) ys) in
    sym (take_at got behind (length xs) size) ∙ ap (take (length xs)) parts ∙ take_at xs ys (length xs) refl

cancel : (xs ys zs : List (List ℕ)) → xs ++ ys ≡ xs ++ zs → ys ≡ zs
cancel xs ys zs is = sym (drop_at xs ys (length xs) refl) ∙ ap (drop (length xs)) is ∙ drop_at xs zs (length xs) refl

-- what all have behind the entries of records finds room behind these
rest_enters : (all records rest : List (List ℕ)) → entered all ≡ all → all ≡ entered records ++ rest → entered_from (length (entered records)) rest ≡ rest
rest_enters all records rest whole is =
    let front = entered records in
    let again : entered (front ++ rest) ≡ front ++ rest = ap entered (sym is) ∙ whole ∙ is in
    let parts : entered (front ++ rest) ≡ front ++ entered_from (length front) rest = entered_behind front rest ∙ ap (λ (l : List (List ℕ)). l ++ entered_from (length l) rest) (entered_again 0 records) in
    cancel front (entered_from (length front) rest) rest (sym parts ∙ again)

-- a list that begins with as many as another, and with the same
splits : (xs ys us vs : List (List ℕ)) → xs ++ ys ≡ us ++ vs → length xs ≤ length us → (mid : List (List ℕ)) × (us ≡ xs ++ mid) × (ys ≡ mid ++ vs)
splits [] ys us vs is le = (us, refl, is)
splits (x ∷ xs) ys [] vs is le = absurd (omega (arith, le))
splits (x ∷ xs) ys (u ∷ us) vs is le =
    let head : x ≡ u = cc in
    let tail : xs ++ ys ≡ us ++ vs = cc in
    let rest = splits xs ys us vs tail (omega (arith, le)) in
    (rest.0, ap (λ (l : List (List ℕ)). u ∷ l) rest.1 ∙ ap (λ (h : List ℕ). h ∷ (xs ++ rest.0)) (sym head), rest.2)

-- ---- which may stand behind one another

-- one event more: how many batches there are
one_more : (e : ℕ × Event) (xs ys : List (ℕ × Event)) → batches_among xs ≡ batches_among ys → batches_among (e ∷ xs) ≡ batches_among (e ∷ ys)
one_more e xs ys is = omega (arith, is, sum_by-cons (λ (asked : ℕ × Event). cond (is_batch asked.1) 1 0) e xs, sum_by-cons (λ (asked : ℕ × Event). cond (is_batch asked.1) 1 0) e ys)

no_more : (e : ℕ × Event) (xs : List (ℕ × Event)) → is_batch e.1 ≡ false → batches_among (e ∷ xs) ≡ batches_among xs
no_more e xs is =
    let count : Bool → ℕ = λ b. cond b 1 0 in
    let none : count (is_batch e.1) ≡ 0 = ap count is in
    omega (arith, none, sum_by-cons (λ (asked : ℕ × Event). cond (is_batch asked.1) 1 0) e xs)

-- each batch finds room
batches_enter : (I : Situation) (batches : List Batch) (n b : ℕ) (es : List (ℕ × Event)) → length batches ≤ 100000 → n ≤ 900000 + b → AreNext I batches b es → batches_among (events_from n es) ≡ batches_among es
batches_enter I batches n b [] few le next = ap batches_among (events_none n)
batches_enter I batches n b ((c, event.Batch B) ∷ es) few le next =
    let there : b < length batches = slice_get_within batches b B next.1.0.1 in
    let room : has_room n (event.Batch B) ≡ true = has_below n 1000000 (omega (arith, there, few, le)) in
    let rest : batches_among (events_from (n + 1) es) ≡ batches_among es = batches_enter I batches (n + 1) (b + 1) es few (omega (arith, le)) next.1.1 in
    ap batches_among (events_one n (c, event.Batch B) es room) ∙ one_more (c, event.Batch B) (events_from (n + 1) es) es rest
batches_enter I batches n b ((c, event.Move m) ∷ es) few le next = elim (cases_Bool (has_room n (event.Move m))) [
  | inl room ↦ ap batches_among (events_one n (c, event.Move m) es room) ∙ no_more (c, event.Move m) (events_from (n + 1) es) refl ∙ batches_enter I batches (n + 1) b es few (omega (arith, below n 900000 room)) next.1.1 ∙ sym (no_more (c, event.Move m) es refl)
  | inr full ↦ ap batches_among (events_past n (c, event.Move m) es full) ∙ batches_enter I batches n b es few le next.1.1 ∙ sym (no_more (c, event.Move m) es refl)
]

-- so records have as many as their entries
batches_same : (I : Situation) (batches : List Batch) (records : List (List ℕ)) → length batches ≤ 1001 → AreAccepted (MayStand I batches) [] records → batches_in (entered records) ≡ batches_in records
batches_same I batches records few each =
    let found = stand_events I batches records each in
    let es = found.0 in
    ap batches_in (ap entered found.1 ∙ entered_either I batches es few found.2)
    ∙ batches-spelled 0 (events_from 0 es)
    ∙ batches_enter I batches 0 0 es (omega (arith, few)) (omega arith) found.2
    ∙ sym (batches-spelled 0 es)
    ∙ ap batches_in (sym found.1)

-- what may stand behind some payloads may stand behind others with as many batches
stand_same : (I : Situation) (batches : List Batch) (front other ps : List (List ℕ)) → batches_in front ≡ batches_in other → AreAccepted (MayStand I batches) front ps → AreAccepted (MayStand I batches) other ps
stand_same I batches front other [] same all = tt
stand_same I batches front other (p ∷ ps) same all =
    let next : batches_in (front ++ p ∷ []) ≡ batches_in (other ++ p ∷ []) = omega (arith, same, batches-push front p, batches-push other p) in
    (subst (λ (due : ℕ). MayCome I batches due p) same all.0, stand_same I batches (front ++ p ∷ []) (other ++ p ∷ []) ps next all.1)

completed_stand : (I : Situation) (batches : List Batch) (all records rest : List (List ℕ)) → length batches ≤ 1001 → AreAccepted (MayStand I batches) [] all → AreAccepted (MayStand I batches) [] records → all ≡ entered records ++ rest → AreAccepted (MayStand I batches) [] (records ++ rest)
completed_stand I batches all records rest few whole each is =
    let accepts = MayStand I batches in
    let behind = accepted_behind accepts [] (entered records) rest (subst (AreAccepted accepts []) is whole) in
    accepted_joins accepts [] records rest each (stand_same I batches (entered records) records rest (batches_same I batches records few each) behind)

-- ---- the file

-- it opens as records that may stand there, at least m of which have an entry, and these are the first of all
pub record Continues (I : Situation) (batches : List Batch) (all : List (List ℕ)) (m : ℕ) (c : List ℕ) : Type 0 where
  pub records : List (List ℕ)
  pub place : ℕ
  pub opens : Opens records place c
  pub each : AreAccepted (MayStand I batches) [] records
  pub first : AreFirst records all
  pub least : m ≤ length (entered records)

pub completed_opens : (I : Situation) (batches : List Batch) (all records : List (List ℕ)) (n m : ℕ) (c : List ℕ) → length batches ≤ 1001 → entered all ≡ all → AreAccepted (MayStand I batches) [] all → AreAccepted (MayStand I batches) [] records → AreFirst records all
    → length records ≤ n → m + length records ≤ n + length (entered records) → HoldsBeginning (completed records all) n c → Continues I batches all m c
completed_opens I batches all records n m c few enters whole each first le size o =
    let accepts = MayStand I batches in
    let front = entered records in
    let rest = first.0 in
    let is : all ≡ front ++ rest = first.1 in
    let lacks : drop (length front) all ≡ rest = ap (drop (length front)) is ∙ drop_at front rest (length front) refl in
    let own : HoldsBeginning (records ++ rest) n c = subst (λ (ps : List (List ℕ)). HoldsBeginning ps n c) (ap (λ (ps : List (List ℕ)). records ++ ps) lacks) o in
    let a = whole_opens own.front own.next c own.whole in
    let b : Begins (records ++ rest) a.found n = begins_by (records ++ rest) n c own a.found a.which in
    let parts = splits records rest a.found b.more b.is (omega (arith, le, b.least)) in
    let mid = parts.0 in
    let room : entered_from (length front) (mid ++ b.more) ≡ mid ++ b.more = subst (λ (ps : List (List ℕ)). entered_from (length front) ps ≡ ps) parts.2 (rest_enters all records rest enters is) in
    let got : entered a.found ≡ front ++ mid = ap entered parts.1 ∙ entered_behind records mid ∙ ap (λ (ps : List (List ℕ)). front ++ ps) (front_enters (length front) mid b.more room) in
    record {
      records = a.found;
      place = a.place;
      opens = a.opens;
      each = accepted_front accepts [] a.found b.more (subst (AreAccepted accepts []) b.is (completed_stand I batches all records rest few whole each is));
      first = (b.more, is ∙ ap (λ (ps : List (List ℕ)). front ++ ps) parts.2 ∙ sym (append_assoc front mid b.more) ∙ ap (λ (ps : List (List ℕ)). ps ++ b.more) (sym got));
      least = omega (arith, b.least, size, ap length got, length-append front mid, ap length parts.1, length-append records mid);
    }

-- and how many payloads there are then
pub length_completed : (all records : List (List ℕ)) → AreFirst records all → length (completed records all) + length (entered records) ≡ length records + length all
length_completed all records first =
    let front = entered records in
    let rest = first.0 in
    let lacks : drop (length front) all ≡ rest = ap (drop (length front)) first.1 ∙ drop_at front rest (length front) refl in
    omega (arith, length-append records (drop (length front) all), ap length lacks, ap length first.1, length-append front rest)
