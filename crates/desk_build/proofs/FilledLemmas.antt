-- The batches that the rows of the feed fill, from one row to the next.
use Rattle.std.proofs.Common.{◌≡◌, ◌≢◌, ℕ, zero, suc, ◌+◌, ◌<◌, ◌≤◌, true, false, cond, eqb, List, [], ◌∷◌, ◌++◌, length, map, take, get_or, None, refl, sym, ap, subst, ◌∙◌, arith, All, inl, inr}
use Rattle.std.specs.Prelude.{unwrap_or}
use Rattle.std.specs.List.{range_with_len}
use Rattle.std.specs.Option.{option_or}
use Rattle.std.proofs.lemmas.Bool.{cases_lt, eq-eqb, ne_eqb}
use Rattle.std.proofs.lemmas.List.{append-nil}
use Rattle.std.proofs.lemmas.List.FromFn.{map-range_with_len_more}
use Rattle.std.proofs.lemmas.List.Elements.{All-nil, All-cons, All-head, All-tail, All-append, filter-append, filter_map-append}
use Rattle.day_orders.specs.declared.orders.Batch.{Batch}
use Rattle.file_rows.specs.declared.disruptions.AltRow.{AltRow}
use Rattle.file_rows.specs.Facts.{IsFed}
use Rattle.file_rows.specs.Moments.{moment_in}
use Rattle.build_tables.specs.declared.files.Files.{Files}
use Rattle.build_tables.specs.Facts.{AreFileRows}
use Rattle.build_tables.specs.Fitting.{IsInTurn, FitTogether}
use Rattle.build_tables.specs.Batches.{last_batch, last_moment_in}
use Rattle.build_tables.proofs.BatchLemmas.{rows_more, number_of_next, last_moment_more}
use Rattle.desk_build.specs.Batches.{orders_of, orders_fed, opening_orders, rows_in_batch, orders_in_batch, moment_of_batch, batch_with, with_row, batch_in, batches_of}

-- batch k, where these are the rows of the feed
abbrev batch_at : Files → List (ℕ × AltRow) → ℕ → Batch
batch_at x feed zero = batch_with None (opening_orders x)
batch_at x feed (suc k) = batch_in x feed (suc k)

-- these batches are done, and this is what the batch with the last number has, where these are the rows of the feed
pub record AreFilled (x : Files) (feed : List (ℕ × AltRow)) (number : ℕ) (done : List Batch) (batch : Batch) : Type 0 where
  pub last : number ≡ last_batch feed
  pub most : All (λ fed. fed.0 ≤ number) feed
  pub before : done ≡ map (batch_at x feed) (range_with_len 0 number)
  pub own : batch ≡ batch_at x feed number

-- a row of the feed has a batch, and comes in turn
pub fed_facts : (x : Files) → AreFileRows x → FitTogether x → (feed : List (ℕ × AltRow)) → feed ≡ x.feed → (i : ℕ) (fed : ℕ × AltRow) → i < length feed → fed ≡ get_or feed i fed → IsFed fed × IsInTurn (take i feed) fed
fed_facts x rows fit feed same i fed below is =
    let inside : i < length x.feed = subst (λ (f : List (ℕ × AltRow)). i < length f) same below in
    let own : fed ≡ get_or x.feed i fed = is ∙ ap (λ (f : List (ℕ × AltRow)). get_or f i fed) same in (
      subst IsFed (sym own) (rows.feed i fed inside),
      subst (λ (f : List (ℕ × AltRow)). IsInTurn (take i f) fed) (sym same) (subst (IsInTurn (take i x.feed)) (sym own) (fit.turns i fed inside)),
    )

-- two functions that agree on the numbers from a on, n of them
same_on : {A : Type 0} (f g : ℕ → A) (a n : ℕ) → ((k : ℕ) → a ≤ k → k < a + n → f k ≡ g k) → map f (range_with_len a n) ≡ map g (range_with_len a n)
same_on f g a zero same = refl
same_on f g a (suc n) same =
    let first : f a ≡ g a = same a (omega arith) (omega arith) in
    let others = same_on f g (a + 1) n (λ k from below. same k (omega (arith, from)) (omega (arith, below))) in
    λ i. first i ∷ others i

module _ (x : Files) (feed : List (ℕ × AltRow)) (fed : ℕ × AltRow) where
  -- one row more is of one batch
  rows_more_of : (k : ℕ) → rows_in_batch (feed ++ fed ∷ []) k ≡ rows_in_batch feed k ++ cond (eqb fed.0 k) (fed ∷ []) []
  rows_more_of k = filter-append (λ f. eqb f.0 k) feed (fed ∷ [])

  -- the batch that it is of
  own_rows : (k : ℕ) → fed.0 ≡ k → rows_in_batch (feed ++ fed ∷ []) k ≡ rows_in_batch feed k ++ fed ∷ []
  own_rows k is = rows_more_of k ∙ ap (λ b. rows_in_batch feed k ++ cond b (fed ∷ []) []) (eq-eqb fed.0 k is)

  own_batch : (k : ℕ) → 1 ≤ k → fed.0 ≡ k → batch_at x (feed ++ fed ∷ []) k ≡ with_row x (batch_at x feed k) fed.1
  own_batch zero some is = absurd (omega (arith, some))
  own_batch (suc k) some is =
      let rows = own_rows (suc k) is in
      let moment : moment_of_batch (feed ++ fed ∷ []) (suc k) ≡ option_or (moment_in fed.1) (moment_of_batch feed (suc k)) = ap last_moment_in rows ∙ last_moment_more (rows_in_batch feed (suc k)) fed in
      let orders : orders_in_batch x (feed ++ fed ∷ []) (suc k) ≡ orders_in_batch x feed (suc k) ++ orders_of x (fed.1 ∷ []) = ap (orders_fed x) rows ∙ filter_map-append _ (rows_in_batch feed (suc k)) (fed ∷ []) in
      λ i. batch_with (moment i) (orders i)

  -- and no other
  other_batch : (k : ℕ) → fed.0 ≢ k → batch_at x (feed ++ fed ∷ []) k ≡ batch_at x feed k
  other_batch zero differs = refl
  other_batch (suc k) differs =
      let rows : rows_in_batch (feed ++ fed ∷ []) (suc k) ≡ rows_in_batch feed (suc k) = rows_more_of (suc k) ∙ ap (λ b. rows_in_batch feed (suc k) ++ cond b (fed ∷ []) []) (ne_eqb fed.0 (suc k) differs) ∙ append-nil (rows_in_batch feed (suc k)) in
      λ i. batch_with (last_moment_in (rows i)) (orders_fed x (rows i))

  same_batches : (n : ℕ) → n ≤ fed.0 → map (batch_at x (feed ++ fed ∷ [])) (range_with_len 0 n) ≡ map (batch_at x feed) (range_with_len 0 n)
  same_batches n few = same_on (batch_at x (feed ++ fed ∷ [])) (batch_at x feed) 0 n (λ k from below. other_batch k (λ is. absurd (omega (arith, is, below, few))))

-- no row is of a batch after the last
no_rows : (feed : List (ℕ × AltRow)) (number k : ℕ) → All (λ fed. fed.0 ≤ number) feed → number < k → rows_in_batch feed k ≡ []
no_rows [] number k most later = refl
no_rows (fed ∷ feed) number k most later =
    let first : fed.0 ≤ number = All-head (λ (f : ℕ × AltRow). f.0 ≤ number) fed feed most in
    let differs : eqb fed.0 k ≡ false = ne_eqb fed.0 k (λ is. absurd (omega (arith, is, first, later))) in
    ap (λ b. cond b (fed ∷ rows_in_batch feed k) (rows_in_batch feed k)) differs
    ∙ no_rows feed number k (All-tail (λ (f : ℕ × AltRow). f.0 ≤ number) fed feed most) later

empty_batch : (x : Files) (feed : List (ℕ × AltRow)) (number k : ℕ) → All (λ fed. fed.0 ≤ number) feed → number < k → batch_at x feed k ≡ batch_with None []
empty_batch x feed number zero most later = absurd (omega (arith, later))
empty_batch x feed number (suc k) most later =
    let rows = no_rows feed number (suc k) most later in
    λ i. batch_with (last_moment_in (rows i)) (orders_fed x (rows i))

module _ (x : Files) (feed : List (ℕ × AltRow)) (fed : ℕ × AltRow) (number : ℕ) (done : List Batch) (batch : Batch) (filled : AreFilled x feed number done batch)
    (some : 1 ≤ fed.0) (least : number ≤ fed.0) (next : fed.0 ≤ number + 1) (last : fed.0 ≡ last_batch (feed ++ fed ∷ [])) where
  most_more : All (λ f. f.0 ≤ fed.0) (feed ++ fed ∷ [])
  most_more = All-append (λ (f : ℕ × AltRow). f.0 ≤ fed.0) feed (fed ∷ [])
      (λ k d below. omega (arith, filled.most k d below, least))
      (All-cons (λ (f : ℕ × AltRow). f.0 ≤ fed.0) fed [] (omega arith) (All-nil (λ (f : ℕ × AltRow). f.0 ≤ fed.0)))

  -- a row of the batch that is being filled
  same_filled : fed.0 ≡ number → AreFilled x (feed ++ fed ∷ []) fed.0 done (with_row x batch fed.1)
  same_filled is = record {
    last = last;
    most = most_more;
    before = filled.before ∙ ap (λ n. map (batch_at x feed) (range_with_len 0 n)) (sym is) ∙ sym (same_batches x feed fed fed.0 (omega arith));
    own = ap (λ b. with_row x b fed.1) (filled.own ∙ ap (batch_at x feed) (sym is)) ∙ sym (own_batch x feed fed fed.0 some refl);
  }

  -- a row of the next batch
  next_filled : fed.0 ≡ number + 1 → AreFilled x (feed ++ fed ∷ []) fed.0 (done ++ batch ∷ []) (with_row x (batch_with None []) fed.1)
  next_filled is = record {
    last = last;
    most = most_more;
    before = ap (λ items. items ++ batch ∷ []) filled.before
        ∙ ap (λ b. map (batch_at x feed) (range_with_len 0 number) ++ b ∷ []) filled.own
        ∙ sym (map-range_with_len_more (batch_at x feed) 0 number number (omega arith))
        ∙ ap (λ n. map (batch_at x feed) (range_with_len 0 n)) (sym is)
        ∙ sym (same_batches x feed fed fed.0 (omega arith));
    own = ap (λ b. with_row x b fed.1) (sym (empty_batch x feed number fed.0 filled.most (omega (arith, is)))) ∙ sym (own_batch x feed fed fed.0 some refl);
  }

  -- a row of either
  either_filled : (new_done : List Batch) (new : Batch) → new_done ≡ cond (eqb fed.0 number) done (done ++ batch ∷ []) → new ≡ with_row x (cond (eqb fed.0 number) batch (batch_with None [])) fed.1
      → AreFilled x (feed ++ fed ∷ []) fed.0 new_done new
  either_filled new_done new is_done is_new = elim (cases_lt number fed.0) [
    | inl more ↦ (
        let differs : eqb fed.0 number ≡ false = ne_eqb fed.0 number (λ is. absurd (omega (arith, is, more))) in
        let d : new_done ≡ done ++ batch ∷ [] = is_done ∙ ap (λ b. cond b done (done ++ batch ∷ [])) differs in
        let n : new ≡ with_row x (batch_with None []) fed.1 = is_new ∙ ap (λ b. with_row x (cond b batch (batch_with None [])) fed.1) differs in
        subst (λ (items : List Batch). AreFilled x (feed ++ fed ∷ []) fed.0 items new) (sym d) (subst (λ (b : Batch). AreFilled x (feed ++ fed ∷ []) fed.0 (done ++ batch ∷ []) b) (sym n) (next_filled (omega (arith, more, next)))))
    | inr no_more ↦ (
        let is : fed.0 ≡ number = omega (arith, no_more, least) in
        let same : eqb fed.0 number ≡ true = eq-eqb fed.0 number is in
        let d : new_done ≡ done = is_done ∙ ap (λ b. cond b done (done ++ batch ∷ [])) same in
        let n : new ≡ with_row x batch fed.1 = is_new ∙ ap (λ b. with_row x (cond b batch (batch_with None [])) fed.1) same in
        subst (λ (items : List Batch). AreFilled x (feed ++ fed ∷ []) fed.0 items new) (sym d) (subst (λ (b : Batch). AreFilled x (feed ++ fed ∷ []) fed.0 done b) (sym n) (same_filled is)))
  ]

-- one row more
pub filled_more : (x : Files) (rows : List (ℕ × AltRow)) (i : ℕ) (fed : ℕ × AltRow) (number : ℕ) (done new_done : List Batch) (batch new : Batch)
    → AreFilled x (take i rows) number done batch → i < length rows → fed ≡ get_or rows i fed → 1 ≤ fed.0 → last_batch (take i rows) ≤ fed.0 → fed.0 ≤ last_batch (take i rows) + 1
    → new_done ≡ cond (eqb fed.0 number) done (done ++ batch ∷ []) → new ≡ with_row x (cond (eqb fed.0 number) batch (batch_with None [])) fed.1
    → AreFilled x (take (i + 1) rows) fed.0 new_done new
filled_more x rows i fed number done new_done batch new filled below is some least next is_done is_new =
    let more = rows_more rows i fed below is in
    let last : fed.0 ≡ last_batch (take (i + 1) rows) = sym (ap (λ o. unwrap_or o 0) (number_of_next rows i fed below is)) in
    subst (λ (feed : List (ℕ × AltRow)). AreFilled x feed fed.0 new_done new) (sym more)
    (either_filled x (take i rows) fed number done batch filled some (omega (arith, filled.last, least)) (omega (arith, filled.last, next)) (last ∙ ap last_batch more) new_done new is_done is_new)

-- with the last batch, these are all
pub all_filled : (x : Files) (number : ℕ) (done : List Batch) (batch : Batch) → AreFilled x x.feed number done batch → done ++ batch ∷ [] ≡ batches_of x
unfolding batches_of
all_filled x number done batch filled =
    let count : suc number ≡ number + 1 = omega arith in
    ap (λ items. items ++ batch ∷ []) filled.before
    ∙ ap (λ b. map (batch_at x x.feed) (range_with_len 0 number) ++ b ∷ []) filled.own
    ∙ sym (map-range_with_len_more (batch_at x x.feed) 0 number number (omega arith))
    ∙ ap (λ n. map (batch_at x x.feed) (range_with_len 0 n)) (sym count)
    ∙ ap (λ (others : List Batch). batch_with None (opening_orders x) ∷ others) (same_on (batch_at x x.feed) (batch_in x x.feed) 1 number (λ k from below. from_one k from))
    ∙ ap (λ n. batch_with None (opening_orders x) ∷ map (batch_in x x.feed) (range_with_len 1 n)) filled.last
  where
    from_one : (k : ℕ) → 1 ≤ k → batch_at x x.feed k ≡ batch_in x x.feed k
    from_one zero some = absurd (omega (arith, some))
    from_one (suc k) some = refl
