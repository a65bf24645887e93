-- What lines say, from one line to the next.
use Rattle.std.proofs.Common.{◌≡◌, ℕ, suc, ◌+◌, ◌<◌, ◌≤◌, inl, inr, Bool, true, false, cond, eqb, List, [], ◌∷◌, ◌++◌, length, map, take, drop, get_or, set, replicate, Option, Some, None, Result, Ok, Err, refl, sym, ap, subst, ◌∙◌, arith, get_or-set_other, get_or-set_same}
use Rattle.std.specs.Prelude.{fold, IfOk}
use Rattle.std.specs.List.{range_with_len, AllByRecursion}
use Rattle.std.proofs.Math.Seq.{take-suc}
use Rattle.std.proofs.lemmas.Bool.{cases_eq, eq-eqb, ne_eqb}
use Rattle.std.proofs.lemmas.List.{ext_get_or, get_or-replicate, length-set, length-replicate, take_all}
use Rattle.std.proofs.lemmas.List.FromFn.{get_or-map-range_with_len, length-map-range_with_len}
use Rattle.std.proofs.lemmas.List.Sums.{fold-append}
use Rattle.file_rows.specs.declared.cause.Cause.{Cause}
use Rattle.file_rows.specs.declared.cause.Cause.TheVariants.{Twice}
use Rattle.build_refusals.specs.First.{refusal_from}
use Rattle.build_refusals.proofs.FirstLemmas.{of_row, refused_more, refused_here, refused_end}
use Rattle.file_joins.specs.Statement.{Statement, added, entry_among, cause_of, line_cause, first_refused, unless, entries_stated, Adds}

-- the line after the first n lines
pub take_more : {X : Type 0} (xs : List X) (n : ℕ) (x : X) → n < length xs → x ≡ get_or xs n x → take (n + 1) xs ≡ take n xs ++ x ∷ []
take_more xs n x below is =
    let next : n + 1 ≡ suc n = omega arith in
    ap (λ (k : ℕ). take k xs) next ∙ take-suc xs n x below ∙ ap (λ z. take n xs ++ z ∷ []) (sym is)

module _ {Line Stated Entry : Type 0} (T : Statement Line Stated Entry) where
  -- one more line
  pub entry_among-more : (before : List Line) (line : Line) (x : ℕ) → entry_among T (before ++ line ∷ []) x ≡ added T x (entry_among T before x) (T.stated line)
  unfolding entry_among
  entry_among-more before line x = fold-append (λ entry line. added T x entry (T.stated line)) T.none before (line ∷ [])

  pub entry_among-none : (x : ℕ) → entry_among T [] x ≡ T.none
  unfolding entry_among
  entry_among-none x = refl

  -- what holds of nothing and of what each line adds holds of all that lines say
  pub entry_among-holds : (P : Line → Type 0) (Q : Entry → Type 0) → Q T.none → ((entry : Entry) (line : Line) (stated : Stated) → P line → T.stated line ≡ Ok stated → Q entry → Q (T.add entry stated))
      → (lines : List Line) (x : ℕ) → AllByRecursion P lines → Q (entry_among T lines x)
  unfolding entry_among
  entry_among-holds P Q base step lines x all = goes lines T.none all base
    where
      one : (line : Line) (entry : Entry) (r : Result Stated Cause) → T.stated line ≡ r → P line → Q entry → Q (added T x entry r)
      one line entry (Err why) is p q = q
      one line entry (Ok stated) is p q = here (eqb (T.about stated) x)
        where
          here : (b : Bool) → Q (cond b (T.add entry stated) entry)
          here true = step entry line stated p is q
          here false = q

      goes : (lines : List Line) (entry : Entry) → AllByRecursion P lines → Q entry → Q (fold (λ entry line. added T x entry (T.stated line)) entry lines)
      goes [] entry all q = q
      goes (line ∷ lines) entry all q = goes lines (added T x entry (T.stated line)) all.1 (one line entry (T.stated line) refl all.0 q)

  module _ (size : ℕ) (lines : List Line) where
    -- the entries after the first n lines, none of which is refused
    pub record AreAfter (n : ℕ) (entries : List Entry) : Type 0 where
      pub size_is : length entries ≡ size
      pub each : (x : ℕ) → x < size → get_or entries x T.none ≡ entry_among T (take n lines) x
      pub passed : refusal_from (λ n line. line_cause T (take n lines) line) (of_row T.number) n (drop n lines) ≡ first_refused T lines

    pub same_after : (n : ℕ) (entries entries' : List Entry) → entries ≡ entries' → AreAfter n entries → AreAfter n entries'
    same_after n entries entries' same after = subst (AreAfter n) same after

    pub begins : (entries : List Entry) → entries ≡ replicate size T.none → AreAfter 0 entries
    begins entries is = record {
      size_is = ap length is ∙ length-replicate size T.none;
      each = λ x lt. ap (λ es. get_or es x T.none) is ∙ get_or-replicate size x T.none T.none lt ∙ sym (entry_among-none x);
      passed = refl;
    }

    -- the cause that the entries give is that of the line
    same_cause : (n : ℕ) (entries : List Entry) (line : Line) → AreAfter n entries → IfOk (T.stated line) (λ stated. T.about stated < size)
        → cause_of (λ stated. T.again stated (get_or entries (T.about stated) T.none)) (T.stated line) ≡ line_cause T (take n lines) line
    unfolding line_cause
    same_cause n entries line after within = by (T.stated line) within
      where
        by : (r : Result Stated Cause) → IfOk r (λ stated. T.about stated < size)
            → cause_of (λ stated. T.again stated (get_or entries (T.about stated) T.none)) r ≡ cause_of (λ stated. T.again stated (entry_among T (take n lines) (T.about stated))) r
        by (Ok stated) lt = ap (λ entry. cond (T.again stated entry) (Some Twice) None) (after.each (T.about stated) lt)
        by (Err why) lt = refl

    -- a line adds what it says
    pub goes_on : (n : ℕ) (entries entries' : List Entry) (line : Line) (why : Option Cause) → n < length lines → line ≡ get_or lines n line → IfOk (T.stated line) (λ stated. T.about stated < size)
        → why ≡ cause_of (λ stated. T.again stated (get_or entries (T.about stated) T.none)) (T.stated line) → why ≡ None → Adds T (T.stated line) entries entries' → AreAfter n entries → AreAfter (n + 1) entries'
    goes_on n entries entries' line why below is within is_why none adds after = by (T.stated line) refl within adds (sym none ∙ is_why)
      where
        causes : why ≡ line_cause T (take n lines) line
        causes = is_why ∙ same_cause n entries line after within

        by : (r : Result Stated Cause) → T.stated line ≡ r → IfOk r (λ stated. T.about stated < size) → Adds T r entries entries' → None ≡ cause_of (λ stated. T.again stated (get_or entries (T.about stated) T.none)) r → AreAfter (n + 1) entries'
        by (Err e) stated_is lt puts no_cause = absurd cc
        by (Ok stated) stated_is lt puts no_cause = record {
          size_is = ap length puts ∙ length-set entries (T.about stated) _ ∙ after.size_is;
          each = λ x x_lt.
              ap (λ es. get_or es x T.none) puts
              ∙ elim (cases_eq (T.about stated) x) [
                | inl same ↦ here x same
                | inr other ↦ get_or-set_other entries (T.about stated) x (T.add (get_or entries (T.about stated) T.none) stated) T.none (λ e. other (sym e)) ∙ after.each x x_lt ∙ sym (ap (λ b. cond b (T.add (entry_among T (take n lines) x) stated) (entry_among T (take n lines) x)) (ne_eqb (T.about stated) x other))
              ]
              ∙ sym (ap (λ (ls : List Line). entry_among T ls x) (take_more lines n line below is) ∙ entry_among-more (take n lines) line x ∙ ap (added T x (entry_among T (take n lines) x)) stated_is);
          passed = refused_more (λ n line. line_cause T (take n lines) line) (of_row T.number) lines n line (first_refused T lines) below is (sym none ∙ causes) after.passed;
        }
          where
            here : (x : ℕ) → T.about stated ≡ x → get_or (set entries (T.about stated) (T.add (get_or entries (T.about stated) T.none) stated)) x T.none ≡ cond (eqb (T.about stated) x) (T.add (entry_among T (take n lines) x) stated) (entry_among T (take n lines) x)
            here x same =
                ap (λ y. get_or (set entries (T.about stated) (T.add (get_or entries (T.about stated) T.none) stated)) y T.none) (sym same)
                ∙ get_or-set_same entries (T.about stated) (T.add (get_or entries (T.about stated) T.none) stated) T.none (subst (λ k. T.about stated < k) (sym after.size_is) lt)
                ∙ ap (λ entry. T.add entry stated) (after.each (T.about stated) lt)
                ∙ ap (λ y. T.add (entry_among T (take n lines) y) stated) same
                ∙ sym (ap (λ b. cond b (T.add (entry_among T (take n lines) x) stated) (entry_among T (take n lines) x)) (eq-eqb (T.about stated) x same))

    -- a line is refused
    pub stops : (n : ℕ) (entries : List Entry) (line : Line) (why : Cause) → n < length lines → line ≡ get_or lines n line → IfOk (T.stated line) (λ stated. T.about stated < size)
        → Some why ≡ cause_of (λ stated. T.again stated (get_or entries (T.about stated) T.none)) (T.stated line) → AreAfter n entries → entries_stated T size lines ≡ Err (T.number line, why)
    unfolding entries_stated
    stops n entries line why below is within is_why after =
        ap (λ refusal. unless refusal (map (entry_among T lines) (range_with_len 0 size)))
        (sym (refused_here (λ n line. line_cause T (take n lines) line) (of_row T.number) lines n line why (first_refused T lines) below is (is_why ∙ same_cause n entries line after within) after.passed))

    -- all lines have been read
    pub ends : (n : ℕ) (entries : List Entry) → length lines ≤ n → AreAfter n entries → entries_stated T size lines ≡ Ok entries
    unfolding entries_stated
    ends n entries over after =
        ap (λ refusal. unless refusal (map (entry_among T lines) (range_with_len 0 size))) (sym (refused_end (λ n line. line_cause T (take n lines) line) (of_row T.number) lines n (first_refused T lines) over after.passed))
        ∙ ap Ok (ext_get_or T.none (map (entry_among T lines) (range_with_len 0 size)) entries (length-map-range_with_len (entry_among T lines) 0 size ∙ sym after.size_is) (λ x lt.
        let below : x < size = subst (λ k. x < k) (length-map-range_with_len (entry_among T lines) 0 size) lt in
        get_or-map-range_with_len (entry_among T lines) 0 size x x T.none below (let e : 0 + x ≡ x = omega arith in e)
        ∙ ap (λ (ls : List Line). entry_among T ls x) (sym (take_all n lines over))
        ∙ sym (after.each x below)))
