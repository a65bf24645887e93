-- The legs of a path, as a loop reads them.
use Rattle.std.proofs.Common.{◌≡◌, ℕ, zero, suc, ◌+◌, ◌-◌, ◌<◌, ◌≤◌, List, [], ◌∷◌, ◌++◌, Ok, Err, refl, sym, ap, ◌∙◌, arith, append_assoc}
use Rattle.std.proofs.lemmas.List.{append-nil}
use Rattle.desk_units.specs.declared.numbers.Cabin.{Cabin}
use Rattle.file_rows.specs.declared.cause.Cause.{Cause}
use Rattle.desk_text.specs.Rows.{◌>>=◌}
use Rattle.desk_journal.specs.declared.rows.NamedLeg.{NamedLeg}
use Rattle.desk_journal.specs.Tokens.{TokenReaders, Reading}
use Rattle.desk_journal.specs.Steps.{seat_at, seats_at}

-- a leg of a path
abbrev pub Seat : Type 0
Seat = NamedLeg × Cabin

-- these legs, and after them those that are read
abbrev pub seats_after : List Seat → Reading (List Seat) → Reading (List Seat)
seats_after before (Ok read) = Ok (before ++ read.0, read.1)
seats_after before (Err cause) = Err cause

one_more : (before : List Seat) (seat : Seat) (others : Reading (List Seat)) → seats_after before (others >>= λ o. Ok (seat ∷ o.0, o.1)) ≡ seats_after (before ++ seat ∷ []) others
one_more before seat (Ok o) = ap (λ seats. Ok (seats, o.1)) (sym (append_assoc before (seat ∷ []) o.0))
one_more before seat (Err cause) = refl

module _ (T : TokenReaders) (before : List Seat) (total : Reading (List Seat)) (count i : ℕ) (tokens : List (List ℕ)) (more : i < count) (so_far : seats_after before (seats_at T (count - i) tokens) ≡ total) where
  abbrev after : Reading Seat → Reading (List Seat)
  after seat = seats_after before (seat >>= λ s. seats_at T (count - (i + 1)) s.1 >>= λ o. Ok (s.0 ∷ o.0, o.1))

  one_seat : after (seat_at T tokens) ≡ total
  unfolding seats_at
  one_seat = let next : suc (count - (i + 1)) ≡ count - i = omega arith in ap (λ n. seats_after before (seats_at T n tokens)) next ∙ so_far

  -- a leg is read
  pub goes_on : (seat : Seat) (rest : List (List ℕ)) → seat_at T tokens ≡ Ok (seat, rest) → seats_after (before ++ seat ∷ []) (seats_at T (count - (i + 1)) rest) ≡ total
  goes_on seat rest e = sym (ap after e ∙ one_more before seat (seats_at T (count - (i + 1)) rest)) ∙ one_seat

  -- a leg is refused
  pub stops : (cause : Cause) → seat_at T tokens ≡ Err cause → total ≡ Err cause
  stops cause e = sym one_seat ∙ ap after e

-- all legs are read
pub all_read : (T : TokenReaders) (before : List Seat) (total : Reading (List Seat)) (count i : ℕ) (tokens : List (List ℕ)) → count ≤ i → seats_after before (seats_at T (count - i) tokens) ≡ total → total ≡ Ok (before, tokens)
unfolding seats_at
all_read T before total count i tokens none so_far =
    let left : count - i ≡ zero = omega arith in
    sym so_far ∙ ap (λ n. seats_after before (seats_at T n tokens)) left ∙ ap (λ seats. Ok (seats, tokens)) (append-nil before)
