-- What is read leaves no more tokens than there were.
use Rattle.std.proofs.Common.{ℕ, zero, suc, ◌≤◌, Bool, true, false, List, [], ◌∷◌, length, Result, Ok, Err, arith}
use Rattle.std.specs.Prelude.{IfOk}
use Rattle.file_rows.specs.declared.cause.Cause.{Cause}
use Rattle.desk_text.specs.Fields.{number_of, cabin_of, inbound_of}
use Rattle.desk_text.specs.Rows.{◌>>=◌}
use Rattle.desk_journal.specs.declared.kind.StepKind.{StepKind}
use Rattle.desk_journal.specs.declared.kind.StepKind.TheVariants as kinds
use Rattle.desk_journal.specs.Tokens.{TokenReaders, Reading, token, kind_of, flown_of, later_of}
use Rattle.desk_journal.specs.Steps.{leg_at, moment_at, row_from, row_at, after_from, seat_at, seats_at, path_at, step_from, step_at}

-- what is read leaves at most so many tokens
abbrev pub Leaves : {X : Type 0} → ℕ → Reading X → Type 0
Leaves most read = IfOk read (λ x. length x.1 ≤ most)

leaves_more : {X : Type 0} (m n : ℕ) (read : Reading X) → m ≤ n → Leaves m read → Leaves n read
leaves_more m n (Ok x) le h = omega arith
leaves_more m n (Err cause) le h = tt

-- one reading after another
then : {A B : Type 0} (n : ℕ) (read : Reading A) (next : A × List (List ℕ) → Reading B) → Leaves n read → ((a : A × List (List ℕ)) → Leaves (length a.1) (next a)) → Leaves n (read >>= next)
then n (Ok a) next h k = leaves_more (length a.1) n (next a) h (k a)
then n (Err cause) next h k = tt

spelt : {X : Type 0} (x : Result X Cause) (tokens : List (List ℕ)) → Leaves (suc (length tokens)) (x >>= λ x. Ok (x, tokens))
spelt (Ok x) tokens = omega arith
spelt (Err cause) tokens = tt

leaves-token : {X : Type 0} (spells : List ℕ → Result X Cause) (tokens : List (List ℕ)) → Leaves (length tokens) (token spells tokens)
leaves-token spells [] = tt
leaves-token spells (first ∷ tokens) = spelt (spells first) tokens

module _ (T : TokenReaders) where
  leaves-leg : (tokens : List (List ℕ)) → Leaves (length tokens) (leg_at T tokens)
  unfolding leg_at
  leaves-leg tokens = then _ _ _ (leaves-token T.name_of tokens) (λ flight. then _ _ _ (leaves-token T.date_of flight.1) (λ day. omega arith))

  leaves-moment : (tokens : List (List ℕ)) → Leaves (length tokens) (moment_at T tokens)
  unfolding moment_at
  leaves-moment tokens = then _ _ _ (leaves-token T.date_of tokens) (λ day. then _ _ _ (leaves-token T.time_of day.1) (λ time. omega arith))

  leaves-row_from : (flown : Bool) (tokens : List (List ℕ)) → Leaves (length tokens) (row_from T flown tokens)
  unfolding row_from
  leaves-row_from true tokens = then _ _ _ (leaves-token T.name_of tokens) (λ plane. then _ _ _ (leaves-moment plane.1) (λ dep. omega arith))
  leaves-row_from false tokens = omega arith

  leaves-row : (tokens : List (List ℕ)) → Leaves (length tokens) (row_at T tokens)
  unfolding row_at
  leaves-row tokens = then _ _ _ (leaves-token flown_of tokens) (λ flown. leaves-row_from flown.0 flown.1)

  leaves-after : (is_later : Bool) (tokens : List (List ℕ)) → Leaves (length tokens) (after_from T is_later tokens)
  unfolding after_from
  leaves-after true tokens = then _ _ _ (leaves-leg tokens) (λ leg. omega arith)
  leaves-after false tokens = omega arith

  leaves-seat : (tokens : List (List ℕ)) → Leaves (length tokens) (seat_at T tokens)
  unfolding seat_at
  leaves-seat tokens = then _ _ _ (leaves-leg tokens) (λ leg. then _ _ _ (leaves-token cabin_of leg.1) (λ cabin. omega arith))

  leaves-seats : (count : ℕ) (tokens : List (List ℕ)) → Leaves (length tokens) (seats_at T count tokens)
  unfolding seats_at
  leaves-seats zero tokens = omega arith
  leaves-seats (suc count) tokens = then _ _ _ (leaves-seat tokens) (λ seat. then _ _ _ (leaves-seats count seat.1) (λ others. omega arith))

  leaves-path : (tokens : List (List ℕ)) → Leaves (length tokens) (path_at T tokens)
  unfolding path_at
  leaves-path tokens = then _ _ _ (leaves-token (number_of 0 8) tokens) (λ count. then _ _ _ (leaves-seats count.0 count.1) (λ seats. omega arith))

  leaves-step_from : (kind : StepKind) (tokens : List (List ℕ)) → Leaves (length tokens) (step_from T kind tokens)
  unfolding step_from
  leaves-step_from kinds.Set tokens = then _ _ _ (leaves-leg tokens) (λ leg. then _ _ _ (leaves-row leg.1) (λ was. then _ _ _ (leaves-row was.1) (λ new. omega arith)))
  leaves-step_from kinds.Push tokens = then _ _ _ (leaves-token T.name_of tokens) (λ plane. then _ _ _ (leaves-token later_of plane.1) (λ is_later. then _ _ _ (leaves-after is_later.0 is_later.1) (λ after. omega arith)))
  leaves-step_from kinds.Swap tokens = then _ _ _ (leaves-token T.name_of tokens) (λ first. then _ _ _ (leaves-token T.name_of first.1) (λ second. then _ _ _ (leaves-moment second.1) (λ at. omega arith)))
  leaves-step_from kinds.Rebook tokens = then _ _ _ (leaves-token T.name_of tokens) (λ name. then _ _ _ (leaves-token inbound_of name.1) (λ inbound. then _ _ _ (leaves-token (number_of 1 1000) inbound.1) (λ count. then _ _ _ (leaves-path count.1) (λ path. then _ _ _ (leaves-path path.1) (λ to. omega arith)))))
  leaves-step_from kinds.Tidy tokens = omega arith
  leaves-step_from kinds.Refill tokens = then _ _ _ (leaves-leg tokens) (λ leg. omega arith)

  leaves-kind : (kind : Result StepKind Cause) (tokens : List (List ℕ)) → Leaves (length tokens) (kind >>= λ k. step_from T k tokens)
  leaves-kind (Ok kind) tokens = leaves-step_from kind tokens
  leaves-kind (Err cause) tokens = tt

  pub leaves-step : (word : List ℕ) (tokens : List (List ℕ)) → Leaves (length tokens) (step_at T word tokens)
  unfolding step_at
  leaves-step word tokens = leaves-kind (kind_of word) tokens
