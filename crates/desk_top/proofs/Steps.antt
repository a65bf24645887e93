-- The paths and the counts of the steps that the grammar of the journal gives.
use Rattle.std.proofs.Common.{◌≡◌, inl, inr, ℕ, zero, suc, ◌≤◌, List, [], ◌∷◌, refl, ap, arith}
use Rattle.std.specs.Prelude.{Ok, length, bytes_eq, codes}
use Rattle.std.proofs.lemmas.Bool.{cases_Bool}
use Rattle.std.specs.List.{AllByRecursion}
use Rattle.desk_text.specs.Fields.{inbound_of, number_of}
use Rattle.desk_text.specs.Rows.{◌>>=◌}
use Rattle.desk_journal.specs.declared.rows.NamedPath.{NamedPath}
use Rattle.desk_journal.specs.declared.rows.NamedStep.{NamedStep}
use Rattle.desk_journal.specs.declared.rows.NamedStep.TheVariants.{Rebook}
use Rattle.desk_journal.specs.Tokens.{TokenReaders, token, later_of}
use Rattle.desk_journal.specs.Steps.{leg_at, moment_at, row_at, after_from, seat_at, seats_at, path_at, step_from, step_at, steps_within, steps_of}
use Rattle.desk_top.specs.Due.{IsShort}
use Rattle.desk_top.proofs.Parts.{number_of-within}
use Rattle.desk_top.proofs.Gives.{Gives, each, at_ok}

-- ---- numbers

abbrev Within : ℕ → ℕ → ℕ → Type 0
Within low high n = (low ≤ n) × (n ≤ high)

number_gives : (low high : ℕ) (tokens : List (List ℕ)) → Gives (token (number_of low high) tokens) (λ r. Within low high r.0)
number_gives low high [] = tt
number_gives low high (field ∷ others) = each (number_of low high field) (λ n. Ok (n, others)) (λ r. Within low high r.0) (λ n is. number_of-within low high field n is)

-- ---- paths

seats_length : (T : TokenReaders) (count : ℕ) (tokens : List (List ℕ)) → Gives (seats_at T count tokens) (λ r. length r.0 ≡ count)
unfolding seats_at
seats_length T zero tokens = refl
seats_length T (suc count) tokens =
    each (seat_at T tokens) _ (λ r. length r.0 ≡ suc count) (λ seat is. each (seats_at T count seat.1) _ (λ r. length r.0 ≡ suc count) (λ others also.
    ap suc (at_ok (λ r. length r.0 ≡ count) (seats_at T count seat.1) others also (seats_length T count seat.1))))

-- a path has at most 8 legs
abbrev HasFew : NamedPath × List (List ℕ) → Type 0
HasFew r = length r.0.legs ≤ 8

path_few : (T : TokenReaders) (tokens : List (List ℕ)) → Gives (path_at T tokens) HasFew
unfolding path_at
path_few T tokens =
    each (token (number_of 0 8) tokens) _ HasFew (λ count is. each (seats_at T count.0 count.1) _ HasFew (λ seats also.
    (let most = at_ok (λ r. Within 0 8 r.0) (token (number_of 0 8) tokens) count is (number_gives 0 8 tokens) in
    let size = at_ok (λ r. length r.0 ≡ count.0) (seats_at T count.0 count.1) seats also (seats_length T count.0 count.1) in
    omega (arith, most.1, size))))

-- ---- steps

abbrev Short : NamedStep × List (List ℕ) → Type 0
Short r = IsShort r.0

rebook_short : (T : TokenReaders) (tokens : List (List ℕ)) → Gives (token T.name_of tokens >>= λ name. token inbound_of name.1 >>= λ inbound. token (number_of 1 1000) inbound.1 >>= λ count. path_at T count.1 >>= λ path. path_at T path.1 >>= λ to. Ok (Rebook (record { name = name.0; inbound = inbound.0 }) path.0 to.0 count.0, to.1)) Short
rebook_short T tokens =
    each (token T.name_of tokens) _ Short (λ name is. each (token inbound_of name.1) _ Short (λ inbound is.
    each (token (number_of 1 1000) inbound.1) _ Short (λ count counted. each (path_at T count.1) _ Short (λ path first. each (path_at T path.1) _ Short (λ to second.
    (let n = at_ok (λ r. Within 1 1000 r.0) (token (number_of 1 1000) inbound.1) count counted (number_gives 1 1000 inbound.1) in
    (at_ok HasFew (path_at T count.1) path first (path_few T count.1), at_ok HasFew (path_at T path.1) to second (path_few T path.1), n.0, n.1)))))))

-- by the word of a step
one_short : (T : TokenReaders) (word : List ℕ) (tokens : List (List ℕ)) → Gives (step_at T word tokens) Short
unfolding step_at step_from
one_short T word tokens = elim (cases_Bool (bytes_eq word (codes "set"))) [
  | inl is ↦ rw is (each (leg_at T tokens) _ Short (λ leg is. each (row_at T leg.1) _ Short (λ was is. each (row_at T was.1) _ Short (λ new is. tt))))
  | inr no_set ↦ rw no_set (elim (cases_Bool (bytes_eq word (codes "push"))) [
    | inl is ↦ rw is (each (token T.name_of tokens) _ Short (λ plane is. each (token later_of plane.1) _ Short (λ later is. each (after_from T later.0 later.1) _ Short (λ after is. tt))))
    | inr no_push ↦ rw no_push (elim (cases_Bool (bytes_eq word (codes "swap"))) [
      | inl is ↦ rw is (each (token T.name_of tokens) _ Short (λ one is. each (token T.name_of one.1) _ Short (λ other is. each (moment_at T other.1) _ Short (λ at is. tt))))
      | inr no_swap ↦ rw no_swap (elim (cases_Bool (bytes_eq word (codes "rebook"))) [
        | inl is ↦ rw is (rebook_short T tokens)
        | inr no_rebook ↦ rw no_rebook (elim (cases_Bool (bytes_eq word (codes "tidy"))) [
          | inl is ↦ rw is tt
          | inr no_tidy ↦ rw no_tidy (elim (cases_Bool (bytes_eq word (codes "refill"))) [
            | inl is ↦ rw is (each (leg_at T tokens) _ Short (λ leg is. tt))
            | inr none ↦ rw none tt
          ])
        ])
      ])
    ])
  ])
]

abbrev AreShort : List NamedStep → Type 0
AreShort steps = AllByRecursion IsShort steps

within_short : (T : TokenReaders) (most : ℕ) (tokens : List (List ℕ)) → Gives (steps_within T most tokens) AreShort
unfolding steps_within
within_short T most [] = tt
within_short T zero (word ∷ tokens) = tt
within_short T (suc most) (word ∷ tokens) =
    each (step_at T word tokens) _ AreShort (λ step is. each (steps_within T most step.1) _ AreShort (λ steps also.
    (at_ok Short (step_at T word tokens) step is (one_short T word tokens), at_ok AreShort (steps_within T most step.1) steps also (within_short T most step.1))))

pub steps_short : (T : TokenReaders) (tokens : List (List ℕ)) → Gives (steps_of T tokens) AreShort
unfolding steps_of
steps_short T tokens = within_short T (length tokens) tokens
