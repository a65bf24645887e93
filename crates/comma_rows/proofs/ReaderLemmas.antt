-- The records that a reader of bytes in memory has left.
use Rattle.std.proofs.Common.{◌≡◌, ℕ, zero, suc, ◌+◌, ◌-◌, ◌<◌, ◌≤◌, Bool, true, false, cond, List, [], ◌∷◌, ◌++◌, length, Option, Some, None, Bor, refl, ap, subst, ◌∙◌, arith, add-one, inl}
use Rattle.std.specs.Prelude.{IsSome, IfSome, ◌==◌, ◌||◌}
use Rattle.csv.specs.Machine.{Read, ends_at_end, fields_after, field_after, is_end, in_field, next_record, start_field, start_record, step}
use Rattle.csv.specs.Reading.{NextIs, ReadRecord, ReadsNext, default_config, is_flexible, pending_of, records_from, records_next, is_bom, strip_bom, took_first}
use Rattle.csv.proofs.ReadFacts.{rows-end}
use Rattle.csv.specs.declared.parser.Action.{Action}
use Rattle.csv.specs.declared.parser.Action.TheVariants as act
use Rattle.csv.specs.declared.parser.State.{State}
use Rattle.csv.specs.declared.parser.State.TheVariants as st
use Rattle.csv.specs.declared.reader.Reader.{Reader}
use Rattle.comma_rows.specs.Records.{text_records}
use Rattle.comma_rows.specs.Readers.{IsReading, NextRecord, records_in, records_left, bytes_left}

-- ---- a record ends between two records

-- a step that ends a record, ends it there
abbrev EndsWell : State × Action → Type 0
EndsWell next = is_end next.1 ≡ true → ends_at_end next.0 ≡ false

by_field : (comma end cr : Bool) → EndsWell (cond comma (st.StartField, act.EndField) (cond end (cond cr st.AfterCr st.StartRecord, act.EndRecord) (st.InField, act.Copy)))
by_field true end cr h = cc
by_field false true true h = refl
by_field false true false h = refl
by_field false false cr h = cc

either_well : (test : Bool) (a b : State × Action) → EndsWell a → EndsWell b → EndsWell (cond test a b)
either_well true a b left right = left
either_well false a b left right = right

in_field_well : (c : ℕ) → EndsWell (in_field default_config c)
in_field_well c = by_field (c == 44) ((c == 13) || (c == 10)) (c == 13)

start_field_well : (c : ℕ) → EndsWell (start_field default_config c)
start_field_well c = either_well (c == 34) (st.InQuoted, act.Skip) (in_field default_config c) (λ e. cc e) (in_field_well c)

start_record_well : (c : ℕ) → EndsWell (start_record default_config c)
start_record_well c = either_well ((c == 13) || (c == 10)) (st.StartRecord, act.Skip) (start_field default_config c) (λ e. refl) (start_field_well c)

ends_well : (s : State) (c : ℕ) → EndsWell (step default_config s c)
ends_well st.StartRecord c = start_record_well c
ends_well st.StartField c = start_field_well c
ends_well st.InField c = in_field_well c
ends_well st.InQuoted c = either_well (c == 34) (st.AfterQuote, act.Skip) (st.InQuoted, act.Copy) (λ e. cc e) (λ e. cc e)
ends_well st.InEscape c = λ e. cc e
ends_well st.AfterQuote c = either_well (c == 34) (st.InQuoted, act.Copy) (in_field default_config c) (λ e. cc e) (in_field_well c)
ends_well st.InComment c = either_well (c == 10) (st.StartRecord, act.Skip) (st.InComment, act.Skip) (λ e. refl) (λ e. cc e)
ends_well st.AfterCr c = either_well (c == 10) (st.StartRecord, act.Skip) (start_record default_config c) (λ e. refl) (start_record_well c)

-- what a record leaves of a text, and where it leaves the machine
record Leaves (xs : List ℕ) (p : Read) : Type 0 where
  bytes : length p.2 ≤ length xs - 1
  between : ends_at_end p.1 ≡ false

-- the end of the text ends a record, or none
at_the_end : (ended : Bool) (fields : List (List ℕ)) (p : Read) → cond ended (Some (fields, st.StartRecord, [])) None ≡ Some p → Leaves [] p
at_the_end true fields p e =
    let last : Read = (fields, st.StartRecord, []) in
    let same : last ≡ p = cc in
    subst (λ (q : Read). Leaves [] q) same (record { bytes = omega arith; between = refl })
at_the_end false fields p e = cc e

-- a byte ends a record, or none
at_a_byte : (ended : Bool) (next : State × Action) (fields : List (List ℕ)) (c : ℕ) (rest : List ℕ) (more : Option Read) (p : Read)
    → EndsWell next → is_end next.1 ≡ ended → (more ≡ Some p → Leaves rest p) → cond ended (Some (fields, next.0, rest)) more ≡ Some p → Leaves (c ∷ rest) p
at_a_byte true next fields c rest more p well is later e =
    let last : Read = (fields, next.0, rest) in
    let same : last ≡ p = cc in
    subst (λ (q : Read). Leaves (c ∷ rest) q) same (record { bytes = omega arith; between = well is })
at_a_byte false next fields c rest more p well is later e = let left = later e in record { bytes = omega (arith, left.bytes); between = left.between }

leaves : (s : State) (fields : List (List ℕ)) (field xs : List ℕ) (p : Read) → next_record default_config s fields field xs ≡ Some p → Leaves xs p
unfolding next_record
leaves s fields field [] p e = at_the_end (ends_at_end s) (fields ++ field ∷ []) p e
leaves s fields field (c ∷ rest) p e =
    let next = step default_config s c in
    at_a_byte (is_end next.1) next (fields_after next.1 fields field) c rest (next_record default_config next.0 (fields_after next.1 fields field) (field_after next.1 c field) rest) p
    (ends_well s c) refl (leaves next.0 (fields_after next.1 fields field) (field_after next.1 c field) rest p) e

-- between two records there is a byte of the next one
not_empty : (s : State) (xs : List ℕ) (p : Read) → ends_at_end s ≡ false → next_record default_config s [] [] xs ≡ Some p → 0 < length xs
unfolding next_record
not_empty s [] p between e = cc (rw between at e)
not_empty s (c ∷ rest) p between e = omega arith

-- ---- the records of a text, as many as there may be

if_next : (o : Option Read) (holds : Read → Type 0) → ((p : Read) → o ≡ Some p → holds p) → IfSome o holds
if_next None holds each = tt
if_next (Some p) holds each = each p refl

same_next : (more other : State → List ℕ → List (List (List ℕ))) (o : Option Read) → IfSome o (λ p. more p.1 p.2 ≡ other p.1 p.2) → records_next more o ≡ records_next other o
same_next more other None same = refl
same_next more other (Some p) same = ap (λ (records : List (List (List ℕ))). p.0 ∷ records) same

-- a limit past the bytes that are left is none
same_records : (n m : ℕ) (s : State) (xs : List ℕ) → ends_at_end s ≡ false → length xs < n → length xs < m → records_from default_config n s xs ≡ records_from default_config m s xs
unfolding records_from
same_records zero m s xs between many more = absurd (omega arith)
same_records (suc n) zero s xs between many more = absurd (omega arith)
same_records (suc n) (suc m) s xs between many more =
    same_next (records_from default_config n) (records_from default_config m) (next_record default_config s [] [] xs)
    (if_next (next_record default_config s [] [] xs) (λ p. records_from default_config n p.1 p.2 ≡ records_from default_config m p.1 p.2)
    (λ p e. let left = leaves s [] [] xs p e in
    let some = not_empty s xs p between e in
    same_records n m p.1 p.2 left.between (omega (arith, left.bytes, some)) (omega (arith, left.bytes, some))))

one_turn : (n : ℕ) (s : State) (xs : List ℕ) → records_from default_config (n + 1) s xs ≡ records_next (records_from default_config n) (next_record default_config s [] [] xs)
unfolding records_from
one_turn n s xs = ap (λ (k : ℕ). records_from default_config k s xs) (add-one n)

-- the next record is the first of those that are left
first_record : (s : State) (xs : List ℕ) (p : Read) → ends_at_end s ≡ false → next_record default_config s [] [] xs ≡ Some p → records_in s (Some xs) ≡ p.0 ∷ records_in p.1 (Some p.2)
first_record s xs p between e =
    let left = leaves s [] [] xs p e in
    let some = not_empty s xs p between e in
    one_turn (length xs) s xs
    ∙ ap (records_next (records_from default_config (length xs))) e
    ∙ ap (λ (records : List (List (List ℕ))). p.0 ∷ records) (same_records (length xs) (length p.2 + 1) p.1 p.2 left.between (omega (arith, left.bytes, some)) (omega arith))

-- where there is no next record, none is left
no_record : (s : State) (xs : List ℕ) → next_record default_config s [] [] xs ≡ None → records_in s (Some xs) ≡ []
no_record s xs e = one_turn (length xs) s xs ∙ ap (records_next (records_from default_config (length xs))) e

-- ---- a reader

-- what a read shows where it found a record
record Found (s t : State) (xs : List ℕ) (k : Option (List ℕ)) (fields : List (List ℕ)) : Type 0 where
  records : records_in s (Some xs) ≡ fields ∷ records_in t k
  between : ends_at_end t ≡ false
  known : IsSome k

found_next : (o : Option Read) (s t : State) (xs ys : List ℕ) (fields : List (List ℕ)) → ends_at_end s ≡ false → next_record default_config s [] [] xs ≡ o → NextIs o true fields t ys → Found s t xs (Some ys) fields
found_next None s t xs ys fields between e next = cc next
found_next (Some p) s t xs ys fields between e next = rw (next.1, next.2, next.3) (record {
  records = first_record s xs p between e;
  between = (leaves s [] [] xs p e).between;
  known = refl;
})

found_read : (s t : State) (xs : List ℕ) (k : Option (List ℕ)) (fields : List (List ℕ)) → ends_at_end s ≡ false → ReadsNext default_config s (Some xs) k true fields t → Found s t xs k fields
found_read s t xs None fields between next = absurd next
found_read s t xs (Some ys) fields between next = found_next (next_record default_config s [] [] xs) s t xs ys fields between refl next

known_bytes : (o : Option (List ℕ)) → IsSome o → (xs : List ℕ) × (o ≡ Some xs)
known_bytes None known = cc known
known_bytes (Some xs) known = (xs, refl)

-- the bytes of a reader in memory
abbrev bytes_of : Bor (List ℕ) → Option (List ℕ)
bytes_of bytes = Some bytes.now

module _ (a b : Reader (Bor (List ℕ))) (fields : List (List ℕ)) (h : IsReading a) where
  found : ReadRecord bytes_of a b true fields → Found a.state b.state (known_bytes (bytes_left a) h.known).0 (bytes_left b) fields
  found reads =
      let bytes = known_bytes (bytes_left a) h.known in
      let same : bytes_left b ≡ pending_of (bytes_of b.rdr) b = rw reads.1 refl in
      rw same (found_read a.state b.state bytes.0 (pending_of (bytes_of b.rdr) b) fields h.between (rw (h.config, bytes.1) at reads.0))

  -- a read that finds a record takes it from those that are left
  found_record : ReadRecord bytes_of a b true fields → records_left a ≡ fields ∷ records_left b
  unfolding records_left
  found_record reads = rw (known_bytes (bytes_left a) h.known).1 (found reads).records

  -- and leaves a reader that goes on
  pub still_reading : ReadRecord bytes_of a b true fields → is_flexible b ≡ is_flexible a → took_first b ≡ true → IsReading b
  still_reading reads flexible first = record {
    config = reads.2 ∙ h.config;
    trim = reads.3 ∙ h.trim;
    flexible = flexible ∙ h.flexible;
    ready = inl first;
    between = (found reads).between;
    known = (found reads).known;
  }

  -- where it finds none, there are none
  found_none : ReadRecord bytes_of a b false fields → records_left a ≡ []
  unfolding records_left
  found_none reads =
      let bytes = known_bytes (bytes_left a) h.known in
      rw bytes.1 (no_record a.state bytes.0 (rows-end bytes_of a b fields default_config bytes.0 h.config bytes.1 reads))

  pub next_record_is : (is : Bool) → ReadRecord bytes_of a b is fields → NextRecord is (records_left a) fields (records_left b)
  next_record_is true reads = found_record reads
  next_record_is false reads = found_none reads

-- ---- how many records there may be

few_from : (n : ℕ) (s : State) (xs : List ℕ) → length (records_from default_config n s xs) ≤ n
unfolding records_from
few_from zero s xs = omega arith
few_from (suc n) s xs = few_next (records_from default_config n) n (few_from n) (next_record default_config s [] [] xs)
  where
    few_next : (more : State → List ℕ → List (List (List ℕ))) (n : ℕ) → ((s : State) (xs : List ℕ) → length (more s xs) ≤ n) → (o : Option Read) → length (records_next more o) ≤ suc n
    few_next more n few None = omega arith
    few_next more n few (Some p) = omega (arith, few p.1 p.2)

without_mark : (xs : List ℕ) → length (strip_bom xs) ≤ length xs
unfolding strip_bom
without_mark [] = omega arith
without_mark (a ∷ []) = omega arith
without_mark (a ∷ b ∷ []) = omega arith
without_mark (a ∷ b ∷ c ∷ rest) = either (is_bom a b c)
  where
    either : (test : Bool) → length (cond test rest (a ∷ b ∷ c ∷ rest)) ≤ length (a ∷ b ∷ c ∷ rest)
    either true = omega arith
    either false = omega arith

-- a text has no more records than bytes, but for one
pub few_records : (bytes : List ℕ) → length (text_records bytes) ≤ length bytes + 1
few_records bytes = omega (arith, few_from (length (strip_bom bytes) + 1) st.StartRecord (strip_bom bytes), without_mark bytes)
