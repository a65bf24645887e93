-- The steps of a move, as they are written, are read.
use Rattle.std.proofs.Common.{◌≡◌, ℕ, ◌+◌, ◌*◌, ◌/◌, ◌%◌, ◌<◌, ◌≤◌, Bool, true, false, ◌&&◌, leb, List, [], ◌∷◌, ◌++◌, length, map, Some, None, Option, Result, Ok, refl, sym, ap, subst, ◌∙◌, arith, append_assoc}
use Rattle.std.specs.Prelude.{codes, decimal}
use Rattle.std.specs.List.{AllByRecursion, flat_map, join_by}
use Rattle.std.specs.Option.{ForSome}
use Rattle.std.proofs.lemmas.List.Elements.{recursion_from_All}
use Rattle.std.proofs.lemmas.Bool.{le-leb, and_from}
use Rattle.std.proofs.lemmas.List.{append-nil}
use Rattle.desk_units.specs.declared.numbers.Leg.{Leg}
use Rattle.desk_units.specs.declared.numbers.Plane.{Plane}
use Rattle.desk_units.specs.declared.numbers.Res.{Res}
use Rattle.desk_units.specs.declared.numbers.Cabin.{Cabin}
use Rattle.desk_units.specs.declared.numbers.Cabin.TheVariants as cabin
use Rattle.desk_units.specs.declared.numbers.Minute.{Minute}
use Rattle.desk_data.specs.declared.row.Row.{Row}
use Rattle.desk_data.specs.declared.row.Row.TheVariants as row
use Rattle.desk_data.specs.Situation.{Situation, leg_at, plane_at, res_at, legs_of, planes_of, reservations_of}
use Rattle.desk_data.specs.Valid.{IsRowOf}
use Rattle.plan_moves.specs.declared.moves.Step.{Step}
use Rattle.plan_moves.specs.declared.moves.Step.TheVariants as step
use Rattle.plan_moves.specs.Fits.{StepFits, IsPathIn}
use Rattle.desk_text.specs.Texts.{date_text, time_text, moment_text, cabin_text, direction_text}
use Rattle.desk_text.specs.Seen.{is_seen}
use Rattle.desk_text.specs.Fields.{name_of, date_of, number_of, cabin_of, inbound_of}
use Rattle.desk_text.specs.Moments.{minute_of}
use Rattle.desk_text.specs.Rows.{◌>>=◌}
use Rattle.desk_journal.specs.declared.rows.NamedLeg.{NamedLeg}
use Rattle.desk_journal.specs.declared.rows.NamedRow.TheVariants as read_rows
use Rattle.desk_journal.specs.declared.rows.NamedStep.{NamedStep}
use Rattle.desk_journal.specs.declared.rows.NamedStep.TheVariants as named
use Rattle.file_rows.specs.declared.cause.Cause.{Cause}
use Rattle.desk_journal.specs.Tokens.{TokenReaders, Reading, token, flown_of, later_of}
use Rattle.desk_journal.specs.Steps.{leg_at as read_leg, moment_at as read_moment, row_from, row_at as read_row, after_from, seat_at as read_seat, seats_at, path_at as read_path, step_from, step_at as read_step, steps_of}
use Rattle.desk_journal.proofs.StepLemmas.{no_steps, first_step}
use Rattle.desk_journal.specs.Journal.{full_tokens}
use Rattle.output_texts.specs.Items.{leg_text, row_text, seat_text, path_text, reservation_text}
use Rattle.output_texts.specs.Lines.{after_text, step_text}
use Rattle.desk_top.specs.Named.{named_leg, named_row, named_after, named_seat, named_path, named_res, named_step}
use Rattle.desk_top.proofs.Spelled.{number_back, date_back, time_back, decimal_some, decimal_seen, date_some, date_seen, time_some, time_seen}
use Rattle.desk_top.proofs.Spells.{Spells, spells_token, spells_both}

-- ---- a text is read as a value, whatever follows

-- the text spells tokens from which the reader takes the value
pub record Reads {X : Type 0} (reader : List (List ℕ) → Reading X) (text : List ℕ) (x : X) : Type 0 where
  pub tokens : List (List ℕ)
  pub spelled : Spells text tokens
  pub read : (rest : List (List ℕ)) → reader (tokens ++ rest) ≡ Ok (x, rest)

-- one token
one_token : {X : Type 0} (spells : List ℕ → Result X Cause) (text : List ℕ) (x : X) → 1 ≤ length text → is_seen text ≡ true → spells text ≡ Ok x → Reads (token spells) text x
one_token spells text x some seen is = record { tokens = text ∷ []; spelled = spells_token text some seen; read = λ rest. rw is refl }

-- a reader after another one
then_reads : {X Y : Type 0} (first : List (List ℕ) → Reading X) (second : X → List (List ℕ) → Reading Y) (a b : List ℕ) (x : X) (y : Y)
    → Reads first a x → Reads (second x) b y → Reads (λ tokens. first tokens >>= λ p. second p.0 p.1) (a ++ 32 ∷ b) y
then_reads first second a b x y h k = record {
  tokens = h.tokens ++ k.tokens;
  spelled = spells_both a b h.tokens k.tokens h.spelled k.spelled;
  read = λ rest. rw (append_assoc h.tokens k.tokens rest, h.read (k.tokens ++ rest)) (k.read rest);
}

-- what is made of a value
map_reads : {X Y : Type 0} (reader : List (List ℕ) → Reading X) (make : X → Y) (text : List ℕ) (x : X) → Reads reader text x → Reads (λ tokens. reader tokens >>= λ p. Ok (make p.0, p.1)) text (make x)
map_reads reader make text x h = record { tokens = h.tokens; spelled = h.spelled; read = λ rest. rw (h.read rest) refl }

-- ---- texts in other brackets

at_space : (a b : List ℕ) → a ++ codes " " ++ b ≡ a ++ 32 ∷ b
at_space a b = append_assoc a (32 ∷ []) b

-- the last part but one
peel : (a b c : List ℕ) → a ++ codes " " ++ b ++ c ≡ a ++ 32 ∷ (b ++ c)
peel a b c = append_assoc (a ++ codes " ") b c ∙ append_assoc a (32 ∷ []) (b ++ c)

three_parts : (a b c : List ℕ) → a ++ codes " " ++ b ++ codes " " ++ c ≡ a ++ 32 ∷ (b ++ 32 ∷ c)
three_parts a b c = at_space (a ++ codes " " ++ b) c ∙ peel a b (32 ∷ c)

five_parts : (a b c d e : List ℕ) → a ++ codes " " ++ b ++ codes " " ++ c ++ codes " " ++ d ++ codes " " ++ e ≡ a ++ 32 ∷ (b ++ 32 ∷ (c ++ 32 ∷ (d ++ 32 ∷ e)))
five_parts a b c d e =
    at_space (a ++ codes " " ++ b ++ codes " " ++ c ++ codes " " ++ d) e
    ∙ peel (a ++ codes " " ++ b ++ codes " " ++ c) d (32 ∷ e)
    ∙ peel (a ++ codes " " ++ b) c (32 ∷ (d ++ 32 ∷ e))
    ∙ peel a b (32 ∷ (c ++ 32 ∷ (d ++ 32 ∷ e)))

-- the same text in other brackets
same_text : {X : Type 0} (reader : List (List ℕ) → Reading X) (x : X) (a b : List ℕ) → a ≡ b → Reads reader b x → Reads reader a x
same_text reader x a b is h = subst (λ (text : List ℕ). Reads reader text x) (sym is) h

-- ---- names

-- a name that is read as it stands
pub record IsNamed (name : List ℕ) : Type 0 where
  pub some : 1 ≤ length name
  pub most : length name ≤ 32
  pub seen : is_seen name ≡ true

name_back : (name : List ℕ) → IsNamed name → name_of name ≡ Ok name
name_back name h =
    let test : (leb 1 (length name) && leb (length name) 32) ≡ true = and_from _ _ (le-leb 1 (length name) h.some) (le-leb (length name) 32 h.most) in
    rw test refl

abbrev T : TokenReaders
T = full_tokens

name_reads : (name : List ℕ) → IsNamed name → Reads (token T.name_of) name name
name_reads name h = one_token name_of name name h.some h.seen (name_back name h)

date_reads : (day : ℕ) → day < 36525 → Reads (token T.date_of) (date_text day) day
date_reads day lt = one_token date_of (date_text day) day (date_some day) (date_seen day lt) (date_back day lt)

time_reads : (minute : ℕ) → minute < 1440 → Reads (token T.time_of) (time_text minute) minute
time_reads minute lt = one_token minute_of (time_text minute) minute (time_some minute) (time_seen minute lt) (time_back minute lt)

number_reads : (low high n : ℕ) → low ≤ n → n ≤ high → high < 1000000000 → Reads (token (number_of low high)) (decimal n) n
number_reads low high n from to small = one_token (number_of low high) (decimal n) n (decimal_some n (omega arith)) (decimal_seen n (omega arith)) (number_back low high n from to small)

abbrev minute_at : ℕ → Minute
minute_at n = record { 0 = n }

moment_reads : (at : Minute) → at.0 < 52596000 → Reads (read_moment T) (moment_text at.0) at
unfolding read_moment
moment_reads at lt =
    let whole : minute_at (1440 * (at.0 / 1440) + at.0 % 1440) ≡ at = ap minute_at (omega arith) in
    subst (λ (n : Minute). Reads (read_moment T) (moment_text at.0) n) whole
    (same_text (read_moment T) (minute_at (1440 * (at.0 / 1440) + at.0 % 1440)) (moment_text at.0) (date_text (at.0 / 1440) ++ 32 ∷ time_text (at.0 % 1440)) (at_space (date_text (at.0 / 1440)) (time_text (at.0 % 1440)))
    (then_reads (token T.date_of) (λ day tokens. token T.time_of tokens >>= λ time. Ok (minute_at (1440 * day + time.0), time.1)) (date_text (at.0 / 1440)) (time_text (at.0 % 1440)) (at.0 / 1440) (minute_at (1440 * (at.0 / 1440) + at.0 % 1440))
    (date_reads (at.0 / 1440) (omega arith))
    (map_reads (token T.time_of) (λ time. minute_at (1440 * (at.0 / 1440) + time)) (time_text (at.0 % 1440)) (at.0 % 1440) (time_reads (at.0 % 1440) (omega arith)))))

cabin_reads : (c : Cabin) → Reads (token cabin_of) (cabin_text c) c
cabin_reads cabin.F = one_token cabin_of (codes "F") cabin.F (omega arith) refl refl
cabin_reads cabin.B = one_token cabin_of (codes "B") cabin.B (omega arith) refl refl
cabin_reads cabin.E = one_token cabin_of (codes "E") cabin.E (omega arith) refl refl

direction_reads : (inbound : Bool) → Reads (token inbound_of) (direction_text inbound) inbound
direction_reads false = one_token inbound_of (codes "A") false (omega arith) refl refl
direction_reads true = one_token inbound_of (codes "R") true (omega arith) refl refl

-- ---- parts of steps

-- the names of an instance are read as they stand, and its days are those of the years 2000 to 2099
pub record IsReadable (I : Situation) : Type 0 where
  pub legs : (x : ℕ) → x < legs_of I → IsNamed (leg_at I x).flight
  pub days : (x : ℕ) → x < legs_of I → (leg_at I x).day < 36525
  pub planes : (p : ℕ) → p < planes_of I → IsNamed (plane_at I p).name
  pub res : (r : ℕ) → r < reservations_of I → IsNamed (res_at I r).name

module _ (I : Situation) (ok : IsReadable I) where
  leg_reads : (x : ℕ) → x < legs_of I → Reads (read_leg T) (leg_text I x) (named_leg I x)
  unfolding read_leg leg_text
  leg_reads x lt =
      same_text (read_leg T) (named_leg I x) (leg_text I x) ((leg_at I x).flight ++ 32 ∷ date_text (leg_at I x).day) (at_space (leg_at I x).flight (date_text (leg_at I x).day)) (then_reads (token T.name_of) (λ flight tokens. token T.date_of tokens >>= λ day. Ok (record { flight = flight; day = day.0 }, day.1)) (leg_at I x).flight (date_text (leg_at I x).day) (leg_at I x).flight (named_leg I x)
      (name_reads (leg_at I x).flight (ok.legs x lt))
      (map_reads (token T.date_of) (λ day. record { flight = (leg_at I x).flight; day = day }) (date_text (leg_at I x).day) (leg_at I x).day (date_reads (leg_at I x).day (ok.days x lt))))

  row_reads : (r : Row) → IsRowOf (planes_of I) r → Reads (read_row T) (row_text I r) (named_row I r)
  unfolding read_row row_from row_text
  row_reads (row.Flown plane dep) fits =
      same_text (read_row T) (named_row I (row.Flown plane dep)) (row_text I (row.Flown plane dep)) (codes "+" ++ 32 ∷ ((plane_at I plane.0).name ++ 32 ∷ moment_text dep.0))
      (ap (λ (text : List ℕ). codes "+ " ++ text) (at_space (plane_at I plane.0).name (moment_text dep.0)))
      (then_reads (token flown_of) (row_from T) (codes "+") ((plane_at I plane.0).name ++ 32 ∷ moment_text dep.0) true (named_row I (row.Flown plane dep))
      (one_token flown_of (codes "+") true (omega arith) refl refl)
      (then_reads (token T.name_of) (λ name tokens. read_moment T tokens >>= λ dep. Ok (read_rows.Flown name dep.0, dep.1)) (plane_at I plane.0).name (moment_text dep.0) (plane_at I plane.0).name (named_row I (row.Flown plane dep))
      (name_reads (plane_at I plane.0).name (ok.planes plane.0 fits.0))
      (map_reads (read_moment T) (λ at. read_rows.Flown (plane_at I plane.0).name at) (moment_text dep.0) dep (moment_reads dep (omega (arith, fits.1))))))
  row_reads row.Cancelled fits = record { tokens = codes "-" ∷ []; spelled = spells_token (codes "-") (omega arith) refl; read = λ rest. refl }

  after_reads : {Y : Type 0} (make : Option NamedLeg → Y) (after : Option Leg) → ForSome after (λ leg. leg.0 < legs_of I)
      → Reads (λ tokens. token later_of tokens >>= λ b. after_from T b.0 b.1 >>= λ a. Ok (make a.0, a.1)) (after_text I after) (make (named_after I after))
  unfolding after_from
  after_reads make None fits = record { tokens = codes "all" ∷ []; spelled = spells_token (codes "all") (omega arith) refl; read = λ rest. refl }
  after_reads make (Some leg) fits =
      then_reads (token later_of) (λ b tokens. after_from T b tokens >>= λ a. Ok (make a.0, a.1)) (codes "after") (leg_text I leg.0) true (make (Some (named_leg I leg.0)))
      (one_token later_of (codes "after") true (omega arith) refl refl)
      (map_reads (λ tokens. read_leg T tokens >>= λ leg. Ok (Some leg.0, leg.1)) make (leg_text I leg.0) (Some (named_leg I leg.0))
      (map_reads (read_leg T) (λ leg. Some leg) (leg_text I leg.0) (named_leg I leg.0) (leg_reads leg.0 (fits leg refl))))

  seat_reads : (pair : Leg × Cabin) → pair.0.0 < legs_of I → Reads (read_seat T) (seat_text I pair) (named_seat I pair)
  unfolding read_seat seat_text
  seat_reads pair lt =
      same_text (read_seat T) (named_seat I pair) (seat_text I pair) (leg_text I pair.0.0 ++ 32 ∷ cabin_text pair.1) (at_space (leg_text I pair.0.0) (cabin_text pair.1))
      (then_reads (read_leg T) (λ leg tokens. token cabin_of tokens >>= λ c. Ok ((leg, c.0), c.1)) (leg_text I pair.0.0) (cabin_text pair.1) (named_leg I pair.0.0) (named_seat I pair)
      (leg_reads pair.0.0 lt)
      (map_reads (token cabin_of) (λ c. (named_leg I pair.0.0, c)) (cabin_text pair.1) pair.1 (cabin_reads pair.1)))

  -- the legs of a path, each after a space
  record ReadsSeats (path : List (Leg × Cabin)) : Type 0 where
    tokens : List (List ℕ)
    spelled : (a : List ℕ) (s : List (List ℕ)) → Spells a s → Spells (a ++ flat_map (λ pair. codes " " ++ seat_text I pair) path) (s ++ tokens)
    read : (rest : List (List ℕ)) → seats_at T (length path) (tokens ++ rest) ≡ Ok (map (named_seat I) path, rest)

  seats_read : (path : List (Leg × Cabin)) → AllByRecursion (λ pair. pair.0.0 < legs_of I) path → ReadsSeats path
  unfolding seats_at
  seats_read [] among = record { tokens = []; spelled = λ a s h. rw (append-nil a, append-nil s) h; read = λ rest. refl }
  seats_read (pair ∷ path) among =
      let first = seat_reads pair among.0 in
      let more = seats_read path among.1 in
      record {
        tokens = first.tokens ++ more.tokens;
        spelled = λ a s h.
            subst (λ (text : List ℕ). Spells text (s ++ (first.tokens ++ more.tokens))) (append_assoc a (32 ∷ seat_text I pair) (flat_map (λ pair. codes " " ++ seat_text I pair) path))
            (subst (Spells ((a ++ 32 ∷ seat_text I pair) ++ flat_map (λ pair. codes " " ++ seat_text I pair) path)) (append_assoc s first.tokens more.tokens)
            (more.spelled (a ++ 32 ∷ seat_text I pair) (s ++ first.tokens) (spells_both a (seat_text I pair) s first.tokens h first.spelled)));
        read = λ rest. rw (append_assoc first.tokens more.tokens rest, first.read (more.tokens ++ rest), more.read rest) refl;
      }

  path_reads : (path : List (Leg × Cabin)) → IsPathIn (legs_of I) path → Reads (read_path T) (path_text I path) (named_path I path)
  unfolding read_path path_text
  path_reads path fits =
      let count = number_reads 0 8 (length path) (omega arith) fits.short (omega arith) in
      let seats = seats_read path (recursion_from_All (λ pair. pair.0.0 < legs_of I) path fits.among) in
      record {
        tokens = count.tokens ++ seats.tokens;
        spelled = seats.spelled (decimal (length path)) count.tokens count.spelled;
        read = λ rest. rw (append_assoc count.tokens seats.tokens rest, count.read (seats.tokens ++ rest), seats.read rest) refl;
      }

  -- ---- steps

  -- a step's first token, and what follows it
  pub record ReadsStep (text : List ℕ) (named : NamedStep) : Type 0 where
    pub word : List ℕ
    pub tokens : List (List ℕ)
    pub spelled : Spells text (word ∷ tokens)
    pub read : (rest : List (List ℕ)) → read_step T word (tokens ++ rest) ≡ Ok (named, rest)

  with_word : (word : List ℕ) (b : List ℕ) (named : NamedStep) → 1 ≤ length word → is_seen word ≡ true → Reads (read_step T word) b named → ReadsStep (word ++ 32 ∷ b) named
  with_word word b named some seen h = record {
    word = word;
    tokens = h.tokens;
    spelled = spells_both word b (word ∷ []) h.tokens (spells_token word some seen) h.spelled;
    read = h.read;
  }

  set_reads : (leg : Leg) (was new : Row) → StepFits I (step.Set leg was new) → Reads (read_step T (codes "set")) (leg_text I leg.0 ++ 32 ∷ (row_text I was ++ 32 ∷ row_text I new)) (named_step I (step.Set leg was new))
  unfolding read_step step_from
  set_reads leg was new fits =
      then_reads (read_leg T) (λ leg tokens. read_row T tokens >>= λ was. read_row T was.1 >>= λ new. Ok (named.Set leg was.0 new.0, new.1)) (leg_text I leg.0) (row_text I was ++ 32 ∷ row_text I new) (named_leg I leg.0) (named_step I (step.Set leg was new))
      (leg_reads leg.0 fits.0)
      (then_reads (read_row T) (λ was tokens. read_row T tokens >>= λ new. Ok (named.Set (named_leg I leg.0) was new.0, new.1)) (row_text I was) (row_text I new) (named_row I was) (named_step I (step.Set leg was new))
      (row_reads was fits.1)
      (map_reads (read_row T) (λ new. named.Set (named_leg I leg.0) (named_row I was) new) (row_text I new) (named_row I new) (row_reads new fits.2)))

  push_reads : (plane : Plane) (after : Option Leg) → StepFits I (step.Push plane after) → Reads (read_step T (codes "push")) ((plane_at I plane.0).name ++ 32 ∷ after_text I after) (named_step I (step.Push plane after))
  unfolding read_step step_from
  push_reads plane after fits =
      then_reads (token T.name_of) (λ name tokens. token later_of tokens >>= λ b. after_from T b.0 b.1 >>= λ a. Ok (named.Push name a.0, a.1)) (plane_at I plane.0).name (after_text I after) (plane_at I plane.0).name (named_step I (step.Push plane after))
      (name_reads (plane_at I plane.0).name (ok.planes plane.0 fits.0))
      (after_reads (λ a. named.Push (plane_at I plane.0).name a) after fits.1)

  swap_reads : (first second : Plane) (at : Minute) → StepFits I (step.Swap first second at) → Reads (read_step T (codes "swap")) ((plane_at I first.0).name ++ 32 ∷ ((plane_at I second.0).name ++ 32 ∷ moment_text at.0)) (named_step I (step.Swap first second at))
  unfolding read_step step_from
  swap_reads first second at fits =
      then_reads (token T.name_of) (λ p tokens. token T.name_of tokens >>= λ q. read_moment T q.1 >>= λ at. Ok (named.Swap p q.0 at.0, at.1)) (plane_at I first.0).name ((plane_at I second.0).name ++ 32 ∷ moment_text at.0) (plane_at I first.0).name (named_step I (step.Swap first second at))
      (name_reads (plane_at I first.0).name (ok.planes first.0 fits.0))
      (then_reads (token T.name_of) (λ q tokens. read_moment T tokens >>= λ at. Ok (named.Swap (plane_at I first.0).name q at.0, at.1)) (plane_at I second.0).name (moment_text at.0) (plane_at I second.0).name (named_step I (step.Swap first second at))
      (name_reads (plane_at I second.0).name (ok.planes second.0 fits.1))
      (map_reads (read_moment T) (λ at. named.Swap (plane_at I first.0).name (plane_at I second.0).name at) (moment_text at.0) at (moment_reads at (omega (arith, fits.2)))))

  refill_reads : (leg : Leg) → leg.0 < legs_of I → Reads (read_step T (codes "refill")) (leg_text I leg.0) (named.Refill (named_leg I leg.0))
  unfolding read_step step_from
  refill_reads leg lt = map_reads (read_leg T) (λ leg. named.Refill leg) (leg_text I leg.0) (named_leg I leg.0) (leg_reads leg.0 lt)

  rebook_reads : (res : Res) (path to : List (Leg × Cabin)) (count : ℕ) → StepFits I (step.Rebook res path to count)
      → Reads (read_step T (codes "rebook")) ((res_at I res.0).name ++ 32 ∷ (direction_text (res_at I res.0).inbound ++ 32 ∷ (decimal count ++ 32 ∷ (path_text I path ++ 32 ∷ path_text I to)))) (named_step I (step.Rebook res path to count))
  unfolding read_step step_from
  rebook_reads res path to count fits =
      let r = res_at I res.0 in
      let whole = named_step I (step.Rebook res path to count) in
      then_reads (token T.name_of) (λ name tokens. token inbound_of tokens >>= λ inbound. token (number_of 1 1000) inbound.1 >>= λ count. read_path T count.1 >>= λ path. read_path T path.1 >>= λ to. Ok (named.Rebook (record { name = name; inbound = inbound.0 }) path.0 to.0 count.0, to.1))
      r.name (direction_text r.inbound ++ 32 ∷ (decimal count ++ 32 ∷ (path_text I path ++ 32 ∷ path_text I to))) r.name whole
      (name_reads r.name (ok.res res.0 fits.0))
      (then_reads (token inbound_of) (λ inbound tokens. token (number_of 1 1000) tokens >>= λ count. read_path T count.1 >>= λ path. read_path T path.1 >>= λ to. Ok (named.Rebook (record { name = r.name; inbound = inbound }) path.0 to.0 count.0, to.1))
      (direction_text r.inbound) (decimal count ++ 32 ∷ (path_text I path ++ 32 ∷ path_text I to)) r.inbound whole
      (direction_reads r.inbound)
      (then_reads (token (number_of 1 1000)) (λ count tokens. read_path T tokens >>= λ path. read_path T path.1 >>= λ to. Ok (named.Rebook (named_res I res.0) path.0 to.0 count, to.1))
      (decimal count) (path_text I path ++ 32 ∷ path_text I to) count whole
      (number_reads 1 1000 count fits.3 fits.4 (omega arith))
      (then_reads (read_path T) (λ path tokens. read_path T tokens >>= λ to. Ok (named.Rebook (named_res I res.0) path to.0 count, to.1))
      (path_text I path) (path_text I to) (named_path I path) whole
      (path_reads path fits.1)
      (map_reads (read_path T) (λ to. named.Rebook (named_res I res.0) (named_path I path) to count) (path_text I to) (named_path I to) (path_reads to fits.2)))))

  same_step : (named : NamedStep) (a b : List ℕ) → a ≡ b → ReadsStep b named → ReadsStep a named
  same_step named a b is h = subst (λ (text : List ℕ). ReadsStep text named) (sym is) h

  -- the text of a step is read as the step
  pub step_reads : (s : Step) → StepFits I s → ReadsStep (step_text I s) (named_step I s)
  unfolding step_text reservation_text read_step step_from
  step_reads (step.Set leg was new) fits =
      let parts = leg_text I leg.0 ++ 32 ∷ (row_text I was ++ 32 ∷ row_text I new) in
      let is = ap (λ (text : List ℕ). codes "set " ++ text) (three_parts (leg_text I leg.0) (row_text I was) (row_text I new)) in
      same_step (named_step I (step.Set leg was new)) (step_text I (step.Set leg was new)) (codes "set" ++ 32 ∷ parts) is (with_word (codes "set") parts (named_step I (step.Set leg was new)) (omega arith) refl (set_reads leg was new fits))
  step_reads (step.Push plane after) fits =
      let parts = (plane_at I plane.0).name ++ 32 ∷ after_text I after in
      let is = ap (λ (text : List ℕ). codes "push " ++ text) (at_space (plane_at I plane.0).name (after_text I after)) in
      same_step (named_step I (step.Push plane after)) (step_text I (step.Push plane after)) (codes "push" ++ 32 ∷ parts) is (with_word (codes "push") parts (named_step I (step.Push plane after)) (omega arith) refl (push_reads plane after fits))
  step_reads (step.Swap first second at) fits =
      let parts = (plane_at I first.0).name ++ 32 ∷ ((plane_at I second.0).name ++ 32 ∷ moment_text at.0) in
      let is = ap (λ (text : List ℕ). codes "swap " ++ text) (three_parts (plane_at I first.0).name (plane_at I second.0).name (moment_text at.0)) in
      same_step (named_step I (step.Swap first second at)) (step_text I (step.Swap first second at)) (codes "swap" ++ 32 ∷ parts) is (with_word (codes "swap") parts (named_step I (step.Swap first second at)) (omega arith) refl (swap_reads first second at fits))
  step_reads (step.Rebook res path to count) fits =
      let r = res_at I res.0 in
      let parts = r.name ++ 32 ∷ (direction_text r.inbound ++ 32 ∷ (decimal count ++ 32 ∷ (path_text I path ++ 32 ∷ path_text I to))) in
      let is = ap (λ (text : List ℕ). codes "rebook " ++ text) (five_parts r.name (direction_text r.inbound) (decimal count) (path_text I path) (path_text I to)) in
      same_step (named_step I (step.Rebook res path to count)) (step_text I (step.Rebook res path to count)) (codes "rebook" ++ 32 ∷ parts) is (with_word (codes "rebook") parts (named_step I (step.Rebook res path to count)) (omega arith) refl (rebook_reads res path to count fits))
  step_reads step.Tidy fits = record { word = codes "tidy"; tokens = []; spelled = spells_token (codes "tidy") (omega arith) refl; read = λ rest. refl }
  step_reads (step.Refill leg) fits = with_word (codes "refill") (leg_text I leg.0) (named_step I (step.Refill leg)) (omega arith) refl (refill_reads leg fits)

  -- ---- moves

  -- steps after others, each after a space
  record ReadsSteps (steps : List Step) : Type 0 where
    tokens : List (List ℕ)
    spelled : (a : List ℕ) (s : List (List ℕ)) → Spells a s → Spells (a ++ flat_map (λ s. codes " " ++ step_text I s) steps) (s ++ tokens)
    read : steps_of T tokens ≡ Ok (map (named_step I) steps)

  steps_read : (steps : List Step) → AllByRecursion (StepFits I) steps → ReadsSteps steps
  steps_read [] each = record { tokens = []; spelled = λ a s h. rw (append-nil a, append-nil s) h; read = no_steps T }
  steps_read (s ∷ steps) each =
      let first = step_reads s each.0 in
      let more = steps_read steps each.1 in
      record {
        tokens = (first.word ∷ first.tokens) ++ more.tokens;
        spelled = λ a t h.
            subst (λ (text : List ℕ). Spells text (t ++ ((first.word ∷ first.tokens) ++ more.tokens))) (append_assoc a (32 ∷ step_text I s) (flat_map (λ s. codes " " ++ step_text I s) steps))
            (subst (Spells ((a ++ 32 ∷ step_text I s) ++ flat_map (λ s. codes " " ++ step_text I s) steps)) (append_assoc t (first.word ∷ first.tokens) more.tokens)
            (more.spelled (a ++ 32 ∷ step_text I s) (t ++ (first.word ∷ first.tokens)) (spells_both a (step_text I s) t (first.word ∷ first.tokens) h first.spelled)));
        read = first_step T first.word (first.tokens ++ more.tokens) ∙ rw (first.read more.tokens, more.read) refl;
      }

  -- the text of a move, and its steps
  pub record ReadsMove (steps : List Step) : Type 0 where
    pub tokens : List (List ℕ)
    pub spelled : Spells (join_by (step_text I) (codes " ") steps) tokens
    pub read : steps_of T tokens ≡ Ok (map (named_step I) steps)

  -- the text of a move is read as its steps
  pub move_reads : (steps : List Step) → 1 ≤ length steps → AllByRecursion (StepFits I) steps → ReadsMove steps
  move_reads [] some each = absurd (omega arith)
  move_reads (s ∷ steps) some each =
      let first = step_reads s each.0 in
      let more = steps_read steps each.1 in
      record {
        tokens = (first.word ∷ first.tokens) ++ more.tokens;
        spelled = more.spelled (step_text I s) (first.word ∷ first.tokens) first.spelled;
        read = first_step T first.word (first.tokens ++ more.tokens) ∙ rw (first.read more.tokens, more.read) refl;
      }
