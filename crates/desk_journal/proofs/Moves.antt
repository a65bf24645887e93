-- Rows, paths, steps and payloads are read as they are spelled.
use Rattle.std.proofs.Common.{◌≡◌, ℕ, zero, suc, ◌<◌, List, [], ◌∷◌, ◌++◌, length, refl, sym, ap, subst, ◌∙◌, append_assoc, arith}
use Rattle.std.specs.Prelude.{Option, Some, None, IfSome}
use Rattle.std.specs.List.{flat_map, AllByRecursion}
use Rattle.std.proofs.lemmas.List.{append-nil}
use Rattle.desk_text.specs.Fields.{◌>>=◌}
use Rattle.desk_units.specs.declared.numbers.Leg.{Leg}
use Rattle.desk_units.specs.declared.numbers.Cabin.{Cabin}
use Rattle.desk_units.specs.declared.numbers.Cabin.TheVariants as cabin
use Rattle.desk_data.specs.declared.row.Row.{Row}
use Rattle.desk_data.specs.declared.row.Row.TheVariants as row
use Rattle.plan_moves.specs.declared.moves.Step.{Step}
use Rattle.plan_moves.specs.declared.moves.Step.TheVariants as step
use Rattle.desk_journal.specs.declared.payload.StoredEvent.{StoredEvent}
use Rattle.desk_journal.specs.declared.payload.StoredEvent.TheVariants as event
use Rattle.desk_journal.specs.Spelling.{number_bytes, row_bytes, after_bytes, cabin_byte, pair_bytes, path_bytes, step_bytes, steps_bytes, payload, IsNumber, IsRow, IsPath, IsStep, AreSteps, HasSpelling}
use Rattle.desk_journal.specs.Reading.{Reads, both, many, byte_at, number_at, leg_at, row_at, after_at, cabin_at, pair_at, path_at, step_at, steps_at, event_of, event_at, all_of, spelled_by}
use Rattle.desk_journal.proofs.Readers.{AreBytes, bytes-rest, bind_some, some_is, Spells, numbers, pairs, MadeOf, made_again, made_takes, many_again, many_takes}

abbrev leg_of : ℕ → Leg
leg_of n = record { 0 = n }

legs : Spells (λ (leg : Leg). number_bytes leg.0) leg_at (λ leg. IsNumber leg.0)
legs = record {
  again = λ leg rest fits. made_again leg_of number_bytes number_at IsNumber numbers leg.0 rest fits;
  takes = λ bytes leg rest fits e.
      let t = made_takes leg_of number_bytes number_at IsNumber numbers bytes leg rest fits e in
      subst (λ (l : Leg). (bytes ≡ number_bytes l.0 ++ rest) × AreBytes rest × IsNumber l.0) t.is (t.parts, t.rest_fits, t.fits);
}

-- ---- rows

abbrev flown_of : ℕ × ℕ → Row
flown_of p = row.Flown (record { 0 = p.0 }) (record { 0 = p.1 })

abbrev two_bytes : ℕ × ℕ → List ℕ
two_bytes p = number_bytes p.0 ++ number_bytes p.1

abbrev AreTwo : ℕ × ℕ → Type 0
AreTwo p = IsNumber p.0 × IsNumber p.1

two : Spells two_bytes (both number_at number_at) AreTwo
two = pairs number_bytes number_bytes number_at number_at IsNumber IsNumber numbers numbers

row_again : (r : Row) (rest : List ℕ) → IsRow r → row_at (row_bytes r ++ rest) ≡ Some (r, rest)
unfolding row_at
row_again row.Cancelled rest fits = refl
row_again (row.Flown plane dep) rest fits = made_again flown_of two_bytes (both number_at number_at) AreTwo two (plane.0, dep.0) rest fits

row_takes : (bytes : List ℕ) (r : Row) (rest : List ℕ) → AreBytes bytes → row_at bytes ≡ Some (r, rest) → (bytes ≡ row_bytes r ++ rest) × AreBytes rest × IsRow r
unfolding row_at
row_takes [] r rest fits e = absurd cc
row_takes (zero ∷ bytes) r rest fits e =
    let given : Row × List ℕ = (row.Cancelled, bytes) in
    subst (λ (q : Row × List ℕ). (0 ∷ bytes ≡ row_bytes q.0 ++ q.1) × AreBytes q.1 × IsRow q.0) (some_is given (r, rest) e) (refl, bytes-rest 0 bytes fits, tt)
row_takes (suc zero ∷ bytes) r rest fits e =
    let t = made_takes flown_of two_bytes (both number_at number_at) AreTwo two bytes r rest (bytes-rest 1 bytes fits) e in
    subst (λ (q : Row). (1 ∷ bytes ≡ row_bytes q ++ rest) × AreBytes rest × IsRow q) t.is (ap (λ (l : List ℕ). 1 ∷ l) t.parts, t.rest_fits, t.fits)
row_takes (suc (suc b) ∷ bytes) r rest fits e = absurd cc

rows : Spells row_bytes row_at IsRow
rows = record { again = row_again; takes = row_takes }

-- ---- a leg or none

abbrev IsAfter : Option Leg → Type 0
IsAfter after = IfSome after (λ leg. IsNumber leg.0)

after_again : (after : Option Leg) (rest : List ℕ) → IsAfter after → after_at (after_bytes after ++ rest) ≡ Some (after, rest)
unfolding after_at
after_again None rest fits = refl
after_again (Some leg) rest fits = made_again Some (λ (l : Leg). number_bytes l.0) leg_at (λ l. IsNumber l.0) legs leg rest fits

after_takes : (bytes : List ℕ) (after : Option Leg) (rest : List ℕ) → AreBytes bytes → after_at bytes ≡ Some (after, rest) → (bytes ≡ after_bytes after ++ rest) × AreBytes rest × IsAfter after
unfolding after_at
after_takes [] after rest fits e = absurd cc
after_takes (zero ∷ bytes) after rest fits e =
    let given : Option Leg × List ℕ = (None, bytes) in
    subst (λ (q : Option Leg × List ℕ). (0 ∷ bytes ≡ after_bytes q.0 ++ q.1) × AreBytes q.1 × IsAfter q.0) (some_is given (after, rest) e) (refl, bytes-rest 0 bytes fits, tt)
after_takes (suc zero ∷ bytes) after rest fits e =
    let t = made_takes Some (λ (l : Leg). number_bytes l.0) leg_at (λ l. IsNumber l.0) legs bytes after rest (bytes-rest 1 bytes fits) e in
    subst (λ (q : Option Leg). (1 ∷ bytes ≡ after_bytes q ++ rest) × AreBytes rest × IsAfter q) t.is (ap (λ (l : List ℕ). 1 ∷ l) t.parts, t.rest_fits, t.fits)
after_takes (suc (suc b) ∷ bytes) after rest fits e = absurd cc

afters : Spells after_bytes after_at IsAfter
afters = record { again = after_again; takes = after_takes }

-- ---- paths

cabin_again : (c : Cabin) (rest : List ℕ) → cabin_at (cabin_byte c ∷ rest) ≡ Some (c, rest)
unfolding cabin_at
cabin_again cabin.F rest = refl
cabin_again cabin.B rest = refl
cabin_again cabin.E rest = refl

abbrev AnyCabin : Cabin → Type 0
AnyCabin c = Unit {0}

abbrev with_rest : Cabin → List ℕ → Option (Cabin × List ℕ)
with_rest c rest = Some (c, rest)

cabin_is : (b : ℕ) (bytes : List ℕ) (c d : Cabin) (rest : List ℕ) → cabin_byte c ≡ b → AreBytes bytes → with_rest c bytes ≡ with_rest d rest → (b ∷ bytes ≡ (cabin_byte d ∷ []) ++ rest) × AreBytes rest × AnyCabin d
cabin_is b bytes c d rest is fits e =
    let given : Cabin × List ℕ = (c, bytes) in
    subst (λ (q : Cabin × List ℕ). (b ∷ bytes ≡ (cabin_byte q.0 ∷ []) ++ q.1) × AreBytes q.1 × AnyCabin q.0) (some_is given (d, rest) e) (ap (λ (k : ℕ). k ∷ bytes) (sym is), fits, tt)

cabin_takes : (bytes : List ℕ) (c : Cabin) (rest : List ℕ) → AreBytes bytes → cabin_at bytes ≡ Some (c, rest) → (bytes ≡ (cabin_byte c ∷ []) ++ rest) × AreBytes rest × AnyCabin c
unfolding cabin_at
cabin_takes [] c rest fits e = absurd cc
cabin_takes (zero ∷ bytes) c rest fits e = cabin_is 0 bytes cabin.F c rest refl (bytes-rest 0 bytes fits) e
cabin_takes (suc zero ∷ bytes) c rest fits e = cabin_is 1 bytes cabin.B c rest refl (bytes-rest 1 bytes fits) e
cabin_takes (suc (suc zero) ∷ bytes) c rest fits e = cabin_is 2 bytes cabin.E c rest refl (bytes-rest 2 bytes fits) e
cabin_takes (suc (suc (suc b)) ∷ bytes) c rest fits e = absurd cc

cabins : Spells (λ (c : Cabin). cabin_byte c ∷ []) cabin_at AnyCabin
cabins = record { again = λ c rest fits. cabin_again c rest; takes = cabin_takes }

abbrev IsPair : Leg × Cabin → Type 0
IsPair pair = IsNumber pair.0.0 × AnyCabin pair.1

path_pairs : Spells pair_bytes pair_at IsPair
path_pairs = pairs (λ (leg : Leg). number_bytes leg.0) (λ (c : Cabin). cabin_byte c ∷ []) leg_at cabin_at (λ leg. IsNumber leg.0) AnyCabin legs cabins

-- so many, behind their count in a byte
counted_again : {X : Type 0} (w : X → List ℕ) (r : Reads X) (F : X → Type 0) → Spells w r F → (xs : List X) (rest : List ℕ) → AllByRecursion F xs
    → (byte_at ((length xs ∷ flat_map w xs) ++ rest) >>= λ b. many r b.0 b.1) ≡ Some (xs, rest)
counted_again w r F spells xs rest fits = many_again w r F spells xs rest fits

counted_takes : {X : Type 0} (w : X → List ℕ) (r : Reads X) (F : X → Type 0) → Spells w r F → (bytes : List ℕ) (xs : List X) (rest : List ℕ) → AreBytes bytes
    → (byte_at bytes >>= λ b. many r b.0 b.1) ≡ Some (xs, rest) → (bytes ≡ (length xs ∷ flat_map w xs) ++ rest) × AreBytes rest × ((length xs < 256) × AllByRecursion F xs)
counted_takes w r F spells [] xs rest fits e = absurd cc
counted_takes w r F spells (b ∷ bytes) xs rest fits e =
    let t = many_takes w r F spells b bytes xs rest (bytes-rest b bytes fits) e in
    let small : b < 256 = fits 0 in
    (ap (λ (l : List ℕ). b ∷ l) t.0 ∙ ap (λ (k : ℕ). k ∷ (flat_map w xs ++ rest)) (sym t.2), t.1, (omega (arith, t.2, small), t.3))

pairs_in : (path : List (Leg × Cabin)) → AllByRecursion (λ (pair : Leg × Cabin). IsNumber pair.0.0) path → AllByRecursion IsPair path
pairs_in [] all = tt
pairs_in (pair ∷ path) all = ((all.0, tt), pairs_in path all.1)

pairs_out : (path : List (Leg × Cabin)) → AllByRecursion IsPair path → AllByRecursion (λ (pair : Leg × Cabin). IsNumber pair.0.0) path
pairs_out [] all = tt
pairs_out (pair ∷ path) all = (all.0.0, pairs_out path all.1)

path_again : (path : List (Leg × Cabin)) (rest : List ℕ) → IsPath path → path_at (path_bytes path ++ rest) ≡ Some (path, rest)
unfolding path_at
path_again path rest fits = counted_again pair_bytes pair_at IsPair path_pairs path rest (pairs_in path fits.1)

path_takes : (bytes : List ℕ) (path : List (Leg × Cabin)) (rest : List ℕ) → AreBytes bytes → path_at bytes ≡ Some (path, rest) → (bytes ≡ path_bytes path ++ rest) × AreBytes rest × IsPath path
unfolding path_at
path_takes bytes path rest fits e =
    let t = counted_takes pair_bytes pair_at IsPair path_pairs bytes path rest fits e in
    (t.0, t.1, (t.2.0, pairs_out path t.2.1))

paths : Spells path_bytes path_at IsPath
paths = record { again = path_again; takes = path_takes }

-- ---- steps

abbrev set_of : Leg × (Row × Row) → Step
set_of p = step.Set p.0 p.1.0 p.1.1

abbrev push_of : ℕ × Option Leg → Step
push_of p = step.Push (record { 0 = p.0 }) p.1

abbrev swap_of : ℕ × (ℕ × ℕ) → Step
swap_of p = step.Swap (record { 0 = p.0 }) (record { 0 = p.1.0 }) (record { 0 = p.1.1 })

abbrev rebook_of : ℕ × (ℕ × (List (Leg × Cabin) × List (Leg × Cabin))) → Step
rebook_of p = step.Rebook (record { 0 = p.0 }) p.1.1.0 p.1.1.1 p.1.0

two_rows : Spells (λ (p : Row × Row). row_bytes p.0 ++ row_bytes p.1) (both row_at row_at) (λ p. IsRow p.0 × IsRow p.1)
two_rows = pairs row_bytes row_bytes row_at row_at IsRow IsRow rows rows

two_paths : Spells (λ (p : List (Leg × Cabin) × List (Leg × Cabin)). path_bytes p.0 ++ path_bytes p.1) (both path_at path_at) (λ p. IsPath p.0 × IsPath p.1)
two_paths = pairs path_bytes path_bytes path_at path_at IsPath IsPath paths paths

sets : Spells (λ (p : Leg × (Row × Row)). number_bytes p.0.0 ++ (row_bytes p.1.0 ++ row_bytes p.1.1)) (both leg_at (both row_at row_at)) (λ p. IsNumber p.0.0 × (IsRow p.1.0 × IsRow p.1.1))
sets = pairs (λ (leg : Leg). number_bytes leg.0) (λ (p : Row × Row). row_bytes p.0 ++ row_bytes p.1) leg_at (both row_at row_at) (λ leg. IsNumber leg.0) (λ p. IsRow p.0 × IsRow p.1) legs two_rows

pushes : Spells (λ (p : ℕ × Option Leg). number_bytes p.0 ++ after_bytes p.1) (both number_at after_at) (λ p. IsNumber p.0 × IsAfter p.1)
pushes = pairs number_bytes after_bytes number_at after_at IsNumber IsAfter numbers afters

swaps : Spells (λ (p : ℕ × (ℕ × ℕ)). number_bytes p.0 ++ two_bytes p.1) (both number_at (both number_at number_at)) (λ p. IsNumber p.0 × AreTwo p.1)
swaps = pairs number_bytes two_bytes number_at (both number_at number_at) IsNumber AreTwo numbers two

count_and_paths : Spells (λ (p : ℕ × (List (Leg × Cabin) × List (Leg × Cabin))). number_bytes p.0 ++ (path_bytes p.1.0 ++ path_bytes p.1.1)) (both number_at (both path_at path_at)) (λ p. IsNumber p.0 × (IsPath p.1.0 × IsPath p.1.1))
count_and_paths = pairs number_bytes (λ (p : List (Leg × Cabin) × List (Leg × Cabin)). path_bytes p.0 ++ path_bytes p.1) number_at (both path_at path_at) IsNumber (λ p. IsPath p.0 × IsPath p.1) numbers two_paths

rebooks : Spells (λ (p : ℕ × (ℕ × (List (Leg × Cabin) × List (Leg × Cabin)))). number_bytes p.0 ++ (number_bytes p.1.0 ++ (path_bytes p.1.1.0 ++ path_bytes p.1.1.1))) (both number_at (both number_at (both path_at path_at))) (λ p. IsNumber p.0 × (IsNumber p.1.0 × (IsPath p.1.1.0 × IsPath p.1.1.1)))
rebooks = pairs number_bytes (λ (p : ℕ × (List (Leg × Cabin) × List (Leg × Cabin))). number_bytes p.0 ++ (path_bytes p.1.0 ++ path_bytes p.1.1)) number_at (both number_at (both path_at path_at)) IsNumber (λ p. IsNumber p.0 × (IsPath p.1.0 × IsPath p.1.1)) numbers count_and_paths

step_again : (s : Step) (rest : List ℕ) → IsStep s → step_at (step_bytes s ++ rest) ≡ Some (s, rest)
unfolding step_at
step_again (step.Set leg was new) rest fits = made_again set_of _ _ _ sets (leg, (was, new)) rest fits
step_again (step.Push plane after) rest fits = made_again push_of _ _ _ pushes (plane.0, after) rest fits
step_again (step.Swap first second at) rest fits = made_again swap_of _ _ _ swaps (first.0, (second.0, at.0)) rest fits
step_again (step.Rebook res path to count) rest fits = made_again rebook_of _ _ _ rebooks (res.0, (count, (path, to))) rest fits
step_again step.Tidy rest fits = refl
step_again (step.Refill leg) rest fits = made_again step.Refill _ _ _ legs leg rest fits

-- a step of a kind, made of what was read
step_made : {X : Type 0} (con : X → Step) (w : X → List ℕ) (F : X → Type 0) (kind : ℕ) (bytes : List ℕ) (s : Step) (rest : List ℕ) → ((x : X) → step_bytes (con x) ≡ kind ∷ w x) → ((x : X) → F x → IsStep (con x))
    → MadeOf con w F bytes s rest → (kind ∷ bytes ≡ step_bytes s ++ rest) × AreBytes rest × IsStep s
step_made con w F kind bytes s rest spelled holds t =
    subst (λ (q : Step). (kind ∷ bytes ≡ step_bytes q ++ rest) × AreBytes rest × IsStep q) t.is
    (ap (λ (l : List ℕ). kind ∷ l) t.parts ∙ ap (λ (l : List ℕ). l ++ rest) (sym (spelled t.from)), t.rest_fits, holds t.from t.fits)

step_takes : (bytes : List ℕ) (s : Step) (rest : List ℕ) → AreBytes bytes → step_at bytes ≡ Some (s, rest) → (bytes ≡ step_bytes s ++ rest) × AreBytes rest × IsStep s
unfolding step_at
step_takes [] s rest fits e = absurd cc
step_takes (zero ∷ bytes) s rest fits e = step_made set_of _ _ 0 bytes s rest (λ p. refl) (λ p h. h) (made_takes set_of _ _ _ sets bytes s rest (bytes-rest 0 bytes fits) e)
step_takes (suc zero ∷ bytes) s rest fits e = step_made push_of _ _ 1 bytes s rest (λ p. refl) (λ p h. h) (made_takes push_of _ _ _ pushes bytes s rest (bytes-rest 1 bytes fits) e)
step_takes (suc (suc zero) ∷ bytes) s rest fits e = step_made swap_of _ _ 2 bytes s rest (λ p. refl) (λ p h. h) (made_takes swap_of _ _ _ swaps bytes s rest (bytes-rest 2 bytes fits) e)
step_takes (suc (suc (suc zero)) ∷ bytes) s rest fits e = step_made rebook_of _ _ 3 bytes s rest (λ p. refl) (λ p h. h) (made_takes rebook_of _ _ _ rebooks bytes s rest (bytes-rest 3 bytes fits) e)
step_takes (suc (suc (suc (suc zero))) ∷ bytes) s rest fits e =
    let given : Step × List ℕ = (step.Tidy, bytes) in
    subst (λ (q : Step × List ℕ). (4 ∷ bytes ≡ step_bytes q.0 ++ q.1) × AreBytes q.1 × IsStep q.0) (some_is given (s, rest) e) (refl, bytes-rest 4 bytes fits, tt)
step_takes (suc (suc (suc (suc (suc zero)))) ∷ bytes) s rest fits e = step_made step.Refill _ _ 5 bytes s rest (λ p. refl) (λ p h. h) (made_takes step.Refill _ _ _ legs bytes s rest (bytes-rest 5 bytes fits) e)
step_takes (suc (suc (suc (suc (suc (suc b))))) ∷ bytes) s rest fits e = absurd cc

pub each_step : Spells step_bytes step_at IsStep
each_step = record { again = step_again; takes = step_takes }

steps_again : (steps : List Step) (rest : List ℕ) → AreSteps steps → steps_at (steps_bytes steps ++ rest) ≡ Some (steps, rest)
unfolding steps_at
steps_again steps rest fits = counted_again step_bytes step_at IsStep each_step steps rest fits.1

steps_takes : (bytes : List ℕ) (steps : List Step) (rest : List ℕ) → AreBytes bytes → steps_at bytes ≡ Some (steps, rest) → (bytes ≡ steps_bytes steps ++ rest) × AreBytes rest × AreSteps steps
unfolding steps_at
steps_takes bytes steps rest fits e = counted_takes step_bytes step_at IsStep each_step bytes steps rest fits e

all_steps : Spells steps_bytes steps_at AreSteps
all_steps = record { again = steps_again; takes = steps_takes }

-- ---- payloads

event_again : (s : StoredEvent) (rest : List ℕ) → HasSpelling s → event_at (payload s ++ rest) ≡ Some (s, rest)
unfolding event_at
event_again (event.Batch caller number) rest fits =
    ap event_at (append_assoc (number_bytes caller) (0 ∷ number_bytes number) rest)
    ∙ ap (λ (o : Option (ℕ × List ℕ)). o >>= λ c. byte_at c.1 >>= λ b. event_of c.0 b.0 b.1) (numbers.again caller ((0 ∷ number_bytes number) ++ rest) fits.0)
    ∙ made_again (λ (n : ℕ). event.Batch caller n) number_bytes number_at IsNumber numbers number rest fits.1
event_again (event.Move caller m) rest fits =
    ap event_at (append_assoc (number_bytes caller) (1 ∷ steps_bytes m.steps) rest)
    ∙ ap (λ (o : Option (ℕ × List ℕ)). o >>= λ c. byte_at c.1 >>= λ b. event_of c.0 b.0 b.1) (numbers.again caller ((1 ∷ steps_bytes m.steps) ++ rest) fits.0)
    ∙ made_again (λ (all : List Step). event.Move caller (record { steps = all })) steps_bytes steps_at AreSteps all_steps m.steps rest fits.1

event_by_kind : (caller kind : ℕ) (bytes : List ℕ) (s : StoredEvent) (rest : List ℕ) → IsNumber caller → AreBytes bytes → event_of caller kind bytes ≡ Some (s, rest) → (number_bytes caller ++ (kind ∷ bytes) ≡ payload s ++ rest) × AreBytes rest × HasSpelling s
event_by_kind caller zero bytes s rest is fits e =
    let t = made_takes (λ (n : ℕ). event.Batch caller n) number_bytes number_at IsNumber numbers bytes s rest fits e in
    subst (λ (q : StoredEvent). (number_bytes caller ++ (0 ∷ bytes) ≡ payload q ++ rest) × AreBytes rest × HasSpelling q) t.is
    (ap (λ (l : List ℕ). number_bytes caller ++ (0 ∷ l)) t.parts ∙ sym (append_assoc (number_bytes caller) (0 ∷ number_bytes t.from) rest), t.rest_fits, (is, t.fits))
event_by_kind caller (suc zero) bytes s rest is fits e =
    let t = made_takes (λ (all : List Step). event.Move caller (record { steps = all })) steps_bytes steps_at AreSteps all_steps bytes s rest fits e in
    subst (λ (q : StoredEvent). (number_bytes caller ++ (1 ∷ bytes) ≡ payload q ++ rest) × AreBytes rest × HasSpelling q) t.is
    (ap (λ (l : List ℕ). number_bytes caller ++ (1 ∷ l)) t.parts ∙ sym (append_assoc (number_bytes caller) (1 ∷ steps_bytes t.from) rest), t.rest_fits, (is, t.fits))
event_by_kind caller (suc (suc b)) bytes s rest is fits e = absurd cc

kind_takes : (caller : ℕ) (bytes : List ℕ) (s : StoredEvent) (rest : List ℕ) → IsNumber caller → AreBytes bytes → (byte_at bytes >>= λ b. event_of caller b.0 b.1) ≡ Some (s, rest) → (number_bytes caller ++ bytes ≡ payload s ++ rest) × AreBytes rest × HasSpelling s
kind_takes caller [] s rest is fits e = absurd cc
kind_takes caller (b ∷ bytes) s rest is fits e = event_by_kind caller b bytes s rest is (bytes-rest b bytes fits) e

event_takes : (bytes : List ℕ) (s : StoredEvent) (rest : List ℕ) → AreBytes bytes → event_at bytes ≡ Some (s, rest) → (bytes ≡ payload s ++ rest) × AreBytes rest × HasSpelling s
unfolding event_at
event_takes bytes s rest fits e =
    let a = bind_some (number_at bytes) (λ c. byte_at c.1 >>= λ b. event_of c.0 b.0 b.1) (s, rest) e in
    let one = numbers.takes bytes a.0.0 a.0.1 fits a.1 in
    let more = kind_takes a.0.0 a.0.1 s rest one.2 one.1 a.2 in
    (one.0 ∙ more.0, more.1, more.2)

-- what is spelled so is read, and what is read is spelled so, all of it
pub spelled_again : (s : StoredEvent) → HasSpelling s → spelled_by (payload s) ≡ Some s
unfolding spelled_by
spelled_again s fits = ap (λ (o : Option (StoredEvent × List ℕ)). o >>= all_of) (ap event_at (sym (append-nil (payload s))) ∙ event_again s [] fits)

whole_is : (a : StoredEvent × List ℕ) (s : StoredEvent) → all_of a ≡ Some s → (a.0 ≡ s) × (a.1 ≡ [])
whole_is (stored, []) s e = (some_is stored s e, refl)
whole_is (stored, b ∷ rest) s e = absurd cc

pub spelled_takes : (bytes : List ℕ) (s : StoredEvent) → AreBytes bytes → spelled_by bytes ≡ Some s → (bytes ≡ payload s) × HasSpelling s
unfolding spelled_by
spelled_takes bytes s fits e =
    let a = bind_some (event_at bytes) all_of s e in
    let t = event_takes bytes a.0.0 a.0.1 fits a.1 in
    let w = whole_is a.0 s a.2 in
    (t.0 ∙ ap (λ (l : List ℕ). payload a.0.0 ++ l) w.1 ∙ append-nil (payload a.0.0) ∙ ap payload w.0, subst HasSpelling w.0 t.2)
