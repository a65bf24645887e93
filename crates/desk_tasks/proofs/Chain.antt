-- A file is read, and then those after it.
use Rattle.std.proofs.Common.{◌≡◌, ◌≢◌, ℕ, ◌+◌, ◌<◌, ◌≤◌, true, false, List, [], ◌∷◌, refl, sym, ap, subst, ◌∙◌, arith, inl, inr}
use Rattle.std.specs.Prelude.{Option, Some, IfSome, Result, Ok, Err}
use Rattle.std.proofs.lemmas.Bool.{cases_Bool}
use Rattle.desk_folder.specs.declared.files.File.{File}
use Rattle.desk_folder.specs.Files.{file_number}
use Rattle.desk_folder.specs.Outside.{Outside, ReadsOnly}
use Rattle.desk_folder.specs.Calls.{Rose}
use Rattle.desk_tasks.specs.declared.fault.StoryFault.{StoryFault}
use Rattle.desk_tasks.specs.declared.fault.StoryFault.TheVariants as fault
use Rattle.desk_tasks.specs.declared.rows.InputRows.{InputRows}
use Rattle.desk_folder.specs.Outputs.{is_among}
use Rattle.desk_folder.proofs.Among.{same_or_other, among_rest, among_first, not_first, not_rest, among_either}
use Rattle.desk_tasks.specs.Inputs.{Inputs, Tells}
use Rattle.desk_tasks.specs.Story.{Rows, read_as, read_all}
use Rattle.desk_tasks.specs.declared.refusal.Refusal.{Refusal}
use Rattle.desk_tasks.specs.Reading.{IsRead, IsUnread, HasFewTurns, ReadsAmong, StopsAt}
use Rattle.desk_tasks.specs.StoryReading.{are_in_order, StopsAtFault, GivesRead, HasReadCause}
use Rattle.desk_tasks.specs.Facts.{as_rows}
use Rattle.desk_tasks.proofs.Orders.{numbered_after, refused_among, stands-first}

-- ---- a file and a list of files

first_not_rest : (g : File) (files : List File) → are_in_order (g ∷ files) ≡ true → is_among g files ≡ false
first_not_rest g files order = elim (cases_Bool (is_among g files)) [
  | inl t ↦ absurd (omega (arith, numbered_after g g files order t))
  | inr t ↦ t
]

rest_not_first : (f g : File) (files : List File) → are_in_order (g ∷ files) ≡ true → is_among f files ≡ true → f ≢ g
rest_not_first f g files order among same = let lt : file_number g < file_number f = numbered_after f g files order among in let e : file_number f ≡ file_number g = ap file_number same in omega (arith, lt, e)

-- ---- what is reported

pub tells-rest : (g : File) (files : List File) (before mid : Outside) (x : Inputs) → are_in_order (g ∷ files) ≡ true → ReadsOnly g before mid → Tells (g ∷ files) before x → Tells files mid x
tells-rest g files before mid x order only tells f among = only.left f (rest_not_first f g files order among) ∙ tells f (among_rest f g files among)

pub tells-first : (g : File) (files : List File) (before : Outside) (x : Inputs) → Tells (g ∷ files) before x → before.left g ≡ Some (x g)
tells-first g files before x tells = tells g (among_first g g files refl)

-- ---- what is read

pub exact-rest : (g : File) (files : List File) (x : Inputs) (rows more : Rows) (answer : Result InputRows StoryFault) → read_as g (x g) rows ≡ Ok more → GivesRead as_rows answer (read_all files x more) → GivesRead as_rows answer (read_all (g ∷ files) x rows)
unfolding read_all
exact-rest g files x rows more answer is h = rw is h

abbrev Answer : Type 0
Answer = Result InputRows StoryFault

pub exact-first : (g : File) (files : List File) (before now : Outside) (x : Inputs) (rows : Rows) (e : StoryFault) → are_in_order (g ∷ files) ≡ true → HasReadCause (g ∷ []) before now e → GivesRead as_rows (Err e) (read_as g (x g) rows) → GivesRead as_rows (Err e) (read_all (g ∷ files) x rows)
unfolding read_all
exact-first g files before now x rows (fault.Refused r) order cause h = rw h refl
exact-first g files before now x rows (fault.ReadFault f) order cause h =
    elim (among_either f g [] cause.0) [
      | inl same ↦ stands-first f g files x rows (ap file_number same) order h
      | inr none ↦ absurd (let no : false ≡ true = none in cc)
    ]
exact-first g files before now x rows fault.Memory order cause h = tt

-- ---- what is other than before

read_stays : (o mid now : Option (List ℕ)) → now ≡ mid → IfSome o (λ _. mid ≡ Some []) → IfSome o (λ _. now ≡ Some [])
read_stays o mid now same h = subst (λ (v : Option (List ℕ)). IfSome o (λ _. v ≡ Some [])) (sym same) h

pub all-read : (g : File) (files : List File) (before mid now : Outside) → are_in_order (g ∷ files) ≡ true → ReadsOnly g before mid → IsRead before mid g → ReadsAmong files mid now → ((f : File) → is_among f files ≡ true → IsRead mid now f) → (f : File) → is_among f (g ∷ files) ≡ true → IsRead before now f
all-read g files before mid now order only first rest others f among =
    elim (among_either f g files among) [
      | inl same ↦ subst (λ (h : File). IsRead before now h) (sym same)
          (read_stays (before.left g) (mid.left g) (now.left g) (rest.unread g (first_not_rest g files order)).left first)
      | inr in_rest ↦ subst (λ (o : Option (List ℕ)). IfSome o (λ _. now.left f ≡ Some [])) (only.left f (rest_not_first f g files order in_rest)) (others f in_rest)
    ]

kept_through : (g f : File) (files : List File) (before mid now : Outside) → ReadsOnly g before mid → before.next_faults g ≤ mid.next_faults g → mid.next_faults f ≤ now.next_faults f → before.next_faults f ≤ now.next_faults f
kept_through g f files before mid now only kept rest = elim (same_or_other f g) [
  | inl same ↦ let first : before.next_faults f ≤ mid.next_faults f = subst (λ (h : File). before.next_faults h ≤ mid.next_faults h) (sym same) kept in omega (arith, first, rest)
  | inr other ↦ let first : mid.next_faults f ≡ before.next_faults f = only.next_faults f other in omega (arith, first, rest)
]

-- the turns of the first file, and of those after it
few_first : (g f : File) (before mid : Outside) → ReadsOnly g before mid → HasFewTurns before mid g → HasFewTurns before mid f
few_first g f before mid only few = elim (same_or_other f g) [
  | inl same ↦ subst (λ (h : File). HasFewTurns before mid h) (sym same) few
  | inr other ↦ let stays : mid.turns f ≡ before.turns f = only.turns f other in omega (arith, stays)
]

few_rest : (g f : File) (files : List File) (before mid now : Outside) → are_in_order (g ∷ files) ≡ true → ReadsOnly g before mid → HasFewTurns before mid g → ReadsAmong files mid now → HasFewTurns before now f
few_rest g f files before mid now order only few rest = elim (same_or_other f g) [
  | inl same ↦
      let stays : now.turns g ≡ mid.turns g = (rest.unread g (first_not_rest g files order)).turns in
      let still : HasFewTurns before now g = omega (arith, few, stays) in
      subst (λ (h : File). HasFewTurns before now h) (sym same) still
  | inr other ↦
      let stays : mid.turns f ≡ before.turns f = only.turns f other in
      let after : HasFewTurns mid now f = rest.few f in
      omega (arith, stays, after)
]

pub reads-first : (g : File) (files : List File) (before mid : Outside) → ReadsOnly g before mid → before.next_faults g ≤ mid.next_faults g → HasFewTurns before mid g → ReadsAmong (g ∷ files) before mid
reads-first g files before mid only kept few = record {
  unread = λ f not_there. record { left = only.left f (not_first f g files not_there); turns = only.turns f (not_first f g files not_there); faults = only.next_faults f (not_first f g files not_there) };
  kept = λ f. kept_through g f files before mid mid only kept (omega arith);
  few = λ f. few_first g f before mid only few;
  directories = only.directories;
  written = only.written;
  place_faults = only.place_faults;
  put_faults = only.put_faults;
}

pub reads-rest : (g : File) (files : List File) (before mid now : Outside) → are_in_order (g ∷ files) ≡ true → ReadsOnly g before mid → before.next_faults g ≤ mid.next_faults g → HasFewTurns before mid g → ReadsAmong files mid now → ReadsAmong (g ∷ files) before now
reads-rest g files before mid now order only kept few rest = record {
  unread = λ f not_there. record {
    left = (rest.unread f (not_rest f g files not_there)).left ∙ only.left f (not_first f g files not_there);
    turns = (rest.unread f (not_rest f g files not_there)).turns ∙ only.turns f (not_first f g files not_there);
    faults = (rest.unread f (not_rest f g files not_there)).faults ∙ only.next_faults f (not_first f g files not_there);
  };
  kept = λ f. kept_through g f files before mid now only kept (rest.kept f);
  few = λ f. few_rest g f files before mid now order only few rest;
  directories = rest.directories ∙ only.directories;
  written = λ f. rest.written f ∙ only.written f;
  place_faults = rest.place_faults ∙ only.place_faults;
  put_faults = λ f. rest.put_faults f ∙ only.put_faults f;
}

pub cause-rest : (g : File) (files : List File) (before mid now : Outside) (e : StoryFault) → ReadsOnly g before mid → before.next_faults g ≤ mid.next_faults g → HasReadCause files mid now e → HasReadCause (g ∷ files) before now e
cause-rest g files before mid now (fault.Refused r) only kept h = tt
cause-rest g files before mid now (fault.ReadFault f) only kept h =
    let le : before.next_faults f ≤ mid.next_faults f = kept_through g f files before mid mid only kept (omega arith) in
    let rose : Rose (mid.next_faults f) (now.next_faults f) = h.1 in
    (among_rest f g files h.0, omega (arith, le, rose))
cause-rest g files before mid now fault.Memory only kept h = tt

-- ---- no file after one that is refused, or that could not be read

unread_first : (f g : File) (before mid : Outside) → ReadsOnly f before mid → file_number f < file_number g → IsUnread before mid g
unread_first f g before mid only lt =
    let other : g ≢ f = λ same. let e : file_number g ≡ file_number f = ap file_number same in omega (arith, lt, e) in
    record { left = only.left g other; turns = only.turns g other; faults = only.next_faults g other }

unread_both : (g : File) (before mid now : Outside) → IsUnread before mid g → IsUnread mid now g → IsUnread before now g
unread_both g before mid now first rest = record { left = rest.left ∙ first.left; turns = rest.turns ∙ first.turns; faults = rest.faults ∙ first.faults }

not_before : (f r : File) (files : List File) → are_in_order (f ∷ files) ≡ true → is_among r (f ∷ files) ≡ true → file_number f ≤ file_number r
not_before f r files order among = elim (among_either r f files among) [
  | inl same ↦ let e : file_number r ≡ file_number f = ap file_number same in omega (arith, e)
  | inr rest ↦ let lt : file_number f < file_number r = numbered_after r f files order rest in omega (arith, lt)
]

-- where the first could not be taken
pub order-first : (f : File) (files : List File) (before mid : Outside) (x : Inputs) (rows : Rows) (r : Refusal) → are_in_order (f ∷ files) ≡ true → ReadsOnly f before mid → read_all (f ∷ files) x rows ≡ Err r → StopsAt r.file before mid
order-first f files before mid x rows r order only e g lt =
    let le : file_number f ≤ file_number r.file = not_before f r.file files order (refused_among (f ∷ files) x rows r e) in
    unread_first f g before mid only (omega (arith, le, lt))

-- and where it was
pub order-rest : (f : File) (files : List File) (before mid now : Outside) (x : Inputs) (rows more : Rows) (r : Refusal) → are_in_order (f ∷ files) ≡ true → ReadsOnly f before mid → read_as f (x f) rows ≡ Ok more
    → (read_all files x more ≡ Err r → StopsAt r.file mid now) → read_all (f ∷ files) x rows ≡ Err r → StopsAt r.file before now
unfolding read_all
order-rest f files before mid now x rows more r order only is rest e g lt =
    let refused : read_all files x more ≡ Err r = rw is at e in
    let after : file_number f < file_number r.file = numbered_after r.file f files order (refused_among files x more r refused) in
    unread_both g before mid now (unread_first f g before mid only (omega (arith, after, lt))) (rest refused g lt)

pub stops-first : (f : File) (before mid : Outside) (e : StoryFault) → ReadsOnly f before mid → HasReadCause (f ∷ []) before mid e → StopsAtFault before mid e
stops-first f before mid (fault.Refused r) only cause = tt
stops-first f before mid (fault.ReadFault h) only cause = λ g lt. elim (among_either h f [] cause.0) [
  | inl same ↦ let e : file_number h ≡ file_number f = ap file_number same in unread_first f g before mid only (omega (arith, e, lt))
  | inr none ↦ absurd (let no : false ≡ true = none in cc)
]
stops-first f before mid fault.Memory only cause = tt

pub stops-rest : (f : File) (files : List File) (before mid now : Outside) (e : StoryFault) → are_in_order (f ∷ files) ≡ true → ReadsOnly f before mid → HasReadCause files mid now e → StopsAtFault mid now e → StopsAtFault before now e
stops-rest f files before mid now (fault.Refused r) order only cause h = tt
stops-rest f files before mid now (fault.ReadFault k) order only cause h = λ g lt.
    let after : file_number f < file_number k = numbered_after k f files order cause.0 in
    unread_both g before mid now (unread_first f g before mid only (omega (arith, after, lt))) (h g lt)
stops-rest f files before mid now fault.Memory order only cause h = tt
