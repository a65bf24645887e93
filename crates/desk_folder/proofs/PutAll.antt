-- Texts that are put one after another.
use Rattle.std.proofs.Common.{◌≡◌, ◌⊎◌, ℕ, ◌≤◌, true, List, [], ◌∷◌, length, refl, sym, subst, ◌∙◌, arith, inl, inr}
use Rattle.std.specs.Prelude.{Option, Some, None, Result, Ok, Err, IfErr}
use Rattle.std.specs.Io.KnownBytes.{Appends, Keeps}
use Rattle.std.proofs.lemmas.List.{append-nil, take_all}
use Rattle.desk_folder.specs.declared.files.File.{File}
use Rattle.desk_folder.specs.declared.faults.FolderFault.{FolderFault}
use Rattle.desk_folder.specs.declared.faults.FolderFault.TheVariants as call
use Rattle.desk_folder.specs.Outside.{Outside, WritesOnly}
use Rattle.desk_folder.specs.Calls.{AppendsPrefix, Rose}
use Rattle.desk_folder.specs.declared.outputs.WriteFault.{WriteFault}
use Rattle.desk_folder.specs.declared.outputs.WriteFault.TheVariants as fault
use Rattle.desk_folder.specs.Texts.{PutsText}
use Rattle.desk_folder.specs.Outputs.{is_among, FileText, files_of, are_different, HasAll, HaveNothing, ArePut, ArePutBy, HasWriteCause, WritesAmong, PutsTexts}
use Rattle.desk_folder.proofs.Among.{same_or_other, among_first, among_rest, not_first, not_rest, different_first, other_than_first}

-- ---- known bytes

pub keeps-same : (was is : Option (List ℕ)) → is ≡ was → Keeps was is
keeps-same None is e = tt
keeps-same (Some xs) None e = absurd cc
keeps-same (Some xs) (Some ys) e = cc

pub appends-nothing : (before now : Option (List ℕ)) → Keeps before now → Appends before now []
appends-nothing None now h = tt
appends-nothing (Some xs) None h = h
appends-nothing (Some xs) (Some ys) h = h ∙ sym (append-nil xs)

unfoldable pub begins-whole : (before now : Option (List ℕ)) (text : List ℕ) → Appends before now text → AppendsPrefix before now text
begins-whole before now text h = (length text, subst (λ (t : List ℕ). Appends before now t) (sym (take_all (length text) text (omega arith))) h)

-- ---- the relation of texts

-- what is said of the file and of the end may be less
pub ArePut-less : (S T : File → Type 0) (E F : Type 0) (texts : List FileText) (before now : Outside) → ((f : File) → S f → T f) → (E → F) → ArePut S E texts before now → ArePut T F texts before now
ArePut-less S T E F [] before now of_file at_end h = at_end h
ArePut-less S T E F (t ∷ others) before now of_file at_end (inl h) = inl (h.0, ArePut-less S T E F others before now of_file at_end h.1)
ArePut-less S T E F (t ∷ others) before now of_file at_end (inr h) = inr (h.0, h.1, of_file t.0 h.2)

-- these files are written as before
abbrev pub AreWrittenAlike : List FileText → Outside → Outside → Type 0
AreWrittenAlike texts before now = (f : File) → is_among f (files_of texts) ≡ true → now.written f ≡ before.written f

alike_first : (t : FileText) (others : List FileText) (before now : Outside) → AreWrittenAlike (t ∷ others) before now → now.written t.0 ≡ before.written t.0
alike_first t others before now same = same t.0 (among_first t.0 t.0 (files_of others) refl)

alike_rest : (t : FileText) (others : List FileText) (before now : Outside) → AreWrittenAlike (t ∷ others) before now → AreWrittenAlike others before now
alike_rest t others before now same = λ f among. same f (among_rest f t.0 (files_of others) among)

have_nothing_from : (texts : List FileText) (before mid now : Outside) → AreWrittenAlike texts before mid → HaveNothing texts mid now → HaveNothing texts before now
have_nothing_from [] before mid now same h = tt
have_nothing_from (t ∷ others) before mid now same h = (
  subst (λ (o : Option (List ℕ)). Keeps o (now.written t.0)) (alike_first t others before mid same) h.0,
  have_nothing_from others before mid now (alike_rest t others before mid same) h.1,
)

-- from before a time in which they were not written
pub ArePut-from : (S : File → Type 0) (E : Type 0) (texts : List FileText) (before mid now : Outside) → AreWrittenAlike texts before mid → ArePut S E texts mid now → ArePut S E texts before now
ArePut-from S E [] before mid now same h = h
ArePut-from S E (t ∷ others) before mid now same (inl h) = inl (
  subst (λ (o : Option (List ℕ)). Appends o (now.written t.0) t.1) (alike_first t others before mid same) h.0,
  ArePut-from S E others before mid now (alike_rest t others before mid same) h.1,
)
ArePut-from S E (t ∷ others) before mid now same (inr h) = inr (
  subst (λ (o : Option (List ℕ)). AppendsPrefix o (now.written t.0) t.1) (alike_first t others before mid same) h.0,
  have_nothing_from others before mid now (alike_rest t others before mid same) h.1,
  h.2,
)

pub have_nothing : (texts : List FileText) (before now : Outside) → AreWrittenAlike texts before now → HaveNothing texts before now
have_nothing [] before now same = tt
have_nothing (t ∷ others) before now same =
    (keeps-same (before.written t.0) (now.written t.0) (alike_first t others before now same), have_nothing others before now (alike_rest t others before now same))

-- where nothing is written, nothing of the first is
pub ArePut-none : (S : File → Type 0) (E : Type 0) (texts : List FileText) (before now : Outside) → AreWrittenAlike texts before now → ((f : File) → S f) → E → ArePut S E texts before now
ArePut-none S E [] before now same of_file at_end = at_end
ArePut-none S E (t ∷ others) before now same of_file at_end = inr (
  (0, appends-nothing (before.written t.0) (now.written t.0) (keeps-same (before.written t.0) (now.written t.0) (alike_first t others before now same))),
  have_nothing others before now (alike_rest t others before now same),
  of_file t.0,
)

-- all are whole, or it is said of some file
pub ArePut-either : (S : File → Type 0) (E : Type 0) (texts : List FileText) (before now : Outside) → ArePut S E texts before now → (ArePut (λ f. ⊥) (Unit {0}) texts before now × E) ⊎ ((f : File) × S f)
ArePut-either S E [] before now h = inl (tt, h)
ArePut-either S E (t ∷ others) before now (inr h) = inr (t.0, h.2)
ArePut-either S E (t ∷ others) before now (inl h) = elim (ArePut-either S E others before now h.1) [
  | inl whole ↦ inl (inl (h.0, whole.0), whole.1)
  | inr some ↦ inr some
]

-- where no file is said to be short, each is whole
pub whole-first : (E : Type 0) (t : FileText) (others : List FileText) (before now : Outside) → ArePut (λ f. ⊥) E (t ∷ others) before now → HasAll t before now
whole-first E t others before now (inl h) = h.0
whole-first E t others before now (inr h) = absurd h.2

pub whole-rest : (E : Type 0) (t : FileText) (others : List FileText) (before now : Outside) → ArePut (λ f. ⊥) E (t ∷ others) before now → ArePut (λ f. ⊥) E others before now
whole-rest E t others before now (inl h) = h.1
whole-rest E t others before now (inr h) = absurd h.2

pub whole-end : (E : Type 0) (texts : List FileText) (before now : Outside) → ArePut (λ f. ⊥) E texts before now → E
whole-end E [] before now h = h
whole-end E (t ∷ others) before now (inl h) = whole-end E others before now h.1
whole-end E (t ∷ others) before now (inr h) = absurd h.2

-- ---- one text is put, and then the others

kept_first : (file f : File) (before mid : Outside) → WritesOnly file before mid → before.put_faults file ≤ mid.put_faults file → before.put_faults f ≤ mid.put_faults f
kept_first file f before mid only kept = elim (same_or_other f file) [
  | inl same ↦ subst (λ (g : File). before.put_faults g ≤ mid.put_faults g) (sym same) kept
  | inr other ↦ let stays : mid.put_faults f ≡ before.put_faults f = only.put_faults f other in omega (arith, stays)
]

writes_first : (file : File) (files : List File) (before mid : Outside) → WritesOnly file before mid → before.put_faults file ≤ mid.put_faults file → WritesAmong (file ∷ files) before mid
writes_first file files before mid only kept = record {
  unput = λ f not_there. record { written = only.written f (not_first f file files not_there); faults = only.put_faults f (not_first f file files not_there) };
  kept = λ f. kept_first file f before mid only kept;
  directories = only.directories;
  left = only.left;
  turns = only.turns;
  place_faults = only.place_faults;
  next_faults = only.next_faults;
}

writes_rest : (file : File) (files : List File) (before mid now : Outside) → WritesOnly file before mid → before.put_faults file ≤ mid.put_faults file → WritesAmong files mid now → WritesAmong (file ∷ files) before now
writes_rest file files before mid now only kept rest = record {
  unput = λ f not_there. record {
    written = (rest.unput f (not_rest f file files not_there)).written ∙ only.written f (not_first f file files not_there);
    faults = (rest.unput f (not_rest f file files not_there)).faults ∙ only.put_faults f (not_first f file files not_there);
  };
  kept = λ f. let first : before.put_faults f ≤ mid.put_faults f = kept_first file f before mid only kept in let after : mid.put_faults f ≤ now.put_faults f = rest.kept f in omega (arith, first, after);
  directories = rest.directories ∙ only.directories;
  left = λ f. rest.left f ∙ only.left f;
  turns = λ f. rest.turns f ∙ only.turns f;
  place_faults = rest.place_faults ∙ only.place_faults;
  next_faults = λ f. rest.next_faults f ∙ only.next_faults f;
}

alike_others : (t : FileText) (others : List FileText) (before mid : Outside) → are_different (files_of (t ∷ others)) ≡ true → WritesOnly t.0 before mid → AreWrittenAlike others before mid
alike_others t others before mid different only f among = only.written f (other_than_first f t.0 (files_of others) different among)

put_rest : (t : FileText) (others : List FileText) (before mid now : Outside) (answer : Result (Unit {0}) WriteFault) → HasAll t before now → AreWrittenAlike others before mid → ArePutBy others mid now answer → ArePutBy (t ∷ others) before now answer
put_rest t others before mid now (Ok done) all same h = inl (all, ArePut-from (λ f. ⊥) (Unit {0}) others before mid now same h)
put_rest t others before mid now (Err (fault.Failed f)) all same h = inl (all, ArePut-from (λ g. g ≡ f) ⊥ others before mid now same h)
put_rest t others before mid now (Err fault.Memory) all same h = inl (all, ArePut-from (λ g. Unit {0}) ⊥ others before mid now same h)

cause_rest : (file : File) (files : List File) (before mid now : Outside) (answer : Result (Unit {0}) WriteFault) → WritesOnly file before mid → before.put_faults file ≤ mid.put_faults file → IfErr answer (HasWriteCause files mid now) → IfErr answer (HasWriteCause (file ∷ files) before now)
cause_rest file files before mid now (Ok done) only kept h = tt
cause_rest file files before mid now (Err (fault.Failed f)) only kept h =
    let le : before.put_faults f ≤ mid.put_faults f = kept_first file f before mid only kept in
    let rose : Rose (mid.put_faults f) (now.put_faults f) = h.1 in
    (among_rest f file files h.0, omega (arith, le, rose))
cause_rest file files before mid now (Err fault.Memory) only kept h = tt

abbrev pub Done : Type 0
Done = Result (Unit {0}) FolderFault

abbrev pub done_with : Unit {0} → Done
done_with ok = Ok ok

abbrev pub ended_by : FolderFault → Done
ended_by e = Err e

pub puts-rest : (t : FileText) (others : List FileText) (before mid now : Outside) (ok : Unit {0}) (answer : Result (Unit {0}) WriteFault) → are_different (files_of (t ∷ others)) ≡ true → PutsText before mid t.0 t.1 (done_with ok) → PutsTexts mid now others answer → PutsTexts before now (t ∷ others) answer
puts-rest t others before mid now ok answer different first rest =
    let stays : now.written t.0 ≡ mid.written t.0 = (rest.only.unput t.0 (different_first t.0 (files_of others) different)).written in
    let all : HasAll t before now = subst (λ (o : Option (List ℕ)). Appends (before.written t.0) o t.1) (sym stays) first.bytes in
    record {
      put = put_rest t others before mid now answer all (alike_others t others before mid different first.others) rest.put;
      cause = cause_rest t.0 (files_of others) before mid now answer first.others first.faults.kept rest.cause;
      only = writes_rest t.0 (files_of others) before mid now first.others first.faults.kept rest.only;
    }

abbrev pub failed_at : File → Result (Unit {0}) WriteFault
failed_at f = Err (fault.Failed f)

abbrev pub no_memory : Result (Unit {0}) WriteFault
no_memory = Err fault.Memory

pub puts-failed : (t : FileText) (others : List FileText) (before now : Outside) → are_different (files_of (t ∷ others)) ≡ true → PutsText before now t.0 t.1 (ended_by call.Failed) → PutsTexts before now (t ∷ others) (failed_at t.0)
puts-failed t others before now different first = record {
  put = inr (first.bytes, have_nothing others before now (alike_others t others before now different first.others), refl);
  cause = (among_first t.0 t.0 (files_of others) refl, first.faults.rose refl);
  only = writes_first t.0 (files_of others) before now first.others first.faults.kept;
}

pub puts-memory : (t : FileText) (others : List FileText) (before now : Outside) → are_different (files_of (t ∷ others)) ≡ true → PutsText before now t.0 t.1 (ended_by call.Memory) → PutsTexts before now (t ∷ others) no_memory
puts-memory t others before now different first = record {
  put = inr (first.bytes, have_nothing others before now (alike_others t others before now different first.others), tt);
  cause = tt;
  only = writes_first t.0 (files_of others) before now first.others first.faults.kept;
}

pub puts-none : (outside : Outside) (ok : Unit {0}) → PutsTexts outside outside [] (let r : Result (Unit {0}) WriteFault = Ok ok in r)
puts-none outside ok = record {
  put = tt;
  cause = tt;
  only = record {
    unput = λ f not_there. record { written = refl; faults = refl };
    kept = λ f. omega arith;
    directories = refl;
    left = λ f. refl;
    turns = λ f. refl;
    place_faults = refl;
    next_faults = λ f. refl;
  };
}
