-- How runs of calls begin, go on and join.
use Rattle.std.proofs.Common.{List, ℕ, [], ◌∷◌, ◌++◌, sym, ◌∙◌, ap, subst, append_assoc}
use Rattle.std.specs.List.{AllByRecursion}
use Rattle.std.proofs.lemmas.List.{append-nil}
use Rattle.std.specs.Prelude.{Option}
use Rattle.desk_disk.specs.FileStates.{FileState, DiskSide, changed}
use Rattle.desk_disk.specs.Crashes.{Leaves, LeavesOnly, RunsTo}

all_push : {X : Type 0} (P : X → Type 0) (xs : List X) (y : X) → AllByRecursion P xs → P y → AllByRecursion P (xs ++ y ∷ [])
all_push P [] y all last = (last, tt)
all_push P (x ∷ xs) y all last = (all.0, all_push P xs y all.1 last)

all_front : {X : Type 0} (P : X → Type 0) (xs ys : List X) → AllByRecursion P (xs ++ ys) → AllByRecursion P xs
all_front P [] ys all = tt
all_front P (x ∷ xs) ys all = (all.0, all_front P xs ys all.1)

all_last : {X : Type 0} (P : X → Type 0) (xs : List X) (y : X) → AllByRecursion P (xs ++ y ∷ []) → P y
all_last P [] y all = all.0
all_last P (x ∷ xs) y all = all_last P xs y all.1

all_append : {X : Type 0} (P : X → Type 0) (xs ys : List X) → AllByRecursion P xs → AllByRecursion P ys → AllByRecursion P (xs ++ ys)
all_append P [] ys front back = back
all_append P (x ∷ xs) ys front back = (front.0, all_append P xs ys front.1 back)

all_weaker : {X : Type 0} (P Q : X → Type 0) → ((x : X) → P x → Q x) → (xs : List X) → AllByRecursion P xs → AllByRecursion Q xs
all_weaker P Q f [] all = tt
all_weaker P Q f (x ∷ xs) all = (f x all.0, all_weaker P Q f xs all.1)

-- before the first call
pub starts : (d : DiskSide) (P : List ℕ → Type 0) → Leaves P d.file → LeavesOnly d d P
starts d P here = record { states = []; later = sym (append-nil d.past); each = (here, tt) }

-- one call more
pub goes_on : (before mid : DiskSide) (h : FileState) (P : List ℕ → Type 0) → LeavesOnly before mid P → Leaves P h → LeavesOnly before (changed h mid) P
goes_on before mid h P run here = record {
  states = run.states ++ mid.file ∷ [];
  later = ap (λ (l : List FileState). l ++ mid.file ∷ []) run.later ∙ append_assoc before.past run.states (mid.file ∷ []);
  each = all_push (Leaves P) (run.states ++ mid.file ∷ []) h run.each here;
}

-- what a crash leaves now
pub at_end : (before now : DiskSide) (P : List ℕ → Type 0) → LeavesOnly before now P → Leaves P now.file
at_end before now P run = all_last (Leaves P) run.states now.file run.each

-- two runs, one behind the other
pub joins : (before mid now : DiskSide) (P : List ℕ → Type 0) → LeavesOnly before mid P → LeavesOnly mid now P → LeavesOnly before now P
joins before mid now P first second = record {
  states = first.states ++ second.states;
  later = second.later ∙ ap (λ (l : List FileState). l ++ second.states) first.later ∙ append_assoc before.past first.states second.states;
  each = subst (AllByRecursion (Leaves P)) (sym (append_assoc first.states second.states (now.file ∷ [])))
      (all_append (Leaves P) first.states (second.states ++ now.file ∷ []) (all_front (Leaves P) first.states (mid.file ∷ []) first.each) second.each);
}

pub weaker : (before now : DiskSide) (P Q : List ℕ → Type 0) → ((c : List ℕ) → P c → Q c) → LeavesOnly before now P → LeavesOnly before now Q
weaker before now P Q f run = record {
  states = run.states;
  later = run.later;
  each = all_weaker (Leaves P) (Leaves Q) (λ h leaves c left. f c (leaves c left)) (run.states ++ now.file ∷ []) run.each;
}

pub runs_weaker : (before : DiskSide) (shown : Option DiskSide) (P Q : List ℕ → Type 0) → ((c : List ℕ) → P c → Q c) → RunsTo before shown P → RunsTo before shown Q
runs_weaker before shown P Q f run = record { now = run.now; shows = run.shows; leaves = weaker before run.now P Q f run.leaves }

pub runs_join : (before mid : DiskSide) (shown : Option DiskSide) (P : List ℕ → Type 0) → LeavesOnly before mid P → RunsTo mid shown P → RunsTo before shown P
runs_join before mid shown P first second = record { now = second.now; shows = second.shows; leaves = joins before mid second.now P first second.leaves }
