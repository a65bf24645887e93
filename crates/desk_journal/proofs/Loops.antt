-- Reading values one after the other, as a loop does.
use Rattle.std.proofs.Common.{◌≡◌, ℕ, suc, ◌-◌, ◌+◌, ◌≤◌, ◌<◌, List, [], ◌∷◌, ◌++◌, refl, sym, ap, subst, ◌∙◌, append_assoc, arith}
use Rattle.std.specs.Prelude.{Option, Some, None}
use Rattle.std.proofs.lemmas.List.{append-nil}
use Rattle.desk_text.specs.Fields.{◌>>=◌}
use Rattle.desk_journal.specs.Reading.{Reads, many, behind_front, Gives}

regroup : {X : Type 0} (front : List X) (x : X) (read : Option (List X × List ℕ)) → behind_front front (read >>= λ xs. Some (x ∷ xs.0, xs.1)) ≡ behind_front (front ++ x ∷ []) read
regroup {X} front x (Some xs) = let f : List X → Option (List X × List ℕ) = λ l. Some (l, xs.1) in ap f (sym (append_assoc front (x ∷ []) xs.0))
regroup front x None = refl

pub begins : {X : Type 0} (read : Option (List X × List ℕ)) → behind_front [] read ≡ read
begins (Some xs) = refl
begins None = refl

pub goes_on : {X : Type 0} (r : Reads X) (front : List X) (count i : ℕ) (bytes : List ℕ) (x : X) (after : List ℕ) (total : Option (List X × List ℕ)) → i < count → r bytes ≡ Some (x, after)
    → behind_front front (many r (count - i) bytes) ≡ total → behind_front (front ++ x ∷ []) (many r (count - (i + 1)) after) ≡ total
unfolding many
goes_on r front count i bytes x after total lt h so_far =
    let k : count - i ≡ suc (count - (i + 1)) = omega arith in
    let one : behind_front front (many r (count - i) bytes) ≡ behind_front (front ++ x ∷ []) (many r (count - (i + 1)) after) = rw (k, h) (regroup front x (many r (count - (i + 1)) after)) in
    sym one ∙ so_far

pub ends : {X : Type 0} (r : Reads X) (front : List X) (count i : ℕ) (bytes : List ℕ) (total : Option (List X × List ℕ)) → i < count → r bytes ≡ None → behind_front front (many r (count - i) bytes) ≡ total → total ≡ None
unfolding many
ends r front count i bytes total lt h so_far =
    let k : count - i ≡ suc (count - (i + 1)) = omega arith in
    let one : behind_front front (many r (count - i) bytes) ≡ None = rw (k, h) refl in
    sym so_far ∙ one

pub is_done : {X : Type 0} (r : Reads X) (front : List X) (count i : ℕ) (bytes : List ℕ) (total : Option (List X × List ℕ)) → count ≤ i → behind_front front (many r (count - i) bytes) ≡ total → total ≡ Some (front, bytes)
unfolding many
is_done {X} r front count i bytes total le so_far =
    let k : count - i ≡ 0 = omega arith in
    let f : List X → Option (List X × List ℕ) = λ l. Some (l, bytes) in
    let one : behind_front front (many r (count - i) bytes) ≡ Some (front, bytes) = rw k (ap f (append-nil front)) in
    sym so_far ∙ one

-- what was given is what is read
pub gives_none : {X Y : Type 0} (view : X → Y) (o : Option X) (read : Option Y) → o ≡ None → Gives view o read → read ≡ None
gives_none view o read is given = subst (λ (p : Option _). Gives view p read) is given

pub gives_some : {X Y : Type 0} (view : X → Y) (o : Option X) (x : X) (read : Option Y) → o ≡ Some x → Gives view o read → read ≡ Some (view x)
gives_some view o x read is given = subst (λ (p : Option _). Gives view p read) is given
