-- What runs leave that were stopped.
use Rattle.std.proofs.Common.{◌≡◌, ◌⊎◌, inl, inr, ℕ, ◌+◌, ◌≤◌, List, [], ◌∷◌, ◌++◌, length, take, drop, refl, sym, ◌∙◌, ap, subst, arith, append_assoc}
use Rattle.std.specs.Prelude.{Option, Some, None}
use Rattle.std.proofs.lemmas.List.{length-append, length-take-le, take-append-drop, take_at}
use Rattle.desk_disk.proofs.Torn.{nothing_pending_is}
use Rattle.desk_disk.specs.Records.{AreAccepted, IsDamagedAt, Opens}
use Rattle.desk_disk.specs.Files.{HasEndMark, IsWhole, OpensAs}
use Rattle.desk_disk.specs.Stored.{OpensFirst, RunsLeave, no_run, in_opening, in_adding, at_rest}
use Rattle.desk_disk.proofs.Unique.{whole_opens, opened_undamaged}
use Rattle.desk_disk.proofs.Opened.{still_whole}
use Rattle.desk_disk.proofs.Storing.{accepted_front}

abbrev one_or_none : Option (List ℕ) → List (List ℕ)
one_or_none None = []
one_or_none (Some p) = p ∷ []

-- the file is whole with the first payloads of the list, and where one more stands behind them it is the next
record Kept (all : List (List ℕ)) (n : ℕ) (c : List ℕ) : Type 0 where
  count : ℕ
  next : Option (List ℕ)
  rest : List (List ℕ)
  whole : IsWhole (take count all) next c
  least : n ≤ count
  most : count ≤ length all
  parts : all ≡ take count all ++ (one_or_none next ++ rest)

keeps : (all front rest : List (List ℕ)) (next : Option (List ℕ)) (c : List ℕ) → all ≡ front ++ (one_or_none next ++ rest) → IsWhole front next c → Kept all (length front) c
keeps all front rest next c is whole =
    let front_is : take (length front) all ≡ front = ap (λ (l : List (List ℕ)). take (length front) l) is ∙ take_at front (one_or_none next ++ rest) (length front) refl in
    record {
      count = length front;
      next = next;
      rest = rest;
      whole = subst (λ (ps : List (List ℕ)). IsWhole ps next c) (sym front_is) whole;
      least = omega arith;
      most = omega (arith, ap length is, length-append front (one_or_none next ++ rest));
      parts = is ∙ ap (λ (l : List (List ℕ)). l ++ (one_or_none next ++ rest)) (sym front_is);
    }

kept : (all : List (List ℕ)) {n : ℕ} {c : List ℕ} → RunsLeave all n c → Kept all n c
kept all no_run = keeps all [] all None [] refl (inr (record { none = refl; few = omega arith }))
kept all (in_opening n before c run step) =
    let k = kept all run in
    record { count = k.count; next = k.next; rest = k.rest; whole = still_whole (take k.count all) k.next before c k.whole step; least = k.least; most = k.most; parts = k.parts }
kept all (in_adding n before c found more place payload rest run opens is (inl whole)) = keeps all (found ++ more) (payload ∷ rest) None c is whole
kept all (in_adding n before c found more place payload rest run opens is (inr whole)) = keeps all (found ++ more) rest (Some payload) c is whole
kept all (at_rest n before c found more rest place end h run opens is at left) =
    keeps all (found ++ more) rest None c is (inl (subst (HasEndMark (found ++ more)) (sym (nothing_pending_is h c at.nothing_pending left)) at.ends))

opens_first : (all : List (List ℕ)) (n : ℕ) (c : List ℕ) (k : Kept all n c) (a : OpensAs (take k.count all) k.next c) → (a.found ≡ take k.count all) ⊎ ((payload : List ℕ) × (k.next ≡ Some payload) × (a.found ≡ take k.count all ++ payload ∷ [])) → OpensFirst all n c
opens_first all n c k a (inl is) = record { count = k.count; least = k.least; most = k.most; place = a.place; opens = subst (λ (ps : List (List ℕ)). Opens ps a.place c) is a.opens }
opens_first all n c k a (inr more) =
    let p = more.0 in
    let front = take k.count all in
    let size : length (front ++ p ∷ []) ≡ k.count + 1 = omega (arith, length-append front (p ∷ []), length-take-le k.count all k.most) in
    let parts : all ≡ (front ++ p ∷ []) ++ k.rest = k.parts ∙ ap (λ (o : Option (List ℕ)). front ++ (one_or_none o ++ k.rest)) more.1 ∙ sym (append_assoc front (p ∷ []) k.rest) in
    let one_more : take (k.count + 1) all ≡ front ++ p ∷ [] = ap (λ (l : List (List ℕ)). take (k.count + 1) l) parts ∙ take_at (front ++ p ∷ []) k.rest (k.count + 1) size in
    record {
      count = k.count + 1;
      least = omega (arith, k.least);
      most = omega (arith, size, ap length parts, length-append (front ++ p ∷ []) k.rest);
      place = a.place;
      opens = subst (λ (ps : List (List ℕ)). Opens ps a.place c) (more.2 ∙ sym one_more) a.opens;
    }

pub leave_first : (all : List (List ℕ)) (n : ℕ) (c : List ℕ) → RunsLeave all n c → OpensFirst all n c
leave_first all n c run =
    let k = kept all run in
    let a = whole_opens (take k.count all) k.next c k.whole in
    opens_first all n c k a a.which

pub leave_undamaged : (accepts : List (List ℕ) → List ℕ → Type 0) (all qs : List (List ℕ)) (n l : ℕ) (c : List ℕ) → AreAccepted accepts [] all → RunsLeave all n c → IsDamagedAt accepts qs l c → ⊥
leave_undamaged accepts all qs n l c fine run damage =
    let o = leave_first all n c run in
    let parts = subst (AreAccepted accepts []) (sym (take-append-drop o.count all)) fine in
    opened_undamaged accepts (take o.count all) qs o.place l c o.opens (accepted_front accepts [] (take o.count all) (drop o.count all) parts) damage
