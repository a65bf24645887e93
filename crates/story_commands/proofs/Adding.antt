-- Records that are added behind others, at each moment.
use Rattle.std.proofs.Common.{◌≡◌, inl, inr, ℕ, ◌≤◌, List, [], ◌∷◌, ◌++◌, length, refl, sym, ap, subst, ◌∙◌, arith, append_assoc}
use Rattle.std.specs.Prelude.{Option, Some, None}
use Rattle.std.proofs.lemmas.List.{append-nil}
use Rattle.desk_disk.specs.FileStates.{FileState, DiskSide, MayLeave}
use Rattle.desk_disk.specs.Crashes.{RunsTo}
use Rattle.desk_disk.proofs.Torn.{nothing_pending_is}
use Rattle.desk_disk.proofs.Runs.{starts, runs_weaker}
use Rattle.desk_disk.specs.Files.{HasEndMark, IsAtRest, IsWithOrWithout}
use Rattle.story_commands.specs.Left.{before_others, HoldsBeginning}

-- a file at rest has its records, whatever crash comes
pub rests_first : (ps : List (List ℕ)) (place : ℕ) (h : FileState) (c : List ℕ) → IsAtRest ps place h → MayLeave h c → HoldsBeginning ps (length ps) c
rests_first ps place h c rest left = record {
  front = ps;
  next = None;
  rest = [];
  is = sym (append-nil ps);
  least = omega arith;
  whole = inl (subst (HasEndMark ps) (sym (nothing_pending_is h c rest.nothing_pending left)) rest.ends);
}

-- what stands as the first of payloads stands as the first of more
others_more : (next : Option (List ℕ)) (rest qs : List (List ℕ)) → before_others next rest ++ qs ≡ before_others next (rest ++ qs)
others_more None rest qs = refl
others_more (Some p) rest qs = refl

pub first_more : (ps qs : List (List ℕ)) (m n : ℕ) (c : List ℕ) → m ≤ n → HoldsBeginning ps n c → HoldsBeginning (ps ++ qs) m c
first_more ps qs m n c le o = record {
  front = o.front;
  next = o.next;
  rest = o.rest ++ qs;
  is = ap (λ (l : List (List ℕ)). l ++ qs) o.is ∙ append_assoc o.front (before_others o.next o.rest) qs ∙ ap (λ (l : List (List ℕ)). o.front ++ l) (others_more o.next o.rest qs);
  least = omega (arith, le, o.least);
  whole = o.whole;
}

pub first_of : (ps qs all : List (List ℕ)) (m n : ℕ) (c : List ℕ) → ps ++ qs ≡ all → m ≤ n → HoldsBeginning ps n c → HoldsBeginning all m c
first_of ps qs all m n c is le o = subst (λ (rs : List (List ℕ)). HoldsBeginning rs m c) is (first_more ps qs m n c le o)

-- nothing was added yet of what will be
pub adds_none : (ps qs : List (List ℕ)) (place : ℕ) (was : DiskSide) (shown : Option DiskSide) → shown ≡ Some was → IsAtRest ps place was.file → RunsTo was shown (HoldsBeginning (ps ++ qs) (length ps))
adds_none ps qs place was shown is rest = record {
  now = was;
  shows = is;
  leaves = starts was (HoldsBeginning (ps ++ qs) (length ps)) (λ c left. first_more ps qs (length ps) (length ps) c (omega arith) (rests_first ps place was.file c rest left));
}

-- a file with one record more, or without it
one_first : (ps : List (List ℕ)) (p c : List ℕ) → IsWithOrWithout ps p c → HoldsBeginning (ps ++ p ∷ []) (length ps) c
one_first ps p c (inl whole) = record { front = ps; next = None; rest = p ∷ []; is = refl; least = omega arith; whole = whole }
one_first ps p c (inr whole) = record { front = ps; next = Some p; rest = []; is = refl; least = omega arith; whole = whole }

-- one is added
pub adds_one : (ps : List (List ℕ)) (p : List ℕ) (was : DiskSide) (shown : Option DiskSide) → RunsTo was shown (IsWithOrWithout ps p) → RunsTo was shown (HoldsBeginning (ps ++ p ∷ []) (length ps))
adds_one ps p was shown run = runs_weaker was shown (IsWithOrWithout ps p) (HoldsBeginning (ps ++ p ∷ []) (length ps)) (λ c h. one_first ps p c h) run
