-- A text that is put piece by piece.
use Rattle.std.proofs.Common.{◌≡◌, ℕ, ◌+◌, ◌≤◌, min, List, length, take, drop, sym, ap, subst, ◌∙◌, arith, Result, Err}
use Rattle.std.proofs.Math.Seq.{take-add}
use Rattle.std.proofs.lemmas.List.{take-take, take_min, length-take}
use Rattle.std.specs.declared.option.Option.{Option}
use Rattle.std.specs.Io.KnownBytes.{Appends}
use Rattle.std.proofs.KnownBytes.{Appends-trans, Appends-kept}
use Rattle.desk_folder.specs.declared.faults.FolderFault.{FolderFault}
use Rattle.desk_folder.specs.declared.faults.FolderFault.TheVariants.{Failed, Memory}
use Rattle.desk_folder.specs.Calls.{PutAppends, AppendsPrefix, Counts}

-- the first bytes of a text, and then first bytes of a piece of its rest, are first bytes of the text
pub Appends-more : (a b c : Option (List ℕ)) (text piece : List ℕ) (at size n : ℕ) → piece ≡ take size (drop at text) → n ≤ length piece
    → Appends a b (take at text) → Appends b c (take n piece) → Appends a c (take (at + n) text)
Appends-more a b c text piece at size n is within first second =
    let fits : n ≤ size = omega (arith, ap length is, length-take size (drop at text)) in
    let part : take n piece ≡ take n (drop at text) = ap (take n) is ∙ take-take n size (drop at text) fits in
    subst (Appends a c) (sym (take-add at n text)) (Appends-trans a b c _ _ first (subst (Appends b c) part second))

-- after a call that failed, a prefix of the text is put
pub AppendsPrefix-more : (a b c : Option (List ℕ)) (text piece : List ℕ) (at size : ℕ) (fault : FolderFault)
    → piece ≡ take size (drop at text) → Appends a b (take at text) → PutAppends b c piece (Err fault) → AppendsPrefix a c text
AppendsPrefix-more a b c text piece at size Failed is first second =
    let n = min second.0 (length piece) in
    let some : n ≤ length piece = omega arith in
    (at + n, Appends-more a b c text piece at size n is some first (subst (Appends b c) (sym (take_min second.0 piece)) second.1))
AppendsPrefix-more a b c text piece at size Memory is first second = (at, Appends-kept a b c (take at text) first second)

-- a count that rose at last rose over all
pub Counts-more : {T U : Type 0} (j k l : ℕ) (fault : FolderFault) → j ≤ k → Counts {T = T} k l (Err fault) → Counts {T = U} j l (Err fault)
Counts-more {T} j k l fault before call =
    let was : Result T FolderFault = Err fault in
    let failed : Result T FolderFault = Err Failed in
    record {
      kept = omega (arith, call.kept);
      rose = λ e. let is : was ≡ failed = cc in omega (arith, call.rose is);
    }
