-- The join of rows: the first refusal, or else the day and its batches.
use Rattle.std.proofs.Common.{◌≡◌, Some, None, Result, Ok, Err, sym, ap, ◌∙◌}
use Rattle.std.specs.Prelude.{IsErrAnd}
use Rattle.build_tables.specs.declared.files.Files.{Files}
use Rattle.desk_build.specs.declared.joining.Built.{Built}
use Rattle.desk_build.specs.declared.fault.BuildFault.{BuildFault}
use Rattle.desk_build.specs.declared.fault.BuildFault.TheVariants.{Refused, Memory}
use Rattle.build_refusals.specs.Refusals.{Refusal, refusal_of}
use Rattle.desk_build.specs.Join.{made_of, unless_refused, built_of, JoinGives}

pub built_of-refused : (x : Files) (refusal : Refusal) → refusal_of x ≡ Some refusal → built_of x ≡ Err refusal
unfolding built_of
built_of-refused x refusal e = ap (λ r. unless_refused r (made_of x)) e

pub built_of-made : (x : Files) → refusal_of x ≡ None → built_of x ≡ Ok (made_of x)
unfolding built_of
built_of-made x e = ap (λ r. unless_refused r (made_of x)) e

-- what is made of rows of which none is refused
pub built_of-is : (x : Files) (built : Built) → refusal_of x ≡ None → built ≡ made_of x → built_of x ≡ Ok built
built_of-is x built none made = built_of-made x none ∙ ap (λ made. Ok made) (sym made)

-- out of memory says nothing of the rows
pub memory_gives : (result : Result Built BuildFault) (join : Result Built Refusal) → IsErrAnd result (λ e. e ≡ Memory) → JoinGives result join
memory_gives (Ok built) join e = absurd e
memory_gives (Err (Refused f line cause)) join e = absurd cc
memory_gives (Err Memory) join e = tt
