-- What a run that stores a history leaves, whatever moment it is stopped at.
use Rattle.std.specs.Prelude.{◌≡◌, ℕ, ◌≤◌, List, [], ◌∷◌, ◌++◌, length, take, map}
use Rattle.std.specs.declared.alloc.Global.{Global}
use Rattle.std.specs.declared.vec.Vec.{Vec}
use Rattle.desk_disk.specs.FileStates.{FileState, MayLeave}
use Rattle.desk_disk.specs.Records.{Opens}
use Rattle.desk_disk.specs.Files.{IsAtRest, IsOpening, IsWithOrWithout}

-- payloads, wherever they lie in memory
abbrev pub lists_of : List (Vec ℕ Global) → List (List ℕ)
lists_of payloads = map (λ payload. payload.items) payloads

-- a file that opens as the first of these payloads, in their order, and at least n of them
pub record OpensFirst (all : List (List ℕ)) (n : ℕ) (c : List ℕ) : Type 0 where
  pub count : ℕ
  pub least : n ≤ count
  pub most : count ≤ length all
  pub place : ℕ
  pub opens : Opens (take count all) place c

-- a file that only runs of these calls wrote, each of which opens it and adds payloads, those of one list in their order, and each
-- of which may have been stopped at any moment; n of them are acknowledged
pub data RunsLeave (all : List (List ℕ)) : ℕ → List ℕ → Type 0 where
  -- there was no run yet
  no_run : RunsLeave all 0 []
  -- a run was stopped while it opened the file
  in_opening : (n : ℕ) (before c : List ℕ) → RunsLeave all n before → IsOpening before c → RunsLeave all n c
  -- a run had opened the file and added more payloads, and was stopped while it added the next one
  in_adding : (n : ℕ) (before c : List ℕ) (found more : List (List ℕ)) (place : ℕ) (payload : List ℕ) (rest : List (List ℕ)) → RunsLeave all n before → Opens found place before → all ≡ (found ++ more) ++ payload ∷ rest → IsWithOrWithout (found ++ more) payload c → RunsLeave all (length (found ++ more)) c
  -- a run had opened the file and added more payloads, and was stopped between two calls, or ended
  at_rest : (n : ℕ) (before c : List ℕ) (found more rest : List (List ℕ)) (place end : ℕ) (h : FileState) → RunsLeave all n before → Opens found place before → all ≡ (found ++ more) ++ rest → IsAtRest (found ++ more) end h → MayLeave h c → RunsLeave all (length (found ++ more)) c
