-- What was read of a file, put into the rows.
use Rattle.std.proofs.Common.{◌≡◌, ℕ, List, ap, sym, subst, ◌∙◌}
use Rattle.std.specs.Prelude.{Result, Ok, Err, Option, IfOk, OnOk}
use Rattle.std.specs.declared.alloc.Global.{Global}
use Rattle.std.specs.declared.vec.Vec.{Vec}
use Rattle.file_rows.specs.declared.cause.Cause.{Cause}
use Rattle.desk_text.specs.declared.fault.ReadFault.{ReadFault}
use Rattle.desk_text.specs.declared.fault.ReadFault.TheVariants as read
use Rattle.desk_text.specs.Rows.{◌>>=◌, Gives}
use Rattle.file_readers.specs.Grammar.{Tries}
use Rattle.desk_tasks.specs.Story.{Rows, unless_refused}
use Rattle.desk_tasks.specs.Faults.{GivesRows, IsPut}

-- where it is put, the rows are those with it
pub put_gives : {V X : Type 0} (view : V → X) (set : X → Rows) (result : Result (Unit {0}) ReadFault) (given : Result V ReadFault) (now : X) (reads : List ℕ → Result X (ℕ × Cause)) (bytes kept : List ℕ) → bytes ≡ kept → IsPut view result given now → Gives view given (reads bytes) → GivesRows result (reads kept >>= (λ x. Ok (set x))) (set now)
put_gives view set (Ok done) (Ok v) now reads bytes kept same is gives = ap (λ r. r >>= (λ x. Ok (set x))) (ap reads (sym same) ∙ gives) ∙ ap (λ x. Ok (set x)) (sym is)
put_gives view set (Ok done) (Err why) now reads bytes kept same is gives = absurd is
put_gives view set (Err fault) (Ok v) now reads bytes kept same is gives = absurd is
put_gives view set (Err (read.Refused line cause)) (Err why) now reads bytes kept same is gives = ap (λ r. r >>= (λ x. Ok (set x))) (ap reads (sym same) ∙ subst (λ f. Gives view (Err f) (reads bytes)) (sym is) gives)
put_gives view set (Err read.Memory) (Err why) now reads bytes kept same is gives = tt

-- the same of rows in a vector
pub rows_give : {T : Type 0} (set : List T → Rows) (result : Result (Unit {0}) ReadFault) (given : Result (Vec T Global) ReadFault) (now : List T) (reads : List ℕ → Result (List T) (ℕ × Cause)) (bytes kept : List ℕ) → bytes ≡ kept → IsPut (λ rows. rows.items) result given now → Gives (λ rows. rows.items) given (reads bytes) → GivesRows result (reads kept >>= (λ x. Ok (set x))) (set now)
rows_give {T} set result given now reads bytes kept same is gives = put_gives (λ (rows : Vec T Global). rows.items) set result given now reads bytes kept same is gives

-- what is put is put as what it is seen as
pub put_seen : {V X : Type 0} (view : V → X) (result : Result (Unit {0}) ReadFault) (given : Result V ReadFault) (now : V) → IsPut (λ v. v) result given now → IsPut view result given (view now)
put_seen view (Ok done) (Ok v) now is = ap view is
put_seen view (Ok done) (Err why) now is = absurd is
put_seen view (Err fault) (Ok v) now is = absurd is
put_seen view (Err fault) (Err why) now is = is

-- where the bytes of a file that was tried are kept, the rows are those with them
pub kept_give : (set : List ℕ → Rows) (result tried : Result (Unit {0}) ReadFault) (now : List ℕ) (refusal : List ℕ → Option (ℕ × Cause)) (bytes kept : List ℕ) → bytes ≡ kept → result ≡ tried → OnOk result (now ≡ kept) → Tries tried (refusal bytes) → GivesRows result (unless_refused (refusal kept) >>= (λ _. Ok (set kept))) (set now)
kept_give set (Ok done) tried now refusal bytes kept same is put tries = ap (λ r. unless_refused r >>= (λ _. Ok (set kept))) (ap refusal (sym same) ∙ subst (λ r. Tries r (refusal bytes)) (sym is) tries) ∙ ap (λ x. Ok (set x)) (sym put)
kept_give set (Err (read.Refused line cause)) tried now refusal bytes kept same is put tries = ap (λ r. unless_refused r >>= (λ _. Ok (set kept))) (ap refusal (sym same) ∙ subst (λ r. Tries r (refusal bytes)) (sym is) tries)
kept_give set (Err read.Memory) tried now refusal bytes kept same is put tries = tt

-- what the reader says holds of what was put
pub rows_hold : {T : Type 0} (P : List T → Type 0) (Q : Type 0) (result : Result (Unit {0}) ReadFault) (given : Result (Vec T Global) ReadFault) (now : List T) → IsPut (λ rows. rows.items) result given now → IfOk given (λ rows. P rows.items) → (P now → Q) → OnOk result Q
rows_hold P Q (Ok done) (Ok rows) now is holds so = so (subst P (sym is) holds)
rows_hold P Q (Ok done) (Err why) now is holds so = absurd is
rows_hold P Q (Err fault) given now is holds so = tt
