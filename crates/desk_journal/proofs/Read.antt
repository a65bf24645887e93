-- What was read of a payload.
use Rattle.std.proofs.Common.{◌≡◌, List, ℕ, sym, ◌∙◌, ap}
use Rattle.std.specs.Prelude.{Option, Some, None, IfSome, IfNone}
use Rattle.desk_journal.specs.declared.payload.StoredEvent.{StoredEvent}
use Rattle.desk_journal.specs.Spelling.{HasSpelling, payload}
use Rattle.desk_journal.specs.Reading.{Gives, spelled_by}
use Rattle.desk_journal.proofs.Readers.{AreBytes}
use Rattle.desk_journal.proofs.Moves.{spelled_again, spelled_takes}

pub is_found : (bytes : List ℕ) (o : Option StoredEvent) → AreBytes bytes → Gives (λ stored. stored) o (spelled_by bytes) → IfSome o (λ stored. (bytes ≡ payload (stored)) × HasSpelling (stored))
is_found bytes (Some stored) fits given = spelled_takes bytes (stored) fits given
is_found bytes None fits given = tt

pub is_none : (bytes : List ℕ) (o : Option StoredEvent) → Gives (λ stored. stored) o (spelled_by bytes) → IfNone o ((s : StoredEvent) → HasSpelling s → bytes ≡ payload s → ⊥)
is_none bytes (Some stored) given = tt
is_none bytes None given = λ s fits is.
    let both : None ≡ Some s = sym given ∙ ap spelled_by is ∙ spelled_again s fits in
    absurd cc
