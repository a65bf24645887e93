-- The records that a reader has left.
use Rattle.std.specs.Prelude.{◌≡◌, ℕ, ◌+◌, Bool, true, false, List, [], ◌∷◌, length, Option, Some, None, IsSome}
use Rattle.std.proofs.Common.{Bor}
use Rattle.csv.specs.Machine.{ends_at_end}
use Rattle.csv.specs.Reading.{Ready, default_config, records_from, reader_config, reader_state, reader_trim, is_flexible, source_of}
use Rattle.csv.specs.declared.parser.State.{State}
use Rattle.csv.specs.declared.reader.Reader.{Reader}
use Rattle.csv.specs.declared.reader.Trim.TheVariants as trim

-- the bytes that a reader of bytes in memory has left
abbrev pub bytes_left : Reader (Bor (List ℕ)) → Option (List ℕ)
bytes_left reader = source_of (λ bytes. Some bytes.now) reader

-- the records of the bytes that are left, in a state
abbrev pub records_in : State → Option (List ℕ) → List (List (List ℕ))
records_in state (Some bytes) = records_from default_config (length bytes + 1) state bytes
records_in state None = []

-- the records that a reader has left
unfoldable pub records_left : Reader (Bor (List ℕ)) → List (List (List ℕ))
records_left reader = records_in (reader_state reader) (bytes_left reader)

-- a reader of records of any length, by the default settings, that stands between two records
pub record IsReading (reader : Reader (Bor (List ℕ))) : Type 0 where
  pub config : reader_config reader ≡ default_config
  pub trim : reader_trim reader ≡ trim.None
  pub flexible : is_flexible reader ≡ true
  pub ready : Ready reader
  pub between : ends_at_end (reader_state reader) ≡ false
  pub known : IsSome (bytes_left reader)

-- a record was found, or there are no more
abbrev pub NextRecord : Bool → List (List (List ℕ)) → List (List ℕ) → List (List (List ℕ)) → Type 0
NextRecord true before fields after = before ≡ fields ∷ after
NextRecord false before fields after = before ≡ []
