-- The rows of tariff.csv: a kind, and the fields that it names; those after them are passed over.
use Rattle.std.specs.Prelude.{ℕ, List, [], ◌∷◌, Option, Some, None, Result, Ok, Err, bytes_eq, codes, nat_lt, if◌then◌else◌}
use Rattle.desk_units.specs.declared.numbers.Cabin.{Cabin}
use Rattle.desk_units.specs.declared.numbers.Haul.{Haul}
use Rattle.desk_units.specs.declared.money.Price.{Price}
use Rattle.desk_units.specs.declared.tariff.Term.{Term}
use Rattle.desk_units.specs.declared.tariff.Term.TheVariants as terms
use Rattle.desk_units.specs.declared.tariff.TariffRow.{TariffRow}
use Rattle.desk_units.specs.declared.tariff.TariffRow.TheVariants.{Surface, Weight, Delay, Cancel, Downgrade, Care, Compensation, Position}
use Rattle.desk_units.specs.Ranks.{cabin_rank}
use Rattle.file_rows.specs.declared.cause.Cause.{Cause}
use Rattle.file_rows.specs.declared.cause.Cause.TheVariants.{Word, Fields}
use Rattle.desk_text.specs.Fields.{name_of, number_of, price_of, weight_of, haul_of, cabin_of}
use Rattle.desk_text.specs.Rows.{◌>>=◌, RowOf}
use Rattle.comma_rows.specs.Records.{printed}
use Rattle.file_readers.specs.declared.kinds.TariffKind.{TariffKind}
use Rattle.file_readers.specs.declared.kinds.TariffKind.TheVariants as kinds

-- the kind of a row, by its first word
abbrev pub kind_of : List ℕ → Result TariffKind Cause
kind_of word =
    if bytes_eq word (codes "surface") then Ok kinds.Surface else (
    if bytes_eq word (codes "weight") then Ok kinds.Weight else (
    if bytes_eq word (codes "delay") then Ok kinds.Delay else (
    if bytes_eq word (codes "cancel") then Ok kinds.Cancel else (
    if bytes_eq word (codes "downgrade") then Ok kinds.Downgrade else (
    if bytes_eq word (codes "care") then Ok kinds.Care else (
    if bytes_eq word (codes "compensation") then Ok kinds.Compensation else (
    if bytes_eq word (codes "position") then Ok kinds.Position else Err Word)))))))

-- a cost term, by its word
abbrev pub term_of : List ℕ → Result Term Cause
term_of field =
    if bytes_eq field (codes "operating") then Ok terms.Operating else (
    if bytes_eq field (codes "delay") then Ok terms.Delay else (
    if bytes_eq field (codes "cancellation") then Ok terms.Cancellation else (
    if bytes_eq field (codes "downgrade") then Ok terms.Downgrade else (
    if bytes_eq field (codes "legal") then Ok terms.Legal else (
    if bytes_eq field (codes "position") then Ok terms.Position else Err Word)))))

-- a threshold: a number of minutes, or the word `none`
abbrev pub threshold_of : List ℕ → Result (Option ℕ) Cause
threshold_of field = if bytes_eq field (codes "none") then Ok None else (number_of 1 10000 field >>= λ minutes. Ok (Some minutes))

-- a cabin below another
abbrev pub below_of : Cabin → List ℕ → Result Cabin Cause
below_of reference field = cabin_of field >>= λ below. if nat_lt (cabin_rank reference) (cabin_rank below) then Ok below else Err Word

-- HAUL CABIN PRICE
unfoldable pub cabin_price : List (List ℕ) → Result (Haul × Cabin × Price) Cause
cabin_price (first ∷ second ∷ third ∷ others) = do
  haul ← haul_of first
  cabin ← cabin_of second
  price ← price_of third
  Ok (haul, cabin, price)
cabin_price fields = Err Fields

-- HAUL THRESHOLD PRICE
unfoldable pub threshold_price : List (List ℕ) → Result (Haul × Option ℕ × Price) Cause
threshold_price (first ∷ second ∷ third ∷ others) = do
  haul ← haul_of first
  threshold ← threshold_of second
  price ← price_of third
  Ok (haul, threshold, price)
threshold_price fields = Err Fields

-- FAMILY
unfoldable pub surface_row : List (List ℕ) → Result TariffRow Cause
surface_row (first ∷ others) = do
  family ← name_of first
  Ok (Surface family)
surface_row [] = Err Fields

-- TERM WEIGHT
unfoldable pub weight_row : List (List ℕ) → Result TariffRow Cause
weight_row (first ∷ second ∷ others) = do
  term ← term_of first
  weight ← weight_of second
  Ok (Weight term weight)
weight_row fields = Err Fields

-- HAUL CABIN CABIN PRICE, the second cabin below the first
unfoldable pub downgrade_row : List (List ℕ) → Result TariffRow Cause
downgrade_row (first ∷ second ∷ third ∷ fourth ∷ others) = do
  haul ← haul_of first
  reference ← cabin_of second
  below ← below_of reference third
  price ← price_of fourth
  Ok (Downgrade haul reference below price)
downgrade_row fields = Err Fields

-- PRICE
unfoldable pub position_row : List (List ℕ) → Result TariffRow Cause
position_row (first ∷ others) = do
  price ← price_of first
  Ok (Position price)
position_row [] = Err Fields

-- the row of a kind
abbrev pub row_of : TariffKind → List (List ℕ) → Result TariffRow Cause
row_of kinds.Surface fields = surface_row fields
row_of kinds.Weight fields = weight_row fields
row_of kinds.Delay fields = cabin_price fields >>= λ parts. Ok (Delay parts.0 parts.1 parts.2)
row_of kinds.Cancel fields = cabin_price fields >>= λ parts. Ok (Cancel parts.0 parts.1 parts.2)
row_of kinds.Downgrade fields = downgrade_row fields
row_of kinds.Care fields = threshold_price fields >>= λ parts. Ok (Care parts.0 parts.1 parts.2)
row_of kinds.Compensation fields = threshold_price fields >>= λ parts. Ok (Compensation parts.0 parts.1 parts.2)
row_of kinds.Position fields = position_row fields

-- the row of a record, by its first field
unfoldable pub tariff_row : List (List ℕ) → Result TariffRow Cause
tariff_row (word ∷ fields) = do
  kind ← kind_of word
  row_of kind fields
tariff_row [] = Err Fields

-- the row of a record, whose bytes are tried first; it does not depend on the record's number
abbrev pub record_row : RowOf TariffRow
record_row = printed (λ line. tariff_row)
