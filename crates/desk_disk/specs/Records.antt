-- A file as a list of records.
use Rattle.std.specs.Prelude.{◌≡◌, ◌≢◌, ℕ, ◌^◌, ◌<◌, ◌≤◌, ◌⊎◌, List, [], ◌∷◌, ◌++◌, length}
use Rattle.std.specs.List.{flat_map, AllByRecursion}
use Rattle.std.specs.Int.{w32, to_be_bytes}

-- the length of a payload in four bytes, the greatest first, and the payload
abbrev pub framed : List ℕ → List ℕ
framed payload = to_be_bytes w32 (length payload) ++ payload

-- a record: a byte 1 before it
abbrev pub record_of : List ℕ → List ℕ
record_of payload = 1 ∷ framed payload

-- records of these payloads, one behind another
abbrev pub records : List (List ℕ) → List ℕ
records payloads = flat_map record_of payloads

-- the length of each fits in four bytes
abbrev pub AreShort : List (List ℕ) → Type 0
AreShort payloads = AllByRecursion (λ payload. length payload < 2 ^ 32) payloads

-- records of these payloads, and behind them, at this place, a byte that isn't 1
pub record EndsAt (payloads : List (List ℕ)) (place : ℕ) (c : List ℕ) : Type 0 where
  pub mark : ℕ
  pub rest : List ℕ
  pub bytes : c ≡ records payloads ++ (mark ∷ rest)
  pub ended : mark ≢ 1
  pub place_is : place ≡ length (records payloads)
  pub short : AreShort payloads

-- a file of at most one byte has no record, whatever that byte is
pub record HasNoRecords (payloads : List (List ℕ)) (c : List ℕ) : Type 0 where
  pub none : payloads ≡ []
  pub few : length c ≤ 1

-- a file that opens as these payloads, whose records end at this place
abbrev pub Opens : List (List ℕ) → ℕ → List ℕ → Type 0
Opens payloads place c = EndsAt payloads place c ⊎ (HasNoRecords payloads c × (place ≡ 0))

-- each payload may stand behind those before it
abbrev pub AreAccepted : (List (List ℕ) → List ℕ → Type 0) → List (List ℕ) → List (List ℕ) → Type 0
AreAccepted accepts before [] = Unit {0}
AreAccepted accepts before (payload ∷ payloads) = accepts before payload × AreAccepted accepts (before ++ payload ∷ []) payloads

-- a file of two bytes or more that has records of these payloads, and at this place a byte 1, behind which there stands no payload
-- with its length that may stand there and ends before the file does
pub record IsDamagedAt (accepts : List (List ℕ) → List ℕ → Type 0) (payloads : List (List ℕ)) (place : ℕ) (c : List ℕ) : Type 0 where
  pub rest : List ℕ
  pub bytes : c ≡ records payloads ++ (1 ∷ rest)
  pub long : 2 ≤ length c
  pub place_is : place ≡ length (records payloads)
  pub short : AreShort payloads
  pub accepted : AreAccepted accepts [] payloads
  pub none : (payload more : List ℕ) → rest ≡ framed payload ++ more → length payload < 2 ^ 32 → 0 < length more → accepts payloads payload → ⊥
