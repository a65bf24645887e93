-- Files that calls leave, whatever moment a crash comes at.
use Rattle.std.specs.Prelude.{◌≡◌, ℕ, ◌+◌, ◌^◌, ◌<◌, ◌⊎◌, List, [], ◌∷◌, ◌++◌, length, slice_index, Option, Some, None, IfSome}
use Rattle.desk_disk.specs.FileStates.{FileState, DiskSide, HasNothingPending, put_at}
use Rattle.desk_disk.specs.Crashes.{IsTorn, ReadsTo}
use Rattle.desk_disk.specs.declared.record_faults.OpenFault.{OpenFault}
use Rattle.desk_disk.specs.declared.record_faults.OpenFault.TheVariants as fault
use Rattle.desk_disk.specs.Records.{framed, record_of, records, AreShort, HasNoRecords, Opens, IsDamagedAt}

-- records of these payloads, and a byte 0 behind them
pub record HasEndMark (payloads : List (List ℕ)) (c : List ℕ) : Type 0 where
  pub rest : List ℕ
  pub bytes : c ≡ records payloads ++ (0 ∷ rest)
  pub short : AreShort payloads

-- records of these payloads, any byte, and behind it one payload more with its length, and a byte 0
pub record IsStaged (payloads : List (List ℕ)) (payload c : List ℕ) : Type 0 where
  pub mark : ℕ
  pub rest : List ℕ
  pub bytes : c ≡ records payloads ++ (mark ∷ (framed payload ++ (0 ∷ rest)))
  pub short : AreShort payloads
  pub next_short : length payload < 2 ^ 32

-- a whole file: it has at most one byte, or a byte 0 behind its records; or any byte, and behind it the next payload. That one
-- counts as the last, not acknowledged
abbrev pub IsWhole : List (List ℕ) → Option (List ℕ) → List ℕ → Type 0
IsWhole payloads None c = HasEndMark payloads c ⊎ HasNoRecords payloads c
IsWhole payloads (Some payload) c = IsStaged payloads payload c

-- a whole file with these payloads, and the next one or none behind them
abbrev pub IsWithOrWithout : List (List ℕ) → List ℕ → List ℕ → Type 0
IsWithOrWithout payloads payload c = IsWhole payloads None c ⊎ IsWhole payloads (Some payload) c

-- a file opens as these payloads, or with the last that is not acknowledged
pub record OpensAs (payloads : List (List ℕ)) (next : Option (List ℕ)) (c : List ℕ) : Type 0 where
  pub found : List (List ℕ)
  pub place : ℕ
  pub opens : Opens found place c
  pub which : (found ≡ payloads) ⊎ ((payload : List ℕ) × (next ≡ Some payload) × (found ≡ payloads ++ payload ∷ []))

-- between two calls: records of these payloads end at this place with a byte 0, and nothing is pending
pub record IsAtRest (payloads : List (List ℕ)) (place : ℕ) (h : FileState) : Type 0 where
  pub ends : HasEndMark payloads h.bytes
  pub place_is : place ≡ length (records payloads)
  pub nothing_pending : HasNothingPending h

-- where the disk shows it, it is at rest with this end
abbrev pub IsReady : Option DiskSide → ℕ → Type 0
IsReady shown place = IfSome shown (λ was. (payloads : List (List ℕ)) × IsAtRest payloads place was.file)

-- where the disk shows its calls, so many were made
abbrev pub MakesCalls : Option DiskSide → Option DiskSide → ℕ → Type 0
MakesCalls shown shown' n = (was : DiskSide) → shown ≡ Some was → (now : DiskSide) × (shown' ≡ Some now) × (length now.past ≡ length was.past + n)

-- the bytes once a record was added at this place: it and a byte 0 stand over what was there, and all else is as before
abbrev pub added_at : ℕ → List ℕ → List ℕ → List ℕ
added_at place payload c = put_at place (record_of payload ++ (0 ∷ [])) c

-- the bytes once the file was opened: a byte 0 stands at this place, and all else is as before
abbrev pub opened_at : ℕ → List ℕ → List ℕ
opened_at place c = put_at place (0 ∷ []) c

-- no byte 0 stands at this place
abbrev pub LacksEndMark : ℕ → List ℕ → Type 0
LacksEndMark place c = place < length c → slice_index c place ≡ 0 → ⊥

-- while a file is opened: it is as it was, or the byte behind its records, which wasn't 0, is being set
pub record SetsEndMark (before c : List ℕ) : Type 0 where
  pub payloads : List (List ℕ)
  pub place : ℕ
  pub opens : Opens payloads place before
  pub lacks : LacksEndMark place before
  pub torn : IsTorn place 1 before c

abbrev pub IsOpening : List ℕ → List ℕ → Type 0
IsOpening before c = (c ≡ before) ⊎ SetsEndMark before c

-- why a file could not be opened: it is damaged, or an error that says nothing of its bytes
abbrev pub RefusedBy : (List (List ℕ) → List ℕ → Type 0) → List ℕ → OpenFault → Type 0
RefusedBy accepts c (fault.Damaged at) = (payloads : List (List ℕ)) × IsDamagedAt accepts payloads at c
RefusedBy accepts c fault.Disk = Unit {0}
RefusedBy accepts c fault.Memory = Unit {0}

-- what was done to a file that could not be opened: one that is damaged was only read
abbrev pub LeftBy : DiskSide → Option DiskSide → OpenFault → Type 0
LeftBy was shown (fault.Damaged at) = ReadsTo was shown
LeftBy was shown fault.Disk = Unit {0}
LeftBy was shown fault.Memory = Unit {0}
