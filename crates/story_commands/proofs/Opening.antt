-- A file that is only read, and one that is opened.
use Rattle.std.proofs.Common.{◌≡◌, inl, ℕ, List, subst}
use Rattle.std.specs.Prelude.{Option, Some, IfSome}
use Rattle.desk_disk.specs.FileStates.{DiskSide, HasNothingPending, MayLeave}
use Rattle.desk_disk.specs.Crashes.{ReadsTo}
use Rattle.desk_disk.proofs.Torn.{nothing_pending_is}
use Rattle.desk_disk.proofs.Runs.{weaker}
use Rattle.desk_disk.specs.Files.{IsOpening}
use Rattle.story_commands.specs.Journal.{IsOnlyRead, OnlyOpens}

-- what is only read is no more than opened
pub read_opens : (was now : DiskSide) → IsOnlyRead was now → OnlyOpens was now
read_opens was now h = weaker was now (λ (c : List ℕ). c ≡ was.file.bytes) (IsOpening was.file.bytes) (λ c same. inl same) h.leaves

-- where nothing was pending each crash leaves its bytes
pub only_read : (was : DiskSide) (shown : Option DiskSide) → HasNothingPending was.file → (r : ReadsTo was shown) → IsOnlyRead was r.now
only_read was shown nothing r = record {
  same = r.same;
  leaves = weaker was r.now (MayLeave was.file) (λ (c : List ℕ). c ≡ was.file.bytes) (λ c left. nothing_pending_is was.file c nothing left) r.leaves;
}

pub nothing_in : (shown : Option DiskSide) (was : DiskSide) → IfSome shown (λ d. HasNothingPending d.file) → shown ≡ Some was → HasNothingPending was.file
nothing_in shown was h is = subst (λ (o : Option DiskSide). IfSome o (λ d. HasNothingPending d.file)) is h
