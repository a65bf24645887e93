-- What the host's disk shows of itself: its count of faults and the directory, and nothing of its file.
use Rattle.std.specs.Prelude.{ℕ, List}

pub record HostDiskSide : Type 0 where
  pub directory : List ℕ
  pub faults : ℕ
