-- Which ends of a run are explained.
use Rattle.std.specs.Prelude.{◌≡◌, ℕ, ◌<◌, ◌⊎◌}

-- a run that did what was asked, or that ran out of memory; and what no ending has
abbrev pub IsSilent : ℕ → Type 0
IsSilent status = (status ≡ 0) ⊎ ((status ≡ 6) ⊎ (8 < status))
