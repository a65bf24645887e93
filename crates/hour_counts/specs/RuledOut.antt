-- What rules a departure out, and until when.
use Rattle.std.specs.Prelude.{◌≡◌, ℕ, ◌<◌, ◌≤◌, Bool, true, false, if◌then◌else◌, List, Option, Some, None, find}
use Rattle.desk_units.specs.declared.numbers.Minute.{Minute}
use Rattle.desk_data.specs.declared.info.Maint.{Maint}
use Rattle.desk_rules.specs.Rules.{meets_span}

-- the test fails from the moment `at` up to but not including `next`, which is later
pub record IsRuledOutUntil (test : ℕ → Bool) (at next : ℕ) : Type 0 where
  pub later : at < next
  pub none : (t : ℕ) → at ≤ t → t < next → test t ≡ false

-- None: the test holds at the moment; Some next: it fails from the moment up to but not including `next`, which is later
abbrev pub HoldsOrIsRuledOut : (ℕ → Bool) → ℕ → Option ℕ → Type 0
HoldsOrIsRuledOut test at None = test at ≡ true
HoldsOrIsRuledOut test at (Some next) = IsRuledOutUntil test at next

-- the end of the maintenance, if a leg from one moment to another meets it
abbrev pub end_of_maintenance : Option Maint → ℕ → ℕ → Option Minute
end_of_maintenance None departs arrives = None
end_of_maintenance (Some maint) departs arrives = if meets_span departs arrives maint.from maint.to then Some maint.to else None

-- the end of the span that was found, or else of the maintenance
abbrev pub end_of_first : Option (Minute × Minute) → Option Maint → ℕ → ℕ → Option Minute
end_of_first None maint departs arrives = end_of_maintenance maint departs arrives
end_of_first (Some span) maint departs arrives = Some span.1

-- the end of the first of these spans that a leg meets, or else of the maintenance, if it meets that
abbrev pub end_of_first_met : List (Minute × Minute) → Option Maint → ℕ → ℕ → Option Minute
end_of_first_met spans maint departs arrives = end_of_first (find (λ span. meets_span departs arrives span.0 span.1) spans) maint departs arrives
