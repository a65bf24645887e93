use Rattle.std.proofs.Common.{◌≡◌, ◌≤◌, true, length}
use Rattle.std.specs.List.{list_all}
use Rattle.desk_text.specs.Lines.{fields, is_text}
use Rattle.desk_text.proofs.fields.first_field.Given as goal

-- the fields that are left are all
abbrev pub invariant-loop-field : goal.invariant-loop-field
invariant-loop-field l = record { same : fields l.rest ≡ fields l.line; shorter : length l.rest ≤ length l.line; fit : list_all is_text l.rest ≡ true }

abbrev pub decreases-loop-field : goal.decreases-loop-field
decreases-loop-field l = length l.rest
