use Rattle.std.proofs.Common.{◌≡◌, ℕ, ◌+◌, ◌-◌, ◌*◌, ◌<◌, ◌^◌, List, Option, drop, fold}
use Rattle.std.specs.List.{list_all}
use Rattle.std.specs.Char.{is_ascii_digit}
use Rattle.desk_text.specs.Fields.{only_if}
use Rattle.desk_text.proofs.values.decimal_value.Given as goal

-- what these bytes spell after digits of this value, where all are digits
abbrev spelled_after : ℕ → List ℕ → Option ℕ
spelled_after value bytes = only_if (list_all is_ascii_digit bytes) (fold (λ n digit. 10 * n + (digit - 48)) value bytes)

-- what is left spells the number of all bytes, after the value so far, which has as many digits as were read
abbrev pub invariant-loop-byte : goal.invariant-loop-byte
invariant-loop-byte l = record { spelled : spelled_after l.value (drop l.byte-index l.bytes) ≡ spelled_after 0 l.bytes; below : l.value < 10 ^ l.byte-index }
