use Rattle.std.proofs.Common.{◌≡◌, ◌++◌, take, vec_len}
use Rattle.std.specs.List.{flat_map}
use Rattle.desk_text.proofs.texts.push_all.Given as goal

abbrev pub invariant-loop-part : goal.invariant-loop-part
invariant-loop-part l = record { start : l.start ≡ vec_len l.initial.out; text : l.out.items ≡ l.initial.out.items ++ flat_map (λ part. part.now) (take l.part-index l.parts) }
