use Rattle.std.proofs.Common.{arith}
use Rattle.desk_units.specs.NameFields.{is_padded}
use Rattle.desk_units.proofs.name.Name.of.Goals as goal

pub invariant_of-result : goal.invariant_of-result
invariant_of-result c =
    is_padded c.args.bytes.now c.copy_from_slice.new.self (record { least = omega arith; most = omega arith }) c.copy_from_slice.ensures.after
