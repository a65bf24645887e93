use Rattle.std.proofs.Common.{ℕ, ◌-◌, length, drop, refl, arith}
use Rattle.std.proofs.lemmas.List.{take_all, length-drop}
use Rattle.file_readers.proofs.MaintenanceLemmas.{cut_found, cut_none}
use Rattle.file_readers.proofs.maintenance.cut_at_last_dash.Goals as goal

pub returns-in_err-after_dash : goal.returns-in_err-after_dash
returns-in_err-after_dash c = rw c.from_residual.ensures (cut_none c.args.bytes.now c.in_err-after_dash.ensures)

pub returns : goal.returns
returns c =
    let bytes = c.args.bytes.now in
    let from : ℕ = length bytes - c.in_ok-after_dash.after_dash in
    cut_found c.in_ok-after_dash.after_dash bytes _ _ c.in_ok-after_dash.ensures refl (take_all (length bytes - from) (drop from bytes) (omega (arith, length-drop from bytes)))
