use Rattle.std.proofs.Common.{◌∙◌, ap, length}
use Rattle.std.specs.Option.{option_map}
use Rattle.std.specs.Prelude.{◌≤◌}
use Rattle.desk_disk.specs.FileStates.{written}
use Rattle.desk_disk.specs.Crashes.{IsTorn}
use Rattle.desk_disk.proofs.Torn.{torn_whole}
use Rattle.desk_disk.proofs.Steps.{writes_on, write_leaves, syncs_on, if_shown, writes_unshown, syncs_unshown}
use Rattle.desk_disk.proofs.through.write_through.Goals as goal

pub returns-in_err-write_at-clause-any_moment : goal.returns-in_err-write_at-clause-any_moment
returns-in_err-write_at-clause-any_moment g c = λ was is nothing_pending.
    let le = if_shown (g.D.Disk.shown c.args.disk.now) was (λ d. c.args.at ≤ length d.file.bytes) is c.requires in
    writes_on was (g.D.Disk.shown c.args.disk.now) (g.D.Disk.shown c.write_at.new.self) c.args.at c.args.bytes.now c.write_at.result is nothing_pending le c.write_at.ensures.writes

pub returns-clause-any_moment : goal.returns-clause-any_moment
returns-clause-any_moment g c = λ was is nothing_pending.
    let bytes = c.args.bytes.now in
    let le = if_shown (g.D.Disk.shown c.args.disk.now) was (λ d. c.args.at ≤ length d.file.bytes) is c.requires in
    let mid = written c.args.at (length bytes) bytes was in
    let wrote = c.in_ok-write_at.ensures.writes ∙ ap (option_map (written c.args.at (length bytes) bytes)) is in
    syncs_on was mid (g.D.Disk.shown c.write_at.new.self) (g.D.Disk.shown c.sync.new.self) c.sync.result (IsTorn c.args.at (length bytes) was.file.bytes) (write_leaves was c.args.at bytes nothing_pending le) wrote (torn_whole c.args.at bytes was.file.bytes le) c.sync.ensures.syncs

pub returns-in_err-write_at-clause-unshown : goal.returns-in_err-write_at-clause-unshown
returns-in_err-write_at-clause-unshown g c = λ is. writes_unshown (g.D.Disk.shown c.args.disk.now) (g.D.Disk.shown c.write_at.new.self) c.args.at c.args.bytes.now c.write_at.result is c.write_at.ensures.writes

pub returns-clause-unshown : goal.returns-clause-unshown
returns-clause-unshown g c = λ is.
    let wrote = writes_unshown (g.D.Disk.shown c.args.disk.now) (g.D.Disk.shown c.write_at.new.self) c.args.at c.args.bytes.now c.write_at.result is c.write_at.ensures.writes in
    syncs_unshown (g.D.Disk.shown c.write_at.new.self) (g.D.Disk.shown c.sync.new.self) c.sync.result wrote c.sync.ensures.syncs
