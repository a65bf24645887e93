use Rattle.desk_tasks.proofs.RecoveryLaws.{some-batches}
use Rattle.desk_tasks.proofs.recovery.joined_recovery.Goals as goal

pub returns-clause-sound : goal.returns-clause-sound
returns-clause-sound c = record {
  fresh = c.in_ok-built.ensures.fresh;
  sound = record {
    valid = c.days_are_valid.ensures;
    asked = c.in_ok-built.ensures.batches;
    some = some-batches c.args.rows.now.files c.in_ok-built.built c.in_ok-built.ensures.exact;
    few = c.in_ok-built.ensures.few;
  };
}
