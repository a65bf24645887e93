use Rattle.desk_model.proofs.FallbackLaws.{shifted-rows, shifted-due, shifted-off, shifted-stopped, shifted-flown, shifted-tidied, shifted-carried}
use Rattle.desk_model.proofs.fallbacks.a_shift_keeps_what_is_due_and_flies_no_leg_called_off.Goals as goal

pub returns : goal.returns
returns c = record {
  rows = shifted-rows;
  due = shifted-due;
  off = shifted-off;
  stopped = shifted-stopped;
  flown = shifted-flown;
  tidied = shifted-tidied;
  carried = shifted-carried;
}
