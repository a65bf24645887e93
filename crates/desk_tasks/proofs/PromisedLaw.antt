-- What is promised of a run, from how it ended.
use Rattle.std.proofs.Common.{◌≡◌, ℕ, subst}
use Rattle.std.specs.Prelude.{Option, Some}
use Rattle.desk_tasks.specs.Commands.{Ask}
use Rattle.desk_tasks.specs.Runs.{World, Meaning, Runs}
use Rattle.desk_tasks.specs.Causes.{IsFaultless}
use Rattle.desk_tasks.specs.Promised.{MeansStatus, Stands, LeavesAlone, IsPromised, RunsAsPromised}
use Rattle.desk_tasks.specs.Works.{Meanings, AtSomeWork}
use Rattle.desk_tasks.proofs.CausesLaw.{run-asked, usage-from, usage-only, refused-from, refused-of, fault-of, complete-of}
use Rattle.desk_tasks.proofs.DoneLaw.{done-of}
use Rattle.desk_tasks.proofs.StandingLaw.{unwritten-of, begun-of, unread-of, few-of, in-order, unput-of, read-of, named-of, unnamed-of, fault-reported}

-- no call failed of a command that is known
faultless-asked : (ask : Option Ask) (a : Ask) (before now : World) → ask ≡ Some a → IsFaultless ask before now → IsFaultless (Some a) before now
faultless-asked ask a before now is none = subst (λ (k : Option Ask). IsFaultless k before now) is none

means-of : {Rows Task : Type 0} (M : Meaning Rows Task) (ask : Option Ask) (before now : World) (code : ℕ) → Runs M ask before now code → MeansStatus M ask before now code
means-of M ask before now code run =
    let asked = λ (a : Ask) (is : ask ≡ Some a). run-asked M ask a before now code is run in
    record {
      done = λ a is x tells at. done-of M a before now code (asked a is) x tells at;
      read = λ a is at. read-of M a before now code (asked a is) at;
      usage = usage-from M ask before now code run;
      usage_only = usage-only M ask before now code run;
      refused_where = λ a is x tells readable r err. refused-from M a before now code (asked a is) x tells readable r err;
      refused = λ a is x tells three. refused-of M a before now code (asked a is) x tells three;
      fault = fault-of M ask before now code run;
      complete = λ a is x tells none. complete-of M a before now code (asked a is) x tells (faultless-asked ask a before now is none);
    }

stands-of : {Rows Task : Type 0} (M : Meaning Rows Task) (ask : Option Ask) (before now : World) (code : ℕ) → Runs M ask before now code → Stands M ask before now code
stands-of M ask before now code run = record {
  named = λ a is dirs place at. named-of M a dirs before now code (run-asked M ask a before now code is run) place at;
  unwritten = unwritten-of M ask before now code run;
  begun = begun-of M ask before now code run;
  few = few-of M ask before now code run;
  fault_reported = fault-reported M ask before now code run;
}

alone-of : {Rows Task : Type 0} (M : Meaning Rows Task) (ask : Option Ask) (before now : World) (code : ℕ) → Runs M ask before now code → LeavesAlone M ask before now
alone-of M ask before now code run = record {
  unnamed = λ a is place. unnamed-of M a before now code (run-asked M ask a before now code is run) place;
  unread = unread-of M ask before now code run;
  in_order = λ a is x tells r refused. in-order M a before now code (run-asked M ask a before now code is run) x tells r refused;
  unput = unput-of M ask before now code run;
}

pub promised : {Rows Task : Type 0} (M : Meaning Rows Task) (ask : Option Ask) (before now : World) (code : ℕ) → Runs M ask before now code → IsPromised M ask before now code
promised M ask before now code run = record {
  runs = run;
  means = means-of M ask before now code run;
  stands = stands-of M ask before now code run;
  alone = alone-of M ask before now code run;
}

-- the same at the work of a run
pub runs-as-promised : {Rows Task Work : Type 0} (M : Meanings Rows Task Work) (ask : Option Ask) (before now : World) (code : ℕ) → AtSomeWork M ask before now (λ m. Runs m ask before now code) → RunsAsPromised M ask before now code
runs-as-promised M ask before now code run = record {
  work = run.work;
  fair = run.fair;
  holds = promised (M.at run.work) ask before now code run.holds;
}

-- and how it ended, from all that is promised
pub runs-of : {Rows Task Work : Type 0} (M : Meanings Rows Task Work) (ask : Option Ask) (before now : World) (code : ℕ) → RunsAsPromised M ask before now code → AtSomeWork M ask before now (λ m. Runs m ask before now code)
runs-of M ask before now code kept = record {
  work = kept.work;
  fair = kept.fair;
  holds = kept.holds.runs;
}
