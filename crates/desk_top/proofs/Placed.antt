-- A run by the words, from that of their command after the naming of its directories.
use Rattle.std.proofs.Common.{◌≡◌, ℕ, ◌+◌, ◌≤◌, List, refl, sym, ap, subst, ◌∙◌, inl, inr, arith}
use Rattle.std.specs.Prelude.{Option, None, Some, Result, Ok, Err}
use Rattle.std.specs.Option.{option_map}
use Rattle.desk_folder.specs.declared.faults.FolderFault.{FolderFault}
use Rattle.desk_folder.specs.Outside.{Outside, SinkSide, Directories, PlacesOnly}
use Rattle.desk_folder.specs.declared.files.File.{File}
use Rattle.desk_folder.specs.Calls.{Names, AppendsPrefix, Rose}
use Rattle.desk_folder.specs.Outputs.{IsUnput}
use Rattle.desk_folder.specs.Texts.{TextAppends}
use Rattle.desk_folder.proofs.PutAll.{begins-whole}
use Rattle.desk_words.specs.declared.asked.Command.{Command}
use Rattle.desk_words.specs.Commands.{Asking}
use Rattle.desk_tasks.specs.Commands.{Ask, asks, asked_here, workers_of}
use Rattle.desk_tasks.specs.declared.ending.Ending.{Ending}
use Rattle.desk_tasks.specs.declared.ending.Ending.TheVariants as ending
use Rattle.desk_tasks.specs.Reading.{IsUnread, HasFewTurns}
use Rattle.desk_tasks.specs.Outcome.{fault_text}
use Rattle.desk_tasks.specs.Works.{IsUnbegun, IsFair}
use Rattle.desk_tasks.specs.Runs.{World, world, Meaning, IsUnreported, EndsBy, TellsEnd}
use Rattle.desk_tasks.specs.Runs as runs
use Rattle.desk_tasks.proofs.Composed.{here, at, works-placed, runs-tells_end}
use Rattle.desk_tasks.proofs.PromisedLaw.{runs-of}
use Rattle.desk_tasks.specs.Team.{nothing}
use Rattle.desk_top.specs.Desk.{meaning_at, meanings, ObeysSomehow, RunsWith, Runs, RunsAsPromised}
use Rattle.desk_top.proofs.Commands.{plain-work}

asked_as : (these : Option Asking) (asked : Asking) (before now : World) (code : ℕ) → Some asked ≡ these → Runs (Some (asks asked)) before now code → Runs (option_map asks these) before now code
asked_as these asked before now code is run = subst (λ (o : Option Asking). Runs (option_map asks o) before now code) is run

pub run-placed : (these : Option Asking) (c : Command) (dirs : Directories) (before placed now : Outside) (sink sink' : SinkSide) (code : ℕ) (ok : Unit {0}) → Some (c, Some dirs) ≡ these → Names before.directories placed.directories dirs (let r : Result (Unit {0}) FolderFault = Ok ok in r) → PlacesOnly before placed
    → RunsAsPromised (Some (here c)) (world placed sink) (world now sink') code → Runs (option_map asks these) (world before sink) (world now sink') code
run-placed these c dirs before placed now sink sink' code ok is names only kept =
    asked_as these (c, Some dirs) (world before sink) (world now sink') code is
    (works-placed meanings c dirs before placed now sink sink' code ok names only (runs-of meanings (Some (here c)) (world placed sink) (world now sink') code kept))

-- what is asked, by the directories that it has
pub asked-with : (these : Option Asking) (c : Command) (dirs o : Option Directories) → o ≡ dirs → Some (c, o) ≡ these → Some (c, dirs) ≡ these
asked-with these c dirs o same is = ap (λ (d : Option Directories). Some (c, d)) (sym same) ∙ is

-- ---- the work of a run

-- of a command that asks for no worker
pub with-nothing : (c : Command) (before now : World) (code : ℕ) → workers_of c ≡ 0 → RunsWith nothing (asked_here c) before now code → Runs (asked_here c) before now code
with-nothing c before now code alone run = record { work = nothing; fair = λ x tells t given. inr (plain-work c x t alone given); holds = run }

-- of one that was not begun
pub not-begun : (ask : Option Ask) (before now : World) → IsUnbegun before now → IsFair meanings ask before now nothing
not-begun None before now h = tt
not-begun (Some a) before now h = λ x tells t given. inl h

put_some : (before now : Option (List ℕ)) (text : List ℕ) (answer : Result (Unit {0}) FolderFault) → TextAppends before now text answer → AppendsPrefix before now text
put_some before now text (Ok done) h = begins-whole before now text h
put_some before now text (Err e) h = h

pub unbegun-tells_end : (before mid : World) (now : SinkSide) (how : Ending) (code : ℕ) → IsUnreported before mid → TellsEnd how mid.sink now code → IsUnbegun before (world mid.folder now)
unbegun-tells_end before mid now how code h given = record {
  written = h.written;
  how = how;
  line = subst (λ (s : SinkSide). AppendsPrefix s.written now.written (fault_text how)) h.sink (put_some mid.sink.written now.written (fault_text how) given.answer given.line.bytes);
}

-- a run that ended so before anything was written
pub run-unbegun : (ask : Option Ask) (before mid : World) (now : SinkSide) (how : Ending) (code : ℕ) → IsUnreported before mid → EndsBy (meaning_at nothing) ask before mid how → TellsEnd how mid.sink now code → Runs ask before (world mid.folder now) code
run-unbegun ask before mid now how code h ends given = record {
  work = nothing;
  fair = not-begun ask before (world mid.folder now) (unbegun-tells_end before mid now how code h given);
  holds = runs-tells_end (meaning_at nothing) ask before mid now how code ends given;
}

-- of a command that was obeyed with some work
pub run-somehow : (c : Command) (before mid : World) (now : SinkSide) (how : Ending) (code : ℕ) → ObeysSomehow (here c) before mid how → TellsEnd how mid.sink now code → Runs (asked_here c) before (world mid.folder now) code
run-somehow c before mid now how code h given = record {
  work = h.work;
  fair = λ x tells t set. elim (h.fair x tells t set) [
    | inl untold ↦ inl (unbegun-tells_end before mid now how code untold given)
    | inr is ↦ inr is
  ];
  holds = runs-tells_end (meaning_at h.work) (asked_here c) before mid now how code h.obeys given;
}

-- ---- before a command is obeyed

-- words that are no command
pub run-usage : (these : Option Asking) (before : World) (now : SinkSide) (code : ℕ) → None ≡ these → TellsEnd ending.Usage before.sink now code → Runs (option_map asks these) before (world before.folder now) code
run-usage these before now code is given =
    subst (λ (o : Option Asking). Runs (option_map asks o) before (world before.folder now) code) is
    (run-unbegun None before before now ending.Usage code (record { written = λ f. refl; sink = refl }) (refl, record { folder = refl; sink = refl }) given)

-- a command that has no directories
pub run-here : (these : Option Asking) (c : Command) (before now : World) (code : ℕ) → Some (c, None) ≡ these → RunsAsPromised (asked_here c) before now code → Runs (option_map asks these) before now code
run-here these c before now code is kept = asked_as these (c, None) before now code is (runs-of meanings (asked_here c) before now code kept)

pub unread_placed : (before placed : Outside) (f : File) → PlacesOnly before placed → IsUnread before placed f
unread_placed before placed f only = record { left = only.left f; turns = only.turns f; faults = only.next_faults f }

few_placed : (before placed : Outside) (f : File) → PlacesOnly before placed → HasFewTurns before placed f
few_placed before placed f only = let stays : placed.turns f ≡ before.turns f = only.turns f in omega (arith, stays)

pub unput_placed : (before placed : Outside) (f : File) → PlacesOnly before placed → IsUnput before placed f
unput_placed before placed f only = record { written = only.written f; faults = only.put_faults f }

-- its directories could not be named
pub obeys-unplaced : {Rows Task : Type 0} (M : Meaning Rows Task) (c : Command) (dirs : Directories) (before placed : Outside) (sink : SinkSide) → PlacesOnly before placed → Rose before.place_faults placed.place_faults → runs.Obeys M (at c dirs) (world before sink) (world placed sink) ending.PlaceFault
obeys-unplaced M c dirs before placed sink only rose = record {
  no_usage = λ e. absurd cc;
  cause = rose;
  does = λ x tells. tt;
  placed = tt;
  read = tt;
  silent = (record { written = only.written; sink = refl }, λ f. unread_placed before placed f only);
  kept = omega arith;
  in_order = λ x tells r refused g lt. unread_placed before placed g only;
  few = λ f. few_placed before placed f only;
  unread = λ f other. unread_placed before placed f only;
  unput = λ f other. unput_placed before placed f only;
}

pub obeys-unnamed : {Rows Task : Type 0} (M : Meaning Rows Task) (c : Command) (dirs : Directories) (before placed : Outside) (sink : SinkSide) → PlacesOnly before placed → runs.Obeys M (at c dirs) (world before sink) (world placed sink) ending.Memory
obeys-unnamed M c dirs before placed sink only = record {
  no_usage = λ e. absurd cc;
  cause = tt;
  does = λ x tells. inl (record { written = only.written; sink = refl });
  placed = tt;
  read = tt;
  silent = tt;
  kept = omega arith;
  in_order = λ x tells r refused g lt. unread_placed before placed g only;
  few = λ f. few_placed before placed f only;
  unread = λ f other. unread_placed before placed f only;
  unput = λ f other. unput_placed before placed f only;
}

pub run-unplaced : (these : Option Asking) (c : Command) (dirs : Directories) (before placed : Outside) (sink now : SinkSide) (code : ℕ) → Some (c, Some dirs) ≡ these → PlacesOnly before placed → Rose before.place_faults placed.place_faults → TellsEnd ending.PlaceFault sink now code → Runs (option_map asks these) (world before sink) (world placed now) code
run-unplaced these c dirs before placed sink now code is only rose given =
    asked_as these (c, Some dirs) (world before sink) (world placed now) code is
    (run-unbegun (Some (at c dirs)) (world before sink) (world placed sink) now ending.PlaceFault code (record { written = only.written; sink = refl }) (obeys-unplaced (meaning_at nothing) c dirs before placed sink only rose) given)

pub run-unnamed : (these : Option Asking) (c : Command) (dirs : Directories) (before placed : Outside) (sink now : SinkSide) (code : ℕ) → Some (c, Some dirs) ≡ these → PlacesOnly before placed → TellsEnd ending.Memory sink now code → Runs (option_map asks these) (world before sink) (world placed now) code
run-unnamed these c dirs before placed sink now code is only given =
    asked_as these (c, Some dirs) (world before sink) (world placed now) code is
    (run-unbegun (Some (at c dirs)) (world before sink) (world placed sink) now ending.Memory code (record { written = only.written; sink = refl }) (obeys-unnamed (meaning_at nothing) c dirs before placed sink only) given)
