-- What clauses say of tellers, viewers and notes.
use Rattle.std.specs.Prelude.{◌≡◌, Bool, List, drop, Some, None}
use Rattle.left_right.specs.Sides.{view}
use Rattle.live_board.specs.declared.told.Told.{Told}
use Rattle.logbook.specs.Pages.{Book}
use Rattle.live_board.specs.declared.board.Opened.{Opened}
use Rattle.live_board.specs.declared.board.Teller.{Teller}
use Rattle.live_board.specs.declared.board.Viewer.{Viewer}
use Rattle.live_board.specs.declared.board.Note.{Note}

module _ {S T J R O I A : Type 0} {s a j : _} where
  -- what a teller has published
  abbrev pub told_by : Teller S T J R O I A s a j → List (Told O I)
  told_by t = t.last.shown.seen.log

  -- what readers take is what the teller has published
  abbrev pub IsShown : (T → List (Told O I)) → Teller S T J R O I A s a j → Type 0
  IsShown log t = (w : _) → t.writer ≡ Some w → log w.desk.shown.value ≡ told_by t

  -- whether one of its tells failed
  abbrev pub has_failed : Teller S T J R O I A s a j → Bool
  has_failed t = t.failed

  -- nothing more waits to be published than did before
  abbrev pub WaitsAsBefore : Teller S T J R O I A s a j → Teller S T J R O I A s a j → Type 0
  WaitsAsBefore t u = (w x : _) → t.writer ≡ Some w → u.writer ≡ Some x → drop x.behind x.log.items ≡ drop w.behind w.log.items

module _ {S T J O I A : Type 0} {s j : _} where
  -- the latest published history that a viewer has seen or was told of
  abbrev pub seen_by : Viewer S T J O I A s j → List (Told O I)
  seen_by v = v.kept.shown.seen.log

  -- the viewer has no reader, and lives by its notes alone
  abbrev pub IsAlone : Viewer S T J O I A s j → Type 0
  IsAlone v = v.reader ≡ None

  -- what it has seen is what its reader found where it last entered
  abbrev pub HasRead : Viewer S T J O I A s j → Type 0
  HasRead v = (r : _) × (v.reader ≡ Some r) × (seen_by v ≡ view r.place)

module _ {S J O I : Type 0} {s j : _} where
  -- what a note stands for
  abbrev pub stands_for : Note S J O I s j → List (Told O I)
  stands_for n = n.shown.seen.log

module _ {S O I : Type 0} {s : _} where
  -- the record of a board that has no name yet
  abbrev pub board_of : Opened S O I s → Book
  board_of o = o.seen.book

  -- and what it tells: the opening
  abbrev pub opening_log : Opened S O I s → List (Told O I)
  opening_log o = o.seen.log
