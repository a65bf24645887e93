-- The rule of a turn, in words of its live passes.
use Rattle.std.specs.Prelude.{◌≡◌, ◌≢◌, ◌⊎◌, ◌↔◌, ℕ, ◌<◌, ◌≤◌, true, false, List, [], ◌∷◌, ◌++◌, length, slice_index, Option}
use mathlib.Core.Option.{some}
use mathlib.Core.List.{IsPrefix}
use lib.ListN.{get_elem?}
use Rattle.atomic_table.specs.Table.{State}
use Rattle.turn_book.specs.declared.view.View.{View}
use Rattle.turn_book.specs.Names.{Name, knows, IsChild}
use Rattle.turn_book.specs.Places.{has, AreApart}
use Rattle.turn_book.specs.Knowing.{IsLive}
use Rattle.turn_book.specs.Rule.{IsHome}

module _ {S O I : Type 0} where
  -- the pass of this seat is live, and knows this
  abbrev pub Lives : State S (View O I) → ℕ → View O I → Type 0
  Lives s seat v = (get_elem? s.views seat ≡ some v) × IsLive v

  -- held is 1, and exactly one pass has the turn
  pub record OneHasTurn (s : State S (View O I)) : Type 0 where
    pub word : slice_index s.words 0 ≡ 1
    pub seat : ℕ
    pub holder : View O I
    pub lives : Lives s seat holder
    pub has_turn : holder.has_turn ≡ true
    pub only : (other : ℕ) (w : View O I) → Lives s other w → w.has_turn ≡ true → other ≡ seat

  -- held is 0, and no pass has the turn
  pub record NoneHasTurn (s : State S (View O I)) : Type 0 where
    pub word : slice_index s.words 0 ≡ 0
    pub none_has : (seat : ℕ) (v : View O I) → Lives s seat v → v.has_turn ≡ false

  -- a pass that has the turn has read the front
  abbrev pub HolderHasRead : State S (View O I) → Type 0
  HolderHasRead s = (seat : ℕ) × (v : View O I) × Lives s seat v × (v.has_turn ≡ true) × (v.has_read ≡ true)

  -- The names that were given, which are the empty one and those of splits, are each among the names of just one pass.
  pub record NamesInWords (s : State S (View O I)) : Type 0 where
    pub given : List Name
    pub root : knows [] given ≡ true
    pub each : (n : Name) → knows n given ≡ true → (seat : ℕ) × (v : View O I) × Lives s seat v × (knows n v.tags.names ≡ true)
    pub once : (n : Name) (seat other : ℕ) (v w : View O I) → Lives s seat v → Lives s other w → knows n v.tags.names ≡ true → knows n w.tags.names ≡ true → seat ≡ other
    pub counted : (seat : ℕ) (v : View O I) → Lives s seat v → (k : ℕ) → (knows (v.tags.name ++ k ∷ []) given ≡ true) ↔ ((1 ≤ k) × (k ≤ v.tags.splits))
    pub out : (seat : ℕ) (v : View O I) → Lives s seat v → (n : Name) → (knows n v.tags.out ≡ true) ↔ ((knows n given ≡ true) × (knows n v.tags.names ≡ false) × IsChild v.tags.names n)

-- The rule as docs/TURN.md gives it.
pub record RuleInWords {B O I : Type 0} (opening : B → O) (journal : B → List I) (legal : O → List I → Type 0) (key : B) (s : State (Option B) (View O I)) : Type 0 where
  pub turn : OneHasTurn s ⊎ NoneHasTurn s
  -- the one history
  pub log : List I
  pub front : slice_index s.words 1 ≡ length log
  pub lawful : legal (opening key) log
  pub slot : IsHome opening journal legal key log s.homes ⊎ HolderHasRead s
  pub read : (seat : ℕ) (v : View O I) → Lives s seat v → v.has_read ≡ true → (v.has_turn ≡ true) × (v.seen ≡ log)
  pub seen : (seat : ℕ) (v : View O I) → Lives s seat v → IsPrefix (journal key) v.seen × IsPrefix v.seen log
  pub within : (seat : ℕ) (v : View O I) → Lives s seat v → (k : ℕ) → has k v.made ≡ true → (length (journal key) ≤ k) × (k < length v.seen)
  pub apart : (seat other : ℕ) (v w : View O I) → Lives s seat v → Lives s other w → seat ≢ other → AreApart v.made w.made
  pub covered : (k : ℕ) → length (journal key) ≤ k → k < length log → (seat : ℕ) × (v : View O I) × Lives s seat v × (has k v.made ≡ true)
  pub naming : NamesInWords s
