-- The entries that a file of records holds, by the payloads of its records.
use Rattle.std.specs.Prelude.{◌≡◌, ℕ, ◌+◌, nat_lt, Bool, if◌then◌else◌, List, [], ◌∷◌, ◌++◌, length, drop, map}
use Rattle.desk_model.specs.Histories.{batch_limit, proposal_limit}
use Rattle.desk_tasks.specs.Play.{Story, history}
use Rattle.desk_journal.specs.Payloads.{spells_batch, history_payloads}

-- whether a journal of n entries takes the event that a payload spells
abbrev pub takes : ℕ → List ℕ → Bool
takes n p = if spells_batch p then nat_lt n batch_limit else nat_lt n proposal_limit

-- the payloads that have an entry, where a journal has n already: one that finds no room is read and adds none
unfoldable pub entered_from : ℕ → List (List ℕ) → List (List ℕ)
entered_from n [] = []
entered_from n (p ∷ ps) = if takes n p then p ∷ entered_from (n + 1) ps else entered_from n ps

abbrev pub entered : List (List ℕ) → List (List ℕ)
entered records = entered_from 0 records

-- the payloads of the history of a story
abbrev pub story_payloads : Story → List (List ℕ)
story_payloads s = history_payloads (history s)

-- the entries of a file are the first of those that a history has
abbrev pub AreFirst : List (List ℕ) → List (List ℕ) → Type 0
AreFirst records all = (rest : List (List ℕ)) × (all ≡ entered records ++ rest)

-- the records once the entries of the history that they lack stand behind them
abbrev pub completed : List (List ℕ) → List (List ℕ) → List (List ℕ)
completed records all = records ++ drop (length (entered records)) all
