-- Histories: lists of entries, each with who asked, what was asked and the answer.
use Rattle.std.specs.Prelude.{◌≡◌, ℕ, ◌+◌, Bool, true, false, not, nat_lt, if◌then◌else◌, List, [], ◌∷◌, ◌++◌, Some, is_none, length, take, take_while, reverse, slice_get, count_by, All}
use Rattle.day_orders.specs.declared.orders.Order.{Order}
use Rattle.desk_data.specs.Progress.{moment_or_now}
use Rattle.desk_data.specs.Situation.{Situation}
use Rattle.desk_data.specs.Valid.{IsBatch}
use Rattle.plan_moves.specs.Fits.{Fits}
use Rattle.desk_model.specs.declared.answer.Answer.{Answer}
use Rattle.desk_model.specs.declared.answer.Answer.TheVariants.{Accepted}
use Rattle.desk_model.specs.declared.answer.Event.{Event}
use Rattle.desk_model.specs.declared.answer.Event.TheVariants as event
use Rattle.desk_model.specs.declared.answer.Entry.{Entry}
use Rattle.desk_model.specs.States.{State, answer, after}

-- the state after a history
abbrev pub state : State → List Entry → State
state S [] = S
state S (entry ∷ entries) = state (after S entry.event) entries

-- proposals are taken while the journal has fewer entries than this
abbrev pub proposal_limit : ℕ
proposal_limit = 900000

-- and batches while it has fewer than this
abbrev pub batch_limit : ℕ
batch_limit = 1000000

-- whether a journal of n entries takes the event
abbrev pub has_room : ℕ → Event → Bool
has_room n (event.Batch B) = nat_lt n batch_limit
has_room n (event.Move m) = nat_lt n proposal_limit

-- what can be asked of a day. Only its joined rows are looked at: the orders taken and how far it has gone on make no difference
abbrev pub IsAskable : Situation → Event → Type 0
IsAskable I (event.Batch B) = IsBatch I.parts B
IsAskable I (event.Move m) = Fits I m

-- each of these events, each with its caller, can be asked
abbrev pub AreAskable : Situation → List (ℕ × Event) → Type 0
AreAskable I events = All (λ asked. IsAskable I asked.1) events

-- the entry may come after the entries before it: there was room, it could be asked, and it has the answer of the state there
pub record Stands (S : State) (before : List Entry) (entry : Entry) : Type 0 where
  pub room : has_room (length before) entry.event ≡ true
  pub asked : IsAskable (state S before).inst entry.event
  pub answered : entry.answer ≡ answer (state S before) entry.event

-- each entry comes after those before it
abbrev pub IsLegal : State → List Entry → Type 0
IsLegal S h = (i : ℕ) (entry : Entry) → slice_get h i ≡ Some entry → Stands S (take i h) entry

-- whether the event is a batch
abbrev pub is_batch : Event → Bool
is_batch (event.Batch B) = true
is_batch (event.Move m) = false

-- whether a proposal was accepted
abbrev pub is_accepted : Answer → Bool
is_accepted (Accepted cost) = true
is_accepted other = false

-- whether the event with its answer changed the state: each batch does, and a proposal that was accepted
abbrev pub is_change : Event → Answer → Bool
is_change (event.Batch B) given = true
is_change (event.Move m) given = is_accepted given

-- the orders that an event brings
abbrev pub orders_in : Event → List Order
orders_in (event.Batch B) = B.orders
orders_in (event.Move m) = []

-- the orders of the batches of a history, in the order in which they were taken
abbrev pub orders_of : List Entry → List Order
orders_of [] = []
orders_of (entry ∷ entries) = orders_in entry.event ++ orders_of entries

-- the moment up to which a day has gone on after an event: a batch that tells a later one takes it on to that
abbrev pub moment_after : ℕ → Event → ℕ
moment_after now (event.Batch B) = moment_or_now now B.at
moment_after now (event.Move m) = now

-- and after a history: the latest of the moments that its batches tell, or the one before it where that is later
abbrev pub moment_behind : ℕ → List Entry → ℕ
moment_behind now [] = now
moment_behind now (entry ∷ entries) = moment_behind (moment_after now entry.event) entries

-- whether the event tells no moment: no proposal does
abbrev pub has_no_moment : Event → Bool
has_no_moment (event.Batch B) = is_none B.at
has_no_moment (event.Move m) = true

-- no batch of a history tells a moment
abbrev pub TellsNoMoment : List Entry → Type 0
TellsNoMoment h = All (λ entry. has_no_moment entry.event ≡ true) h

-- how many entries of a history changed the state
abbrev pub changes : List Entry → ℕ
changes h = count_by (λ entry. is_change entry.event entry.answer) h

-- the entries after the last batch, the last first
abbrev pub since_batch : List Entry → List Entry
since_batch h = take_while (λ entry. not (is_batch entry.event)) (reverse h)

-- how many proposals were accepted since the last batch
abbrev pub accepted_since_batch : List Entry → ℕ
accepted_since_batch h = count_by (λ entry. is_accepted entry.answer) (since_batch h)

-- the entry of an event at a state
abbrev pub entry_of : State → ℕ → Event → Entry
entry_of S caller event = record { caller = caller; event = event; answer = answer S event }

-- the entries of these events, each with its caller, after n entries: those that find no room have none
unfoldable pub entries : ℕ → State → List (ℕ × Event) → List Entry
entries n S [] = []
entries n S (asked ∷ more) =
    if has_room n asked.1 then entry_of S asked.0 asked.1 ∷ entries (n + 1) (after S asked.1) more
    else entries n S more

-- the history of these events in order
abbrev pub run : State → List (ℕ × Event) → List Entry
run S events = entries 0 S events
