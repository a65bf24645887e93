-- What a file says of the journal of a story is one thing: it is damaged, or of other events, or holds the beginning of the history.
use Rattle.std.proofs.Common.{◌≡◌, ◌≢◌, ℕ, zero, suc, ◌+◌, ◌<◌, ◌≤◌, true, List, [], ◌∷◌, ◌++◌, length, get_or, take, drop, refl, sym, ap, ◌∙◌, arith, append_assoc}
use Rattle.std.specs.Prelude.{Option, Some, slice_get}
use Rattle.std.proofs.lemmas.List.{get_or_at, get_or_append_left, length-append}
use Rattle.std.proofs.lemmas.Option.{slice_get-get_or, slice_get_within, get_or_from_slice_get}
use Rattle.desk_disk.proofs.Unique.{opens_one_way, opened_undamaged}
use Rattle.desk_model.specs.declared.answer.Event.{Event}
use Rattle.desk_model.specs.States.{State, opening}
use Rattle.desk_model.specs.Histories.{has_room, run}
use Rattle.desk_journal.specs.Payloads.{MayStand, history_payloads}
use Rattle.desk_tasks.specs.Play.{Story, history}
use Rattle.desk_tasks.specs.Keep.{KeptStory}
use Rattle.story_commands.specs.Held.{entered, story_payloads, AreFirst}
use Rattle.story_commands.specs.Compared.{next_payload, DiffersAt, IsOther, IsShort}
use Rattle.story_commands.specs.Journal.{HoldsRecords, IsDamaged, IsOfOthers}
use Rattle.story_commands.proofs.Runs.{run-more, run-parts, event-enters, payloads-enter, length-history}
use Rattle.story_commands.proofs.Storing.{behind-on}

pub undamaged : (k : KeptStory) (c : List ℕ) (records : List (List ℕ)) → IsDamaged k c → HoldsRecords k records c → ⊥
undamaged k c records d h = opened_undamaged (MayStand k.story.day k.batches) records d.records h.place d.at c h.opens h.each d.there

pub story_is : (s : Story) → story_payloads s ≡ history_payloads (run (opening s.day) s.events)
unfolding history
story_is s = refl

-- more is held than all of the history
short_not : (S : State) (events : List (ℕ × Event)) (held rest : List (List ℕ)) → IsShort S events held → history_payloads (run S events) ≡ held ++ rest → ⊥
short_not S events held rest s is =
    let all = history_payloads (run S events) in
    let more : length held ≡ length all + length s.rest = ap length s.is ∙ length-append all s.rest in
    let less : length all ≡ length held + length rest = ap length is ∙ length-append held rest in
    let some : 0 < length s.rest = s.some in
    omega (arith, more, less, some)

-- the entry of an event stands behind those of the events before it
payload_at : (S : State) (events : List (ℕ × Event)) (i : ℕ) (asked : ℕ × Event) → slice_get events i ≡ Some asked → has_room (length (run S (take i events))) asked.1 ≡ true
    → (more : List (List ℕ)) × (history_payloads (run S events) ≡ history_payloads (run S (take i events)) ++ next_payload (run S (take i events)) asked ∷ more)
payload_at S events i asked at room =
    let h = run S (take i events) in
    let next = run S (take (i + 1) events) in
    let grown : history_payloads next ≡ history_payloads h ++ next_payload h asked ∷ [] =
    ap history_payloads (run-more S events i asked (slice_get_within events i asked at) (sym (get_or_from_slice_get events i asked asked at)) ∙ event-enters S h asked room) ∙ payloads-enter S h asked in
    let behind = behind-on S 0 next (drop (i + 1) events) (omega arith) in (
      behind.0,
      sym (ap history_payloads (run-parts S events (i + 1))) ∙ sym behind.1 ∙ ap (λ (ps : List (List ℕ)). ps ++ behind.0) grown ∙ append_assoc (history_payloads h) (next_payload h asked ∷ []) behind.0,
    )

-- another entry is held than that of the event
other_not : (S : State) (events : List (ℕ × Event)) (held rest : List (List ℕ)) (i : ℕ) → IsOther S events held i → history_payloads (run S events) ≡ held ++ rest → ⊥
other_not S events held rest i o is =
    let h = run S (take i events) in
    let p = next_payload h o.asked in
    let there = payload_at S events i o.asked o.at o.room in
    let whole : held ++ rest ≡ history_payloads h ++ p ∷ there.0 = sym is ∙ there.1 in
    let own : get_or held (length h) [] ≡ p =
    sym (get_or_append_left held rest [] (length h) o.more) ∙ ap (λ (ps : List (List ℕ)). get_or ps (length h) []) whole ∙ get_or_at (history_payloads h) p there.0 [] (length h) (length-history h) in
    o.other (slice_get-get_or held (length h) [] o.more ∙ ap (λ (q : List ℕ). Some q) own)

differs_not : (S : State) (events : List (ℕ × Event)) (held rest : List (List ℕ)) (line : ℕ) → DiffersAt S events held line → history_payloads (run S events) ≡ held ++ rest → ⊥
differs_not S events held rest zero d is = short_not S events held rest d is
differs_not S events held rest (suc i) d is = other_not S events held rest i d is

pub no_others : (k : KeptStory) (c : List ℕ) (line : ℕ) (records : List (List ℕ)) → IsOfOthers k c line → HoldsRecords k records c → AreFirst records (story_payloads k.story) → ⊥
no_others k c line records o h first =
    let same : o.records ≡ records = (opens_one_way o.records records o.held.place h.place c o.held.opens h.opens).0 in
    let is : history_payloads (run (opening k.story.day) k.story.events) ≡ entered o.records ++ first.0 = sym (story_is k.story) ∙ first.1 ∙ ap (λ (ps : List (List ℕ)). entered ps ++ first.0) (sym same) in
    differs_not (opening k.story.day) k.story.events (entered o.records) first.0 line o.differs is
