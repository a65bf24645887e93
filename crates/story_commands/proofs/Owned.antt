-- What runs of a story leave, one after another.
use Rattle.std.proofs.Common.{◌≡◌, ◌⊎◌, inl, inr, ℕ, ◌≤◌, List, [], ◌∷◌, ◌++◌, length, refl, sym, ap, subst, ◌∙◌, arith, append_assoc}
use Rattle.std.specs.Prelude.{Option, Some, None}
use Rattle.std.proofs.lemmas.List.{length-append}
use Rattle.desk_disk.specs.FileStates.{DiskSide, MayLeave}
use Rattle.desk_disk.specs.Crashes.{LeavesOnly}
use Rattle.desk_disk.proofs.Torn.{nothing_pending_is}
use Rattle.desk_disk.proofs.Runs.{weaker, joins}
use Rattle.desk_disk.specs.Records.{AreAccepted, Opens}
use Rattle.desk_disk.specs.Files.{HasEndMark, IsOpening}
use Rattle.desk_disk.proofs.Unique.{opens_one_way, whole_opens}
use Rattle.desk_disk.proofs.Opened.{still_whole}
use Rattle.desk_disk.proofs.Storing.{accepted_front}
use Rattle.desk_journal.specs.Payloads.{MayStand, asked_in}
use Rattle.desk_journal.proofs.StoreLaws.{events_stand}
use Rattle.desk_tasks.specs.declared.ending.DiskEnd.TheVariants as disk_end
use Rattle.desk_tasks.specs.declared.ending.Ending.{Ending}
use Rattle.desk_tasks.specs.declared.ending.Ending.TheVariants as ending
use Rattle.desk_tasks.specs.Runs.{World}
use Rattle.desk_tasks.specs.Outcome.{Outcome}
use Rattle.desk_tasks.specs.Finishing.{Leaves}
use Rattle.desk_tasks.specs.Play.{history}
use Rattle.desk_tasks.specs.Keep.{KeptStory, kept}
use Rattle.story_commands.specs.Held.{completed, entered, story_payloads}
use Rattle.story_commands.specs.Left.{before_others, HoldsBeginning}
use Rattle.story_commands.specs.Own.{CanBeStored, GoesOn, IsOwn, OpensFor}
use Rattle.story_commands.specs.Journal.{EndsEarly, EndsWritten, IsKept, KeepsStory, LeavesJournal, OnlyOpens, PassesComparison}
use Rattle.story_commands.proofs.Adding.{rests_first}
use Rattle.story_commands.proofs.Exact.{undamaged, no_others}
use Rattle.story_commands.proofs.Opening.{read_opens}
use Rattle.story_commands.proofs.Spelled.{front_completed, front_entered}

-- ---- files

pub own_begins : (k : KeptStory) → IsOwn k 0 []
own_begins k = record { front = []; next = None; rest = story_payloads k.story; is = refl; least = omega arith; whole = inr (record { none = refl; few = omega arith }) }

-- opening leaves it whole
own_opening : (all : List (List ℕ)) (n : ℕ) (before c : List ℕ) → HoldsBeginning all n before → IsOpening before c → HoldsBeginning all n c
own_opening all n before c o h = record { front = o.front; next = o.next; rest = o.rest; is = o.is; least = o.least; whole = still_whole o.front o.next before c o.whole h }

fewer : (all : List (List ℕ)) (m n : ℕ) (c : List ℕ) → m ≤ n → HoldsBeginning all n c → HoldsBeginning all m c
fewer all m n c le o = record { front = o.front; next = o.next; rest = o.rest; is = o.is; least = omega (arith, le, o.least); whole = o.whole }

-- what it opens as is a beginning of all
pub record Begins (all records : List (List ℕ)) (n : ℕ) : Type 0 where
  pub more : List (List ℕ)
  pub is : all ≡ records ++ more
  pub least : n ≤ length records

pub begins_by : (all : List (List ℕ)) (n : ℕ) (c : List ℕ) (o : HoldsBeginning all n c) (found : List (List ℕ)) → (found ≡ o.front) ⊎ ((payload : List ℕ) × (o.next ≡ Some payload) × (found ≡ o.front ++ payload ∷ [])) → Begins all found n
begins_by all n c o found (inl same) = record {
  more = before_others o.next o.rest;
  is = o.is ∙ ap (λ (l : List (List ℕ)). l ++ before_others o.next o.rest) (sym same);
  least = omega (arith, o.least, ap length same);
}
begins_by all n c o found (inr one) =
    let p = one.0 in
    record {
      more = o.rest;
      is = o.is ∙ ap (λ (next : Option (List ℕ)). o.front ++ before_others next o.rest) one.1 ∙ sym (append_assoc o.front (p ∷ []) o.rest) ∙ ap (λ (l : List (List ℕ)). l ++ o.rest) (sym one.2);
      least = omega (arith, o.least, ap length one.2, length-append o.front (p ∷ []));
    }

begins_as : (all : List (List ℕ)) (n : ℕ) (c : List ℕ) (o : HoldsBeginning all n c) (records : List (List ℕ)) (place : ℕ) → Opens records place c → Begins all records n
begins_as all n c o records place opens =
    let a = whole_opens o.front o.next c o.whole in
    let same : records ≡ a.found = (opens_one_way records a.found place a.place c opens a.opens).0 in
    subst (λ (rs : List (List ℕ)). Begins all rs n) (sym same) (begins_by all n c o a.found a.which)

-- the next run opens it
pub own_opens : (k : KeptStory) (n : ℕ) (c : List ℕ) → CanBeStored k → IsOwn k n c → OpensFor k n c
own_opens k n c can o =
    let all = story_payloads k.story in
    let accepts = MayStand k.story.day k.batches in
    let a = whole_opens o.front o.next c o.whole in
    let b = begins_by all n c o a.found a.which in
    let each : AreAccepted accepts [] (a.found ++ b.more) = subst (AreAccepted accepts []) b.is (events_stand k.story.day k.batches (asked_in (history k.story)) can) in
    let same : entered a.found ≡ a.found = front_entered k.story a.found b.more b.is in
    record {
      records = a.found;
      held = record { place = a.place; opens = a.opens; each = accepted_front accepts [] a.found b.more each };
      first = (b.more, b.is ∙ ap (λ (l : List (List ℕ)). l ++ b.more) (sym same));
      least = omega (arith, b.least, ap length same);
    }

-- ---- runs

opening_leaves : (k : KeptStory) (n : ℕ) (was now : DiskSide) → IsOwn k n was.file.bytes → OnlyOpens was now → LeavesOnly was now (IsOwn k n)
opening_leaves k n was now own run = weaker was now (IsOpening was.file.bytes) (IsOwn k n) (λ c h. own_opening (story_payloads k.story) n was.file.bytes c own h) run

passing_leaves : (k : KeptStory) (n : ℕ) (records : List (List ℕ)) (was now : DiskSide) → IsOwn k n was.file.bytes → PassesComparison k records was now → LeavesOnly was now (IsOwn k n)
passing_leaves k n records was now own p =
    let all = story_payloads k.story in
    let mid = p.stores.compared in
    let b = begins_as all n was.file.bytes own records p.held.place p.held.opens in
    let same : completed records all ≡ all = front_completed k.story records b.more b.is in
    joins was mid now (IsOwn k n) (opening_leaves k n was mid own p.stores.opening)
    (weaker mid now (HoldsBeginning (completed records all) (length records)) (IsOwn k n)
    (λ c o. fewer all n (length records) c b.least (subst (λ (rs : List (List ℕ)). HoldsBeginning rs (length records) c) same o)) p.stores.adding)

either_leaves : (k : KeptStory) (n : ℕ) (was now : DiskSide) → IsOwn k n was.file.bytes → OnlyOpens was now ⊎ ((records : List (List ℕ)) × PassesComparison k records was now) → LeavesOnly was now (IsOwn k n)
either_leaves k n was now own (inl opens) = opening_leaves k n was now own opens
either_leaves k n was now own (inr passed) = passing_leaves k n passed.0 was now own passed.1

journal_leaves : (k : KeptStory) (n : ℕ) (was now : DiskSide) (how : Ending) → IsOwn k n was.file.bytes → LeavesJournal k was now how → LeavesOnly was now (IsOwn k n)
journal_leaves k n was now (ending.OnDisk disk_end.Damaged) own h = opening_leaves k n was now own (read_opens was now h.1)
journal_leaves k n was now (ending.OnDisk (disk_end.Other line)) own h = opening_leaves k n was now own h.1
journal_leaves k n was now (ending.OnDisk disk_end.Fault) own h = either_leaves k n was now own h
journal_leaves k n was now ending.Memory own h = either_leaves k n was now own h
journal_leaves k n was now (ending.Refused r) own h = either_leaves k n was now own h
journal_leaves k n was now (ending.ReadFault f) own h = either_leaves k n was now own h
journal_leaves k n was now ending.Done own h = either_leaves k n was now own h
journal_leaves k n was now ending.NoPlan own h = either_leaves k n was now own h
journal_leaves k n was now ending.BrokenRule own h = either_leaves k n was now own h
journal_leaves k n was now ending.Usage own h = either_leaves k n was now own h
journal_leaves k n was now ending.PlaceFault own h = either_leaves k n was now own h
journal_leaves k n was now (ending.WriteFault f) own h = either_leaves k n was now own h
journal_leaves k n was now ending.ReportFault own h = either_leaves k n was now own h

-- it is not damaged, and of no others
not_damaged : (k : KeptStory) (n : ℕ) (was now : DiskSide) (how : Ending) → CanBeStored k → IsOwn k n was.file.bytes → LeavesJournal k was now how → how ≡ ending.OnDisk disk_end.Damaged → ⊥
not_damaged k n was now how can own h is =
    let said = subst (LeavesJournal k was now) is h in
    let o = own_opens k n was.file.bytes can own in
    undamaged k was.file.bytes o.records said.0 o.held

not_others : (k : KeptStory) (n : ℕ) (was now : DiskSide) (how : Ending) (line : ℕ) → CanBeStored k → IsOwn k n was.file.bytes → LeavesJournal k was now how → how ≡ ending.OnDisk (disk_end.Other line) → ⊥
not_others k n was now how line can own h is =
    let said = subst (LeavesJournal k was now) is h in
    let o = own_opens k n was.file.bytes can own in
    no_others k was.file.bytes line o.records said.0 o.held o.first

abbrev pub On : KeptStory → ℕ → DiskSide → Option DiskSide → Ending → Type 0
On k n was shown how = (left : DiskSide) × (shown ≡ Some left) × GoesOn k n was left how

early_on : (k : KeptStory) (n : ℕ) (before now : World) (was : DiskSide) (shown : Option DiskSide) (how : Ending) → CanBeStored k → IsOwn k n was.file.bytes → EndsEarly k before now (Some was) shown how → On k n was shown how
early_on k n before now was shown how can own e =
    let left = e.disk was refl in (
      left.0,
      left.1,
      record {
        always = journal_leaves k n was left.0 how own left.2;
        undamaged = not_damaged k n was left.0 how can own left.2;
        own = λ line. not_others k n was left.0 how line can own left.2;
      },
    )

written_on : (k : KeptStory) (n : ℕ) (before now : World) (was : DiskSide) (shown : Option DiskSide) (how : Ending) → IsOwn k n was.file.bytes → EndsWritten k before now (Some was) shown how → On k n was shown how
written_on k n before now was shown how own e =
    let left = e.disk was refl in (
      left.0,
      left.1,
      record {
        always = passing_leaves k n left.2.0 was left.0 own left.2.1;
        undamaged = λ is. subst (Leaves before now (kept e.held k.story)) is e.completes.leaves;
        own = λ line is. subst (Leaves before now (kept e.held k.story)) is e.completes.leaves;
      },
    )

pub own_goes_on : (k : KeptStory) (n : ℕ) (before now : World) (was : DiskSide) (shown : Option DiskSide) (how : Ending) → CanBeStored k → IsOwn k n was.file.bytes → KeepsStory k before now (Some was) shown how → On k n was shown how
own_goes_on k n before now was shown how can own (inl e) = early_on k n before now was shown how can own e
own_goes_on k n before now was shown how can own (inr e) = written_on k n before now was shown how own e

-- once a run has kept all, each crash leaves all
pub own_kept : (k : KeptStory) (n : ℕ) (records : List (List ℕ)) (was now : DiskSide) (c : List ℕ) → IsOwn k n was.file.bytes → PassesComparison k records was now → IsKept k records now → MayLeave now.file c → IsOwn k (length (story_payloads k.story)) c
own_kept k n records was now c own p all left =
    let b = begins_as (story_payloads k.story) n was.file.bytes own records p.held.place p.held.opens in
    let same : completed records (story_payloads k.story) ≡ story_payloads k.story = front_completed k.story records b.more b.is in
    let first = rests_first (completed records (story_payloads k.story)) all.place now.file c all.rest left in
    subst (λ (ps : List (List ℕ)). HoldsBeginning ps (length ps) c) same first
