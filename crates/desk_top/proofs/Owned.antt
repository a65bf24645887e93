-- What runs of an input leave, one after another.
use Rattle.std.proofs.Common.{◌≡◌, ◌⊎◌, inl, inr, ℕ, List, [], length, refl, sym, subst, ◌∙◌}
use Rattle.std.specs.Prelude.{Option, Some, None, Result, Ok}
use Rattle.desk_disk.specs.FileStates.{DiskSide, MayLeave}
use Rattle.desk_disk.specs.Crashes.{LeavesOnly}
use Rattle.desk_disk.proofs.Runs.{weaker}
use Rattle.desk_tasks.specs.declared.ending.DiskEnd.{DiskEnd}
use Rattle.desk_tasks.specs.declared.ending.DiskEnd.TheVariants as disk_end
use Rattle.desk_tasks.specs.declared.ending.Ending.TheVariants as ending
use Rattle.desk_tasks.specs.declared.refusal.Refusal.{Refusal}
use Rattle.desk_tasks.specs.Inputs.{Inputs}
use Rattle.desk_tasks.specs.Runs.{World, world}
use Rattle.desk_tasks.specs.Keep.{KeptStory}
use Rattle.desk_tasks.specs.Story.{kept_of}
use Rattle.story_commands.specs.Held.{entered, story_payloads}
use Rattle.story_commands.specs.Own.{Extends, IsOwn, OpensFor}
use Rattle.story_commands.specs.Journal.{LeavesJournal, OnlyOpens, PassesComparison}
use Rattle.story_commands.proofs.Exact.{undamaged, no_others}
use Rattle.story_commands.proofs.Owned.{own_begins, own_goes_on, own_kept, own_opens}
use Rattle.story_commands.proofs.Continued.{own_grows, passed_moments, passed_whole}
use Rattle.desk_top.proofs.Few.{kept_few}
use Rattle.desk_top.proofs.Kept.{kept_stored}
use Rattle.desk_top.specs.Store.{HoldsAll, IsOpenedNext, JournalSays, Keeps, StandsAlways}

-- such a file is opened
opened : (x : Inputs) (k : KeptStory) (n : ℕ) (c : List ℕ) → kept_of x ≡ Ok k → IsOwn k n c → IsOpenedNext k n c
opened x k n c sets own = (own, own_opens k n c (kept_stored x k sets) own)

pub opened_first : (x : Inputs) (k : KeptStory) → kept_of x ≡ Ok k → IsOpenedNext k 0 []
opened_first x k sets = opened x k 0 [] sets (own_begins k)

-- an input gives one story
one_story : (x : Inputs) (k l : KeptStory) → kept_of x ≡ Ok k → kept_of x ≡ Ok l → k ≡ l
one_story x k l sets other = (let both : (let r : Result KeptStory Refusal = Ok k in r) ≡ Ok l = sym sets ∙ other in cc)

-- the comparison has not passed, or it has
abbrev Either : KeptStory → DiskSide → DiskSide → Type 0
Either k was now = OnlyOpens was now ⊎ ((records : List (List ℕ)) × PassesComparison k records was now)

stands_either : (x : Inputs) (k : KeptStory) (was now : DiskSide) → kept_of x ≡ Ok k → StandsAlways x was now → Either k was now
stands_either x k was now sets (inl opens) = inl opens
stands_either x k was now sets (inr h) = inr (subst (λ (l : KeptStory). (records : List (List ℕ)) × PassesComparison l records was now) (one_story x h.k k h.sets sets) (h.records, h.passes))

-- some world, which a run that ends before it writes leaves as it is
some_world : World
some_world = world (record { directories = None; left = λ f. None; written = λ f. None; turns = λ f. 0; place_faults = 0; next_faults = λ f. 0; put_faults = λ f. 0 }) (record { written = None; faults = 0 })

either_leaves : (x : Inputs) (k : KeptStory) (n : ℕ) (was now : DiskSide) → kept_of x ≡ Ok k → IsOwn k n was.file.bytes → Either k was now → LeavesOnly was now (IsOwn k n)
either_leaves x k n was now sets own h =
    let on = own_goes_on k n some_world some_world was (Some now) ending.Memory (kept_stored x k sets) own (inl (record {
      early = tt;
      same = refl;
      disk = λ d is. (now, refl, (let same : was ≡ d = cc in subst (λ (side : DiskSide). LeavesJournal k side now ending.Memory) same h));
    })) in
    let left : on.0 ≡ now = (let both = sym on.1 in cc) in
    subst (λ (side : DiskSide). LeavesOnly was side (IsOwn k n)) left on.2.always

pub opened_always : (x : Inputs) (k : KeptStory) (n : ℕ) (was now : DiskSide) → kept_of x ≡ Ok k → IsOwn k n was.file.bytes → StandsAlways x was now → LeavesOnly was now (IsOpenedNext k n)
opened_always x k n was now sets own h =
    weaker was now (IsOwn k n) (IsOpenedNext k n) (λ c. opened x k n c sets) (either_leaves x k n was now sets own (stands_either x k was now sets h))

-- neither is it damaged, nor of others
said_fault : (x : Inputs) (k : KeptStory) (n : ℕ) (was now : DiskSide) (how : DiskEnd) → kept_of x ≡ Ok k → IsOwn k n was.file.bytes → LeavesJournal k was now (ending.OnDisk how) → how ≡ disk_end.Fault
said_fault x k n was now disk_end.Fault sets own h = refl
said_fault x k n was now disk_end.Damaged sets own h =
    let o = own_opens k n was.file.bytes (kept_stored x k sets) own in
    absurd (undamaged k was.file.bytes o.records h.0 o.held)
said_fault x k n was now (disk_end.Other line) sets own h =
    let o = own_opens k n was.file.bytes (kept_stored x k sets) own in
    absurd (no_others k was.file.bytes line o.records h.0 o.held o.first)

pub fault_ends : (x : Inputs) (k : KeptStory) (n : ℕ) (was : DiskSide) (shown : Option DiskSide) (how : DiskEnd) → kept_of x ≡ Ok k → IsOwn k n was.file.bytes → JournalSays x (Some was) shown how → how ≡ disk_end.Fault
fault_ends x k n was shown how sets own h =
    let d = h.2 was refl in
    said_fault x k n was d.0 how sets own (subst (λ (l : KeptStory). LeavesJournal l was d.0 (ending.OnDisk how)) (one_story x h.0 k h.1 sets) d.2)

whole_by : (k : KeptStory) (n : ℕ) (was now : DiskSide) (c : List ℕ) (x : Inputs) (h : HoldsAll x was now) → h.keeps.k ≡ k → IsOwn k n was.file.bytes → MayLeave now.file c → IsOwn k (length (story_payloads k.story)) c
whole_by k n was now c x h same own left =
    let first : IsOwn h.keeps.k n was.file.bytes = subst (λ (s : KeptStory). IsOwn s n was.file.bytes) (sym same) own in
    subst (λ (s : KeptStory). IsOwn s (length (story_payloads s.story)) c) same (own_kept h.keeps.k n h.keeps.records was now c first h.keeps.passes h.all left)

pub opened_whole : (x : Inputs) (k : KeptStory) (n : ℕ) (was now : DiskSide) (c : List ℕ) → kept_of x ≡ Ok k → IsOwn k n was.file.bytes → HoldsAll x was now → MayLeave now.file c → IsOpenedNext k (length (story_payloads k.story)) c
opened_whole x k n was now c sets own h left =
    opened x k (length (story_payloads k.story)) c sets (whole_by k n was now c x h (one_story x h.keeps.k k h.keeps.sets sets) own left)

-- an input that has grown
pub opened_grown : (x y : Inputs) (k later : KeptStory) (n : ℕ) (c : List ℕ) → kept_of x ≡ Ok k → kept_of y ≡ Ok later → Extends later k → IsOwn k n c → IsOpenedNext later n c
opened_grown x y k later n c sets grown e own = opened y later n c grown (own_grows k later n c e own)

-- ---- files that a run accepted, whoever wrote them

pub accepted_moments : (x : Inputs) (was now : DiskSide) → (h : Keeps x was now) → (compared : DiskSide) × OnlyOpens was compared × LeavesOnly compared now (OpensFor h.k (length (entered h.records)))
accepted_moments x was now h = passed_moments h.k h.records was now (kept_few x h.k h.sets) h.can h.passes

pub accepted_whole : (x : Inputs) (was now : DiskSide) (c : List ℕ) → (h : HoldsAll x was now) → MayLeave now.file c → OpensFor h.keeps.k (length (story_payloads h.keeps.k.story)) c
accepted_whole x was now c h left = passed_whole h.keeps.k h.keeps.records was now c (kept_few x h.keeps.k h.keeps.sets) h.keeps.can h.keeps.passes h.all left
