-- What opening a file leaves, at each moment and at the end.
use Rattle.std.proofs.Common.{◌≡◌, ◌⊎◌, inl, inr, ℕ, ◌+◌, ◌^◌, ◌<◌, ◌≤◌, List, [], ◌∷◌, ◌++◌, length, get_or, drop, refl, sym, ◌∙◌, ap, subst, arith}
use Rattle.std.specs.Prelude.{Option, Some, None, IfSome}
use Rattle.std.proofs.lemmas.Bool.{cases_eq}
use Rattle.std.proofs.lemmas.List.{get_or_at, length-append}
use Rattle.desk_disk.specs.FileStates.{FileState, DiskSide, MayLeave, HasNothingPending, put_at, written, synced}
use Rattle.desk_disk.specs.Crashes.{LeavesOnly, RunsTo, ReadsTo, IsTorn}
use Rattle.desk_disk.proofs.Torn.{nothing_pending_is, nothing_pending_synced}
use Rattle.desk_disk.proofs.Runs.{starts, weaker, runs_weaker, runs_join}
use Rattle.desk_disk.specs.declared.faults.DiskFault.{DiskFault}
use Rattle.desk_disk.specs.declared.faults.DiskFault.TheVariants as disk
use Rattle.desk_disk.specs.declared.record_faults.OpenFault.{OpenFault}
use Rattle.desk_disk.specs.declared.record_faults.OpenFault.TheVariants as fault
use Rattle.desk_disk.specs.Faults.{open_fault}
use Rattle.desk_disk.specs.Records.{framed, records, EndsAt, Opens}
use Rattle.desk_disk.specs.Files.{HasEndMark, IsStaged, IsWhole, IsWithOrWithout, IsAtRest, IsReady, LacksEndMark, LeftBy, SetsEndMark, IsOpening, added_at, opened_at}
use Rattle.desk_disk.proofs.Spelled.{length-records-push}
use Rattle.desk_disk.proofs.Unique.{opens_one_way, ended_opens, staged_open, staged_ended}
use Rattle.desk_disk.proofs.Marks.{keeps_end_mark, is_staged, stays_staged, is_added, put_both, put_mark}

-- ---- opening

read_leaves : (was : DiskSide) (shown : Option DiskSide) → HasNothingPending was.file → (r : ReadsTo was shown) → LeavesOnly was r.now (IsOpening was.file.bytes)
read_leaves was shown nothing_pending r = weaker was r.now (MayLeave was.file) (IsOpening was.file.bytes) (λ c left. inl (nothing_pending_is was.file c nothing_pending left)) r.leaves

-- where the file was only read
pub read_only : (was : DiskSide) (shown : Option DiskSide) → HasNothingPending was.file → ReadsTo was shown → RunsTo was shown (IsOpening was.file.bytes)
read_only was shown nothing_pending r = record { now = r.now; shows = r.shows; leaves = read_leaves was shown nothing_pending r }

pub nothing_pending_still : (was : DiskSide) (shown : Option DiskSide) → HasNothingPending was.file → (r : ReadsTo was shown) → HasNothingPending r.now.file
nothing_pending_still was shown nothing_pending r = subst HasNothingPending (sym r.same) nothing_pending

-- where the byte behind the records was set
pub sets_end_mark : (was : DiskSide) (read shown : Option DiskSide) (bytes : List ℕ) (ps : List (List ℕ)) (place : ℕ) → HasNothingPending was.file → (r : ReadsTo was read) → bytes ≡ was.file.bytes → Opens ps place bytes
    → RunsTo r.now shown (λ c. (c ≡ bytes) ⊎ (LacksEndMark place bytes × IsTorn place 1 bytes c)) → RunsTo was shown (IsOpening was.file.bytes)
sets_end_mark was read shown bytes ps place nothing_pending r is opens run =
    let each : (c : List ℕ) → (c ≡ bytes) ⊎ (LacksEndMark place bytes × IsTorn place 1 bytes c) → IsOpening bytes c = step bytes ps place opens in
    let weak : RunsTo r.now shown (IsOpening was.file.bytes) = runs_weaker r.now shown (λ c. (c ≡ bytes) ⊎ (LacksEndMark place bytes × IsTorn place 1 bytes c)) (IsOpening was.file.bytes) (λ c h. subst (λ (l : List ℕ). IsOpening l c) is (each c h)) run in
    runs_join was r.now shown (IsOpening was.file.bytes) (read_leaves was read nothing_pending r) weak
  where
    step : (bytes : List ℕ) (ps : List (List ℕ)) (place : ℕ) → Opens ps place bytes → (c : List ℕ) → (c ≡ bytes) ⊎ (LacksEndMark place bytes × IsTorn place 1 bytes c) → IsOpening bytes c
    step bytes ps place opens c (inl same) = inl same
    step bytes ps place opens c (inr h) = inr (record { payloads = ps; place = place; opens = opens; lacks = h.0; torn = h.1 })

has_not_lacks : (ps : List (List ℕ)) (place : ℕ) (c : List ℕ) → HasEndMark ps c → place ≡ length (records ps) → LacksEndMark place c → ⊥
has_not_lacks ps place c ends is lacks =
    let within : place < length c = omega (arith, is, ap length ends.bytes, length-append (records ps) (0 ∷ ends.rest)) in
    let zero_there : get_or c place 0 ≡ 0 = ap (λ (l : List ℕ). get_or l place 0) ends.bytes ∙ get_or_at (records ps) 0 ends.rest 0 place (sym is) in
    lacks within zero_there

set_whole : (ps : List (List ℕ)) (next : Option (List ℕ)) (before c : List ℕ) → IsWhole ps next before → SetsEndMark before c → IsWhole ps next c
set_whole ps None before c (inl ends) s =
    let one = opens_one_way s.payloads ps s.place (length (records ps)) before s.opens (ended_opens ps before ends) in
    absurd (has_not_lacks ps s.place before ends one.1 s.lacks)
set_whole ps None before c (inr bare) s =
    let one = opens_one_way s.payloads ps s.place 0 before s.opens (inr (bare, refl)) in
    inr (record { none = bare.none; few = omega (arith, bare.few, one.1, s.torn.no_longer) })
set_whole ps (Some p) before c staged s = elim (cases_eq staged.mark 1) [
  | inl is ↦
      let ends = staged_open ps p before staged is in
      let one = opens_one_way s.payloads (ps ++ p ∷ []) s.place (length (records (ps ++ p ∷ []))) before s.opens (ended_opens (ps ++ p ∷ []) before ends) in
      absurd (has_not_lacks (ps ++ p ∷ []) s.place before ends one.1 s.lacks)
  | inr ended ↦
      let one = opens_one_way s.payloads ps s.place (length (records ps)) before s.opens (inl (staged_ended ps p before staged ended)) in
      stays_staged ps p s.place before c staged one.1 s.torn
]

-- a whole file stays whole
pub still_whole : (ps : List (List ℕ)) (next : Option (List ℕ)) (before c : List ℕ) → IsWhole ps next before → IsOpening before c → IsWhole ps next c
still_whole ps next before c whole (inl same) = subst (IsWhole ps next) (sym same) whole
still_whole ps next before c whole (inr s) = set_whole ps next before c whole s

-- with a 0 behind its records a file has its end mark
ends_end : (ps : List (List ℕ)) (place : ℕ) (bytes now : List ℕ) → EndsAt ps place bytes → now ≡ put_at place (0 ∷ []) bytes → HasEndMark ps now × (place ≡ length (records ps))
ends_end ps place bytes now e is =
    let spelled : now ≡ records ps ++ (0 ∷ e.rest) = is ∙ ap (λ (k : ℕ). put_at k (0 ∷ []) bytes) e.place_is ∙ ap (put_at (length (records ps)) (0 ∷ [])) e.bytes ∙ put_mark (records ps) e.rest e.mark 0 in
    (record { rest = e.rest; bytes = spelled; short = e.short }, e.place_is)

ends_bare : (ps : List (List ℕ)) (place : ℕ) (bytes now : List ℕ) → ps ≡ [] → place ≡ 0 → now ≡ put_at place (0 ∷ []) bytes → HasEndMark ps now × (place ≡ length (records ps))
ends_bare ps place bytes now none start is =
    subst (λ (qs : List (List ℕ)). HasEndMark qs now × (place ≡ length (records qs))) (sym none) (record { rest = drop 1 bytes; bytes = is ∙ ap (λ (k : ℕ). put_at k (0 ∷ []) bytes) start; short = tt }, start)

ends_now : (ps : List (List ℕ)) (place : ℕ) (bytes now : List ℕ) → Opens ps place bytes → now ≡ put_at place (0 ∷ []) bytes → HasEndMark ps now × (place ≡ length (records ps))
ends_now ps place bytes now (inl e) is = ends_end ps place bytes now e is
ends_now ps place bytes now (inr b) is = ends_bare ps place bytes now b.0.none b.1 is

pub rests : (ps : List (List ℕ)) (place : ℕ) (bytes : List ℕ) (now : DiskSide) → Opens ps place bytes → now.file.bytes ≡ put_at place (0 ∷ []) bytes → HasNothingPending now.file → IsAtRest ps place now.file
rests ps place bytes now opens is nothing_pending = let c = ends_now ps place bytes now.file.bytes opens is in record { ends = c.0; place_is = c.1; nothing_pending = nothing_pending }

-- ---- appending

-- where nothing was written
pub rest_leaves : (ps : List (List ℕ)) (p : List ℕ) (place : ℕ) (h : FileState) (c : List ℕ) → IsAtRest ps place h → MayLeave h c → IsWithOrWithout ps p c
rest_leaves ps p place h c rest left = inl (inl (subst (HasEndMark ps) (sym (nothing_pending_is h c rest.nothing_pending left)) rest.ends))

-- behind the byte 0
pub behind_leaves : (ps : List (List ℕ)) (p : List ℕ) (place n : ℕ) (h : FileState) (c : List ℕ) → IsAtRest ps place h → IsTorn (place + 1) n h.bytes c → IsWithOrWithout ps p c
behind_leaves ps p place n h c rest torn = inl (inl (keeps_end_mark ps place n h.bytes c rest.ends rest.place_is torn))

-- and at it
pub mark_leaves : (ps : List (List ℕ)) (p : List ℕ) (place : ℕ) (old c : List ℕ) → IsStaged ps p old → place ≡ length (records ps) → IsTorn place 1 old c → IsWithOrWithout ps p c
mark_leaves ps p place old c staged is torn = inr (stays_staged ps p place old c staged is torn)

-- a run that ends in what is shown
pub ends_in : (was mid : DiskSide) (shown : Option DiskSide) (P : List ℕ → Type 0) → RunsTo was shown P → shown ≡ Some mid → LeavesOnly was mid P
ends_in was mid shown P run is =
    let both : Some run.now ≡ Some mid = sym run.shows ∙ is in
    let same : run.now ≡ mid = cc in
    subst (λ (d : DiskSide). LeavesOnly was d P) same run.leaves

-- ---- the calls of an append

-- what is written behind the byte 0, and what is shown then
abbrev pub behind : List ℕ → List ℕ
behind p = framed p ++ (0 ∷ [])

abbrev pub staged_on : ℕ → List ℕ → DiskSide → DiskSide
staged_on place p was = synced (written (place + 1) (length (behind p)) (behind p) was)

abbrev pub added_on : ℕ → List ℕ → DiskSide → DiskSide
added_on place p was = synced (written place 1 (1 ∷ []) (staged_on place p was))

-- each of the four is one call more
pub four_calls : (place : ℕ) (p : List ℕ) (was : DiskSide) → length (added_on place p was).past ≡ length was.past + 4
four_calls place p was =
    let first = written (place + 1) (length (behind p)) (behind p) was in
    let second = staged_on place p was in
    let third = written place 1 (1 ∷ []) second in
    let one : length first.past ≡ length was.past + 1 = length-append was.past (was.file ∷ []) in
    let two : length second.past ≡ length first.past + 1 = length-append first.past (first.file ∷ []) in
    let three : length third.past ≡ length second.past + 1 = length-append second.past (second.file ∷ []) in
    let four : length (added_on place p was).past ≡ length third.past + 1 = length-append third.past (third.file ∷ []) in
    omega (arith, one, two, three, four)

pub nothing_on : (was : DiskSide) (shown : Option DiskSide) (ps : List (List ℕ)) (p : List ℕ) (place : ℕ) → shown ≡ Some was → IsAtRest ps place was.file → RunsTo was shown (IsWithOrWithout ps p)
nothing_on was shown ps p place is rest = record { now = was; shows = is; leaves = starts was (IsWithOrWithout ps p) (λ c left. rest_leaves ps p place was.file c rest left) }

pub behind_on : (was : DiskSide) (shown : Option DiskSide) (ps : List (List ℕ)) (p : List ℕ) (place n : ℕ) → IsAtRest ps place was.file → RunsTo was shown (IsTorn (place + 1) n was.file.bytes) → RunsTo was shown (IsWithOrWithout ps p)
behind_on was shown ps p place n rest run = runs_weaker was shown (IsTorn (place + 1) n was.file.bytes) (IsWithOrWithout ps p) (λ c torn. behind_leaves ps p place n was.file c rest torn) run

pub mark_on : (was : DiskSide) (first second : Option DiskSide) (ps : List (List ℕ)) (p : List ℕ) (place : ℕ) → IsAtRest ps place was.file → length p < 2 ^ 32 → RunsTo was first (IsWithOrWithout ps p) → first ≡ Some (staged_on place p was)
    → RunsTo (staged_on place p was) second (IsTorn place 1 (staged_on place p was).file.bytes) → RunsTo was second (IsWithOrWithout ps p)
mark_on was first second ps p place rest short run is next =
    let mid = staged_on place p was in
    let staged = is_staged ps p place was.file.bytes rest.ends short rest.place_is in
    runs_join was mid second (IsWithOrWithout ps p) (ends_in was mid first (IsWithOrWithout ps p) run is)
    (runs_weaker mid second (IsTorn place 1 mid.file.bytes) (IsWithOrWithout ps p) (λ c torn. mark_leaves ps p place mid.file.bytes c staged.0 rest.place_is torn) next)

pub added_rests : (was : DiskSide) (ps : List (List ℕ)) (p : List ℕ) (place : ℕ) → IsAtRest ps place was.file → length p < 2 ^ 32 → IsAtRest (ps ++ p ∷ []) (place + 5 + length p) (added_on place p was).file
added_rests was ps p place rest short =
    let mid = staged_on place p was in
    let staged = is_staged ps p place was.file.bytes rest.ends short rest.place_is in
    record {
      ends = is_added ps p place mid.file.bytes staged.0 rest.place_is;
      place_is = omega (arith, rest.place_is, length-records-push ps p);
      nothing_pending = nothing_pending_synced (written place 1 (1 ∷ []) mid).file;
    }

-- and its bytes are those from before, but for the record and the byte behind it
pub added_bytes : (was : DiskSide) (ps : List (List ℕ)) (p : List ℕ) (place : ℕ) → IsAtRest ps place was.file → (added_on place p was).file.bytes ≡ added_at place p was.file.bytes
added_bytes was ps p place rest =
    let front = records ps in
    let c = was.file.bytes in
    ap (λ (k : ℕ). put_at k (1 ∷ []) (put_at (k + 1) (behind p) c)) rest.place_is
    ∙ ap (λ (l : List ℕ). put_at (length front) (1 ∷ []) (put_at (length front + 1) (behind p) l)) rest.ends.bytes
    ∙ put_both front rest.ends.rest 0 1 (behind p)
    ∙ ap (λ (l : List ℕ). put_at (length front) (1 ∷ behind p) l) (sym rest.ends.bytes)
    ∙ ap (λ (k : ℕ). put_at k (1 ∷ behind p) c) (sym rest.place_is)

-- the mark stands in the file
pub mark_within : (shown first : Option DiskSide) (p : List ℕ) (place : ℕ) → length p < 2 ^ 32 → IfSome shown (λ was. (ps : List (List ℕ)) × IsAtRest ps place was.file) → (shown ≡ None → first ≡ None)
    → ((was : DiskSide) → shown ≡ Some was → first ≡ Some (staged_on place p was)) → IfSome first (λ was. place ≤ length was.file.bytes)
mark_within None first p place short at_rest unshown ok = subst (λ (o : Option DiskSide). IfSome o (λ was. place ≤ length was.file.bytes)) (sym (unshown refl)) tt
mark_within (Some was) first p place short at_rest unshown ok =
    let rest = at_rest.1 in
    let staged = is_staged at_rest.0 p place was.file.bytes rest.ends short rest.place_is in
    let within : place ≤ length (staged_on place p was).file.bytes = omega (arith, rest.place_is, ap length staged.0.bytes, length-append (records at_rest.0) (staged.0.mark ∷ (framed p ++ (0 ∷ staged.0.rest)))) in
    subst (λ (o : Option DiskSide). IfSome o (λ d. place ≤ length d.file.bytes)) (sym (ok was refl)) within

-- ---- the byte behind the records

abbrev pub EndMarkLeaves : ℕ → List ℕ → List ℕ → Type 0
EndMarkLeaves place bytes c = (c ≡ bytes) ⊎ (LacksEndMark place bytes × IsTorn place 1 bytes c)

pub end_mark_none : (was : DiskSide) (shown : Option DiskSide) (bytes : List ℕ) (place : ℕ) → shown ≡ Some was → was.file.bytes ≡ bytes → HasNothingPending was.file → RunsTo was shown (EndMarkLeaves place bytes)
end_mark_none was shown bytes place is same nothing_pending = record { now = was; shows = is; leaves = starts was (EndMarkLeaves place bytes) (λ c left. inl (nothing_pending_is was.file c nothing_pending left ∙ same)) }

pub end_mark_on : (was : DiskSide) (shown : Option DiskSide) (bytes : List ℕ) (place : ℕ) → was.file.bytes ≡ bytes → LacksEndMark place bytes → RunsTo was shown (IsTorn place 1 was.file.bytes) → RunsTo was shown (EndMarkLeaves place bytes)
end_mark_on was shown bytes place same lacks run = runs_weaker was shown (IsTorn place 1 was.file.bytes) (EndMarkLeaves place bytes) (λ c torn. inr (lacks, subst (λ (l : List ℕ). IsTorn place 1 l c) same torn)) run

-- what was read is what the file has
pub read_bytes : (shown read : Option DiskSide) (bytes : List ℕ) → ((was : DiskSide) → shown ≡ Some was → ReadsTo was read) → (shown ≡ None → read ≡ None) → ((was : DiskSide) → shown ≡ Some was → bytes ≡ was.file.bytes) → IfSome read (λ d. d.file.bytes ≡ bytes)
read_bytes None read bytes reads unshown are = subst (λ (o : Option DiskSide). IfSome o (λ d. d.file.bytes ≡ bytes)) (sym (unshown refl)) tt
read_bytes (Some was) read bytes reads unshown are =
    let r = reads was refl in
    subst (λ (o : Option DiskSide). IfSome o (λ d. d.file.bytes ≡ bytes)) (sym r.shows) (ap (λ (h : FileState). h.bytes) r.same ∙ sym (are was refl))

pub still : (was : DiskSide) (shown : Option DiskSide) (ps : List (List ℕ)) (next : Option (List ℕ)) → IsWhole ps next was.file.bytes → RunsTo was shown (IsOpening was.file.bytes) → RunsTo was shown (IsWhole ps next)
still was shown ps next whole run = runs_weaker was shown (IsOpening was.file.bytes) (IsWhole ps next) (λ c opening. still_whole ps next was.file.bytes c whole opening) run

-- a file that was read and found no fault of the disk's was only read
pub left_by : (was : DiskSide) (shown : Option DiskSide) (e : OpenFault) → ReadsTo was shown → LeftBy was shown e
left_by was shown (fault.Damaged at) r = r
left_by was shown fault.Disk r = tt
left_by was shown fault.Memory r = tt

-- and a fault of the disk says nothing
pub left_by_disk : (was : DiskSide) (shown : Option DiskSide) (e : DiskFault) → LeftBy was shown (open_fault e)
left_by_disk was shown disk.Failed = tt
left_by_disk was shown disk.Memory = tt

-- ---- what the next call asks

pub ready_next : (shown now : Option DiskSide) (p : List ℕ) (place next : ℕ) → IsReady shown place → (shown ≡ None → now ≡ None)
    → ((was : DiskSide) → shown ≡ Some was → (ps : List (List ℕ)) → IsAtRest ps place was.file → (then_shown : DiskSide) × (now ≡ Some then_shown) × IsAtRest (ps ++ p ∷ []) next then_shown.file × (then_shown.file.bytes ≡ added_at place p was.file.bytes)) → IsReady now next
ready_next None now p place next ready unshown goes = subst (λ (o : Option DiskSide). IsReady o next) (sym (unshown refl)) tt
ready_next (Some was) now p place next ready unshown goes =
    let to = goes was refl ready.0 ready.1 in
    subst (λ (o : Option DiskSide). IsReady o next) (sym to.1) (ready.0 ++ p ∷ [], to.2)

pub ready_opened : (shown now : Option DiskSide) (ps : List (List ℕ)) (place : ℕ) → (shown ≡ None → now ≡ None) → ((was : DiskSide) → shown ≡ Some was → (then_shown : DiskSide) × (now ≡ Some then_shown) × IsAtRest ps place then_shown.file × (then_shown.file.bytes ≡ opened_at place was.file.bytes)) → IsReady now place
ready_opened None now ps place unshown goes = subst (λ (o : Option DiskSide). IsReady o place) (sym (unshown refl)) tt
ready_opened (Some was) now ps place unshown goes = let to = goes was refl in subst (λ (o : Option DiskSide). IsReady o place) (sym to.1) (ps, to.2)
