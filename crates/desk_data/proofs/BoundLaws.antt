-- What a path of passengers is bound to: it begins with what has begun, and keeps to what has left.
use Rattle.std.proofs.Common.{◌≡◌, ℕ, ◌≤◌, true, eqb, leb, List, length, take, drop, refl, ap, ◌∙◌, arith}
use Rattle.std.specs.Bool.{Decides}
use Rattle.std.specs.List.{starts_with}
use Rattle.std.proofs.lemmas.Bool.{and_parts, and_from, eqb-true, eq-eqb, leb-true, le-leb}
use Rattle.std.proofs.lemmas.Slice.Eq.{starts_is}
use Rattle.desk_units.specs.Ranks.{cabin_rank}
use Rattle.desk_units.specs.declared.numbers.Cabin.{Cabin}
use Rattle.desk_units.specs.declared.numbers.Cabin.TheVariants as cabin
use Rattle.desk_units.specs.declared.numbers.Leg.{Leg}
use Rattle.desk_data.specs.declared.row.Group.{Group}
use Rattle.desk_data.specs.Begun.{AreNoMoreCarried, BeginsAsBegun, KeepsToLeft}
use Rattle.desk_data.specs.Booked.{booked_path}
use Rattle.desk_data.specs.PlanRows.{same_path}
use Rattle.desk_data.specs.Situation.{Situation, begun, begins_as_begun, bound, carried_gone, gone, has_room_behind, same_pair, tallied}

pub rank-same : (a b : Cabin) → cabin_rank a ≡ cabin_rank b → a ≡ b
rank-same cabin.F cabin.F h = refl
rank-same cabin.F cabin.B h = absurd (omega arith)
rank-same cabin.F cabin.E h = absurd (omega arith)
rank-same cabin.B cabin.F h = absurd (omega arith)
rank-same cabin.B cabin.B h = refl
rank-same cabin.B cabin.E h = absurd (omega arith)
rank-same cabin.E cabin.F h = absurd (omega arith)
rank-same cabin.E cabin.B h = absurd (omega arith)
rank-same cabin.E cabin.E h = refl

pub same_pair-holds : (a b : Leg × Cabin) → same_pair a b ≡ true → a ≡ b
same_pair-holds a b h =
    let parts = and_parts (eqb a.0.0 b.0.0) (eqb (cabin_rank a.1) (cabin_rank b.1)) h in
    ap (λ (k : ℕ). let pair : Leg × Cabin = (record { 0 = k }, a.1) in pair) (eqb-true a.0.0 b.0.0 parts.0)
    ∙ ap (λ (c : Cabin). let pair : Leg × Cabin = (b.0, c) in pair) (rank-same a.1 b.1 (eqb-true (cabin_rank a.1) (cabin_rank b.1) parts.1))

same_pair-from : (a b : Leg × Cabin) → a ≡ b → same_pair a b ≡ true
same_pair-from a b is =
    and_from (eqb a.0.0 b.0.0) (eqb (cabin_rank a.1) (cabin_rank b.1))
    (eq-eqb a.0.0 b.0.0 (ap (λ (pair : Leg × Cabin). pair.0.0) is))
    (eq-eqb (cabin_rank a.1) (cabin_rank b.1) (ap (λ (pair : Leg × Cabin). cabin_rank pair.1) is))

-- one pair is the same as another just where they are equal
pub same_pair-Decides : (a b : Leg × Cabin) → Decides (same_pair a b) (a ≡ b)
same_pair-Decides a b = (same_pair-holds a b, same_pair-from a b)

begins-holds : (I : Situation) (r : ℕ) (path : List (Leg × Cabin)) → begins_as_begun I r path ≡ true → BeginsAsBegun I r path
begins-holds I r path h =
    let begun_legs = take (begun I r) (booked_path I r) in
    record {
      rest = drop (length begun_legs) path;
      whole = (starts_is same_pair-Decides path begun_legs (starts_with same_pair path begun_legs) refl).0 h;
    }

begins-from : (I : Situation) (r : ℕ) (path : List (Leg × Cabin)) → BeginsAsBegun I r path → begins_as_begun I r path ≡ true
begins-from I r path h =
    let begun_legs = take (begun I r) (booked_path I r) in
    (starts_is same_pair-Decides path begun_legs (starts_with same_pair path begun_legs) refl).1 h.rest h.whole

pub bound-holds : (I : Situation) (r : ℕ) (groups : List Group) (path : List (Leg × Cabin)) → bound I r groups path ≡ true → KeepsToLeft I r groups path
unfolding bound
bound-holds I r groups path h =
    let legs = gone I path in
    let n = tallied I r legs in
    let front = and_parts (begins_as_begun I r path) (has_room_behind I r groups path) h in
    let room = and_parts (leb 1 n) (leb (carried_gone I.progress.frozen groups legs) n) front.1 in
    record {
      begins = begins-holds I r path front.0;
      room = record { some = leb-true 1 n room.0; room = leb-true (carried_gone I.progress.frozen groups legs) n room.1 };
    }

pub bound-from : (I : Situation) (r : ℕ) (groups : List Group) (path : List (Leg × Cabin)) → KeepsToLeft I r groups path → bound I r groups path ≡ true
unfolding bound
bound-from I r groups path h =
    let legs = gone I path in
    let n = tallied I r legs in
    and_from (begins_as_begun I r path) (has_room_behind I r groups path) (begins-from I r path h.begins)
    (and_from (leb 1 n) (leb (carried_gone I.progress.frozen groups legs) n) (le-leb 1 n h.room.some)
    (le-leb (carried_gone I.progress.frozen groups legs) n h.room.room))

-- where no more are carried, whichever paths are counted, a path that was bound is bound
pub bound-fewer : (I : Situation) (r : ℕ) (fewer more : List Group) (path : List (Leg × Cabin)) → AreNoMoreCarried fewer more → bound I r more path ≡ true → bound I r fewer path ≡ true
bound-fewer I r fewer more path less is =
    let legs = gone I path in
    let kept = bound-holds I r more path is in
    let fewer_here : carried_gone I.progress.frozen fewer legs ≤ carried_gone I.progress.frozen more legs = less (λ other. same_path (gone I other) legs) in
    bound-from I r fewer path (record {
      begins = kept.begins;
      room = record { some = kept.room.some; room = omega (arith, kept.room.room, fewer_here) };
    })
