-- Batches that are taken while workers search.
use Rattle.std.proofs.Common.{◌≡◌, ℕ, ◌<◌, true, List, [], ◌∷◌, ◌++◌, length, map, take, get_or, slice_get, sym, ap, ◌∙◌, subst, arith, inl, inr, ⊎_elim, ◌⊎◌, true≢false}
use Rattle.std.specs.Prelude.{Some}
use Rattle.std.proofs.lemmas.List.{map-append}
use mathlib.Core.List.{IsPrefix}
use Rattle.turn_book.specs.declared.view.Tags.{Tags}
use Rattle.turn_book.specs.Names.{knows}
use Rattle.turn_book.specs.Places.{has, merge}
use Rattle.turn_book.specs.Knowing.{AreNested, longer, tags_at, next_name, split_tags, join_tags, split_left, split_right, joined}
use Rattle.turn_book.proofs.Bools.{off}
use Rattle.turn_book.proofs.Places.{has_snoc, has_last, has_merge}
use Rattle.turn_book.proofs.Naming.{knows-append, knows-back, without-only}
use Rattle.day_orders.specs.declared.orders.Batch.{Batch}
use Rattle.desk_data.specs.Situation.{Situation}
use Rattle.desk_model.specs.declared.answer.Entry.{Entry}
use Rattle.desk_model.specs.States.{opening}
use Rattle.desk_model.specs.Histories.{is_batch}
use Rattle.near_moves.specs.Descents.{batches_in}
use Rattle.desk_teams.specs.Teams.{HasStopped, IsTeamwork}
use Rattle.desk_teams.proofs.TrailLaws.{get-below}
use Rattle.desk_pool.specs.declared.worker.Worker.{Worker}
use Rattle.desk_pool.specs.Rounds.{Knows, place_of}
use Rattle.desk_pool.specs.Workers.{trail_of, AreAllShards, CanAllSearch}
use Rattle.desk_pool.specs.Laps.{new_items, new_places, SomeNew, HasGained, IsReturned}
use Rattle.desk_pool.proofs.Gaining.{has_in_front, has_in_back}
use Rattle.recovery_commands.specs.Taking.{TakesOne, TakesFirst, AreDeskBatches, OnlyAt, HasMakers, AllInBudget}
use Rattle.recovery_commands.specs.Running.{SomeNoted, HasMadeAll, LiveSoFar}
use Rattle.recovery_commands.proofs.Makers.{noted_at, same_entry, made_by_makers, move_not_batch}
use Rattle.turn_book.proofs.Prefixes.{prefix_length}
use Rattle.recovery_commands.proofs.Running.{none_noted, none_in_budget, budget_longer, budget_gained, taken_some, first_batch, later_gained}
use Rattle.recovery_commands.proofs.Longer.{begins_first, begins_second}
use Rattle.recovery_commands.proofs.Taking.{desk_goes_on, desk_more}

-- ---- what workers noted

module _ (most low : ℕ) (v w : Knows) (workers_before workers_after : List Worker) (gained : HasGained most low v w workers_before workers_after) where
  noted_places : (i : ℕ) (d : Worker) → i < length workers_before → map place_of (trail_of (get_or workers_after i d)) ≡ map place_of (trail_of (get_or workers_before i d)) ++ new_places (get_or workers_before i d) (get_or workers_after i d)
  noted_places i d lt = ap (map place_of) (gained.trails i d lt).trail ∙ map-append place_of (trail_of (get_or workers_before i d)) (new_items (get_or workers_before i d) (get_or workers_after i d))

  noted_before : (k : ℕ) → SomeNoted workers_before k → SomeNoted workers_after k
  noted_before k some = (some.0, some.1, (let lt = some.2 in omega (arith, gained.workers, lt)), ap (has k) (noted_places some.0 some.1 some.2) ∙ has_in_front k _ _ some.3)

  noted_since : (k : ℕ) → SomeNew workers_before workers_after k → SomeNoted workers_after k
  noted_since k some = (some.0, some.1, (let lt = some.2 in omega (arith, gained.workers, lt)), ap (has k) (noted_places some.0 some.1 some.2) ∙ has_in_back k (map place_of (trail_of (get_or workers_before some.0 some.1))) _ some.3)

  noted_then : (desk : List ℕ) (k : ℕ) → (has k desk ≡ true) ⊎ SomeNoted workers_before k → (has k desk ≡ true) ⊎ SomeNoted workers_after k
  noted_then desk k (inl mine) = inl mine
  noted_then desk k (inr some) = inr (noted_before k some)

  -- more rounds
  pub live_gained : (I : Situation) → CanAllSearch I workers_after w.seen → 0 < low → (done : List Batch) → LiveSoFar most v workers_before done → LiveSoFar most w workers_after done
  live_gained I ready some done live = record {
    begun = (let more = prefix_length v.seen w.seen gained.began in let begun = live.begun in omega (arith, more, begun));
    later = later_gained most low I v w workers_before workers_after ready gained some live.later;
    in_budget = budget_gained most low v w workers_before workers_after gained live.in_budget;
    desk = live.desk;
    batches = desk_goes_on v.seen w.seen live.desk done gained.began live.batches;
    made_only = λ k is. ⊎_elim
        (λ (old : has k v.made ≡ true). noted_then live.desk k (live.made_only k old))
        (λ (some : SomeNew workers_before workers_after k). inr (noted_since k some))
        (gained.made_only k is);
  }

-- ---- the first batch

pub live_first : (most : ℕ) (I : Situation) (B : Batch) (v w : Knows) (workers : List Worker) → v.seen ≡ [] → v.made ≡ [] → CanAllSearch I workers v.seen → TakesOne I B v w → LiveSoFar most w workers (B ∷ [])
live_first most I B v w workers seen made ready one = record {
  begun = taken_some I B v w one;
  later = none_noted I workers v.seen seen ready;
  in_budget = none_in_budget most I workers v.seen w.seen seen ready;
  desk = length one.before ∷ [];
  batches = desk_more I B v w [] [] one (record { entries = λ k is. absurd (off is); taken = λ only. ap batches_in seen });
  made_only = λ k is. ⊎_elim
      (λ (old : has k v.made ≡ true). absurd (off (ap (has k) (sym made) ∙ old)))
      (λ (last : k ≡ length one.before). inl (has_last k [] (length one.before) last))
      (has_snoc k v.made (length one.before) (ap (has k) (sym one.made) ∙ is));
}

-- ---- the desk's pass is joined again

-- w has seen what the desk and the team saw, and has the places of both
pub record AreTogether (desk team w : Knows) : Type 0 where
  pub desk_seen : IsPrefix desk.seen w.seen
  pub team_seen : IsPrefix team.seen w.seen
  pub made : (k : ℕ) → has k w.made ≡ true → (has k team.made ≡ true) ⊎ (has k desk.made ≡ true)

pub live_together : (most : ℕ) (I : Situation) (n : ℕ) (batches : List Batch) (v begun start desk team w : Knows) (workers_before workers_after : List Worker) (done : List Batch)
    → LiveSoFar most v workers_before done → start.seen ≡ v.seen → start.made ≡ [] → TakesFirst n batches start desk → begun.seen ≡ v.seen → begun.made ≡ v.made → HasGained most (length begun.seen) begun team workers_before workers_after → CanAllSearch I workers_after team.seen → AreTogether desk team w
    → LiveSoFar most w workers_after (done ++ take n batches)
live_together most I n batches v begun start desk team w workers_before workers_after done live seen made first still same gained ready both =
    let some : 0 < length begun.seen = (let e : length begun.seen ≡ length v.seen = ap length still in let at = live.begun in omega (arith, e, at)) in
    let begins : AreDeskBatches start.seen live.desk done = subst (λ (h : List Entry). AreDeskBatches h live.desk done) (sym seen) live.batches in
    let desk_made : desk.made ≡ first.places = first.made ∙ ap (λ (l : List ℕ). l ++ first.places) made in
    record {
      begun = (let by_team = prefix_length begun.seen team.seen gained.began in let more = prefix_length team.seen w.seen both.team_seen in omega (arith, some, by_team, more));
      later = later_gained most (length begun.seen) I begun team workers_before workers_after ready gained some live.later;
      in_budget = budget_longer most workers_after team.seen w.seen both.team_seen (budget_gained most (length begun.seen) begun team workers_before workers_after gained (subst (AllInBudget most workers_before) (sym still) live.in_budget));
      desk = live.desk ++ first.places;
      batches = desk_goes_on desk.seen w.seen (live.desk ++ first.places) (done ++ take n batches) both.desk_seen (first.goes_on live.desk done begins);
      made_only = λ k is. ⊎_elim
          (λ (by_team : has k team.made ≡ true). ⊎_elim
          (λ (old : has k begun.made ≡ true). ⊎_elim
          (λ (mine : has k live.desk ≡ true). inl (has_in_front k live.desk first.places mine))
          (λ (some : SomeNoted workers_before k). inr (noted_before most (length begun.seen) begun team workers_before workers_after gained k some))
          (live.made_only k (ap (has k) (sym same) ∙ old)))
          (λ (some : SomeNew workers_before workers_after k). inr (noted_since most (length begun.seen) begun team workers_before workers_after gained k some))
          (gained.made_only k by_team))
          (λ (by_desk : has k desk.made ≡ true). inl (has_in_back k live.desk first.places (ap (has k) (sym desk_made) ∙ by_desk)))
          (both.made k is);
    }

pub together : (desk team w : Knows) → AreNested team.seen desk.seen → w.seen ≡ longer team.seen desk.seen → w.made ≡ merge team.made desk.made → AreTogether desk team w
together desk team w nested seen made = record {
  desk_seen = begins_second team.seen desk.seen w.seen nested seen;
  team_seen = begins_first team.seen desk.seen w.seen nested seen;
  made = λ k is. has_merge k team.made desk.made (ap (has k) (sym made) ∙ is);
}

-- nothing more is out than before the desk's pass was split
pub returned_joined : (v begun start desk team w : Knows) → begun.tags ≡ split_tags v.tags → start.tags ≡ tags_at (next_name v.tags) → desk.tags ≡ start.tags → IsReturned begun team → w.tags ≡ join_tags team desk → IsReturned v w
returned_joined v begun start desk team w split_is start_is same returned joined_is =
    let mine : desk.tags ≡ tags_at (next_name v.tags) = same ∙ start_is in
    record {
      name = ap (λ (t : Tags Entry). t.name) joined_is ∙ returned.name ∙ ap (λ (t : Tags Entry). t.name) split_is;
      out = λ m is.
          let left = without-only m (team.tags.names ++ desk.tags.names) (team.tags.out ++ desk.tags.out) (ap (λ (t : Tags Entry). knows m t.out) (sym joined_is) ∙ is) in
          ⊎_elim
          (λ (by_team : knows m team.tags.out ≡ true). ⊎_elim
          (λ (old : knows m v.tags.out ≡ true). old)
          (λ (new : knows m (next_name v.tags ∷ []) ≡ true). absurd (off (sym left.1 ∙ knows-back m team.tags.names desk.tags.names (ap (λ (t : Tags Entry). knows m t.names) mine ∙ new))))
          (knows-append m v.tags.out (next_name v.tags ∷ []) (ap (λ (t : Tags Entry). knows m t.out) (sym split_is) ∙ returned.out m by_team)))
          (λ (by_desk : knows m desk.tags.out ≡ true). absurd (off (ap (λ (t : Tags Entry). knows m t.out) (sym mine) ∙ by_desk)))
          (knows-append m team.tags.out desk.tags.out left.0);
    }

-- the desk's pass was split from this one, which the team then had, and is joined to it again
pub joined_returned : (v begun start desk team w : Knows) → begun ≡ split_left v → start ≡ split_right v → desk.tags ≡ start.tags → IsReturned begun team → w ≡ joined team desk → IsReturned v w
joined_returned v begun start desk team w left right same returned is =
    returned_joined v begun start desk team w (ap (λ (x : Knows). x.tags) left) (ap (λ (x : Knows). x.tags) right) same returned (ap (λ (x : Knows). x.tags) is)

pub joined_live : (most : ℕ) (I : Situation) (n : ℕ) (batches : List Batch) (v begun start desk team w : Knows) (workers_before workers_after : List Worker) (done : List Batch)
    → LiveSoFar most v workers_before done → begun ≡ split_left v → start ≡ split_right v → TakesFirst n batches start desk → HasGained most (length begun.seen) begun team workers_before workers_after → CanAllSearch I workers_after team.seen → AreNested team.seen desk.seen → w ≡ joined team desk
    → LiveSoFar most w workers_after (done ++ take n batches)
joined_live most I n batches v begun start desk team w workers_before workers_after done live left right first gained ready nested is =
    live_together most I n batches v begun start desk team w workers_before workers_after done live
    (ap (λ (x : Knows). x.seen) right) (ap (λ (x : Knows). x.made) right) first (ap (λ (x : Knows). x.seen) left) (ap (λ (x : Knows). x.made) left) gained ready
    (together desk team w nested (ap (λ (x : Knows). x.seen) is) (ap (λ (x : Knows). x.made) is))

-- ---- all of it

noted_no_batch : (I : Situation) (h : List Entry) (workers : List Worker) (ready : CanAllSearch I workers h) (k : ℕ) (entry : Entry) → SomeNoted workers k → slice_get h k ≡ Some entry → is_batch entry.event ≡ true → ⊥
noted_no_batch I h workers ready k entry some at batch =
    let found = noted_at (trail_of (get_or workers some.0 some.1)) k some.3 in
    let item = (ready some.0 some.1 some.2).trail.items found.0 found.1 found.2 in
    let is : item.entry ≡ entry = same_entry h k item.entry entry (ap (slice_get h) (sym found.3) ∙ item.there) at in
    move_not_batch entry.event item.first.move (ap (λ (x : Entry). x.event) (sym is) ∙ item.first.proposed) batch

only_at : (most : ℕ) (I : Situation) (v : Knows) (workers : List Worker) (done : List Batch) (live : LiveSoFar most v workers done) → HasMadeAll v → CanAllSearch I workers v.seen → OnlyAt live.desk v.seen
only_at most I v workers done live all ready k entry at batch = ⊎_elim
    (λ (mine : has k live.desk ≡ true). mine)
    (λ (some : SomeNoted workers k). absurd (noted_no_batch I v.seen workers ready k entry some at batch))
    (live.made_only k (all k (get-below v.seen k entry at)))

pub live_batches : (most : ℕ) (I : Situation) (v : Knows) (workers : List Worker) (done : List Batch) → LiveSoFar most v workers done → HasMadeAll v → CanAllSearch I workers v.seen → batches_in v.seen ≡ done
live_batches most I v workers done live all ready = live.batches.taken (only_at most I v workers done live all ready)

pub live_teamwork : (most : ℕ) (I : Situation) (v : Knows) (workers : List Worker) (done : List Batch) → LiveSoFar most v workers done → HasMadeAll v → AreAllShards workers → CanAllSearch I workers v.seen → HasStopped most (opening I) v.seen → IsTeamwork (length workers) most true (opening I) done v.seen
live_teamwork most I v workers done live all shards ready stopped =
    let with_makers : HasMakers v.seen live.desk workers = record { batches = live.batches.entries; all = λ k lt. live.made_only k (all k lt) } in
    let made = made_by_makers I most v.seen live.desk workers shards ready live.in_budget with_makers in
    record {
      taken = live_batches most I v workers done live all ready;
      desk = made.desk;
      first = first_batch v.seen live.desk workers live.batches.entries with_makers.all live.later;
      proposals = made.proposals;
      waits = λ turns. absurd (true≢false turns);
      stopped = stopped;
    }
