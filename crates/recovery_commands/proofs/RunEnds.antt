-- How a run ended.
use Rattle.std.proofs.Common.{◌≡◌, ℕ, zero, suc, ◌<◌, ◌≤◌, Bool, true, false, List, [], ◌∷◌, ◌++◌, length, take, sym, ap, ◌∙◌, subst, arith, length-append}
use Rattle.std.specs.Prelude.{Some, Option, IsSome, IfSome, Result, Ok, Err, IfOk}
use Rattle.std.proofs.lemmas.List.{length-take, take_all}
use Rattle.day_orders.specs.declared.orders.Batch.{Batch}
use Rattle.desk_data.specs.Situation.{Situation}
use Rattle.desk_model.specs.declared.answer.Entry.{Entry}
use Rattle.desk_model.specs.Histories.{batch_limit}
use Rattle.near_moves.specs.Descents.{batches_in}
use Rattle.desk_teams.specs.declared.report.Vote.{Vote}
use Rattle.desk_pool.specs.declared.worker.Worker.{Worker}
use Rattle.desk_pool.specs.Rounds.{Knows}
use Rattle.desk_pool.specs.Voted.{IsVoteOf}
use Rattle.desk_pool.specs.Laps.{HasGained}
use Rattle.desk_pool.specs.Workers.{AreAllShards, CanAllSearch}
use Rattle.recovery_commands.specs.Running.{HasMadeAll, RunSoFar, LiveSoFar, IsVoted, IsTeamRun, IsLiveRun}
use Rattle.recovery_commands.specs.declared.searched.Searched.{Searched}
use Rattle.recovery_commands.specs.declared.searched.Searched.TheVariants as searched
use Rattle.turn_book.specs.Knowing.{AreNested, longer}
use Rattle.turn_book.proofs.Prefixes.{prefix_length}
use Rattle.recovery_commands.proofs.Longer.{begins_second}
use Rattle.recovery_commands.proofs.Running.{teamwork, vote_stops}
use Rattle.recovery_commands.proofs.Living.{live_batches, live_teamwork, live_gained}

same_vote : (a b : Vote) → searched.Voted a ≡ searched.Voted b → a ≡ b
same_vote a b e = cc e

not_full : (vote : Vote) → searched.Voted vote ≡ searched.Full → ⊥
not_full vote e = absurd cc

not_voted : (vote : Vote) → searched.Full ≡ searched.Voted vote → ⊥
not_voted vote e = absurd cc

take_few : (n : ℕ) (batches : List Batch) → length (take n batches) ≤ length batches
take_few n batches = omega (arith, length-take n batches)

-- ---- in turn

pub in_turn_voted : (most : ℕ) (I : Situation) (v : Knows) (workers : List Worker) (batches : List Batch) (vote : Vote) → RunSoFar most I v workers batches → AreAllShards workers → CanAllSearch I workers v.seen → IsVoteOf most I (length workers) v.seen vote
    → IsTeamRun (length workers) most false I batches v (searched.Voted vote)
in_turn_voted most I v workers batches vote run shards ready is = record {
  voted = λ other e. (λ all. teamwork most I v workers batches run all shards ready (vote_stops most I (length workers) v.seen vote is), subst (IsVoteOf most I (length workers) v.seen) (same_vote vote other e) is);
  full = λ e. absurd (not_full vote e);
}

the_vote : (most : ℕ) (I : Situation) (n : ℕ) (h : List Entry) (count : ℕ) (vote : Vote) (voted : Option Vote) → 0 < count → voted ≡ Some vote → IsVoted most I n h count voted → IsVoteOf most I n h vote
the_vote most I n h zero vote voted some is ends = absurd (omega (arith, some))
the_vote most I n h (suc count) vote voted some is ends = (subst (λ (o : Option Vote). IsSome o × IfSome o (IsVoteOf most I n h)) is ends).1

pub in_turn_ended : (n most : ℕ) (I : Situation) (v : Knows) (workers : List Worker) (batches : List Batch) (index : ℕ) (vote : Vote) (voted : Option Vote) → length batches ≤ index → 0 < length batches → RunSoFar most I v workers (take index batches) → AreAllShards workers → CanAllSearch I workers v.seen
    → IsVoted most I n v.seen index voted → voted ≡ Some vote → length workers ≡ n → IsTeamRun n most false I batches v (searched.Voted vote)
in_turn_ended n most I v workers batches index vote voted le some run shards ready ends is len =
    let here : IsVoteOf most I (length workers) v.seen vote = subst (λ (m : ℕ). IsVoteOf most I m v.seen vote) (sym len) (the_vote most I n v.seen index vote voted (omega (arith, le, some)) is ends) in
    let whole : RunSoFar most I v workers batches = subst (RunSoFar most I v workers) (take_all index batches le) run in
    subst (λ (m : ℕ). IsTeamRun m most false I batches v (searched.Voted vote)) len (in_turn_voted most I v workers batches vote whole shards ready here)

pub in_turn_full : (n most : ℕ) (I : Situation) (v : Knows) (batches : List Batch) (count : ℕ) → (HasMadeAll v → batches_in v.seen ≡ take count batches) → batch_limit ≤ length v.seen → (live : Bool) → IsTeamRun n most live I batches v searched.Full
in_turn_full n most I v batches count taken long live = record {
  voted = λ vote e. absurd (not_voted vote e);
  full = λ e. ((λ all. (let few = take_few count batches in let is = ap length (taken all) in omega (arith, few, is))), long);
}

-- ---- live

pub live_voted : (most : ℕ) (I : Situation) (v : Knows) (workers : List Worker) (batches : List Batch) (vote : Vote) → LiveSoFar most v workers batches → AreAllShards workers → CanAllSearch I workers v.seen → IsVoteOf most I (length workers) v.seen vote
    → IsTeamRun (length workers) most true I batches v (searched.Voted vote)
live_voted most I v workers batches vote live shards ready is = record {
  voted = λ other e. (λ all. live_teamwork most I v workers batches live all shards ready (vote_stops most I (length workers) v.seen vote is), subst (IsVoteOf most I (length workers) v.seen) (same_vote vote other e) is);
  full = λ e. absurd (not_full vote e);
}

pub live_full : (n most : ℕ) (I : Situation) (v : Knows) (workers : List Worker) (done batches : List Batch) (count : ℕ) → LiveSoFar most v workers (done ++ take count batches) → CanAllSearch I workers v.seen → batch_limit ≤ length v.seen → IsTeamRun n most true I (done ++ batches) v searched.Full
live_full n most I v workers done batches count live ready long = record {
  voted = λ vote e. absurd (not_voted vote e);
  full = λ e. (
    (λ all.
        let is = ap length (live_batches most I v workers (done ++ take count batches) live all ready) in
        let few = take_few count batches in
        let short = length-append done (take count batches) in
        let whole = length-append done batches in
        omega (arith, is, few, short, whole)),
    long,
  );
}

pub live_run : {E : Type 0} (n most : ℕ) (I : Situation) (B : Batch) (others batches : List Batch) (v : Knows) (r : Result Searched E) → batches ≡ B ∷ others → IfOk r (IsLiveRun n most I (B ∷ []) others v) → IfOk r (IsTeamRun n most true I batches v)
live_run n most I B others batches v (Ok came) is run = subst (λ (l : List Batch). IsTeamRun n most true I l v came) (sym is) run.run
live_run n most I B others batches v (Err e) is run = tt

pub live_on : (n most : ℕ) (I : Situation) (done batches : List Batch) (v : Knows) (came : Searched) → IsTeamRun n most true I (done ++ batches) v came → IsLiveRun n most I done batches v came
live_on n most I done batches v came run = record { run = run }

-- after the last batch the workers made rounds until they agreed
pub live_ended : (n k most : ℕ) (I : Situation) (done batches : List Batch) (count : ℕ) (w u : Knows) (workers_after lasts : List Worker) (vote : Vote) → count ≡ length batches → LiveSoFar most w workers_after (done ++ take count batches) → HasGained most (length w.seen) w u workers_after lasts
    → length lasts ≡ k → k ≡ n → AreAllShards lasts → CanAllSearch I lasts u.seen → IsVoteOf most I k u.seen vote → IsLiveRun n most I done batches u (searched.Voted vote)
live_ended n k most I done batches count w u workers_after lasts vote all live gained len same shards ready voted =
    let whole : take count batches ≡ batches = take_all count batches (omega (arith, all)) in
    let now : LiveSoFar most u lasts (done ++ batches) = subst (λ (l : List Batch). LiveSoFar most u lasts (done ++ l)) whole (live_gained most (length w.seen) w u workers_after lasts gained I ready live.begun (done ++ take count batches) live) in
    let is : IsVoteOf most I (length lasts) u.seen vote = subst (λ (m : ℕ). IsVoteOf most I m u.seen vote) (sym len) voted in
    record { run = subst (λ (m : ℕ). IsTeamRun m most true I (done ++ batches) u (searched.Voted vote)) (len ∙ same) (live_voted most I u lasts (done ++ batches) vote now shards ready is) }

-- the journal took no batch more, as the desk's pass saw
pub live_stopped : (n most : ℕ) (I : Situation) (done batches : List Batch) (count : ℕ) (desk team w : Knows) (workers_after : List Worker) → LiveSoFar most w workers_after (done ++ take count batches) → CanAllSearch I workers_after w.seen → batch_limit ≤ length desk.seen
    → AreNested team.seen desk.seen → w.seen ≡ longer team.seen desk.seen → IsLiveRun n most I done batches w searched.Full
live_stopped n most I done batches count desk team w workers_after live ready long nested seen =
    let low = prefix_length desk.seen w.seen (begins_second team.seen desk.seen w.seen nested seen) in
    record { run = live_full n most I w workers_after done batches count live ready (omega (arith, long, low)) }
