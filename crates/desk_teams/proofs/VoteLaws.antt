-- Votes of searchers.
use Rattle.std.proofs.Common.{◌≡◌, ℕ, ◌<◌, ◌≤◌, List, [], length, get_or, ap, ◌∙◌, arith}
use Rattle.desk_data.specs.declared.broken.Broken.{Broken}
use Rattle.desk_teams.specs.declared.report.End.{End}
use Rattle.desk_teams.specs.declared.report.End.TheVariants as end
use Rattle.desk_teams.specs.declared.report.Report.{Report}
use Rattle.desk_teams.specs.declared.report.Vote.TheVariants.{Quiet, Spent, NoPlan}
use Rattle.desk_teams.specs.Votes.{MostChanges, OneReportedLast, HasNoVote}

-- a report doesn't speak for all: it is of an earlier plan, or says neither that there is none nor that the history is spent
pub record SpeaksNot (last : ℕ) (r : Report) : Type 0 where
  pub spent : r.changes ≡ last → r.end ≡ end.Spent → ⊥
  pub broken : (item : Broken) → r.changes ≡ last → r.end ≡ end.NoPlan item → ⊥

-- one of the first n reports is of an earlier plan, or doesn't say that its shard is quiet
pub record OneIsRestless (reports : List Report) (last n : ℕ) : Type 0 where
  pub index : ℕ
  pub below : index < n
  pub restless : (d : Report) → (get_or reports index d).end ≡ end.Quiet → (get_or reports index d).changes ≡ last → ⊥

module _ (reports : List Report) (last : ℕ) (most : MostChanges reports last) (least : (n : ℕ) → MostChanges reports n → last ≤ n) where
  -- a report that none has more changes than is of the last plan
  last_one : (Says : Report → Type 0) → (one : OneReportedLast reports Says) → one.report.changes ≡ last
  last_one Says one =
      let low : (get_or reports one.index one.report).changes ≤ last = most one.index one.report one.within in
      let same = ap (λ (x : Report). x.changes) (one.there one.report) in
      let high = least one.report.changes one.last in
      omega (arith, low, same, high)

  spoken : (ended : End) → (one : OneReportedLast reports (λ r. r.end ≡ ended)) → ((get_or reports one.index one.report).changes ≡ last) × ((get_or reports one.index one.report).end ≡ ended)
  spoken ended one =
      let same = one.there one.report in
      (ap (λ (x : Report). x.changes) same ∙ last_one (λ r. r.end ≡ ended) one, ap (λ (x : Report). x.end) same ∙ one.says)

  -- where none speaks for all, and one is restless, nothing can be voted
  pub no_vote : OneIsRestless reports last (length reports) → ((i : ℕ) (d : Report) → i < length reports → SpeaksNot last (get_or reports i d)) → HasNoVote reports
  no_vote one none (Quiet changes) all =
      let d : Report = record { shard = 0; shards = 0; changes = 0; end = end.Quiet } in
      let is = all one.index d one.below in
      let low = most one.index d one.below in
      let high = least changes (λ i e lt. (let same = (all i e lt).1 in omega (arith, same))) in
      let same = is.1 in
      one.restless d is.0 (omega (arith, low, high, same))
  no_vote one none Spent spent =
      let is = spoken end.Spent spent in
      (none spent.index spent.report spent.within).spent is.0 is.1
  no_vote one none (NoPlan item) broken =
      let is = spoken (end.NoPlan item) broken in
      (none broken.index broken.report broken.within).broken item is.0 is.1

-- of no reports the last plan is that of no change
pub none_last : (reports : List Report) (last : ℕ) → ((n : ℕ) → MostChanges reports n → last ≤ n) → reports ≡ [] → last ≡ 0
none_last reports last least is =
    let len : length reports ≡ 0 = ap (λ (l : List Report). length l) is in
    let low : last ≤ 0 = least 0 (λ i d lt. absurd (omega (arith, len, lt))) in
    omega (arith, low)
