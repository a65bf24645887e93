-- A state that follows a history.
use Rattle.std.specs.Prelude.{◌≡◌, ◌+◌, ◌≤◌, cond, [], List, length, take}
use Rattle.desk_data.specs.Situation.{Situation}
use Rattle.desk_rules.specs.Least.{least}
use Rattle.desk_model.specs.declared.answer.Entry.{Entry}
use Rattle.desk_model.specs.States.{opening, after}
use Rattle.desk_model.specs.Histories.{state, changes, accepted_since_batch, is_batch, is_accepted, is_change}
use Rattle.desk_core.specs.Judged.{state_in}
use Rattle.desk_pool.specs.declared.follower.Follower.{Follower}

-- it stands at the state after some first entries of a history, as many as it has followed, from the opening of an instance. It counts their changes, and the proposals that were accepted since their last batch
pub record StandsAt (I : Situation) (f : Follower) (h : List Entry) : Type 0 where
  pub within : f.followed ≤ length h
  pub state : state_in f.eval ≡ state (opening I) (take f.followed h)
  pub broken : f.broken ≡ least f.eval.inst f.eval.rows
  pub past : f.eval.past ≡ []
  pub changes : f.changes ≡ changes (take f.followed h)
  pub accepted : f.accepted ≡ accepted_since_batch (take f.followed h)

-- one entry later
pub record IsOneLater (f : Follower) (entry : Entry) (g : Follower) : Type 0 where
  pub state : state_in g.eval ≡ after (state_in f.eval) entry.event
  pub broken : g.broken ≡ least g.eval.inst g.eval.rows
  pub past : g.eval.past ≡ []
  pub followed : g.followed ≡ f.followed + 1
  pub changes : g.changes ≡ f.changes + cond (is_change entry.event entry.answer) 1 0
  pub accepted : g.accepted ≡ cond (is_batch entry.event) 0 (f.accepted + cond (is_accepted entry.answer) 1 0)
