use Rattle.std.proofs.Common.{ap, ◌∙◌, List}
use Rattle.std.specs.List.{position}
use Rattle.file_joins.specs.Keys.{Key, is_key, key_in}
use Rattle.file_joins.proofs.KeyLemmas.{position_seen}
use Rattle.file_joins.proofs.places.NamePlaces.place_of.Goals as goal

pub returns-in_err-place-clause-place : goal.returns-in_err-place-clause-place
returns-in_err-place-clause-place c = rw c.from_residual.ensures (c.in_err-place.ensures.index ∙ position_seen c.args.key c.self.inside.keys.keys ∙ ap (λ (keys : List Key). position (is_key (key_in c.args.key)) keys) c.self.view_is)

pub returns-clause-place : goal.returns-clause-place
returns-clause-place c = c.in_ok-place.ensures.index ∙ position_seen c.args.key c.self.inside.keys.keys ∙ ap (λ (keys : List Key). position (is_key (key_in c.args.key)) keys) c.self.view_is
