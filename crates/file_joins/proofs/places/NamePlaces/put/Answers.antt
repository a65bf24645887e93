use Rattle.std.proofs.Common.{List, ap, map, ◌∙◌}
use Rattle.file_joins.specs.Keys.{Key, key_in, with_key}
use Rattle.file_joins.proofs.KeyLemmas.{seen_with}
use Rattle.file_joins.proofs.places.NamePlaces.put.Goals as goal

pub returns : goal.returns
returns c =
    ap (map key_in) c.in_ok-insert_full.ensures.keys
    ∙ seen_with c.self.inside.keys.keys c.args.key
    ∙ ap (λ (keys : List Key). with_key keys (key_in c.args.key)) c.self.view_is
