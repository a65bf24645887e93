use Rattle.std.proofs.Common.{◌≡◌, true, rules}
use Rattle.near_draft.proofs.KeptLaws.{kept-same}
use Rattle.near_draft.proofs.kept.let_go.Goals as goal

pub returns-else-not-have_one_plane : goal.returns-else-not-have_one_plane
returns-else-not-have_one_plane c = λ I P x is kept.
    let one : c.have_one_plane.result ≡ true = search rules in
    kept-same I P x c.args.was c.args.row c.args.lists.now.items is (c.have_one_plane.ensures one) kept
