use Rattle.near_moves.proofs.RouteLaws.{routes-by_stems}
use Rattle.near_moves.proofs.StemLaws.{stems-ordered}
use Rattle.near_moves.proofs.TriedLaws.{tried-ordered}
use Rattle.near_moves.proofs.left_laws.stems_stand_in_order.Goals as goal

pub returns : goal.returns
returns c = record {
  stems = stems-ordered;
  routes = routes-by_stems;
  after = tried-ordered;
}
