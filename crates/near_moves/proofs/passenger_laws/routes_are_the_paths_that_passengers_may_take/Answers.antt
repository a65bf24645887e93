use Rattle.near_moves.proofs.RouteLaws.{has-routes, routes-has, routes-apart}
use Rattle.near_moves.proofs.passenger_laws.routes_are_the_paths_that_passengers_may_take.Goals as goal

pub returns : goal.returns
returns c = record {
  all = λ I P r path. (has-routes I P r path, routes-has I P r path);
  once = routes-apart;
}
