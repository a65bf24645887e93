use Rattle.near_moves.proofs.SpanLaws.{out-minutes, out-meets, out-whole}
use Rattle.near_moves.proofs.left_laws.spans_go_on_from_where_the_aircraft_has_landed.Goals as goal

pub returns : goal.returns
returns c = record {
  minutes = out-minutes;
  meets = out-meets;
  whole = out-whole;
}
