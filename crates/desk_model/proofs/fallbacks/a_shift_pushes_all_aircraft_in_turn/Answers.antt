use Rattle.desk_model.proofs.FallbackLaws.{all_pushed-turn, all_pushed-plane, all_pushed-cancelled, all_pushed-fixed, all_pushed-groups}
use Rattle.desk_model.proofs.fallbacks.a_shift_pushes_all_aircraft_in_turn.Goals as goal

pub returns : goal.returns
returns c = record { turn = all_pushed-turn; flown = all_pushed-plane; cancelled = all_pushed-cancelled; fixed = all_pushed-fixed; groups = all_pushed-groups }
