use Rattle.desk_top.proofs.NameBack.{leg_back, plane_back, res_back}
use Rattle.desk_top.proofs.token_law.names_lead_back.Goals as goal

pub returns-clause-leg : goal.returns-clause-leg
returns-clause-leg c = leg_back

pub returns-clause-plane : goal.returns-clause-plane
returns-clause-plane c = plane_back

pub returns-clause-reservation : goal.returns-clause-reservation
returns-clause-reservation c = res_back
