-- The state after an entry that is followed.
use Rattle.std.proofs.Common.{◌≡◌, false, refl, sym, ap, ◌∙◌, inl, inr}
use Rattle.std.specs.Prelude.{None}
use Rattle.desk_units.specs.declared.money.Grains.{Grains}
use Rattle.plan_moves.specs.declared.moves.Move.{Move}
use Rattle.desk_model.specs.declared.answer.Answer.{Answer}
use Rattle.desk_model.specs.declared.answer.Answer.TheVariants.{Accepted}
use Rattle.desk_model.specs.declared.answer.Event.TheVariants as event
use Rattle.desk_model.specs.Steps.{after_move}
use Rattle.desk_model.specs.States.{answer, after}
use Rattle.desk_model.specs.Histories.{is_accepted}
use Rattle.desk_model.proofs.StateLaws.{accepted-cause, after-accepted, after-unchanged, accepted-known}
use Rattle.std.proofs.lemmas.Bool.{cases_Bool}
use Rattle.desk_eval.specs.Evaluated.{Evaluated}
use Rattle.desk_core.specs.Judged.{state_in}

-- the state after an accepted move
pub followed_move : (E F : Evaluated) (m : Move) (given : Answer) (cost : Grains) → given ≡ Accepted cost → given ≡ answer (state_in E) (event.Move m) → F.inst ≡ E.inst → F.rows ≡ after_move E.inst E.rows m → state_in F ≡ after (state_in E) (event.Move m)
followed_move E F m given cost is at inst rows =
    let S = state_in E in
    let accepted : answer S (event.Move m) ≡ Accepted cost = sym at ∙ is in
    let cause = accepted-cause S m cost accepted in
    let later : after S (event.Move m) ≡ record { inst = S.inst; plan = after_move S.inst S.plan m; broken = None } = after-accepted S m cost accepted in
    let here : state_in F ≡ record { inst = S.inst; plan = after_move S.inst S.plan m; broken = None } = rw (inst, rows, cause.feasible) refl in
    here ∙ sym later

-- and after one that was not accepted
pub followed_none : (E : Evaluated) (m : Move) (given : Answer) → given ≡ answer (state_in E) (event.Move m) → is_accepted given ≡ false → state_in E ≡ after (state_in E) (event.Move m)
followed_none E m given at is = sym (after-unchanged (state_in E) (event.Move m) (ap is_accepted (sym at) ∙ is))

pub not_accepted : (given : Answer) → ((cost : Grains) → given ≡ Accepted cost → ⊥) → is_accepted given ≡ false
not_accepted given lacks =
    elim (cases_Bool (is_accepted given)) [
      | inl some ↦ absurd (let is = accepted-known given some in lacks is.0 is.1)
      | inr refused ↦ refused
    ]
