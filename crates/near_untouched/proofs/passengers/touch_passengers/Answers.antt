use Rattle.std.proofs.Common.{ℕ, ◌<◌, Bool, List, subst}
use Rattle.desk_data.specs.Situation.{reservations_of}
use Rattle.near_untouched.specs.Passengers.{IsBookedTold}
use Rattle.near_untouched.proofs.PassengerLaws.{user-kept, users-told}
use Rattle.near_untouched.proofs.passengers.touch_passengers.Goals as goal

pub returns-clause-kept : goal.returns-clause-kept
returns-clause-kept c = λ k on. c.touch_booked.ensures.kept k (c.touch_users.ensures.kept k on)

pub returns-clause-users : goal.returns-clause-users
returns-clause-users c =
    let I = c.args.plans.now.inst.now in
    let P = c.args.plans.now.earlier.now in
    let Q = c.args.plans.now.later.now in
    let regrouped = c.touch_users.new.regrouped.items in
    let before = c.touch_users.new.touched.items in
    let touched = c.touch_booked.new.touched.items in
    let told = subst (λ (marks : List Bool). (r : ℕ) → r < reservations_of I → IsBookedTold I P Q marks touched r) c.as_slice.ensures.value c.touch_booked.ensures.told in
    users-told I P Q regrouped touched c.requires.earlier c.requires.later c.touch_users.ensures.groups
    (λ r lt. user-kept I P Q before touched r c.touch_booked.ensures.kept (c.touch_users.ensures.users r lt))
    told
