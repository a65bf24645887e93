use Rattle.std.proofs.Common.{◌≡◌, true, false, rules, sym, ap, ◌∙◌}
use Rattle.std.proofs.lemmas.Bool.{and_right}
use Rattle.desk_data.specs.Situation.{plane_at}
use Rattle.desk_rules.specs.Cost.{is_wanted}
use Rattle.plan_checks.specs.Stands.{end_of, is_there}
use Rattle.near_priced.proofs.EndLaws.{and-last}
use Rattle.near_priced.proofs.hands.stands_ready.Goals as goal

pub returns-then-not-is_at : goal.returns-then-not-is_at
returns-then-not-is_at c =
    let I = c.args.inst.now in
    let p = c.args.plane.0 in
    let last = c.args.last in
    let position = c.args.position.now in
    let off : c.is_at.result ≡ false = search rules in
    let there : is_there (end_of I p last) position.airport.0 ≡ false = ap (λ end. is_there end position.airport.0) (sym c.end_of.ensures) ∙ sym c.is_at.ensures ∙ off in
    sym (and_right (is_wanted position (plane_at I p)) (is_there (end_of I p last) position.airport.0) there)

pub returns : goal.returns
returns c =
    let I = c.args.inst.now in
    let p = c.args.plane.0 in
    let last = c.args.last in
    let position = c.args.position.now in
    let on : c.is_at.result ≡ true = search rules in
    let there : is_there (end_of I p last) position.airport.0 ≡ true = ap (λ end. is_there end position.airport.0) (sym c.end_of.ensures) ∙ sym c.is_at.ensures ∙ on in
    c.is_wanted.ensures ∙ ap (is_wanted position) c.plane.ensures.row ∙ and-last (is_wanted position (plane_at I p)) (is_there (end_of I p last) position.airport.0) there
