use Rattle.std.proofs.Common.{◌≡◌, Bool, false, ◌&&◌, rules, sym, ap, ◌∙◌}
use Rattle.desk_rules.specs.Cost.{is_wanted}
use Rattle.plan_checks.specs.Stands.{is_there}
use Rattle.near_untouched.proofs.positions.counts_other.Goals as goal

pub returns-then-before-after : goal.returns-then-before-after
returns-then-before-after c = λ is.
    (let wants = is_wanted c.args.position.now c.args.plane.now in
    let same : c.is_at-before.result ≡ c.is_at-after.result = search rules in
    ap (λ (b : Bool). wants && b) (sym c.is_at-before.ensures ∙ same ∙ c.is_at-after.ensures))

pub returns : goal.returns
returns c = λ is.
    (let a = c.args.position.now.airport.0 in
    let off : is_wanted c.args.position.now c.args.plane.now ≡ false = sym c.is_wanted.ensures ∙ is in
    ap (λ (b : Bool). b && is_there c.args.was a) off ∙ sym (ap (λ (b : Bool). b && is_there c.args.now a) off))
