use Rattle.std.proofs.Common.{◌≡◌, ℕ, ◌+◌, ◌<◌, List, [], ◌∷◌, ◌++◌, length, get_or, rules, sym, ap, subst, ◌∙◌, length-append}
use Rattle.near_dear.specs.Calm.{IsCalmAt}
use Rattle.near_dear.proofs.CalmLaws.{moment-more}
use Rattle.near_dear.proofs.calm.calm_moments.Goals as goal

pub loop-a-preserved : goal.loop-a-preserved
loop-a-preserved g c =
    let I = c.args.inst.now in
    let P = c.args.plan.now in
    let old = c.loop-a.moments.items in
    let moment = c.calm_from.result in
    let calm : ℕ → ℕ → Type 0 = λ a t. IsCalmAt 16 I P a t in
    let items : c.push.new.self.items ≡ old ++ moment ∷ [] = search rules in
    let long : length old ≡ c.loop-a.a = c.loop-a.invariant.airports in
    let one : calm (length old) moment = subst (λ (a : ℕ). calm a moment) (sym long) c.calm_from.ensures in
    record {
      airports = ap (λ (xs : List ℕ). length xs) items ∙ length-append old (moment ∷ []) ∙ ap (λ (n : ℕ). n + 1) long;
      each = subst (λ (xs : List ℕ). (a : ℕ) → a < length xs → IsCalmAt 16 I P a (get_or xs a 0)) (sym items) (moment-more calm old moment c.loop-a.invariant.each one);
    }
