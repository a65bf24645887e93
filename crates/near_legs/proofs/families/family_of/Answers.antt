use Rattle.std.proofs.Common.{◌≡◌, ℕ, ◌++◌, [], ◌∷◌, map, sym, ap, ◌∙◌, arith}
use Rattle.std.specs.Prelude.{filter}
use Rattle.std.specs.Str.{bytes_eq}
use Rattle.std.proofs.lemmas.List.{map_push}
use Rattle.desk_units.specs.declared.numbers.Plane.{Plane}
use Rattle.desk_data.specs.Situation.{plane_at, planes_of}
use Rattle.desk_rules.specs.Numbers.{numbers}
use Rattle.near_moves.specs.MoveParts.{family_of}
use Rattle.near_moves.proofs.ListLaws.{filter_yes, filter_no}
use Rattle.near_legs.proofs.families.family_of.Goals as goal
use Rattle.near_legs.proofs.families.family_of.Goals.{then-are_of_one_family+in_ok-push, else-are_of_one_family}

pub loop-q-preserved : goal.loop-q-preserved
loop-q-preserved c =
    let I = c.args.inst.now in
    let same = λ (q : ℕ). bytes_eq (plane_at I q).family (plane_at I c.args.plane.0).family in
    elim c.if-are_of_one_family.branch [
      | then-are_of_one_family+in_ok-push w ↦
          ap (λ v. map (λ (p : Plane). p.0) v.items) w.family-is
          ∙ ap (map (λ (p : Plane). p.0)) w.in_ok-push.ensures.items
          ∙ map_push (λ (p : Plane). p.0) c.loop-q.family.items (record { 0 = c.loop-q.q })
          ∙ ap (λ xs. xs ++ c.loop-q.q ∷ []) c.loop-q.invariant
          ∙ sym (filter_yes same c.loop-q.q (sym c.are_of_one_family.ensures ∙ w.if-are_of_one_family.true))
      | else-are_of_one_family w ↦
          ap (λ v. map (λ (p : Plane). p.0) v.items) w.family-is
          ∙ c.loop-q.invariant
          ∙ sym (filter_no same c.loop-q.q (sym c.are_of_one_family.ensures ∙ w.if-are_of_one_family.false))
    ]

pub returns : goal.returns
unfolding family_of
returns c =
    let I = c.args.inst.now in
    let count = c.planes-q-end.ensures.count in
    let end : c.loop-q.q ≡ planes_of I = omega (arith, count) in
    c.loop-q.invariant ∙ ap (λ n. filter (λ q. bytes_eq (plane_at I q).family (plane_at I c.args.plane.0).family) (numbers n)) end
