-- A unit of which a move was given is a unit.
use Rattle.std.proofs.Common.{◌≡◌, ℕ, ◌<◌, length, sym, subst}
use Rattle.std.specs.Prelude.{Some}
use Rattle.desk_units.specs.declared.numbers.Res.{Res}
use Rattle.desk_data.specs.Situation.{Situation}
use Rattle.desk_data.specs.PlanRows.{PlanRows}
use Rattle.near_pax.specs.declared.unit.Made.{Made}
use Rattle.near_pax.specs.declared.unit.PaxUnit.{PaxUnit}
use Rattle.near_pax.specs.Units.{path_at}
use Rattle.near_pax.specs.Left.{IsMade, IsUnit}

made-stays : (I : Situation) (P : PlanRows) (u : PaxUnit) (made next : Made) → IsMade I P u.res.0 (path_at P u.res.0 u.place) made → next.aims ≡ made.aims → next.counts ≡ made.counts → next.count < length next.counts.items → IsMade I P u.res.0 (path_at P u.res.0 u.place) next
made-stays I P u made next is aims counts within = record {
  aims = rw aims is.aims;
  counts = rw counts is.counts;
  within = within;
}

pub unit-stays : (I : Situation) (P : PlanRows) (u : PaxUnit) (res : Res) (place : ℕ) (made next : Made) → IsUnit I P u → res ≡ u.res → place ≡ u.place → IsMade I P u.res.0 (path_at P u.res.0 u.place) made → next.aims ≡ made.aims → next.counts ≡ made.counts → next.count < length next.counts.items → IsUnit I P (record { res = res; place = place; made = Some next })
unit-stays I P u res place made next h same_res same_place is aims counts within =
    let base : IsUnit I P (record { res = u.res; place = u.place; made = Some next }) = record { res = h.res; place = h.place; made = made-stays I P u made next is aims counts within } in
    subst (λ (r : Res). IsUnit I P (record { res = r; place = place; made = Some next })) (sym same_res)
    (subst (λ (p : ℕ). IsUnit I P (record { res = u.res; place = p; made = Some next })) (sym same_place) base)
