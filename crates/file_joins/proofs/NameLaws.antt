-- The number that a name has is that of a row.
use Rattle.std.proofs.Common.{◌≡◌, ℕ, ◌<◌, ◌&&◌, Bool, eqb, List, length, bytes_eq, Option, Some, None, refl, sym, ap, subst, ◌∙◌}
use Rattle.std.specs.List.{position}
use Rattle.std.specs.Option.{option_map}
use Rattle.std.proofs.lemmas.List.Quantifiers.{position-Some}
use Rattle.std.proofs.lemmas.Option.{same_Some}
use Rattle.desk_units.specs.declared.numbers.Leg.{Leg}
use Rattle.desk_units.specs.declared.numbers.Plane.{Plane}
use Rattle.desk_units.specs.declared.numbers.Res.{Res}
use Rattle.desk_data.specs.declared.info.LegInfo.{LegInfo}
use Rattle.desk_data.specs.declared.info.PlaneInfo.{PlaneInfo}
use Rattle.desk_data.specs.declared.info.ResInfo.{ResInfo}
use Rattle.desk_data.specs.Situation.{Situation, legs_of, planes_of, reservations_of, no_leg, no_plane, no_res}
use Rattle.file_joins.specs.Keys.{same_direction}
use Rattle.file_joins.specs.Names.{leg_named, plane_named, res_named}

number_within : {Row N : Type 0} (number : ℕ → N) (value : N → ℕ) → ((n : ℕ) → value (number n) ≡ n) → (test : Row → Bool) (rows : List Row) (row : Row) (x : N) (o : Option ℕ) → position test rows ≡ o → option_map number o ≡ Some x → value x < length rows
number_within number value same test rows row x None at e = absurd cc
number_within number value same test rows row x (Some n) at e =
    subst (λ (k : ℕ). k < length rows) (sym (same n) ∙ ap value (same_Some (number n) x e)) (position-Some test rows n row at).0

pub leg_named-lt : (I : Situation) (flight : List ℕ) (day : ℕ) (leg : Leg) → leg_named I flight day ≡ Some leg → leg.0 < legs_of I
unfolding leg_named
leg_named-lt I flight day leg e =
    number_within (λ x. let l : Leg = record { 0 = x } in l) (λ (l : Leg). l.0) (λ n. refl) (λ (l : LegInfo). bytes_eq flight l.flight && eqb day l.day) I.parts.legs no_leg leg _ refl e

pub plane_named-lt : (I : Situation) (name : List ℕ) (plane : Plane) → plane_named I name ≡ Some plane → plane.0 < planes_of I
unfolding plane_named
plane_named-lt I name plane e =
    number_within (λ p. let q : Plane = record { 0 = p } in q) (λ (q : Plane). q.0) (λ n. refl) (λ (p : PlaneInfo). bytes_eq name p.name) I.parts.planes no_plane plane _ refl e

pub res_named-lt : (I : Situation) (name : List ℕ) (inbound : Bool) (res : Res) → res_named I name inbound ≡ Some res → res.0 < reservations_of I
unfolding res_named
res_named-lt I name inbound res e =
    number_within (λ r. let q : Res = record { 0 = r } in q) (λ (q : Res). q.0) (λ n. refl) (λ (r : ResInfo). bytes_eq name r.name && same_direction inbound r.inbound) I.parts.res no_res res _ refl e
