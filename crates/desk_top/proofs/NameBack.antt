-- The names of a day lead back to its rows.
use Rattle.std.proofs.Common.{◌≡◌, ℕ, ◌<◌, Bool, true, false, ◌&&◌, eqb, List, length, get_or, bytes_eq, Some, refl, sym, arith, position}
use Rattle.std.proofs.lemmas.Bool.{lt-ltb, and_from, and_parts, eq-eqb, eqb-true, false_from_ne_true, false≢true}
use Rattle.std.proofs.lemmas.Slice.Eq.{bytes_eq-Decides}
use Rattle.std.proofs.lemmas.List.Sums.{position_or_len_is}
use Rattle.desk_units.specs.declared.numbers.Leg.{Leg}
use Rattle.desk_units.specs.declared.numbers.Plane.{Plane}
use Rattle.desk_units.specs.declared.numbers.Res.{Res}
use Rattle.desk_data.specs.declared.info.LegInfo.{LegInfo}
use Rattle.desk_data.specs.declared.info.PlaneInfo.{PlaneInfo}
use Rattle.desk_data.specs.declared.info.ResInfo.{ResInfo}
use Rattle.desk_data.specs.Situation.{Situation, leg_at, plane_at, res_at, legs_of, planes_of, reservations_of, no_leg, no_plane, no_res}
use Rattle.desk_data.specs.Valid.{AreDistinct}
use Rattle.file_joins.specs.Keys.{same_direction}
use Rattle.file_joins.specs.Names.{leg_named, plane_named, res_named}

-- the first that passes
position_is : {X : Type 0} (test : X → Bool) (xs : List X) (i : ℕ) (d : X) → i < length xs → test (get_or xs i d) ≡ true → ((k : ℕ) → k < i → test (get_or xs k d) ≡ false) → position test xs ≡ Some i
position_is test xs i d lt passes before =
    let first = position_or_len_is test xs i d (omega arith) before (λ there. passes) in
    rw (first, lt-ltb i (length xs) lt) refl

same_bytes : (a b : List ℕ) → a ≡ b → bytes_eq a b ≡ true
same_bytes a b is = (bytes_eq-Decides a b).1 is

way_is : (a b : Bool) → same_direction a b ≡ true → a ≡ b
way_is true true h = refl
way_is false false h = refl
way_is true false h = absurd (false≢true h)
way_is false true h = absurd (false≢true h)

same_way_is : (a : Bool) → same_direction a a ≡ true
same_way_is true = refl
same_way_is false = refl

pub leg_back : (I : Situation) (leg : Leg) → AreDistinct I.parts → leg.0 < legs_of I → leg_named I (leg_at I leg.0).flight (leg_at I leg.0).day ≡ Some leg
unfolding leg_named
leg_back I leg distinct lt =
    let x = leg_at I leg.0 in
    let test : LegInfo → Bool = λ y. bytes_eq x.flight y.flight && eqb x.day y.day in
    let passes : test x ≡ true = and_from _ _ (same_bytes x.flight x.flight refl) (eq-eqb x.day x.day refl) in
    let place = position_is test I.parts.legs leg.0 no_leg lt passes
    (λ k before. false_from_ne_true (test (leg_at I k)) (λ same.
    let parts = and_parts _ _ same in
    distinct.legs k leg.0 no_leg before lt (sym ((bytes_eq-Decides x.flight (leg_at I k).flight).0 parts.0)) (sym (eqb-true x.day (leg_at I k).day parts.1)))) in
    rw place refl

pub plane_back : (I : Situation) (plane : Plane) → AreDistinct I.parts → plane.0 < planes_of I → plane_named I (plane_at I plane.0).name ≡ Some plane
unfolding plane_named
plane_back I plane distinct lt =
    let x = plane_at I plane.0 in
    let test : PlaneInfo → Bool = λ y. bytes_eq x.name y.name in
    let place = position_is test I.parts.planes plane.0 no_plane lt (same_bytes x.name x.name refl)
    (λ k before. false_from_ne_true (test (plane_at I k)) (λ same.
    distinct.planes k plane.0 no_plane before lt (sym ((bytes_eq-Decides x.name (plane_at I k).name).0 same)))) in
    rw place refl

pub res_back : (I : Situation) (res : Res) → AreDistinct I.parts → res.0 < reservations_of I → res_named I (res_at I res.0).name (res_at I res.0).inbound ≡ Some res
unfolding res_named
res_back I res distinct lt =
    let x = res_at I res.0 in
    let test : ResInfo → Bool = λ y. bytes_eq x.name y.name && same_direction x.inbound y.inbound in
    let passes : test x ≡ true = and_from _ _ (same_bytes x.name x.name refl) (same_way_is x.inbound) in
    let place = position_is test I.parts.res res.0 no_res lt passes
    (λ k before. false_from_ne_true (test (res_at I k)) (λ same.
    let parts = and_parts _ _ same in
    distinct.res k res.0 no_res before lt (sym ((bytes_eq-Decides x.name (res_at I k).name).0 parts.0)) (sym (way_is x.inbound (res_at I k).inbound parts.1)))) in
    rw place refl
