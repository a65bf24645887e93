-- Units that stay known at a later plan are out there.
use Rattle.std.proofs.Common.{◌≡◌, ℕ, ◌<◌, ◌≤◌, inl, inr, Bool, true, false, ◌||◌, eqb, ltb, List, length, get_or, refl, sym, ap, subst, ◌∙◌, arith}
use Rattle.std.specs.Prelude.{Option, None}
use Rattle.std.specs.List.{All}
use Rattle.std.specs.Option.{ForSome}
use Rattle.std.proofs.lemmas.Bool.{true≢false, and_parts, and_from, eqb-true, ltb-true}
use Rattle.desk_data.specs.declared.row.Row.{Row}
use Rattle.desk_data.specs.declared.row.Row.TheVariants.{Flown, Cancelled}
use Rattle.desk_data.specs.Situation.{Situation, legs_of, planes_of, reservations_of}
use Rattle.desk_data.specs.PlanRows.{PlanRows, row_at}
use Rattle.desk_data.specs.Valid.{IsPlanFor, IsRowOf, IsValid}
use Rattle.plan_moves.specs.Fits.{Fits}
use Rattle.desk_rules.specs.Least.{least}
use Rattle.desk_rules.specs.Passengers.{is_flown}
use Rattle.near_moves.proofs.FromLaws.{or_cases}
use Rattle.near_moves.specs.Descent.{first_better}
use Rattle.near_moves.specs.MoveParts.{flier}
use Rattle.near_moves.specs.Units.{MoveUnit, retimed, swapped, dropped, restored, handed}
use Rattle.near_legs.specs.Choices.{IsFlownLeg, IsLegUnit, unit_of}
use Rattle.near_legs.specs.declared.unit.LegUnit.{LegUnit}
use Rattle.near_legs.specs.declared.unit.LegUnit.TheVariants.{Retimed, Swapped, Dropped, Restored, Handed}
use Rattle.near_moves.specs.Same.{FlyUnitSame}
use Rattle.near_moves.specs.Steps.{BeginsFlown, unit_restores}
use Rattle.near_moves.proofs.MoveLaws.{flier-flies, moves-same}
use Rattle.near_untouched.specs.Planes.{IsUntouchedPlane}
use Rattle.near_untouched.specs.UntouchedUnits.{IsUntouchedUnit}
use Rattle.near_untouched.proofs.UntouchedLaws.{planes-untouched}
use Rattle.near_untouched.proofs.OutLaws.{unit-out}
use Rattle.near_untouched.specs.Again.{IsAgain}
use Rattle.near_untouched.specs.Hours.{margin}
use Rattle.near_untouched.specs.Marks.{is_marked}
use Rattle.near_untouched.specs.UntouchedLegs.{AreUntouched}
use Rattle.near_untouched.specs.declared.untouched.Untouched.{Untouched}
use Rattle.near_notes.specs.Rows.{number_at}
use Rattle.near_notes.specs.Places.{number_of}
use Rattle.near_notes.specs.declared.findings.Findings.{Findings}
use Rattle.near_notes.specs.declared.notes.UnitNotes.{UnitNotes}
use Rattle.near_notes.specs.declared.notes.Shard.{Shard}
use Rattle.near_notes.specs.Notes.{AreFindings, AreUnitNotes, IsUnitOut, IsUnitOutByRows, is_before, is_untouched_since}
use Rattle.near_notes.proofs.NotesLaws.{number-latest}
use Rattle.near_untouched.specs.Later.{AreAllTouched, AreMoved, AreTouchedAt}
use Rattle.near_untouched.specs.Carried.{AreCarriedTold}
use Rattle.near_untouched.proofs.RowOutLaws.{out-by-rows-stays}
use Rattle.near_untouched.proofs.SameRowLaws.{carried-untouched, fly-same, row-of, rows-agree, rows-room, unit-backs}

-- ---- findings of plan P, and of a later plan Q

-- a unit that is untouched at the later plan was so at the earlier one, and what was known of it is known of it now
record Passes (I : Situation) (P Q : PlanRows) (old : Findings) (WasKnown IsKnown : MoveUnit → Type 0) (u : LegUnit) (n : ℕ) : Type 0 where
  unit : IsLegUnit I P u
  rest : is_untouched_since P old.planes.items old.flown.items old.again.items u n ≡ true
  known : WasKnown (unit_of u) → IsKnown (unit_of u)

findings-moved : (I : Situation) (P Q : PlanRows) (search later : ℕ) (WasKnown IsKnown : MoveUnit → Type 0) (old new : Findings) → AreFindings I P search WasKnown old → AreMoved I old new → search ≤ later → ((u : LegUnit) (n : ℕ) → n ≤ search → IsLegUnit I Q u → is_untouched_since Q new.planes.items new.flown.items new.again.items u n ≡ true → Passes I P Q old WasKnown IsKnown u n) → AreFindings I Q later IsKnown new
findings-moved I P Q search later WasKnown IsKnown old new are moved more passes = record {
  planes = moved.planes;
  flown = moved.flown;
  again = moved.again;
  latest = λ row column. (let before = are.latest row column in let same = ap (λ (f : List (List ℕ)). number_at f row column) moved.found in omega (arith, before, same, more));
  known = λ u of noted.
      let n = number_of old.found u in
      let here : is_untouched_since Q new.planes.items new.flown.items new.again.items u n ≡ true = ap (λ (f : List (List ℕ)). is_untouched_since Q new.planes.items new.flown.items new.again.items u (number_of f u)) (sym moved.found) ∙ noted in
      let passes_on = passes u n (number-latest old.found search u are.latest) of here in
      passes_on.known (are.known u passes_on.unit passes_on.rest);
}

-- ---- what is untouched at a later plan

flier-within : (planes : ℕ) (row : Row) → is_flown row ≡ true → IsRowOf planes row → flier row < planes
flier-within planes (Flown plane dep) on within = within.0
flier-within planes Cancelled on within = absurd cc

-- what stays known of a unit from plan P to plan Q
record Stays (I : Situation) (P Q : PlanRows) (planes flown again : List ℕ) (u : LegUnit) (n : ℕ) : Type 0 where
  unit : IsLegUnit I P u
  begins : BeginsFlown P (unit_of u)
  same : FlyUnitSame I P Q (unit_of u)
  untouched : IsUntouchedUnit I P Q (unit_of u)
  rest : is_untouched_since P planes flown again u n ≡ true

-- so a unit that was out is out, and one that was so by rows alone is
module _ (I : Situation) (P Q : PlanRows) (valid : IsValid I) (plan : IsPlanFor I P) (later : IsPlanFor I Q) (feasible : least I P ≡ None) (feasible_later : least I Q ≡ None) where
  out-passes : (old : Findings) (u : LegUnit) (n : ℕ) → Stays I P Q old.planes.items old.flown.items old.again.items u n → Passes I P Q old (IsUnitOut I P) (IsUnitOut I Q) u n
  out-passes old u n stay = record {
    unit = stay.unit;
    rest = stay.rest;
    known = λ was. record {
      fits = subst (All (Fits I)) (moves-same I P Q (unit_of u) stay.same) was.fits;
      out = unit-out I P Q (unit_of u) valid plan later feasible feasible_later stay.begins was.fits stay.untouched was.out;
    };
  }

  by-rows-passes : (old : Findings) (u : LegUnit) (n : ℕ) → Stays I P Q old.planes.items old.flown.items old.again.items u n → Passes I P Q old (IsUnitOutByRows I P) (IsUnitOutByRows I Q) u n
  by-rows-passes old u n stay = record {
    unit = stay.unit;
    rest = stay.rest;
    known = λ was. record {
      fits = subst (All (Fits I)) (moves-same I P Q (unit_of u) stay.same) was.fits;
      out = out-by-rows-stays I P Q (unit_of u) later feasible_later stay.begins stay.untouched.agree stay.untouched.room stay.untouched.backs stay.same was.out;
    };
  }

-- a leg that an untouched aircraft flies at the later plan has the same row, and aircraft
record SameFlier (I : Situation) (P Q : PlanRows) (planes : List ℕ) (x n : ℕ) : Type 0 where
  leg : IsFlownLeg I P x
  plane : IsUntouchedPlane margin I P Q (flier (row_at P x))
  rest : is_before planes (flier (row_at P x)) n ≡ true

module _ (I : Situation) (P Q : PlanRows) (known : Untouched) (search : ℕ) (later : IsPlanFor I Q) (many : length P.rows ≡ length Q.rows) (are : AreUntouched I P Q known) where
  -- an aircraft that was last touched before a search is untouched
  plane-rest : (planes now : List ℕ) → AreTouchedAt (planes_of I) known.planes.items search planes now → (p n : ℕ) → p < planes_of I → n ≤ search → is_before now p n ≡ true → IsUntouchedPlane margin I P Q p × (is_before planes p n ≡ true)
  plane-rest planes now by p n within before is =
      elim (by p within) [
        | inl touched ↦ absurd (let less = ltb-true (get_or now p 0) n is in omega (arith, touched, less, before))
        | inr free ↦ (are.planes.untouched p within free.0, ap (λ (k : ℕ). ltb k n) (sym free.1) ∙ is)
      ]

  again-rest : (again now : List ℕ) → AreTouchedAt (legs_of I) known.again.items search again now → (x n : ℕ) → x < legs_of I → n ≤ search → is_before now x n ≡ true → IsAgain I P Q x × (is_before again x n ≡ true)
  again-rest again now by x n within before is =
      elim (by x within) [
        | inl touched ↦ absurd (let less = ltb-true (get_or now x 0) n is in omega (arith, touched, less, before))
        | inr free ↦ (are.again.again x within free.0, ap (λ (k : ℕ). ltb k n) (sym free.1) ∙ is)
      ]

  flier-rest : (planes now : List ℕ) → AreTouchedAt (planes_of I) known.planes.items search planes now → (x n : ℕ) → n ≤ search → IsFlownLeg I Q x → is_before now (flier (row_at Q x)) n ≡ true → SameFlier I P Q planes x n
  flier-rest planes now by x n before of is =
      let p = flier (row_at Q x) in
      let rows = later.legs in
      let there = of.within in
      let within : p < planes_of I = flier-within (planes_of I) (row_at Q x) of.flown (later.rows x Cancelled (omega (arith, rows, there))) in
      let parts = plane-rest planes now by p n within before is in
      let row : row_at P x ≡ row_at Q x = elim (parts.0.flown x) [
        | inl same ↦ same
        | inr other ↦ absurd (true≢false (sym (flier-flies Q x of.flown) ∙ other.1))
      ] in
      record {
        leg = record { within = there; flown = ap is_flown row ∙ of.flown };
        plane = subst (λ (r : Row). IsUntouchedPlane margin I P Q (flier r)) (sym row) parts.0;
        rest = ap (λ (r : Row). is_before planes (flier r) n) row ∙ parts.1;
      }

  one-plane : (p q : ℕ) → eqb p q ≡ true → IsUntouchedPlane margin I P Q q → IsUntouchedPlane margin I P Q p
  one-plane p q is plane = subst (IsUntouchedPlane margin I P Q) (sym (eqb-true p q is)) plane

  either-plane : (p q r : ℕ) → (eqb p q || eqb p r) ≡ true → IsUntouchedPlane margin I P Q q → IsUntouchedPlane margin I P Q r → IsUntouchedPlane margin I P Q p
  either-plane p q r is first second =
      elim (or_cases (eqb p q) (eqb p r) is) [
        | inl one ↦ one-plane p q one first
        | inr two ↦ one-plane p r two second
      ]

  module _ (planes planes_now flown again again_now : List ℕ) (by_planes : AreTouchedAt (planes_of I) known.planes.items search planes planes_now) (by_again : AreTouchedAt (legs_of I) known.again.items search again again_now) where
    -- units that refill legs
    retimed-stays : (leg : ℕ) (n : ℕ) → n ≤ search → IsFlownLeg I Q leg → is_before planes_now (flier (row_at Q leg)) n ≡ true → Stays I P Q planes flown again (Retimed (record { 0 = leg })) n
    retimed-stays x n before of is =
        let same = flier-rest planes planes_now by_planes x n before of is in
        record {
          unit = same.leg;
          begins = same.leg.flown;
          same = (same.leg.flown, same.plane.flown);
          untouched = planes-untouched margin I P Q (retimed x) many same.leg.flown (λ p own. one-plane p (flier (row_at P x)) own same.plane) tt;
          rest = same.rest;
        }

    restored-stays : (x p n : ℕ) → n ≤ search → x < legs_of I → p < planes_of I → is_before planes_now p n ≡ true → is_before again_now x n ≡ true → Stays I P Q planes flown again (Restored (record { 0 = x }) (record { 0 = p })) n
    restored-stays x p n before leg plane on_plane on_leg =
        let one = plane-rest planes planes_now by_planes p n plane before on_plane in
        let two = again-rest again again_now by_again x n leg before on_leg in
        let again_too = two.0 p in
        record {
          unit = (leg, plane);
          begins = tt;
          same = (one.0.flown, again_too.backs);
          untouched = planes-untouched margin I P Q (restored x p) many tt (λ q own. one-plane q p own one.0) again_too;
          rest = and_from (is_before planes p n) (is_before again x n) one.1 two.1;
        }

    -- and the others
    module _ (flown_now : List ℕ) (by_flown : AreTouchedAt (planes_of I) known.planes.items search flown flown_now) where
      stays : (u : LegUnit) (n : ℕ) → n ≤ search → IsLegUnit I Q u → is_untouched_since Q planes_now flown_now again_now u n ≡ true → Stays I P Q planes flown again u n
      stays (Retimed leg) n before of is = retimed-stays leg.0 n before of is
      stays (Swapped first second) n before of is =
          let parts = and_parts (is_before flown_now first.0 n) (is_before flown_now second.0 n) is in
          let one = plane-rest flown flown_now by_flown first.0 n of.0 before parts.0 in
          let two = plane-rest flown flown_now by_flown second.0 n of.1 before parts.1 in
          record {
            unit = of;
            begins = tt;
            same = (one.0.flown, two.0.flown);
            untouched = planes-untouched margin I P Q (swapped first.0 second.0) many tt (λ p own. either-plane p first.0 second.0 own one.0 two.0) tt;
            rest = and_from (is_before flown first.0 n) (is_before flown second.0 n) one.1 two.1;
          }
      stays (Dropped leg) n before of is =
          let x = leg.0 in
          let same = flier-rest flown flown_now by_flown x n before of is in
          record {
            unit = same.leg;
            begins = same.leg.flown;
            same = (same.leg.flown, same.plane.flown);
            untouched = planes-untouched margin I P Q (dropped x) many same.leg.flown (λ p own. one-plane p (flier (row_at P x)) own same.plane) tt;
            rest = same.rest;
          }
      stays (Restored leg plane) n before of is =
          let parts = and_parts (is_before planes_now plane.0 n) (is_before again_now leg.0 n) is in
          restored-stays leg.0 plane.0 n before of.0 of.1 parts.0 parts.1
      stays (Handed leg count plane) n before of is =
          let x = leg.0 in
          let q = plane.0 in
          let parts = and_parts (is_before flown_now (flier (row_at Q x)) n) (is_before flown_now q n) is in
          let same = flier-rest flown flown_now by_flown x n before of.0 parts.0 in
          let other = plane-rest flown flown_now by_flown q n of.1 before parts.1 in
          record {
            unit = (same.leg, of.1);
            begins = same.leg.flown;
            same = (same.leg.flown, same.plane.flown, other.0.flown);
            untouched = planes-untouched margin I P Q (handed x count q) many same.leg.flown (λ p own. either-plane p (flier (row_at P x)) q own same.plane other.0) tt;
            rest = and_from (is_before flown (flier (row_at P x)) n) (is_before flown q n) same.rest other.1;
          }

-- ---- plans with the same rows

one-free : (marks : List Bool) (p q : ℕ) → eqb p q ≡ true → is_marked marks q ≡ false → is_marked marks p ≡ false
one-free marks p q is free = ap (is_marked marks) (eqb-true p q is) ∙ free

either-free : (marks : List Bool) (p q r : ℕ) → (eqb p q || eqb p r) ≡ true → is_marked marks q ≡ false → is_marked marks r ≡ false → is_marked marks p ≡ false
either-free marks p q r is first second =
    elim (or_cases (eqb p q) (eqb p r) is) [
      | inl one ↦ one-free marks p q one first
      | inr two ↦ one-free marks p r two second
    ]

module _ (I : Situation) (P Q : PlanRows) (same : P.rows ≡ Q.rows) (marks : List Bool) (search : ℕ) (later : IsPlanFor I Q) (told : AreCarriedTold (reservations_of I) I P Q marks) (flown flown_now : List ℕ) (by_flown : AreTouchedAt (planes_of I) marks search flown flown_now) where
  -- an aircraft that was last touched before a search carries nobody who changed
  free-rest : (p n : ℕ) → p < planes_of I → n ≤ search → is_before flown_now p n ≡ true → (is_marked marks p ≡ false) × (is_before flown p n ≡ true)
  free-rest p n within before is =
      elim (by_flown p within) [
        | inl touched ↦ absurd (let less = ltb-true (get_or flown_now p 0) n is in omega (arith, touched, less, before))
        | inr free ↦ (free.0, ap (λ (k : ℕ). ltb k n) (sym free.1) ∙ is)
      ]

  leg-was : (x : ℕ) → IsFlownLeg I Q x → IsFlownLeg I P x
  leg-was x of = record { within = of.within; flown = ap is_flown (row-of I P Q same x) ∙ of.flown }

  free-flier : (x n : ℕ) → n ≤ search → IsFlownLeg I Q x → is_before flown_now (flier (row_at Q x)) n ≡ true → (is_marked marks (flier (row_at P x)) ≡ false) × (is_before flown (flier (row_at P x)) n ≡ true)
  free-flier x n before of is =
      let rows = later.legs in
      let there = of.within in
      let row : row_at P x ≡ row_at Q x = row-of I P Q same x in
      let within : flier (row_at Q x) < planes_of I = flier-within (planes_of I) (row_at Q x) of.flown (later.rows x Cancelled (omega (arith, rows, there))) in
      let parts = free-rest (flier (row_at Q x)) n within before is in
      (ap (λ (r : Row). is_marked marks (flier r)) row ∙ parts.0, ap (λ (r : Row). is_before flown (flier r) n) row ∙ parts.1)

  swapped-carried : (p q : ℕ) → is_marked marks p ≡ false → is_marked marks q ≡ false → IsUntouchedUnit I P Q (swapped p q)
  swapped-carried p q one two = carried-untouched I P Q same (swapped p q) (λ y. refl) (λ y. refl) marks told (λ k own. either-free marks k p q own one two)

  dropped-carried : (x : ℕ) → is_marked marks (flier (row_at P x)) ≡ false → IsUntouchedUnit I P Q (dropped x)
  dropped-carried x one = carried-untouched I P Q same (dropped x) (λ y. refl) (λ y. refl) marks told (λ k own. one-free marks k (flier (row_at P x)) own one)

  handed-carried : (x k q : ℕ) → is_marked marks (flier (row_at P x)) ≡ false → is_marked marks q ≡ false → IsUntouchedUnit I P Q (handed x k q)
  handed-carried x k q one two = carried-untouched I P Q same (handed x k q) (λ y. refl) (λ y. refl) marks told (λ j own. either-free marks j (flier (row_at P x)) q own one two)

  -- units that refill no leg hang on who is on their aircraft; the others as before
  module _ (known : Untouched) (many : length P.rows ≡ length Q.rows) (are : AreUntouched I P Q known) (planes planes_now again again_now : List ℕ) (by_planes : AreTouchedAt (planes_of I) known.planes.items search planes planes_now) (by_again : AreTouchedAt (legs_of I) known.again.items search again again_now) where
    carried-stays : (u : LegUnit) (n : ℕ) → n ≤ search → IsLegUnit I Q u → is_untouched_since Q planes_now flown_now again_now u n ≡ true → Stays I P Q planes flown again u n
    carried-stays (Retimed leg) n before of is = retimed-stays I P Q known search later many are planes planes_now flown again again_now by_planes by_again leg.0 n before of is
    carried-stays (Swapped first second) n before of is =
        let parts = and_parts (is_before flown_now first.0 n) (is_before flown_now second.0 n) is in
        let one = free-rest first.0 n of.0 before parts.0 in
        let two = free-rest second.0 n of.1 before parts.1 in
        record {
          unit = of;
          begins = tt;
          same = fly-same I P Q same (swapped first.0 second.0) tt;
          untouched = swapped-carried first.0 second.0 one.0 two.0;
          rest = and_from (is_before flown first.0 n) (is_before flown second.0 n) one.1 two.1;
        }
    carried-stays (Dropped leg) n before of is =
        let x = leg.0 in
        let one = free-flier x n before of is in
        let was = leg-was x of in
        record {
          unit = was;
          begins = was.flown;
          same = fly-same I P Q same (dropped x) was.flown;
          untouched = dropped-carried x one.0;
          rest = one.1;
        }
    carried-stays (Restored leg plane) n before of is =
        let parts = and_parts (is_before planes_now plane.0 n) (is_before again_now leg.0 n) is in
        restored-stays I P Q known search later many are planes planes_now flown again again_now by_planes by_again leg.0 plane.0 n before of.0 of.1 parts.0 parts.1
    carried-stays (Handed leg count plane) n before of is =
        let x = leg.0 in
        let q = plane.0 in
        let parts = and_parts (is_before flown_now (flier (row_at Q x)) n) (is_before flown_now q n) is in
        let one = free-flier x n before of.0 parts.0 in
        let other = free-rest q n of.1 before parts.1 in
        let was = leg-was x of.0 in
        record {
          unit = (was, of.1);
          begins = was.flown;
          same = fly-same I P Q same (handed x count q) was.flown;
          untouched = handed-carried x count q one.0 other.0;
          rest = and_from (is_before flown (flier (row_at P x)) n) (is_before flown q n) one.1 other.1;
        }

-- what is out by rows alone stays so, whoever changed: but for legs that may be flown again
module _ (I : Situation) (P Q : PlanRows) (same : P.rows ≡ Q.rows) (known : Untouched) (search : ℕ) (later : IsPlanFor I Q) (feasible : least I Q ≡ None) (are : AreUntouched I P Q known) (old : Findings) (again_now : List ℕ) (by_again : AreTouchedAt (legs_of I) known.again.items search old.again.items again_now) where
  rows-unit : (u : MoveUnit) → BeginsFlown P u → ((y : ℕ) → unit_restores I P u y ≡ true → row_at P y ≡ Cancelled) → IsUnitOutByRows I P u → IsUnitOutByRows I Q u
  rows-unit u on cancelled was =
      let fly = fly-same I P Q same u on in
      record {
        fits = subst (All (Fits I)) (moves-same I P Q u fly) was.fits;
        out = out-by-rows-stays I P Q u later feasible on (rows-agree I P Q same u cancelled) (rows-room I P Q same _) (unit-backs I P Q same u) fly was.out;
      }

  none-again : (y : ℕ) → false ≡ true → row_at P y ≡ Cancelled
  none-again y is = absurd (true≢false (sym is))

  was-flown : (x : ℕ) → IsFlownLeg I Q x → IsFlownLeg I P x
  was-flown x of = record { within = of.within; flown = ap is_flown (row-of I P Q same x) ∙ of.flown }

  flier-before : (touched : List ℕ) (x n : ℕ) → is_before touched (flier (row_at Q x)) n ≡ true → is_before touched (flier (row_at P x)) n ≡ true
  flier-before touched x n is = ap (λ (r : Row). is_before touched (flier r) n) (row-of I P Q same x) ∙ is

  rows-pass : (u : LegUnit) (n : ℕ) → n ≤ search → IsLegUnit I Q u → is_untouched_since Q old.planes.items old.flown.items again_now u n ≡ true → Passes I P Q old (IsUnitOutByRows I P) (IsUnitOutByRows I Q) u n
  rows-pass (Retimed leg) n before of is =
      let was = was-flown leg.0 of in
      record { unit = was; rest = flier-before old.planes.items leg.0 n is; known = rows-unit (retimed leg.0) was.flown none-again }
  rows-pass (Swapped first second) n before of is =
      record { unit = of; rest = is; known = rows-unit (swapped first.0 second.0) tt none-again }
  rows-pass (Dropped leg) n before of is =
      let was = was-flown leg.0 of in
      record { unit = was; rest = flier-before old.flown.items leg.0 n is; known = rows-unit (dropped leg.0) was.flown none-again }
  rows-pass (Restored leg plane) n before of is =
      let parts = and_parts (is_before old.planes.items plane.0 n) (is_before again_now leg.0 n) is in
      let two : IsAgain I P Q leg.0 × (is_before old.again.items leg.0 n ≡ true) = elim (by_again leg.0 of.0) [
        | inl touched ↦ absurd (let less = ltb-true (get_or again_now leg.0 0) n parts.1 in omega (arith, touched, less, before))
        | inr free ↦ (are.again.again leg.0 of.0 free.0, ap (λ (k : ℕ). ltb k n) (sym free.1) ∙ parts.1)
      ] in
      record {
        unit = of;
        rest = and_from (is_before old.planes.items plane.0 n) (is_before old.again.items leg.0 n) parts.0 two.1;
        known = rows-unit (restored leg.0 plane.0) tt (two.0 plane.0).cancelled;
      }
  rows-pass (Handed leg count plane) n before of is =
      let parts = and_parts (is_before old.flown.items (flier (row_at Q leg.0)) n) (is_before old.flown.items plane.0 n) is in
      let was = was-flown leg.0 of.0 in
      record {
        unit = (was, of.1);
        rest = and_from (is_before old.flown.items (flier (row_at P leg.0)) n) (is_before old.flown.items plane.0 n) (flier-before old.flown.items leg.0 n parts.0) parts.1;
        known = rows-unit (handed leg.0 count plane.0) was.flown none-again;
      }

-- ---- notes

lengths : (I : Situation) (P Q : PlanRows) → IsPlanFor I P → IsPlanFor I Q → length P.rows ≡ length Q.rows
lengths I P Q plan later = (let rows = plan.legs in let rows_now = later.legs in omega (arith, rows, rows_now))

no-shard : (I : Situation) (Q : PlanRows) (quiet : Option Shard) → quiet ≡ None → ForSome quiet (λ (s : Shard). first_better I Q s.number s.count ≡ None)
no-shard I Q quiet none = subst (λ (q : Option Shard). ForSome q (λ (s : Shard). first_better I Q s.number s.count ≡ None)) (sym none) (λ s is. absurd cc)

-- notes are moved to a later plan
pub moved-notes : (I : Situation) (old new : UnitNotes) (known : Untouched) → IsValid I → AreUnitNotes I old → IsPlanFor I new.plan → least I new.plan ≡ None → AreUntouched I old.plan new.plan known → AreMoved I old.out new.out → AreMoved I old.by_rows new.by_rows → AreAllTouched I known old.search old.out new.out → AreAllTouched I known old.search old.by_rows new.by_rows → old.search ≤ new.search → new.quiet ≡ None → AreUnitNotes I new
moved-notes I old new known valid notes later feasible are out by_rows out_by rows_by more none =
    let P = old.plan in
    let Q = new.plan in
    let many = lengths I P Q notes.valid later in
    record {
      valid = later;
      feasible = feasible;
      out = findings-moved I P Q old.search new.search (IsUnitOut I P) (IsUnitOut I Q) old.out new.out notes.out out more
          (λ u n before of is. out-passes I P Q valid notes.valid later notes.feasible feasible old.out u n
          (stays I P Q known old.search later many are old.out.planes.items new.out.planes.items old.out.flown.items old.out.again.items new.out.again.items out_by.planes out_by.again new.out.flown.items out_by.flown u n before of is));
      by_rows = findings-moved I P Q old.search new.search (IsUnitOutByRows I P) (IsUnitOutByRows I Q) old.by_rows new.by_rows notes.by_rows by_rows more
          (λ u n before of is. by-rows-passes I P Q valid notes.valid later notes.feasible feasible old.by_rows u n
          (stays I P Q known old.search later many are old.by_rows.planes.items new.by_rows.planes.items old.by_rows.flown.items old.by_rows.again.items new.by_rows.again.items rows_by.planes rows_by.again new.by_rows.flown.items rows_by.flown u n before of is));
      quiet = no-shard I Q new.quiet none;
    }

-- and to one with the same rows
pub carried-notes : (I : Situation) (old new : UnitNotes) (known : Untouched) (marks : List Bool) → IsValid I → AreUnitNotes I old → IsPlanFor I new.plan → least I new.plan ≡ None → old.plan.rows ≡ new.plan.rows → AreUntouched I old.plan new.plan known → AreCarriedTold (reservations_of I) I old.plan new.plan marks → AreMoved I old.out new.out → AreTouchedAt (planes_of I) known.planes.items old.search old.out.planes.items new.out.planes.items → AreTouchedAt (planes_of I) marks old.search old.out.flown.items new.out.flown.items → AreTouchedAt (legs_of I) known.again.items old.search old.out.again.items new.out.again.items → AreMoved I old.by_rows new.by_rows → new.by_rows.planes.items ≡ old.by_rows.planes.items → new.by_rows.flown.items ≡ old.by_rows.flown.items → AreTouchedAt (legs_of I) known.again.items old.search old.by_rows.again.items new.by_rows.again.items → old.search ≤ new.search → new.quiet ≡ None → AreUnitNotes I new
carried-notes I old new known marks valid notes later feasible same are told out out_planes out_flown out_again by_rows rows_planes rows_flown rows_again more none =
    let P = old.plan in
    let Q = new.plan in
    let many = lengths I P Q notes.valid later in
    record {
      valid = later;
      feasible = feasible;
      out = findings-moved I P Q old.search new.search (IsUnitOut I P) (IsUnitOut I Q) old.out new.out notes.out out more
          (λ u n before of is. out-passes I P Q valid notes.valid later notes.feasible feasible old.out u n
          (carried-stays I P Q same marks old.search later told old.out.flown.items new.out.flown.items out_flown known many are old.out.planes.items new.out.planes.items old.out.again.items new.out.again.items out_planes out_again u n before of is));
      by_rows = findings-moved I P Q old.search new.search (IsUnitOutByRows I P) (IsUnitOutByRows I Q) old.by_rows new.by_rows notes.by_rows by_rows more
          (λ u n before of is.
          let here : is_untouched_since Q old.by_rows.planes.items old.by_rows.flown.items new.by_rows.again.items u n ≡ true =
          sym (ap (λ (planes : List ℕ). is_untouched_since Q planes new.by_rows.flown.items new.by_rows.again.items u n) rows_planes
          ∙ ap (λ (flown : List ℕ). is_untouched_since Q old.by_rows.planes.items flown new.by_rows.again.items u n) rows_flown)
          ∙ is in
          rows-pass I P Q same known old.search later feasible are old.by_rows new.by_rows.again.items rows_again u n before of here);
      quiet = no-shard I Q new.quiet none;
    }
