-- When an aircraft has landed: no earlier than any leg that has left with it, and no later than the last of them.
use Rattle.std.proofs.Common.{◌≡◌, ℕ, zero, suc, ◌+◌, ◌<◌, ◌≤◌, inl, inr, eqb, List, [], ◌∷◌, length, get_or, max, refl, ap, arith}
use Rattle.std.specs.Prelude.{Option, None, Some, fold, zip}
use Rattle.std.proofs.lemmas.Bool.{cases_Bool, eqb-true, eq-eqb}
use Rattle.desk_data.specs.declared.info.LegInfo.{LegInfo}
use Rattle.desk_data.specs.declared.row.Row.{Row}
use Rattle.desk_data.specs.declared.row.Row.TheVariants.{Flown, Cancelled}
use Rattle.desk_data.specs.Situation.{Situation, frozen_at, landed, lands_frozen, leg_at, legs_of, no_leg}
use Rattle.desk_data.specs.Valid.{IsValid}
use Rattle.near_moves.specs.WhatLeft.{HasFlown, HasLanded}

-- ---- the latest of some landings

abbrev latest_from : ℕ → ℕ → List LegInfo → List (Option Row) → ℕ
latest_from p last legs rows = fold (λ last (pair : LegInfo × Option Row). max last (lands_frozen p pair.0.block pair.1)) last (zip legs rows)

abbrev lands_at : ℕ → List LegInfo → List (Option Row) → ℕ → ℕ
lands_at p legs rows x = lands_frozen p (get_or legs x no_leg).block (get_or rows x None)

no_less : (p last : ℕ) (legs : List LegInfo) (rows : List (Option Row)) → last ≤ latest_from p last legs rows
no_less p last [] rows = omega arith
no_less p last (leg ∷ legs) [] = omega arith
no_less p last (leg ∷ legs) (row ∷ rows) =
    let more = no_less p (max last (lands_frozen p leg.block row)) legs rows in
    omega (arith, more)

each_lands : (p last : ℕ) (legs : List LegInfo) (rows : List (Option Row)) (x : ℕ) → x < length legs → x < length rows → lands_at p legs rows x ≤ latest_from p last legs rows
each_lands p last [] rows x within told = absurd (omega (arith, within))
each_lands p last (leg ∷ legs) [] x within told = absurd (omega (arith, told))
each_lands p last (leg ∷ legs) (row ∷ rows) zero within told =
    let more = no_less p (max last (lands_frozen p leg.block row)) legs rows in
    omega (arith, more)
each_lands p last (leg ∷ legs) (row ∷ rows) (suc x) within told =
    each_lands p (max last (lands_frozen p leg.block row)) legs rows x (omega (arith, within)) (omega (arith, told))

all_land : (p last at : ℕ) (legs : List LegInfo) (rows : List (Option Row)) → last ≤ at → ((x : ℕ) → x < length legs → x < length rows → lands_at p legs rows x ≤ at) → latest_from p last legs rows ≤ at
all_land p last at [] rows start each = start
all_land p last at (leg ∷ legs) [] start each = start
all_land p last at (leg ∷ legs) (row ∷ rows) start each =
    let here = each 0 (omega arith) (omega arith) in
    all_land p (max last (lands_frozen p leg.block row)) at legs rows (omega (arith, start, here))
    (λ x within told. each (suc x) (omega (arith, within)) (omega (arith, told)))

-- ---- of an aircraft

lands_own : (p d block : ℕ) (row : Option Row) → row ≡ Some (Flown (record { 0 = p }) (record { 0 = d })) → lands_frozen p block row ≡ d + block
lands_own p d block row is = rw (is, eq-eqb p p refl) refl

lands_by : (p block at : ℕ) (row : Option Row) → ((d : ℕ) → row ≡ Some (Flown (record { 0 = p }) (record { 0 = d })) → d + block ≤ at) → lands_frozen p block row ≤ at
lands_by p block at None by = omega arith
lands_by p block at (Some Cancelled) by = omega arith
lands_by p block at (Some (Flown plane dep)) by =
    elim (cases_Bool (eqb plane.0 p)) [
      | inl same ↦
          let own : Some (Flown plane dep) ≡ Some (Flown (record { 0 = p }) (record { 0 = dep.0 })) = ap (λ (k : ℕ). Some (Flown (record { 0 = k }) dep)) (eqb-true plane.0 p same) in
          let early = by dep.0 own in
          rw same early
      | inr other ↦ rw other (omega arith)
    ]

pub flown-landed : (I : Situation) (p x d : ℕ) → IsValid I → x < legs_of I → HasFlown I p x d → d + (leg_at I x).block ≤ landed I p
flown-landed I p x d valid within flown =
    let last = each_lands p 0 I.parts.legs I.progress.frozen x within (omega (arith, within, valid.progress.legs)) in
    let own = lands_own p d (leg_at I x).block (frozen_at I x) flown in
    omega (arith, last, own)

pub landed-from : (I : Situation) (p at : ℕ) → HasLanded I p at → landed I p ≤ at
landed-from I p at has =
    all_land p 0 at I.parts.legs I.progress.frozen (omega arith)
    (λ x within told. lands_by p (leg_at I x).block at (frozen_at I x) (λ d flown. has x d within flown))

pub landed-holds : (I : Situation) (p at : ℕ) → IsValid I → landed I p ≤ at → HasLanded I p at
landed-holds I p at valid by = λ x d within flown.
    let own = flown-landed I p x d valid within flown in
    omega (arith, own, by)
