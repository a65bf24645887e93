-- The text of a plan's rotations is read as its rows, by their names.
use Rattle.std.proofs.Common.{◌≡◌, ℕ, ◌/◌, ◌%◌, ◌<◌, ◌≤◌, false, List, [], ◌∷◌, ◌++◌, length, Option, Some, None, Ok, refl, sym, ap, subst, ◌∙◌, arith, append_assoc, codes}
use Rattle.std.specs.List.{AllByRecursion, flat_map, zip}
use Rattle.std.proofs.lemmas.List.Concat.{flat_map-cons}
use Rattle.std.proofs.lemmas.List.Elements.{recursion_from_All}
use Rattle.desk_units.specs.Padded.{IsNameLength}
use Rattle.desk_text.specs.Lines.{is_last, fields}
use Rattle.desk_text.specs.Texts.{date_text, time_text}
use Rattle.desk_data.specs.declared.info.LegInfo.{LegInfo}
use Rattle.desk_data.specs.declared.row.Row.{Row}
use Rattle.desk_data.specs.declared.row.Row.TheVariants.{Flown, Cancelled}
use Rattle.desk_data.specs.PlanRows.{PlanRows}
use Rattle.desk_data.specs.Situation.{Situation, planes_of, plane_at, no_plane}
use Rattle.desk_data.specs.Valid.{IsSeen, IsValid, IsLeg, IsRowOf, IsPlanFor}
use Rattle.file_readers.specs.declared.sol_row.PlannedFlight.{PlannedFlight}
use Rattle.file_readers.specs.declared.sol_row.PlannedLeg.{PlannedLeg}
use Rattle.file_readers.specs.Legs.{departure_of, flown_of, planned_leg, rotation_rows}
use Rattle.output_texts.specs.Rotations.{row_text, rotation_line, rotations_text}
use Rattle.desk_top.specs.Lengths.{HasNames}
use Rattle.desk_top.proofs.Spelled.{name_back, date_back}
use Rattle.desk_top.specs.Plain.{ArePlain}
use Rattle.desk_top.proofs.TextLemmas.{IsSeenByte, IsField, seen_from, spaced, after_space, fields_of_spaced, spaced_line, Reads, numbered, text_reads}
use Rattle.desk_top.proofs.ValueLemmas.{date_field, moment_back, time_field}

-- a name is a field
pub name_field : (name : List ℕ) → IsNameLength (length name) → IsSeen name → IsField name
name_field name size seen = record { some = size.least; seen = recursion_from_All IsSeenByte name seen }

-- ---- lines

-- fields, and what is after them
pub spaced_then : (field next : List ℕ) (others : List (List ℕ)) (end : List ℕ) → spaced field (next ∷ others) ++ end ≡ field ++ 32 ∷ (spaced next others ++ end)
spaced_then field next others end = append_assoc field (32 ∷ spaced next others) end

-- the first field of a row, and the others
abbrev row_field : Situation → Row → List ℕ
row_field I (Flown plane dep) = (plane_at I plane.0).name
row_field I Cancelled = codes "cancelled"

abbrev departure_fields : Row → List (List ℕ)
departure_fields (Flown plane dep) = date_text (dep.0 / 1440) ∷ time_text (dep.0 % 1440) ∷ []
departure_fields Cancelled = []

abbrev pub leg_line : Situation → LegInfo × Row → List ℕ
leg_line I pair = spaced pair.0.flight (date_text pair.0.day ∷ row_field I pair.1 ∷ departure_fields pair.1)

row_is : (I : Situation) (row : Row) → row_text I row ≡ spaced (row_field I row) (departure_fields row)
row_is I (Flown plane dep) =
    let name = (plane_at I plane.0).name in
    let date = date_text (dep.0 / 1440) in
    let time = time_text (dep.0 % 1440) in
    append_assoc name (32 ∷ []) (date ++ (32 ∷ []) ++ time) ∙ ap (λ (text : List ℕ). name ++ 32 ∷ text) (append_assoc date (32 ∷ []) time)
row_is I Cancelled = refl

line_is : (I : Situation) (leg : LegInfo) (row : Row) → rotation_line I leg row ≡ leg_line I (leg, row) ++ 10 ∷ []
unfolding rotation_line
line_is I leg row =
    let date = date_text leg.day in
    let first = row_field I row in
    let others = departure_fields row in
    after_space (leg.flight ++ (32 ∷ []) ++ date) (row_text I row) (10 ∷ [])
    ∙ after_space leg.flight date (32 ∷ (row_text I row ++ 10 ∷ []))
    ∙ ap (λ (text : List ℕ). leg.flight ++ 32 ∷ (date ++ 32 ∷ (text ++ 10 ∷ []))) (row_is I row)
    ∙ sym (spaced_then leg.flight date (first ∷ others) (10 ∷ []) ∙ ap (λ (text : List ℕ). leg.flight ++ 32 ∷ text) (spaced_then date first others (10 ∷ [])))

lines_are : (I : Situation) (pairs : List (LegInfo × Row)) → flat_map (λ pair. rotation_line I pair.0 pair.1) pairs ≡ flat_map (λ pair. leg_line I pair ++ 10 ∷ []) pairs
lines_are I [] = refl
lines_are I (pair ∷ pairs) =
    flat_map-cons (λ pair. rotation_line I pair.0 pair.1) pair pairs
    ∙ (λ i. line_is I pair.0 pair.1 i ++ lines_are I pairs i)
    ∙ sym (flat_map-cons (λ pair. leg_line I pair ++ 10 ∷ []) pair pairs)

-- ---- rows

abbrev pub flown_stated : Situation → Row → Option PlannedFlight
flown_stated I (Flown plane dep) = Some (record { aircraft = (plane_at I plane.0).name; dep = dep })
flown_stated I Cancelled = None

-- the row of a line
abbrev pub leg_stated : Situation → ℕ → LegInfo × Row → PlannedLeg
leg_stated I n pair = record { line = n; flight = pair.0.flight; day = pair.0.day; flown = flown_stated I pair.1 }

-- what is known of a leg and its row
pub record IsStated (I : Situation) (pair : LegInfo × Row) : Type 0 where
  pub size : IsNameLength (length pair.0.flight)
  pub seen : IsSeen pair.0.flight
  pub plain : is_last pair.0.flight ≡ false
  pub day : pair.0.day < 36525
  pub row : IsRowOf (planes_of I) pair.1
  pub planes : (p : ℕ) → p < planes_of I → IsNameLength (length (plane_at I p).name) × IsSeen (plane_at I p).name

cancelled_field : IsField (codes "cancelled")
cancelled_field = record { some = omega arith; seen = seen_from (codes "cancelled") refl }

row_fields_fit : (I : Situation) (row : Row) → IsRowOf (planes_of I) row → ((p : ℕ) → p < planes_of I → IsNameLength (length (plane_at I p).name) × IsSeen (plane_at I p).name) → IsField (row_field I row) × AllByRecursion IsField (departure_fields row)
row_fields_fit I (Flown plane dep) is planes =
    let known = planes plane.0 is.0 in
    let early = is.1 in
    (name_field (plane_at I plane.0).name known.0 known.1, (date_field (dep.0 / 1440) (omega (arith, early)), (time_field (dep.0 % 1440) (omega arith), tt)))
row_fields_fit I Cancelled is planes = (cancelled_field, tt)

flown_back : (I : Situation) (row : Row) → IsRowOf (planes_of I) row → ((p : ℕ) → p < planes_of I → IsNameLength (length (plane_at I p).name) × IsSeen (plane_at I p).name)
    → (departure : Option (List ℕ × List ℕ)) → departure_of (departure_fields row) ≡ Ok departure → flown_of (row_field I row) departure ≡ Ok (flown_stated I row)
unfolding flown_of
flown_back I (Flown plane dep) is planes departure e =
    let known = planes plane.0 is.0 in
    let early = is.1 in
    let there : Some (date_text (dep.0 / 1440), time_text (dep.0 % 1440)) ≡ departure = cc in
    ap (flown_of (plane_at I plane.0).name) (sym there)
    ∙ rw (name_back (plane_at I plane.0).name known.0) (rw (moment_back dep.0 (omega (arith, early))) refl)
flown_back I Cancelled is planes departure e =
    let none : None ≡ departure = cc in
    ap (flown_of (codes "cancelled")) (sym none)

departure_there : (row : Row) → (departure : Option (List ℕ × List ℕ)) × (departure_of (departure_fields row) ≡ Ok departure)
departure_there (Flown plane dep) = (Some (date_text (dep.0 / 1440), time_text (dep.0 % 1440)), refl)
departure_there Cancelled = (None, refl)

line_reads : (I : Situation) (pair : LegInfo × Row) → IsStated I pair → Reads planned_leg (leg_line I) (leg_stated I) pair
unfolding planned_leg
line_reads I pair stated =
    let flight = name_field pair.0.flight stated.size stated.seen in
    let date = date_field pair.0.day stated.day in
    let row = row_fields_fit I pair.1 stated.row stated.planes in
    let departure = departure_there pair.1 in
    let cut : fields (leg_line I pair) ≡ pair.0.flight ∷ date_text pair.0.day ∷ row_field I pair.1 ∷ departure_fields pair.1 =
    fields_of_spaced pair.0.flight (date_text pair.0.day ∷ row_field I pair.1 ∷ departure_fields pair.1) flight (date, (row.0, row.1)) in
    record {
      is_line = spaced_line pair.0.flight (date_text pair.0.day ∷ row_field I pair.1 ∷ departure_fields pair.1) flight stated.plain (date, (row.0, row.1));
      reads = λ n.
          ap (planned_leg n) cut
          ∙ rw departure.1 (rw (name_back pair.0.flight stated.size) (rw (date_back pair.0.day stated.day) (rw (flown_back I pair.1 stated.row stated.planes departure.0 departure.1) refl)));
    }

-- ---- the file

zip_stated : (I : Situation) (legs : List LegInfo) (rows : List Row) → ((p : ℕ) → p < planes_of I → IsNameLength (length (plane_at I p).name) × IsSeen (plane_at I p).name)
    → AllByRecursion (λ (leg : LegInfo). IsNameLength (length leg.flight)) legs → AllByRecursion (λ (leg : LegInfo). is_last leg.flight ≡ false) legs
    → AllByRecursion (λ (leg : LegInfo). IsSeen leg.flight × (leg.day < 36525)) legs → AllByRecursion (IsRowOf (planes_of I)) rows → AllByRecursion (Reads planned_leg (leg_line I) (leg_stated I)) (zip legs rows)
zip_stated I [] rows planes sizes plain valid good = tt
zip_stated I (leg ∷ legs) [] planes sizes plain valid good = tt
zip_stated I (leg ∷ legs) (row ∷ rows) planes sizes plain valid good = (
  line_reads I (leg, row) (record { size = sizes.0; seen = valid.0.0; plain = plain.0; day = valid.0.1; row = good.0; planes = planes }),
  zip_stated I legs rows planes sizes.1 plain.1 valid.1 good.1,
)

legs_seen : (airports planes n : ℕ) (legs : List LegInfo) → AllByRecursion (IsLeg airports planes n) legs → AllByRecursion (λ (leg : LegInfo). IsSeen leg.flight × (leg.day < 36525)) legs
legs_seen airports planes n [] all = tt
legs_seen airports planes n (leg ∷ legs) all = ((all.0.flight, all.0.day), legs_seen airports planes n legs all.1)

-- the rows of the written file
pub rotations_read : (I : Situation) (P : PlanRows) → IsValid I → HasNames I → ArePlain I → IsPlanFor I P → length (rotations_text I P) ≤ 67108864 → rotation_rows (rotations_text I P) ≡ Ok (numbered planned_leg (leg_line I) (leg_stated I) 1 (zip I.parts.legs P.rows))
unfolding rotations_text
rotations_read I P valid names plain plan few =
    let same = lines_are I (zip I.parts.legs P.rows) in
    let parts = valid.parts in
    let planes : (p : ℕ) → p < planes_of I → IsNameLength (length (plane_at I p).name) × IsSeen (plane_at I p).name = λ p below. (names.planes p no_plane below, (parts.planes p no_plane below).name) in
    ap rotation_rows same
    ∙ text_reads planned_leg (leg_line I) (leg_stated I) 67108864 (zip I.parts.legs P.rows)
    (zip_stated I I.parts.legs P.rows planes (recursion_from_All (λ (leg : LegInfo). IsNameLength (length leg.flight)) I.parts.legs names.legs) (recursion_from_All (λ (leg : LegInfo). is_last leg.flight ≡ false) I.parts.legs plain.flights)
    (legs_seen _ _ _ I.parts.legs (recursion_from_All (IsLeg _ _ _) I.parts.legs parts.legs)) (recursion_from_All (IsRowOf (planes_of I)) P.rows plan.rows))
    (subst (λ (text : List ℕ). length text ≤ 67108864) same few)
