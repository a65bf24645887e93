-- The text of a plan's itineraries is read as its groups, by their names.
use Rattle.std.proofs.Common.{◌≡◌, ℕ, suc, ◌*◌, ◌%◌, ◌<◌, ◌≤◌, Bool, true, false, cond, List, [], ◌∷◌, ◌++◌, length, map, get_or, Ok, Err, refl, sym, ap, subst, ◌∙◌, arith, append_assoc, codes}
use Rattle.std.specs.Prelude.{decimal}
use Rattle.std.specs.List.{AllByRecursion, flat_map, zip}
use Rattle.std.proofs.lemmas.Bool.{eq-eqb}
use Rattle.std.proofs.lemmas.List.Concat.{flat_map-cons}
use Rattle.std.proofs.lemmas.Grind.{flat_map-append}
use Rattle.desk_units.specs.Padded.{IsNameLength}
use Rattle.desk_units.specs.declared.numbers.Cabin.{Cabin}
use Rattle.desk_units.specs.declared.numbers.Cabin.TheVariants as cabin
use Rattle.desk_units.specs.declared.numbers.Leg.{Leg}
use Rattle.file_rows.specs.declared.cause.Cause.TheVariants as causes
use Rattle.file_rows.specs.declared.passengers.LegRow.{LegRow}
use Rattle.desk_text.specs.Fields.{inbound_of, cabin_of}
use Rattle.desk_text.specs.Lines.{is_last}
use Rattle.desk_text.specs.Texts.{date_text, cabin_text, direction_text}
use Rattle.desk_data.specs.declared.info.ResInfo.{ResInfo}
use Rattle.desk_data.specs.declared.row.Group.{Group}
use Rattle.desk_data.specs.PlanRows.{PlanRows}
use Rattle.desk_data.specs.Situation.{Situation, legs_of, leg_at}
use Rattle.desk_data.specs.Valid.{IsSeen}
use Rattle.file_readers.specs.Itineraries.{leg_of, legs_of as seats_of, before_all}
use Rattle.file_readers.specs.declared.sol_row.PlannedGroup.{PlannedGroup}
use Rattle.file_readers.specs.Groups.{whole_groups, planned_group, itinerary_rows}
use Rattle.output_texts.specs.Itineraries.{seat_text, group_line, group_lines, itineraries_text}
use Rattle.desk_top.proofs.Spelled.{name_back, date_back, number_back}
use Rattle.desk_top.proofs.TextLemmas.{IsField, seen_from, spaced, after_space, fields_of_spaced, spaced_line, Reads, numbered, text_reads}
use Rattle.desk_top.proofs.ValueLemmas.{date_field, number_field}
use Rattle.desk_top.proofs.LegRows.{name_field, spaced_then}

-- ---- lines

-- the fields of a path
abbrev pub path_fields : Situation → List (Leg × Cabin) → List (List ℕ)
path_fields I [] = []
path_fields I (pair ∷ path) = (leg_at I pair.0.0).flight ∷ date_text (leg_at I pair.0.0).day ∷ cabin_text pair.1 ∷ path_fields I path

append_none : (field : List ℕ) → field ++ [] ≡ field
append_none [] = refl
append_none (b ∷ field) = ap (λ (bs : List ℕ). b ∷ bs) (append_none field)

-- the text of a path after a field
path_is : (I : Situation) (field : List ℕ) (path : List (Leg × Cabin)) → field ++ flat_map (seat_text I) path ≡ spaced field (path_fields I path)
unfolding seat_text
path_is I field [] = append_none field
path_is I field (pair ∷ path) =
    let flight = (leg_at I pair.0.0).flight in
    let date = date_text (leg_at I pair.0.0).day in
    let cabin = cabin_text pair.1 in
    let rest = flat_map (seat_text I) path in
    ap (λ (text : List ℕ). field ++ text)
    (flat_map-cons (seat_text I) pair path
    ∙ ap (λ (text : List ℕ). 32 ∷ text) (after_space (flight ++ (32 ∷ []) ++ date) cabin rest ∙ after_space flight date (32 ∷ (cabin ++ rest)))
    ∙ ap (λ (text : List ℕ). 32 ∷ (flight ++ 32 ∷ (date ++ 32 ∷ text))) (path_is I cabin path))

abbrev pub party_line : Situation → ResInfo × Group → List ℕ
party_line I pair = spaced pair.0.name (direction_text pair.0.inbound ∷ decimal pair.1.count ∷ path_fields I pair.1.path)

line_is : (I : Situation) (res : ResInfo) (group : Group) → group_line I res group ≡ party_line I (res, group) ++ 10 ∷ []
unfolding group_line
line_is I res group =
    let way = direction_text res.inbound in
    let count = decimal group.count in
    let seats = path_fields I group.path in
    let path = flat_map (seat_text I) group.path in
    append_assoc (res.name ++ (32 ∷ []) ++ way ++ (32 ∷ []) ++ count) path (10 ∷ [])
    ∙ after_space (res.name ++ (32 ∷ []) ++ way) count (path ++ 10 ∷ [])
    ∙ after_space res.name way (32 ∷ (count ++ (path ++ 10 ∷ [])))
    ∙ ap (λ (text : List ℕ). res.name ++ 32 ∷ (way ++ 32 ∷ text)) (sym (append_assoc count (flat_map (seat_text I) group.path) (10 ∷ [])) ∙ ap (λ (text : List ℕ). text ++ 10 ∷ []) (path_is I count group.path))
    ∙ sym (spaced_then res.name way (count ∷ seats) (10 ∷ []) ∙ ap (λ (text : List ℕ). res.name ++ 32 ∷ text) (spaced_then way count seats (10 ∷ [])))

-- the groups of all reservations, one after the other, each with its reservation
abbrev pub with_res : ResInfo → List Group → List (ResInfo × Group)
with_res res groups = map (λ group. (res, group)) groups

abbrev pub parties : List ResInfo → List (List Group) → List (ResInfo × Group)
parties [] of = []
parties (res ∷ reservations) [] = []
parties (res ∷ reservations) (groups ∷ of) = with_res res groups ++ parties reservations of

abbrev party_text : Situation → ResInfo × Group → List ℕ
party_text I pair = party_line I pair ++ 10 ∷ []

group_lines_are : (I : Situation) (res : ResInfo) (groups : List Group) → group_lines I res groups ≡ flat_map (party_text I) (with_res res groups)
unfolding group_lines
group_lines_are I res [] = refl
group_lines_are I res (group ∷ groups) =
    flat_map-cons (group_line I res) group groups
    ∙ (λ i. line_is I res group i ++ group_lines_are I res groups i)
    ∙ sym (flat_map-cons (party_text I) (res, group) (with_res res groups))

lines_are : (I : Situation) (reservations : List ResInfo) (of : List (List Group)) → flat_map (λ pair. group_lines I pair.0 pair.1) (zip reservations of) ≡ flat_map (party_text I) (parties reservations of)
lines_are I [] of = refl
lines_are I (res ∷ reservations) [] = refl
lines_are I (res ∷ reservations) (groups ∷ of) =
    flat_map-cons (λ pair. group_lines I pair.0 pair.1) (res, groups) (zip reservations of)
    ∙ (λ i. group_lines_are I res groups i ++ lines_are I reservations of i)
    ∙ sym (flat_map-append (party_text I) (with_res res groups) (parties reservations of))

-- ---- rows

abbrev pub seat_row : Situation → Leg × Cabin → LegRow
seat_row I pair = record { flight = (leg_at I pair.0.0).flight; day = (leg_at I pair.0.0).day; cabin = pair.1 }

-- the row of a line
abbrev pub group_stated : Situation → ℕ → ResInfo × Group → PlannedGroup
group_stated I n pair = record { line = n; name = pair.0.name; inbound = pair.0.inbound; count = pair.1.count; legs = map (seat_row I) pair.1.path }

-- what is known of each leg of a day
abbrev pub KnownLegs : Situation → Type 0
KnownLegs I = (x : ℕ) → x < legs_of I → IsNameLength (length (leg_at I x).flight) × IsSeen (leg_at I x).flight × ((leg_at I x).day < 36525)

pub record IsStated (I : Situation) (pair : ResInfo × Group) : Type 0 where
  pub size : IsNameLength (length pair.0.name)
  pub seen : IsSeen pair.0.name
  pub plain : is_last pair.0.name ≡ false
  pub some : 1 ≤ pair.1.count
  pub most : pair.1.count ≤ 1000
  pub path : AllByRecursion (λ (seat : Leg × Cabin). seat.0.0 < legs_of I) pair.1.path
  pub legs : KnownLegs I

cabin_back : (c : Cabin) → cabin_of (cabin_text c) ≡ Ok c
cabin_back cabin.F = refl
cabin_back cabin.B = refl
cabin_back cabin.E = refl

cabin_field : (c : Cabin) → IsField (cabin_text c)
cabin_field cabin.F = record { some = omega arith; seen = seen_from (codes "F") refl }
cabin_field cabin.B = record { some = omega arith; seen = seen_from (codes "B") refl }
cabin_field cabin.E = record { some = omega arith; seen = seen_from (codes "E") refl }

way_back : (inbound : Bool) → inbound_of (direction_text inbound) ≡ Ok inbound
way_back false = refl
way_back true = refl

way_field : (inbound : Bool) → IsField (direction_text inbound)
way_field false = record { some = omega arith; seen = seen_from (codes "A") refl }
way_field true = record { some = omega arith; seen = seen_from (codes "R") refl }

path_fits : (I : Situation) (path : List (Leg × Cabin)) → KnownLegs I → AllByRecursion (λ (seat : Leg × Cabin). seat.0.0 < legs_of I) path → AllByRecursion IsField (path_fields I path)
path_fits I [] legs all = tt
path_fits I (pair ∷ path) legs all =
    let known = legs pair.0.0 all.0 in
    (name_field (leg_at I pair.0.0).flight known.0 known.1, (date_field (leg_at I pair.0.0).day known.2, (cabin_field pair.1, path_fits I path legs all.1)))

path_back : (I : Situation) (path : List (Leg × Cabin)) → KnownLegs I → AllByRecursion (λ (seat : Leg × Cabin). seat.0.0 < legs_of I) path → seats_of (path_fields I path) ≡ Ok (map (seat_row I) path)
unfolding seats_of leg_of
path_back I [] legs all = refl
path_back I (pair ∷ path) legs all =
    let known = legs pair.0.0 all.0 in
    rw (name_back (leg_at I pair.0.0).flight known.0) (rw (date_back (leg_at I pair.0.0).day known.2) (rw (cabin_back pair.1) (ap (before_all (seat_row I pair)) (path_back I path legs all.1))))

three_each : (I : Situation) (path : List (Leg × Cabin)) → length (path_fields I path) ≡ 3 * length path
three_each I [] = refl
three_each I (pair ∷ path) = omega (arith, three_each I path)

whole_path : (I : Situation) (path : List (Leg × Cabin)) → whole_groups (path_fields I path) ≡ Ok (path_fields I path)
whole_path I path =
    let rest : length (path_fields I path) % 3 ≡ 0 = omega (arith, three_each I path) in
    ap (λ t. cond t (Ok (path_fields I path)) (Err causes.Fields)) (eq-eqb (length (path_fields I path) % 3) 0 rest)

line_reads : (I : Situation) (pair : ResInfo × Group) → IsStated I pair → Reads planned_group (party_line I) (group_stated I) pair
unfolding planned_group
line_reads I pair stated =
    let others = direction_text pair.0.inbound ∷ decimal pair.1.count ∷ path_fields I pair.1.path in
    let name = name_field pair.0.name stated.size stated.seen in
    let fit : AllByRecursion IsField others = (way_field pair.0.inbound, (number_field pair.1.count stated.most, path_fits I pair.1.path stated.legs stated.path)) in
    record {
      is_line = spaced_line pair.0.name others name stated.plain fit;
      reads = λ n.
          ap (planned_group n) (fields_of_spaced pair.0.name others name fit)
          ∙ rw (whole_path I pair.1.path) (rw (name_back pair.0.name stated.size) (rw (way_back pair.0.inbound) (rw (number_back 1 1000 pair.1.count stated.some stated.most (omega arith)) (rw (path_back I pair.1.path stated.legs stated.path) refl))));
    }

-- ---- the file

-- what is known of a reservation and its groups
pub record AreKnown (I : Situation) (res : ResInfo) (groups : List Group) : Type 0 where
  pub size : IsNameLength (length res.name)
  pub seen : IsSeen res.name
  pub plain : is_last res.name ≡ false
  pub groups_are : AllByRecursion (λ (group : Group). (1 ≤ group.count) × (group.count ≤ 1000) × AllByRecursion (λ (seat : Leg × Cabin). seat.0.0 < legs_of I) group.path) groups

groups_read : (I : Situation) (res : ResInfo) (groups : List Group) → KnownLegs I → AreKnown I res groups → AllByRecursion (Reads planned_group (party_line I) (group_stated I)) (with_res res groups)
groups_read I res [] legs known = tt
groups_read I res (group ∷ groups) legs known =
    let first = known.groups_are.0 in (
      line_reads I (res, group) (record { size = known.size; seen = known.seen; plain = known.plain; some = first.0; most = first.1; path = first.2; legs = legs }),
      groups_read I res groups legs (record { size = known.size; seen = known.seen; plain = known.plain; groups_are = known.groups_are.1 }),
    )

reads_append : (I : Situation) (xs ys : List (ResInfo × Group)) → AllByRecursion (Reads planned_group (party_line I) (group_stated I)) xs → AllByRecursion (Reads planned_group (party_line I) (group_stated I)) ys
    → AllByRecursion (Reads planned_group (party_line I) (group_stated I)) (xs ++ ys)
reads_append I [] ys first second = second
reads_append I (x ∷ xs) ys first second = (first.0, reads_append I xs ys first.1 second)

parties_read : (I : Situation) (reservations : List ResInfo) (of : List (List Group)) → KnownLegs I → ((r : ℕ) → r < length reservations → (d : ResInfo) → AreKnown I (get_or reservations r d) (get_or of r []))
    → AllByRecursion (Reads planned_group (party_line I) (group_stated I)) (parties reservations of)
parties_read I [] of legs known = tt
parties_read I (res ∷ reservations) [] legs known = tt
parties_read I (res ∷ reservations) (groups ∷ of) legs known =
    reads_append I (with_res res groups) (parties reservations of) (groups_read I res groups legs (known 0 (omega arith) res))
    (parties_read I reservations of legs (λ r below d. known (suc r) (omega (arith, below)) d))

-- the rows of the written file
pub itineraries_read : (I : Situation) (P : PlanRows) → KnownLegs I → ((r : ℕ) → r < length I.parts.res → (d : ResInfo) → AreKnown I (get_or I.parts.res r d) (get_or P.groups r [])) → length (itineraries_text I P) ≤ 67108864
    → itinerary_rows (itineraries_text I P) ≡ Ok (numbered planned_group (party_line I) (group_stated I) 1 (parties I.parts.res P.groups))
unfolding itineraries_text
itineraries_read I P legs known few =
    let same = lines_are I I.parts.res P.groups in
    ap itinerary_rows same
    ∙ text_reads planned_group (party_line I) (group_stated I) 67108864 (parties I.parts.res P.groups) (parties_read I I.parts.res P.groups legs known)
    (subst (λ (text : List ℕ). length text ≤ 67108864) same few)
