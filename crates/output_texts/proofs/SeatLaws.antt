-- The seats that are left, in a table.
use Rattle.std.proofs.Common.{◌≡◌, ◌≢◌, ℕ, ◌+◌, ◌-◌, ◌*◌, ◌/◌, ◌<◌, ◌≤◌, min, Bool, true, false, ◌&&◌, ◌||◌, eqb, List, [], ◌∷◌, ◌++◌, length, get_or, set, sum_by, if◌then◌else◌, inl, inr, arith, ap, sym, ◌∙◌, refl, subst}
use Rattle.std.proofs.lemmas.Bool.{cases_Bool, true≢false, eqb-true, eq-eqb}
use Rattle.std.proofs.lemmas.Bool.Decides.{eqb_tells}
use Rattle.std.proofs.lemmas.List.{get_or-set_other, length-set, append-nil, flat_map_more}
use Rattle.std.specs.List.{flat_map}
use Rattle.std.proofs.lemmas.Grind.{get_or-set_at}
use Rattle.std.proofs.lemmas.List.Sums.{sum_by_push}
use Rattle.desk_units.specs.declared.numbers.Cabin.{Cabin}
use Rattle.desk_units.specs.declared.numbers.Cabin.TheVariants as cabin
use Rattle.desk_units.specs.declared.numbers.Seats.{Seats}
use Rattle.desk_units.specs.Ranks.{cabin_rank}
use Rattle.output_texts.specs.declared.demand.Trip.{Trip}
use Rattle.output_texts.specs.declared.demand.Trip.TheVariants.{One, Two}
use Rattle.output_texts.specs.declared.demand.Request.{Request}
use Rattle.output_texts.specs.Fleet.{kind_of, seats_of}
use Rattle.output_texts.specs.Schedule.{legs_of}
use Rattle.output_texts.specs.Demand.{Line, has_leg, taken_by, left, left_on, granted, with_request, itinerary_line}
use Rattle.output_texts.specs.Seats.{no_seats, in_cabin, fewer, plane_seats, seats_left, row_at, AreLeft, IsTripWithin, room_on, granted_by, row_without, trip_without, rows_without, rows_served, text_served}

-- a number as it is where nothing is taken
less_none : (a b : ℕ) → b ≡ 0 → a - b ≡ a
less_none a b none = omega arith

less_both : (a b c : ℕ) → a - (b + c) ≡ a - b - c
less_both a b c = omega arith

-- records of three equal numbers are equal
pub same_seats : (a b : Seats) → a.f ≡ b.f → a.b ≡ b.b → a.e ≡ b.e → a ≡ b
same_seats a b f s e =
    ap (λ (n : ℕ). let seats : Seats = record { f = n; b = a.b; e = a.e } in seats) f
    ∙ ap (λ (n : ℕ). let seats : Seats = record { f = b.f; b = n; e = a.e } in seats) s
    ∙ ap (λ (n : ℕ). let seats : Seats = record { f = b.f; b = b.b; e = n } in seats) e

-- so many fewer seats where the test holds
abbrev fewer_if : Bool → Seats → Cabin → ℕ → Seats
fewer_if hit seats cabin count = if hit then fewer seats cabin count else seats

-- what a line takes of a cabin, by whether its trip has the leg
abbrev hit_count : Cabin → Cabin → Bool → ℕ → ℕ
hit_count own other hit count = if eqb (cabin_rank own) (cabin_rank other) && hit then count else 0

part_f : (own : Cabin) (hit : Bool) (s : Seats) (count : ℕ) → s.f - hit_count own cabin.F hit count ≡ (fewer_if hit s own count).f
part_f cabin.F true s count = refl
part_f cabin.F false s count = omega arith
part_f cabin.B true s count = omega arith
part_f cabin.B false s count = omega arith
part_f cabin.E true s count = omega arith
part_f cabin.E false s count = omega arith

part_b : (own : Cabin) (hit : Bool) (s : Seats) (count : ℕ) → s.b - hit_count own cabin.B hit count ≡ (fewer_if hit s own count).b
part_b cabin.F true s count = omega arith
part_b cabin.F false s count = omega arith
part_b cabin.B true s count = refl
part_b cabin.B false s count = omega arith
part_b cabin.E true s count = omega arith
part_b cabin.E false s count = omega arith

part_e : (own : Cabin) (hit : Bool) (s : Seats) (count : ℕ) → s.e - hit_count own cabin.E hit count ≡ (fewer_if hit s own count).e
part_e cabin.F true s count = omega arith
part_e cabin.F false s count = omega arith
part_e cabin.B true s count = omega arith
part_e cabin.B false s count = omega arith
part_e cabin.E true s count = refl
part_e cabin.E false s count = omega arith

abbrev line_of : Request → ℕ → Line
line_of request count = record { request = request; count = count }

left_more : (lines : List Line) (request : Request) (count : ℕ) (c : Cabin) (x : ℕ) → left (lines ++ line_of request count ∷ []) c x ≡ left lines c x - hit_count request.cabin c (has_leg request.trip x) count
unfolding left taken_by
left_more lines request count c x =
    ap (λ n. seats_of (kind_of (x / 4)) c - n) (sum_by_push (taken_by c x) lines (line_of request count))
    ∙ less_both (seats_of (kind_of (x / 4)) c) (sum_by (taken_by c x) lines) (hit_count request.cabin c (has_leg request.trip x) count)

-- one line more takes its seats on the legs of its trip
pub seats_left_more : (lines : List Line) (request : Request) (count x : ℕ) → seats_left (lines ++ line_of request count ∷ []) x ≡ fewer_if (has_leg request.trip x) (seats_left lines x) request.cabin count
seats_left_more lines request count x =
    let hit = has_leg request.trip x in
    same_seats (seats_left (lines ++ line_of request count ∷ []) x) (fewer_if hit (seats_left lines x) request.cabin count)
    (left_more lines request count cabin.F x ∙ part_f request.cabin hit (seats_left lines x) count)
    (left_more lines request count cabin.B x ∙ part_b request.cabin hit (seats_left lines x) count)
    (left_more lines request count cabin.E x ∙ part_e request.cabin hit (seats_left lines x) count)

-- where no line was written, all seats are left
pub left_at_first : (c : Cabin) (x : ℕ) → left [] c x ≡ seats_of (kind_of (x / 4)) c
unfolding left
left_at_first c x = less_none (seats_of (kind_of (x / 4)) c) (sum_by (taken_by c x) []) refl

pub all_left : (size : ℕ) (rows : List Seats) → length rows ≡ legs_of size → ((x : ℕ) → x < legs_of size → row_at rows x ≡ plane_seats (x / 4)) → AreLeft size [] rows
all_left size rows legs each = record {
  legs = legs;
  each = λ x within. each x within ∙ same_seats (plane_seats (x / 4)) (seats_left [] x) (sym (left_at_first cabin.F x)) (sym (left_at_first cabin.B x)) (sym (left_at_first cabin.E x));
}

-- the row of a table after seats that were taken on one leg
row_after : (rows : List Seats) (c : Cabin) (count x y : ℕ) → x < length rows → row_at (row_without rows c count x) y ≡ fewer_if (eqb x y) (row_at rows y) c count
row_after rows c count x y within = elim (eqb_tells x y) [
  | inl same ↦ get_or-set_at rows x y (fewer (row_at rows x) c count) no_seats (sym same.1) within
      ∙ ap (λ k. fewer (row_at rows k) c count) same.1
      ∙ ap (λ hit. fewer_if hit (row_at rows y) c count) (sym same.0)
  | inr apart ↦ get_or-set_other rows x y (fewer (row_at rows x) c count) no_seats (λ e. apart.1 (sym e))
      ∙ ap (λ hit. fewer_if hit (row_at rows y) c count) (sym apart.0)
]

-- taken on the first and then on the second is taken where one of them is, and they aren't both
either : (a b : Bool) (s : Seats) (c : Cabin) (count : ℕ) → (a ≡ true → b ≡ true → ⊥) → fewer_if b (fewer_if a s c count) c count ≡ fewer_if (a || b) s c count
either true true s c count never = absurd (never refl refl)
either true false s c count never = refl
either false true s c count never = refl
either false false s c count never = refl

trip_after : (rows : List Seats) (c : Cabin) (count : ℕ) (trip : Trip) (y : ℕ) → IsTripWithin (length rows) trip → row_at (trip_without rows c count trip) y ≡ fewer_if (has_leg trip y) (row_at rows y) c count
trip_after rows c count (One x) y within = row_after rows c count x y within
trip_after rows c count (Two first second) y within =
    let middle = row_without rows c count first in
    let more : second < length middle = rw (length-set rows first (fewer (row_at rows first) c count)) within.1 in
    let apart : eqb first y ≡ true → eqb second y ≡ true → ⊥ = λ a b. let p : first ≡ y = eqb-true first y a in let q : second ≡ y = eqb-true second y b in omega (arith, within.0) in
    let one : first < length rows = omega (arith, within.0, within.1) in
    row_after middle c count second y more
    ∙ ap (λ s. fewer_if (eqb second y) s c count) (row_after rows c count first y one)
    ∙ either (eqb first y) (eqb second y) (row_at rows y) c count apart

trip_length : (rows : List Seats) (c : Cabin) (count : ℕ) (trip : Trip) → length (trip_without rows c count trip) ≡ length rows
trip_length rows c count (One x) = length-set rows x (fewer (row_at rows x) c count)
trip_length rows c count (Two x y) =
    length-set (row_without rows c count x) y (fewer (row_at (row_without rows c count x) y) c count) ∙ length-set rows x (fewer (row_at rows x) c count)

-- a table after one line more
pub left_over : (size : ℕ) (lines : List Line) (rows : List Seats) (request : Request) (count : ℕ) → AreLeft size lines rows → IsTripWithin (length rows) request.trip → AreLeft size (lines ++ line_of request count ∷ []) (rows_without rows request count)
left_over size lines rows request count h within = record {
  legs = trip_length rows request.cabin count request.trip ∙ h.legs;
  each = λ x less.
      trip_after rows request.cabin count request.trip x within
      ∙ ap (λ s. fewer_if (has_leg request.trip x) s request.cabin count) (h.each x less)
      ∙ sym (seats_left_more lines request count x);
}

-- the seats of a cabin in the row of a leg
cabin_left : (size : ℕ) (lines : List Line) (rows : List Seats) (c : Cabin) (x : ℕ) → AreLeft size lines rows → x < length rows → in_cabin (row_at rows x) c ≡ left lines c x
cabin_left size lines rows cabin.F x h within = ap (λ (s : Seats). s.f) (h.each x (subst (λ n. x < n) h.legs within))
cabin_left size lines rows cabin.B x h within = ap (λ (s : Seats). s.b) (h.each x (subst (λ n. x < n) h.legs within))
cabin_left size lines rows cabin.E x h within = ap (λ (s : Seats). s.e) (h.each x (subst (λ n. x < n) h.legs within))

room_left : (size : ℕ) (lines : List Line) (rows : List Seats) (c : Cabin) (trip : Trip) → AreLeft size lines rows → IsTripWithin (length rows) trip → room_on rows c trip ≡ left_on lines c trip
room_left size lines rows c (One x) h within = cabin_left size lines rows c x h within
room_left size lines rows c (Two x y) h within =
    ap (λ n. min n (in_cabin (row_at rows y) c)) (cabin_left size lines rows c x h (let one : x < length rows = omega (arith, within.0, within.1) in one))
    ∙ ap (λ n. min (left lines c x) n) (cabin_left size lines rows c y h within.1)

-- a table grants what the lines leave
pub granted_left : (size : ℕ) (lines : List Line) (rows : List Seats) (request : Request) → AreLeft size lines rows → IsTripWithin (length rows) request.trip → granted_by rows request ≡ granted lines request
unfolding granted
granted_left size lines rows request h within = ap (λ n. min request.passengers n) (room_left size lines rows request.cabin request.trip h within)

some_line : (lines : List Line) (request : Request) (n : ℕ) → n ≡ granted lines request → with_request lines request ≡ (if eqb n 0 then lines else lines ++ line_of request n ∷ [])
unfolding with_request
some_line lines request n e = ap (λ m. if eqb m 0 then lines else lines ++ line_of request m ∷ []) (sym e)

-- a table after one reservation more
pub left_served : (size : ℕ) (lines : List Line) (rows : List Seats) (request : Request) → AreLeft size lines rows → IsTripWithin (length rows) request.trip → AreLeft size (with_request lines request) (rows_served rows request)
left_served size lines rows request h within =
    let n = granted_by rows request in
    subst (λ l. AreLeft size l (rows_served rows request)) (sym (some_line lines request n (granted_left size lines rows request h within)))
    (elim (cases_Bool (eqb n 0)) [
      | inl none ↦ rw none h
      | inr some ↦ rw some (left_over size lines rows request n h within)
    ])

-- and its line
pub text_of_served : (size : ℕ) (lines : List Line) (rows : List Seats) (request : Request) → AreLeft size lines rows → IsTripWithin (length rows) request.trip → flat_map itinerary_line (with_request lines request) ≡ flat_map itinerary_line lines ++ text_served rows request
text_of_served size lines rows request h within =
    let n = granted_by rows request in
    ap (flat_map itinerary_line) (some_line lines request n (granted_left size lines rows request h within))
    ∙ elim (cases_Bool (eqb n 0)) [
      | inl none ↦ rw none (sym (append-nil (flat_map itinerary_line lines)))
      | inr some ↦ rw some (sym (flat_map_more itinerary_line [] lines (line_of request n)))
    ]
