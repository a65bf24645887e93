-- What stays known from one plan to the next.
use Rattle.std.proofs.Common.{◌≡◌, ℕ, ◌+◌, ◌<◌, inl, inr, List, [], ◌∷◌, ◌++◌, length, get_or, replicate, refl, sym, ap, subst, ◌∙◌, arith}
use Rattle.std.proofs.Math.Seq.{get_or-append_seam}
use Rattle.std.proofs.lemmas.Bool.{cases_lt}
use Rattle.std.proofs.lemmas.List.{get_or_append_left, get_or_default, get_or-replicate, get_or_past, length-append, length-replicate}
use Rattle.desk_units.specs.declared.numbers.Cabin.{Cabin}
use Rattle.desk_units.specs.declared.numbers.Seats.{Seats}
use Rattle.desk_data.specs.declared.row.Group.{Group}
use Rattle.desk_data.specs.Situation.{Situation, reservations_of}
use Rattle.desk_data.specs.PlanRows.{PlanRows, groups_at}
use Rattle.desk_data.specs.Valid.{IsValid, IsPlanFor}
use Rattle.desk_rules.specs.Passengers.{aboard, seats_in}
use Rattle.near_moves.specs.NeighbourhoodWords.{HasPassengers}
use Rattle.near_notes.specs.declared.notes_of_day.Notes.{Notes}
use Rattle.near_notes.specs.DayNotes.{AreNotes, HaveAboard, IsInVain}
use Rattle.near_memory.specs.Untouched.{IsUntouched}
use Rattle.near_memory.proofs.Rebooked.{untouched-worse}
use Rattle.near_notes.specs.Later.{AreKnown}

-- of nobody anything is known
pub known-none : (I : Situation) (P : PlanRows) (n : ℕ) → AreKnown I P n (replicate n 0)
known-none I P n = record {
  all = length-replicate n 0;
  vain = λ r k none lt within.
      (let zero_is : ℕ = 0 in
      let long = length-replicate n zero_is in
      elim (cases_lt r n) [
        | inl there ↦ (let e = get_or-replicate n r zero_is zero_is there in absurd (omega (arith, lt, e)))
        | inr past ↦ (let e = get_or_past (replicate n zero_is) r zero_is (omega (arith, past, long)) in absurd (omega (arith, lt, e)))
      ]);
}

-- a group whose rebookings were not better, of a reservation of which nothing was touched
pub still-vain : (I : Situation) (P Q : PlanRows) (notes : Notes) (r k : ℕ) (none : Group) → IsValid I → IsPlanFor I Q → AreNotes I notes → P ≡ notes.plan → r < reservations_of I → IsUntouched I P Q r → k < get_or notes.known.items r 0 → k < length (groups_at Q r) → IsInVain I Q r (get_or (groups_at Q r) k none)
still-vain I P Q notes r k none valid later are is within untouched known there =
    let own : groups_at Q r ≡ groups_at notes.plan r = untouched.groups ∙ ap (λ (R : PlanRows). groups_at R r) is in
    let long : k < length (groups_at notes.plan r) = subst (λ (groups : List Group). k < length groups) own there in
    let group = get_or (groups_at notes.plan r) k none in
    let vain : IsInVain I notes.plan r group = are.vain r k none known long in
    let passengers : HasPassengers I notes.plan r group.path = record { within = within; group = group; there = (k, long, get_or_default (groups_at notes.plan r) k group none long); on = refl } in
    subst (λ (groups : List Group). IsInVain I Q r (get_or groups k none)) (sym own)
    (untouched-worse I notes.plan Q r group.path valid are.valid later are.feasible passengers (subst (λ (R : PlanRows). IsUntouched I R Q r) is untouched) vain)

-- one reservation more
pub known-more : (I : Situation) (Q : PlanRows) (n m : ℕ) (known : List ℕ) → AreKnown I Q n known → ((k : ℕ) (none : Group) → k < m → k < length (groups_at Q n) → IsInVain I Q n (get_or (groups_at Q n) k none)) → AreKnown I Q (n + 1) (known ++ m ∷ [])
known-more I Q n m known are own = record {
  all = (let all = are.all in omega (arith, all, length-append known (m ∷ [])));
  vain = λ r k none lt within.
      (let all = are.all in
      elim (cases_lt r n) [
        | inl before ↦ are.vain r k none (omega (arith, lt, get_or_append_left known (m ∷ []) 0 r (omega (arith, before, all)))) within
        | inr past ↦ elim (cases_lt n r) [
          | inl beyond ↦ absurd (omega (arith, lt, get_or_past (known ++ m ∷ []) r 0 (omega (arith, beyond, all, length-append known (m ∷ [])))))
          | inr most ↦
              let same : n ≡ r = omega (arith, past, most) in
              let last : get_or (known ++ m ∷ []) n 0 ≡ m = subst (λ (j : ℕ). get_or (known ++ m ∷ []) j 0 ≡ m) all (get_or-append_seam known m [] 0) in
              let few : k < m = omega (arith, lt, last, ap (λ (j : ℕ). get_or (known ++ m ∷ []) j 0) same) in
              subst (λ (j : ℕ). IsInVain I Q j (get_or (groups_at Q j) k none)) same (own k none few (subst (λ (j : ℕ). k < length (groups_at Q j)) (sym same) within))
        ]
      ]);
}

-- ---- how many are aboard

-- of the first n legs of plan P it is told how many are aboard
pub record AreCounted (P : PlanRows) (n : ℕ) (seats : List Seats) : Type 0 where
  pub all : length seats ≡ n
  pub each : (x : ℕ) (none : Seats) (c : Cabin) → x < length seats → seats_in (get_or seats x none) c ≡ aboard P x c

pub counted-first : (P : PlanRows) → AreCounted P 0 []
counted-first P = record { all = refl; each = λ x none c lt. absurd (omega (arith, lt)) }

pub counted-more : (P : PlanRows) (n : ℕ) (seats : List Seats) (own : Seats) → AreCounted P n seats → ((c : Cabin) → seats_in own c ≡ aboard P n c) → AreCounted P (n + 1) (seats ++ own ∷ [])
counted-more P n seats own are is = record {
  all = (let all = are.all in omega (arith, all, length-append seats (own ∷ [])));
  each = λ x none c lt.
      (let all = are.all in
      elim (cases_lt x n) [
        | inl before ↦ ap (λ (s : Seats). seats_in s c) (get_or_append_left seats (own ∷ []) none x (omega (arith, before, all))) ∙ are.each x none c (omega (arith, before, all))
        | inr past ↦
            let same : n ≡ x = omega (arith, lt, past, all, length-append seats (own ∷ [])) in
            let last : get_or (seats ++ own ∷ []) n none ≡ own = subst (λ (j : ℕ). get_or (seats ++ own ∷ []) j none ≡ own) all (get_or-append_seam seats own [] none) in
            subst (λ (j : ℕ). seats_in (get_or (seats ++ own ∷ []) j none) c ≡ aboard P j c) same (ap (λ (s : Seats). seats_in s c) last ∙ is c)
      ]);
}

pub counted-all : (P : PlanRows) (n : ℕ) (seats : List Seats) → AreCounted P n seats → length P.rows ≡ n → HaveAboard P seats
counted-all P n seats are long = record { legs = are.all ∙ sym long; each = are.each }
