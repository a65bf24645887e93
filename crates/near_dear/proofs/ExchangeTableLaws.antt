-- What is looked up of an aircraft, leg by leg.
use Rattle.std.proofs.Common.{◌≡◌, ℕ, ◌+◌, ◌<◌, ◌≤◌, List, [], ◌∷◌, length, get_or, take, refl, sym, ap, subst, ◌∙◌, arith}
use Rattle.std.specs.Prelude.{sum_by}
use Rattle.std.specs.List.{All}
use Rattle.std.proofs.lemmas.List.{take_more}
use Rattle.std.proofs.lemmas.List.Elements.{All-nil, All-cons, All-append, All-weaker, All-head, All-tail}
use Rattle.desk_units.specs.declared.numbers.Leg.{Leg}
use Rattle.desk_data.specs.Situation.{Situation, leg_at}
use Rattle.desk_data.specs.PlanRows.{PlanRows}
use Rattle.desk_model.specs.Push.{rotation}
use Rattle.desk_model.proofs.RotationOrder.{rotation-each}
use Rattle.std.proofs.lemmas.List.Elements.{All-contains}
use Rattle.near_draft.specs.Legs.{numbers_of}
use Rattle.near_priced.specs.Priced.{paid_on}
use Rattle.near_dear.specs.Calm.{IsCalmFor, DepartsBy}
use Rattle.near_dear.specs.Times.{most_legs, AreCalm, ArePaid, IsBy}
use Rattle.near_dear.proofs.MonoLaws.{calm-at-later}
use Rattle.near_dear.proofs.RestoreTableLaws.{numbers-sum, sum-le}

-- all that is so far holds of one more
pub all-more : {X : Type 0} (A B : X → Type 0) (xs : List X) (i : ℕ) (d : X) → i < length xs → ((x : X) → A x → B x) → All A (take i xs) → B (get_or xs i d) → All B (take (i + 1) xs)
all-more A B xs i d lt weaker all one =
    subst (All B) (sym (take_more xs i d lt)) (All-append B (take i xs) (get_or xs i d ∷ []) (All-weaker A B weaker (take i xs) all) (All-cons B (get_or xs i d) [] one (All-nil B)))

pub by-later : (I : Situation) (P : PlanRows) (moments : List ℕ) (c d x : ℕ) → c ≤ d → IsBy I P moments c x → IsBy I P moments d x
by-later I P moments c d x later is = record {
  departs = (let e = is.departs in omega (arith, e, later));
  from = is.from;
  to = is.to;
  origin = (let e = is.origin in omega (arith, e, later));
  dest = (let e = is.dest in omega (arith, e, later));
}

calm-by : (I : Situation) (P : PlanRows) (moments : List ℕ) (by x : ℕ) → AreCalm I P moments → IsBy I P moments by x → IsCalmFor most_legs I P by x
calm-by I P moments by x calm is = record {
  origin = calm-at-later most_legs most_legs I P (leg_at I x).origin.0 _ by (omega arith) is.origin (calm.each (leg_at I x).origin.0 is.from);
  dest = calm-at-later most_legs most_legs I P (leg_at I x).dest.0 _ by (omega arith) is.dest (calm.each (leg_at I x).dest.0 is.to);
}

numbers-all : (S : ℕ → Type 0) (legs : List Leg) → All (λ (leg : Leg). S leg.0) legs → All S (numbers_of legs)
numbers-all S [] all = All-nil S
numbers-all S (leg ∷ legs) all = All-cons S leg.0 (numbers_of legs) (All-head (λ (l : Leg). S l.0) leg legs all) (numbers-all S legs (All-tail (λ (l : Leg). S l.0) leg legs all))

numbers-length : (legs : List Leg) → length (numbers_of legs) ≡ length legs
numbers-length [] = refl
numbers-length (leg ∷ legs) = (let rest = numbers-length legs in omega (arith, rest))

-- of the legs of an aircraft
module _ (I : Situation) (P : PlanRows) (p : ℕ) (legs : List Leg) (are : numbers_of legs ≡ rotation I P p) where
  pub legs-all : (S : ℕ → Type 0) → All (λ (leg : Leg). S leg.0) legs → All S (rotation I P p)
  legs-all S all = subst (All S) are (numbers-all S legs all)

  pub legs-sum : (f : ℕ → ℕ) → sum_by f (rotation I P p) ≡ sum_by (λ (leg : Leg). f leg.0) legs
  legs-sum f = ap (sum_by f) (sym are) ∙ numbers-sum f legs

  pub legs-count : length legs ≡ length (rotation I P p)
  legs-count = sym (numbers-length legs) ∙ ap (λ (xs : List ℕ). length xs) are

  pub calm-all : (moments : List ℕ) (by : ℕ) → AreCalm I P moments → All (λ (leg : Leg). IsBy I P moments by leg.0) legs → All (IsCalmFor most_legs I P by) (rotation I P p)
  calm-all moments by calm all = All-weaker (IsBy I P moments by) (IsCalmFor most_legs I P by) (λ x is. calm-by I P moments by x calm is) (rotation I P p) (legs-all (IsBy I P moments by) all)

  pub departs-all : (moments : List ℕ) (by : ℕ) → All (λ (leg : Leg). IsBy I P moments by leg.0) legs → DepartsBy I P p by
  departs-all moments by all x lt on = (All-contains (IsBy I P moments by) (rotation I P p) x (legs-all (IsBy I P moments by) all) (rotation-each I P p x lt on)).departs

  pub paid-all : (amounts : List ℕ) (paid : ℕ) → ArePaid I P amounts → sum_by (λ (leg : Leg). get_or amounts leg.0 0) legs ≤ paid → sum_by (paid_on I P) (rotation I P p) ≤ paid
  paid-all amounts paid told le = omega (arith, le, legs-sum (λ x. get_or amounts x 0), sum-le (paid_on I P) (λ x. get_or amounts x 0) (rotation I P p) told)
