-- Where hours are calm, the legs of two aircraft that have exchanged some depart before the window's end.
use Rattle.std.proofs.Common.{◌≡◌, ◌≢◌, ℕ, ◌+◌, ◌<◌, ◌≤◌, ◌⊎◌, max, inl, inr, Bool, true, false, leb, List, [], ◌∷◌, length, refl, sym, ap, subst, ◌∙◌, arith}
use Rattle.std.specs.Prelude.{Option, None, Some, sum_by, count_by}
use Rattle.std.specs.List.{AllByRecursion}
use Rattle.std.proofs.lemmas.Bool.{true≢false, cases_Bool, eq-eqb, false_from_ne_true}
use Rattle.std.proofs.lemmas.List.Elements.{All-contains, Contains-append_left, Contains-append_right, Contains-append_cases, recursion_from_All}
use Rattle.std.proofs.lemmas.List.Sums.{sum_by-cons, sum_by-le-sum_by}
use Rattle.plan_moves.specs.Fits.{Fits, StepFits}
use Rattle.plan_moves.specs.declared.moves.Move.{Move}
use Rattle.plan_moves.specs.declared.moves.Step.TheVariants.{Tidy}
use Rattle.desk_data.specs.declared.row.Row.{Row}
use Rattle.desk_data.specs.declared.row.Row.TheVariants.{Flown, Cancelled}
use Rattle.desk_data.specs.Situation.{Situation, legs_of, planes_of, leg_at, plane_at, fixed, earliest}
use Rattle.desk_data.specs.Hours.{dep_cap, arr_cap}
use Rattle.desk_data.specs.PlanRows.{PlanRows, row_at}
use Rattle.desk_data.specs.Valid.{IsPlanFor, IsValid}
use Rattle.desk_rules.specs.Numbers.{numbers}
use Rattle.desk_rules.specs.Least.{least}
use Rattle.desk_rules.specs.Cost.{cost, position_cost}
use Rattle.desk_rules.specs.Rotations.{departure, dep}
use Rattle.desk_rules.specs.Maintenance.{flies, is_flown_by}
use Rattle.desk_rules.proofs.LeastLaws.{feasible-holds}
use Rattle.desk_rules.proofs.MaintenanceLaws.{flies-holds}
use Rattle.desk_model.specs.Push.{rotation, after_push, departures_beside, arrivals_beside}
use Rattle.desk_model.specs.Swap.{row_after_swap, after_swap}
use Rattle.desk_model.specs.Steps.{after_step, after_move}
use Rattle.desk_model.proofs.SwapLaws.{after_swap-row, after_swap-valid}
use Rattle.desk_model.proofs.PushLaws.{after_push-others, after_push-valid}
use Rattle.desk_model.proofs.RotationOrder.{flown_once, rotation-each}
use Rattle.step_laws.proofs.PushedLaws.{pushed-flies}
use Rattle.near_moves.specs.LegMoves.{exchange}
use Rattle.near_moves.proofs.TallyLaws.{AreApart}
use Rattle.near_moves.proofs.ChainLaws.{rotation-apart, in-rotation}
use Rattle.near_moves.proofs.HandLaws.{apart-join}
use Rattle.near_moves.specs.Descent.{is_better}
use Rattle.near_moves.specs.Units.{MoveUnit}
use Rattle.near_moves.specs.Same.{is_of}
use Rattle.near_moves.specs.Steps.{unit_planes}
use Rattle.near_moves.specs.Own.{BreaksOwn}
use Rattle.near_moves.specs.Out.{IsOut, dear, breaks}
use Rattle.near_moves.proofs.OwnLaws.{breaks-worse}
use Rattle.near_priced.proofs.DearLaws.{dear-worse}
use Rattle.near_moves.proofs.FrameLaws.{is_of-by}
use Rattle.near_priced.specs.Unpaid.{is_either}
use Rattle.near_priced.specs.Priced.{paid_on}
use Rattle.near_dear.specs.Exchanged.{own_cost, exchanged_cost, positions_then}
use Rattle.near_dear.specs.Moves.{IsExchange, IsInTime, AreInTime, exchanged, both_pushed}
use Rattle.near_dear.specs.Calm.{HasRoomFor, IsBetween, IsCalmFor, ground, both, DepartsBy, AreDoneInTime}
use Rattle.near_dear.specs.Dear.{IsDearExchange}
use Rattle.near_dear.proofs.TakeLaws.{early, TakesOver, takes-first, takes-second}
use Rattle.near_dear.proofs.LegSumLaws.{part, AreMembers, members-sum}
use Rattle.near_dear.proofs.HandLaws.{legs, made-alike, of-cases, either-first, either-second}
use Rattle.near_dear.proofs.RoomLaws.{departures-few, arrivals-few}
use Rattle.near_dear.proofs.LateLaws.{IsSettled, pushed-in-time}
use Rattle.near_dear.proofs.DearExchangeLaws.{exchange-dear}

-- ---- plain facts

ones : (xs : List ℕ) → sum_by (λ x. 1) xs ≡ length xs
ones [] = refl
ones (x ∷ xs) = (let rest = ones xs in omega (arith, sum_by-cons (λ y. 1) x xs, rest))

part-le : (a b : Bool) (m n : ℕ) → (a ≡ true → b ≡ true) → m ≤ n → part a m ≤ part b n
part-le false b m n weaker le = omega arith
part-le true b m n weaker le = rw (weaker refl) le

swapped-departure : (p q at : ℕ) (row : Row) → departure (row_after_swap p q at row) ≡ departure row
swapped-departure p q at (Flown n d) =
    elim (cases_Bool (leb at d.0)) [
      | inl late ↦ rw late refl
      | inr soon ↦ rw soon refl
    ]
swapped-departure p q at Cancelled = refl

capped : (more taken cap : ℕ) (o : Option ℕ) → o ≡ Some cap → HasRoomFor more taken o → more + taken < cap
capped more taken cap o is room = subst (HasRoomFor more taken) is room

-- ---- the legs of both

module _ (I : Situation) (P : PlanRows) (p q : ℕ) (plan : IsPlanFor I P) (other : p ≢ q) where
  abbrev n : ℕ
  n = legs_of I

  by-first : (y : ℕ) → flies P p y ≡ true → legs P p q y ≡ true
  by-first y on = is_of-by (is_either p q) p (row_at P y) (either-first p q) on

  by-second : (y : ℕ) → flies P q y ≡ true → legs P p q y ≡ true
  by-second y on = is_of-by (is_either p q) q (row_at P y) (either-second p q) on

  both-apart : AreApart (both I P p q)
  both-apart =
      apart-join (rotation I P p) (rotation I P q) (rotation-apart I P p) (rotation-apart I P q)
      (λ z one two. other (flown_once P z p q (dep P z) (dep P z) (flies-holds P p z (in-rotation I P p z one).1) (flies-holds P q z (in-rotation I P q z two).1)))

  both-members : AreMembers n (legs P p q) (both I P p q)
  both-members = record {
    within = λ z has. elim (Contains-append_cases (rotation I P p) (rotation I P q) z has) [
      | inl one ↦ (in-rotation I P p z one).0
      | inr two ↦ (in-rotation I P q z two).0
    ];
    pass = λ z has. elim (Contains-append_cases (rotation I P p) (rotation I P q) z has) [
      | inl one ↦ by-first z (in-rotation I P p z one).1
      | inr two ↦ by-second z (in-rotation I P q z two).1
    ];
    each = λ z lt here. elim (of-cases p q (row_at P z) here) [
      | inl one ↦ Contains-append_left (rotation I P p) (rotation I P q) z (rotation-each I P p z lt one)
      | inr two ↦ Contains-append_right (rotation I P p) (rotation I P q) z (rotation-each I P q z lt two)
    ];
  }

  pub both-counted : count_by (legs P p q) (numbers n) ≡ length (both I P p q)
  both-counted = sym (sym (ones (both I P p q)) ∙ members-sum (λ x. 1) n (legs P p q) (both I P p q) both-apart both-members)

  -- what an aircraft flies of them takes no longer than all
  pub spent-le : (S : PlanRows) (u g h : ℕ) → g ≤ h → ((y : ℕ) → flies S u y ≡ true → legs P p q y ≡ true) → sum_by (λ x. (leg_at I x).block + g) (rotation I S u) ≤ sum_by (λ x. (leg_at I x).block + h) (both I P p q)
  spent-le S u g h le own =
      let f : ℕ → ℕ = λ x. (leg_at I x).block + g in
      let k : ℕ → ℕ = λ x. (leg_at I x).block + h in
      let members : AreMembers n (flies S u) (rotation I S u) = record {
        within = λ z has. (in-rotation I S u z has).0;
        pass = λ z has. (in-rotation I S u z has).1;
        each = λ z lt on. rotation-each I S u z lt on;
      } in
      let one = members-sum f n (flies S u) (rotation I S u) (rotation-apart I S u) members in
      let two = members-sum k n (legs P p q) (both I P p q) both-apart both-members in
      let less = sum_by-le-sum_by (λ y. part (flies S u y) (f y)) (λ y. part (legs P p q y) (k y)) (numbers n) (λ y. part-le (flies S u y) (legs P p q y) (f y) (k y) (own y) (omega (arith, le))) in
      omega (arith, one, two, less)

-- ---- the exchange and the two pushes

module _ (I : Situation) (P : PlanRows) (p q at c : ℕ) (valid : IsValid I) (plan : IsPlanFor I P) (feasible : least I P ≡ None) (first_lt : p < planes_of I) (second_lt : q < planes_of I) (other : p ≢ q) (done : AreDoneInTime I P p q c) where
  abbrev S : PlanRows
  S = after_swap P p q at

  abbrev R : PlanRows
  R = after_push I S p None

  abbrev own : ℕ → Bool
  own = legs P p q

  first-takes : TakesOver P S p q at
  unfolding after_step
  first-takes = takes-first I P p q at [] refl other

  second-takes : TakesOver P S q p at
  unfolding after_step
  second-takes = takes-second I P p q at [] refl other

  taken-own : (u v : ℕ) → TakesOver P S u v at → ((y : ℕ) → flies P u y ≡ true → own y ≡ true) → ((y : ℕ) → flies P v y ≡ true → own y ≡ true) → (y : ℕ) → flies S u y ≡ true → own y ≡ true
  taken-own u v takes mine theirs y on =
      elim (cases_Bool (early P at y)) [
        | inl sooner ↦ mine y (sym (takes.stays y sooner) ∙ on)
        | inr later ↦ theirs y (sym (takes.takes y later) ∙ on)
      ]

  first-own : (y : ℕ) → flies S p y ≡ true → own y ≡ true
  first-own = taken-own p q first-takes (by-first I P p q plan other) (by-second I P p q plan other)

  second-own : (y : ℕ) → flies S q y ≡ true → own y ≡ true
  second-own = taken-own q p second-takes (by-second I P p q plan other) (by-first I P p q plan other)

  -- the other legs keep their rows
  swap-outside : (y : ℕ) → own y ≡ false → row_at S y ≡ row_at P y
  unfolding after_step
  swap-outside y off = (made-alike I P p q at [] refl).first y off

  same-departure : (y : ℕ) → dep S y ≡ dep P y
  same-departure y = ap departure (after_swap-row P p q at y) ∙ swapped-departure p q at (row_at P y)

  own-departs : (y : ℕ) → y < legs_of I → own y ≡ true → dep P y ≤ c
  own-departs y lt here =
      elim (of-cases p q (row_at P y) here) [
        | inl one ↦ done.departs y lt one
        | inr two ↦ done.other_departs y lt two
      ]

  own-earliest : (y : ℕ) → y < legs_of I → own y ≡ true → fixed I y ≡ false → earliest I y ≤ dep P y
  own-earliest y lt here movable =
      elim (of-cases p q (row_at P y) here) [
        | inl one ↦ ((feasible-holds I P feasible).c2 y lt movable p (dep P y) (flies-holds P p y one)).1
        | inr two ↦ ((feasible-holds I P feasible).c2 y lt movable q (dep P y) (flies-holds P q y two)).1
      ]

  few : count_by own (numbers (legs_of I)) ≡ length (both I P p q)
  few = both-counted I P p q plan other

  calm-for : (x : ℕ) → x < legs_of I → own x ≡ true → IsCalmFor (length (both I P p q)) I P c x
  calm-for x lt here = All-contains (IsCalmFor (length (both I P p q)) I P c) (both I P p q) x done.calm ((both-members I P p q plan other).each x lt here)

  -- hours have room in each plan that differs from P by their legs alone
  room-leaves : (T : PlanRows) → ((y : ℕ) → own y ≡ false → row_at T y ≡ row_at P y) → (x h cap : ℕ) → x < legs_of I → own x ≡ true → IsBetween I c h → dep_cap I (leg_at I x).origin.0 h ≡ Some cap → departures_beside I T x (leg_at I x).origin.0 h < cap
  room-leaves T same x h cap lt here between is =
      let a = (leg_at I x).origin.0 in
      let room = capped (length (both I P p q)) (departures_beside I P x a h) cap (dep_cap I a h) is ((calm-for x lt here).origin.departures x h between) in
      let less = departures-few own I P T same x a h in
      omega (arith, room, less, few)

  room-lands : (T : PlanRows) → ((y : ℕ) → own y ≡ false → row_at T y ≡ row_at P y) → (x h cap : ℕ) → x < legs_of I → own x ≡ true → IsBetween I c h → arr_cap I (leg_at I x).dest.0 h ≡ Some cap → arrivals_beside I T x (leg_at I x).dest.0 h < cap
  room-lands T same x h cap lt here between is =
      let a = (leg_at I x).dest.0 in
      let room = capped (length (both I P p q)) (arrivals_beside I P x a h) cap (arr_cap I a h) is ((calm-for x lt here).dest.arrivals x h between) in
      let less = arrivals-few own I P T same x a h in
      omega (arith, room, less, few)

  not-flown : (U : PlanRows) (u : ℕ) → ((y : ℕ) → flies U u y ≡ true → own y ≡ true) → (y : ℕ) → own y ≡ false → flies U u y ≡ false
  not-flown U u theirs y off = false_from_ne_true (flies U u y) (λ on. true≢false (sym (theirs y on) ∙ off))

  first-outside : (T : PlanRows) → ((y : ℕ) → flies S p y ≡ false → row_at T y ≡ row_at S y) → (y : ℕ) → own y ≡ false → row_at T y ≡ row_at P y
  first-outside T same y off = same y (not-flown S p first-own y off) ∙ swap-outside y off

  first-settled : IsSettled I S p c
  first-settled = record {
    plan = after_swap-valid I P p q at first_lt second_lt plan;
    departs = λ x lt on. (let same = same-departure x in let by = own-departs x lt (first-own x on) in omega (arith, same, by));
    earliest = λ x lt on movable. (let same = same-departure x in let soonest = own-earliest x lt (first-own x on) movable in omega (arith, same, soonest));
    free = done.free;
    departures = λ T same x h cap lt on between is. room-leaves T (first-outside T same) x h cap lt (first-own x on) between is;
    arrivals = λ T same x h cap lt on between is. room-lands T (first-outside T same) x h cap lt (first-own x on) between is;
  }

  first-in-time : IsInTime I R p
  first-in-time =
      let less = spent-le I P p q plan other S p (ground I p) (max (ground I p) (ground I q)) (omega arith) first-own in
      let end = done.done in
      pushed-in-time I S p c first-settled (omega (arith, less, end))

  -- ---- the second push

  flown-still : (u y : ℕ) → flies R u y ≡ true → flies S u y ≡ true
  flown-still u y on = sym (pushed-flies I S p None u y) ∙ on

  -- what the first does not fly it does not place
  first-leaves : (y : ℕ) → flies S p y ≡ false → row_at R y ≡ row_at S y
  first-leaves y off = after_push-others I S p None y (λ pushed. true≢false (sym (ap (is_flown_by p) pushed.flown ∙ eq-eqb p p refl) ∙ off))

  not-both : (U : PlanRows) (y : ℕ) → flies U q y ≡ true → flies U p y ≡ false
  not-both U y on = false_from_ne_true (flies U p y) (λ two. other (flown_once U y p q (dep U y) (dep U y) (flies-holds U p y two) (flies-holds U q y on)))

  second-departure : (y : ℕ) → flies R q y ≡ true → dep R y ≡ dep P y
  second-departure y on = ap departure (first-leaves y (not-both S y (flown-still q y on))) ∙ same-departure y

  second-pushed-own : (y : ℕ) → flies R q y ≡ true → own y ≡ true
  second-pushed-own y on = second-own y (flown-still q y on)

  second-outside : (T : PlanRows) → ((y : ℕ) → flies R q y ≡ false → row_at T y ≡ row_at R y) → (y : ℕ) → own y ≡ false → row_at T y ≡ row_at P y
  second-outside T same y off = same y (not-flown R q second-pushed-own y off) ∙ first-leaves y (not-flown S p first-own y off) ∙ swap-outside y off

  second-settled : IsSettled I R q c
  second-settled = record {
    plan = after_push-valid I S p None valid first_lt (after_swap-valid I P p q at first_lt second_lt plan);
    departs = λ x lt on. (let same = second-departure x on in let by = own-departs x lt (second-pushed-own x on) in omega (arith, same, by));
    earliest = λ x lt on movable. (let same = second-departure x on in let soonest = own-earliest x lt (second-pushed-own x on) movable in omega (arith, same, soonest));
    free = done.other_free;
    departures = λ T same x h cap lt on between is. room-leaves T (second-outside T same) x h cap lt (second-pushed-own x on) between is;
    arrivals = λ T same x h cap lt on between is. room-lands T (second-outside T same) x h cap lt (second-pushed-own x on) between is;
  }

  abbrev Q : PlanRows
  Q = after_push I R q None

  second-in-time : IsInTime I Q q
  second-in-time =
      let less = spent-le I P p q plan other R q (ground I q) (max (ground I p) (ground I q)) (omega arith) second-pushed-own in
      let end = done.done in
      pushed-in-time I R q c second-settled (omega (arith, less, end))

  first-stays : IsInTime I Q p
  first-stays x lt on =
      let was : flies R p x ≡ true = sym (pushed-flies I R q None p x) ∙ on in
      let same : row_at Q x ≡ row_at R x = after_push-others I R q None x (λ pushed. other (flown_once R x p q (dep R x) pushed.dep (flies-holds R p x was) pushed.flown)) in
      let time = first-in-time x lt was in
      let at_one : dep Q x ≡ dep R x = ap departure same in
      omega (arith, time, at_one)

  now-in-time : (u : ℕ) → DepartsBy I P u c → IsInTime I P u
  now-in-time u by x lt on = (let time = by x lt on in let end = done.done in omega (arith, time, end))

-- ---- the moves of N2

pub all-in-time : (I : Situation) (P : PlanRows) (p q at c : ℕ) → IsValid I → IsPlanFor I P → least I P ≡ None → p < planes_of I → q < planes_of I → p ≢ q → AreDoneInTime I P p q c → AreInTime I P (exchanged I P p q at (both_pushed p q)) p q
unfolding after_step
all-in-time I P p q at c valid plan feasible first_lt second_lt other done = record {
  first = now-in-time I P p q at c valid plan feasible first_lt second_lt other done p done.departs;
  second = now-in-time I P p q at c valid plan feasible first_lt second_lt other done q done.other_departs;
  first_then = first-stays I P p q at c valid plan feasible first_lt second_lt other done;
  second_then = second-in-time I P p q at c valid plan feasible first_lt second_lt other done;
}

pub known-dear : (I : Situation) (P : PlanRows) (m : Move) (p q at c : ℕ) → IsValid I → IsPlanFor I P → least I P ≡ None → Fits I m → m.steps ≡ exchange p q at → p ≢ q → (plane_at I p).surface ≡ false → (plane_at I q).surface ≡ false → AreDoneInTime I P p q c → own_cost I P p q at + position_cost I P + sum_by (paid_on I P) (both I P p q) ≤ exchanged_cost I P p q at + positions_then I P p q at → (cost I P ≤ cost I (after_move I P m)) ⊎ BreaksOwn (is_either p q) I P m
known-dear I P m p q at c valid plan feasible fits steps other air other_air done less =
    let fit : AllByRecursion (StepFits I) (exchange p q at) = subst (AllByRecursion (StepFits I)) steps (recursion_from_All (StepFits I) m.steps fits.each) in
    let is : IsExchange I m p q at (both_pushed p q) (Tidy ∷ []) = record {
      steps = steps;
      pushed = rw (eq-eqb p p refl, either-second p q) refl;
      tidied = refl;
      other = other;
      air = air;
      other_air = other_air;
    } in
    let time = all-in-time I P p q at c valid plan feasible fit.0.0 fit.0.1 other done in
    exchange-dear I P m p q at (both_pushed p q) (Tidy ∷ []) valid plan feasible fits is time.first time.second time.first_then time.second_then (omega (arith, less))

-- ---- what that says of a move

pub known-exchange : (I : Situation) (P : PlanRows) (m : Move) (p q at : ℕ) → IsValid I → IsPlanFor I P → least I P ≡ None → Fits I m → m.steps ≡ exchange p q at → IsDearExchange I P p q at → (cost I P ≤ cost I (after_move I P m)) ⊎ BreaksOwn (is_either p q) I P m
known-exchange I P m p q at valid plan feasible fits steps h = known-dear I P m p q at h.from valid plan feasible fits steps h.other h.air h.other_air h.done h.dear

either-among : (planes : ℕ → Bool) (p q : ℕ) (row : Row) → planes p ≡ true → planes q ≡ true → is_of (is_either p q) row ≡ true → is_of planes row ≡ true
either-among planes p q row one two on =
    elim (of-cases p q row on) [
      | inl first ↦ is_of-by planes p row one first
      | inr second ↦ is_of-by planes q row two second
    ]

out-by : (I : Situation) (P : PlanRows) (m : Move) (u : MoveUnit) (p q : ℕ) → unit_planes P u p ≡ true → unit_planes P u q ≡ true → (cost I P ≤ cost I (after_move I P m)) ⊎ BreaksOwn (is_either p q) I P m → IsOut I P u m
out-by I P m u p q one two (inl less) = dear less
out-by I P m u p q one two (inr broken) =
    breaks (record {
      leg = broken.leg;
      within = broken.within;
      own = either-among (unit_planes P u) p q (row_at (after_move I P m) broken.leg) one two broken.own;
      broken = broken.broken;
    })

worse-by : (I : Situation) (P : PlanRows) (m : Move) (p q : ℕ) → (cost I P ≤ cost I (after_move I P m)) ⊎ BreaksOwn (is_either p q) I P m → is_better I P m ≡ false
worse-by I P m p q (inl less) = dear-worse I P m less
worse-by I P m p q (inr broken) = breaks-worse (is_either p q) I P m broken

pub exchange-out : (I : Situation) (P : PlanRows) (m : Move) (u : MoveUnit) (p q at : ℕ) → IsValid I → IsPlanFor I P → least I P ≡ None → Fits I m → m.steps ≡ exchange p q at → IsDearExchange I P p q at → unit_planes P u p ≡ true → unit_planes P u q ≡ true → IsOut I P u m
exchange-out I P m u p q at valid plan feasible fits steps h one two = out-by I P m u p q one two (known-exchange I P m p q at valid plan feasible fits steps h)

pub exchange-worse : (I : Situation) (P : PlanRows) (m : Move) (p q at : ℕ) → IsValid I → IsPlanFor I P → least I P ≡ None → Fits I m → m.steps ≡ exchange p q at → IsDearExchange I P p q at → is_better I P m ≡ false
exchange-worse I P m p q at valid plan feasible fits steps h = worse-by I P m p q (known-exchange I P m p q at valid plan feasible fits steps h)
