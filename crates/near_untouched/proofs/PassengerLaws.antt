-- Reservations that are the same for legs that are not marked, and legs with as many aboard.
use Rattle.std.proofs.Common.{◌≡◌, ℕ, ◌<◌, inl, inr, Bool, false, ◌&&◌, cond, eqb, List, [], ◌∷◌, get_or, refl, sym, ap, subst, ◌∙◌, arith}
use Rattle.std.specs.Prelude.{sum_by}
use Rattle.std.specs.List.{All}
use Rattle.std.proofs.lemmas.Bool.{true≢false, and_left, ne_eqb}
use Rattle.std.proofs.lemmas.List.Elements.{All-head, All-tail}
use Rattle.std.proofs.lemmas.List.Folds.{list_any_none}
use Rattle.std.proofs.lemmas.List.Sums.{sum_by-cons}
use Rattle.desk_units.specs.Ranks.{cabin_rank}
use Rattle.desk_units.specs.declared.numbers.Leg.{Leg}
use Rattle.desk_units.specs.declared.numbers.Cabin.{Cabin}
use Rattle.desk_data.specs.Booked.{booked_path}
use Rattle.desk_data.specs.declared.row.Group.{Group}
use Rattle.desk_data.specs.Situation.{Situation, legs_of, reservations_of}
use Rattle.desk_data.specs.PlanRows.{PlanRows, groups_at}
use Rattle.desk_data.specs.Valid.{IsPathOf, IsPlanFor}
use Rattle.desk_rules.specs.Numbers.{numbers}
use Rattle.desk_rules.specs.Passengers.{aboard, aboard_of, takes}
use Rattle.step_laws.proofs.SumLaws.{sum_same, sum_lists}
use Rattle.near_untouched.specs.Marks.{is_marked, AreKept, HoldsOf, AreLegsMarked, ArePathsMarked}
use Rattle.near_untouched.specs.Passengers.{IsRegroupedTold, IsUserTold, IsBookedTold, HasSameUsers}
use Rattle.near_untouched.proofs.MarkLaws.{legs-kept, paths-kept, path-off, paths-off}

-- ---- what is told stays so

pub regrouped-kept : (P Q : PlanRows) (old new : List Bool) (r : ℕ) → AreKept old new → IsRegroupedTold P Q old r → IsRegroupedTold P Q new r
regrouped-kept P Q old new r kept (inl same) = inl same
regrouped-kept P Q old new r kept (inr both) = inr (paths-kept old new (groups_at P r) kept both.0, paths-kept old new (groups_at Q r) kept both.1)

pub user-kept : (I : Situation) (P Q : PlanRows) (old new : List Bool) (r : ℕ) → AreKept old new → IsUserTold I P Q old r → IsUserTold I P Q new r
user-kept I P Q old new r kept (inl same) = inl same
user-kept I P Q old new r kept (inr all) =
    inr (record {
      before = paths-kept old new (groups_at P r) kept all.before;
      now = paths-kept old new (groups_at Q r) kept all.now;
      booked = legs-kept old new (booked_path I r) kept all.booked;
    })

pub booked-kept : (I : Situation) (P Q : PlanRows) (regrouped old new : List Bool) (r : ℕ) → AreKept old new → IsBookedTold I P Q regrouped old r → IsBookedTold I P Q regrouped new r
booked-kept I P Q regrouped old new r kept (inl settled) = inl settled
booked-kept I P Q regrouped old new r kept (inr marked) = inr (legs-kept old new (booked_path I r) kept marked)

-- ---- who is aboard a leg that is not marked

sum-none : {X : Type 0} (f : X → ℕ) (xs : List X) → All (λ x. f x ≡ 0) xs → sum_by f xs ≡ 0
sum-none f [] none = refl
sum-none f (x ∷ xs) none =
    omega (arith, sum_by-cons f x xs, All-head (λ y. f y ≡ 0) x xs none, sum-none f xs (All-tail (λ y. f y ≡ 0) x xs none))

off-path : (regrouped : List Bool) (x : ℕ) (c : Cabin) (path : List (Leg × Cabin)) → AreLegsMarked regrouped path → is_marked regrouped x ≡ false → takes x c path ≡ false
off-path regrouped x c path marked off =
    list_any_none (λ (pair : Leg × Cabin). eqb pair.0.0 x && eqb (cabin_rank pair.1) (cabin_rank c)) path
    (λ k d lt. and_left (eqb (get_or path k d).0.0 x) (eqb (cabin_rank (get_or path k d).1) (cabin_rank c))
    (ne_eqb (get_or path k d).0.0 x (λ same. true≢false (sym (marked k d lt) ∙ ap (is_marked regrouped) same ∙ off))))

-- nobody of some groups is, where the legs of their paths are marked
none-aboard : (regrouped : List Bool) (x : ℕ) (c : Cabin) (groups : List Group) → ArePathsMarked regrouped groups → is_marked regrouped x ≡ false → aboard_of x c groups ≡ 0
none-aboard regrouped x c groups marked off =
    sum-none (λ (group : Group). cond (takes x c group.path) group.count 0) groups
    (λ k d lt. ap (λ (b : Bool). cond b (get_or groups k d).count 0) (off-path regrouped x c (get_or groups k d).path (marked k d lt) off))

aboard-is : (I : Situation) (R : PlanRows) (x : ℕ) (c : Cabin) → IsPlanFor I R → aboard R x c ≡ sum_by (λ r. aboard_of x c (groups_at R r)) (numbers (reservations_of I))
unfolding aboard
aboard-is I R x c plan = sum_lists (aboard_of x c) R.groups ∙ ap (λ (n : ℕ). sum_by (λ r. aboard_of x c (groups_at R r)) (numbers n)) plan.res

aboard-same : (I : Situation) (P Q : PlanRows) (regrouped : List Bool) (x : ℕ) → IsPlanFor I P → IsPlanFor I Q → ((r : ℕ) → r < reservations_of I → IsRegroupedTold P Q regrouped r) → is_marked regrouped x ≡ false → (c : Cabin) → aboard P x c ≡ aboard Q x c
aboard-same I P Q regrouped x plan later told off c =
    aboard-is I P x c plan
    ∙ sum_same (λ r. aboard_of x c (groups_at P r)) (λ r. aboard_of x c (groups_at Q r)) (reservations_of I)
    (λ r lt. elim (told r lt) [
      | inl same ↦ ap (aboard_of x c) same
      | inr both ↦ none-aboard regrouped x c (groups_at P r) both.0 off ∙ sym (none-aboard regrouped x c (groups_at Q r) both.1 off)
    ])
    ∙ sym (aboard-is I Q x c later)

-- ---- legs

pub users-told : (I : Situation) (P Q : PlanRows) (regrouped touched : List Bool) → IsPlanFor I P → IsPlanFor I Q → ((r : ℕ) → r < reservations_of I → IsRegroupedTold P Q regrouped r) → ((r : ℕ) → r < reservations_of I → IsUserTold I P Q touched r) → ((r : ℕ) → r < reservations_of I → IsBookedTold I P Q regrouped touched r) → HoldsOf (legs_of I) touched (HasSameUsers I P Q)
users-told I P Q regrouped touched plan later groups users booked y within off = record {
  on = λ r lt has. elim (users r lt) [
    | inl same ↦ same
    | inr all ↦ absurd (true≢false (sym has ∙ paths-off touched y (groups_at P r) all.before off))
  ];
  on_later = λ r lt has. elim (users r lt) [
    | inl same ↦ same
    | inr all ↦ absurd (true≢false (sym has ∙ paths-off touched y (groups_at Q r) all.now off))
  ];
  booked = λ r lt has. elim (users r lt) [
    | inl same ↦ same
    | inr all ↦ absurd (true≢false (sym has ∙ path-off touched y (booked_path I r) all.booked off))
  ];
  seats = λ r lt has. elim (booked r lt) [
    | inl settled ↦ λ k d there. ((settled k d there).0, aboard-same I P Q regrouped (get_or (booked_path I r) k d).0.0 plan later groups (settled k d there).1)
    | inr marked ↦ absurd (true≢false (sym has ∙ path-off touched y (booked_path I r) marked off))
  ];
}

-- the paths of a reservation's groups are of the legs of the day
pub paths-among : (I : Situation) (R : PlanRows) (r n : ℕ) (groups : List Group) → IsPlanFor I R → r < reservations_of I → n ≡ legs_of I → groups ≡ groups_at R r → All (λ group. IsPathOf n group.path) groups
paths-among I R r n groups plan lt many are =
    subst (λ (k : ℕ). All (λ (group : Group). IsPathOf k group.path) groups) (sym many)
    (subst (All (λ (group : Group). IsPathOf (legs_of I) group.path)) (sym are) (plan.groups r lt).paths)
