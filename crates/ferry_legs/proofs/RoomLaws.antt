-- Whether there is room for one more leg in an hour, by the legs of the plan and the added ones.
use Rattle.std.proofs.Common.{◌≡◌, ℕ, ◌+◌, ◌-◌, ◌<◌, ◌≤◌, Bool, true, false, ◌||◌, ltb, leb, List, length, sym, ap, ◌∙◌, arith}
use Rattle.std.specs.Prelude.{Option, Some}
use Rattle.std.proofs.lemmas.Bool.{or_left, le-leb, lt-leb}
use Rattle.std.proofs.lemmas.Bool.Decides.{nat_tests}
use Rattle.desk_data.specs.Situation.{Situation, legs_of}
use Rattle.desk_data.specs.PlanRows.{PlanRows}
use Rattle.desk_rules.specs.Least.{all_hours}
use Rattle.hour_counts.specs.declared.slot.Movement.{Movement}
use Rattle.added_legs.specs.declared.added.Added.{Added}
use Rattle.added_legs.specs.Merged.{AreAdded, merged_day, merged_plan}
use Rattle.ferry_legs.specs.Departs.{count_of, cap_of, is_below, has_room}
use Rattle.ferry_legs.specs.Taken.{added_taken}
use Rattle.ferry_legs.proofs.CountLaws.{merged_count}

pub late_room : (I : Situation) (P : PlanRows) (A : List Added) (movement : Movement) (a h : ℕ) → 876600 ≤ h → true ≡ has_room I P A movement a h
unfolding all_hours
late_room I P A movement a h le =
    sym (or_left (leb 876600 h) (is_below (count_of movement (merged_day I P A) (merged_plan I P A) a h) (cap_of movement I a h)) (le-leb 876600 h le))

soon_is : (I : Situation) (P : PlanRows) (A : List Added) (movement : Movement) (a h : ℕ) → h < 876600 → has_room I P A movement a h ≡ is_below (count_of movement (merged_day I P A) (merged_plan I P A) a h) (cap_of movement I a h)
unfolding all_hours
soon_is I P A movement a h lt = ap (λ (b : Bool). b || is_below (count_of movement (merged_day I P A) (merged_plan I P A) a h) (cap_of movement I a h)) (lt-leb 876600 h lt)

room_of : (count : ℕ) (limit : Option ℕ) (cap planned added : ℕ) → limit ≡ Some cap → count ≡ planned + added → is_below count limit ≡ ltb (planned + added) cap
room_of count limit cap planned added some is = ap (is_below count) some ∙ ap (λ (k : ℕ). ltb k cap) is

pub room_is : (I : Situation) (P : PlanRows) (A : List Added) (movement : Movement) (a h cap planned : ℕ) → length P.rows ≡ legs_of I → AreAdded I P A → h < 876600 → cap_of movement I a h ≡ Some cap → planned ≡ count_of movement I P a h → has_room I P A movement a h ≡ ltb (planned + added_taken I P movement a h A) cap
room_is I P A movement a h cap planned all added lt some is =
    soon_is I P A movement a h lt
    ∙ room_of (count_of movement (merged_day I P A) (merged_plan I P A) a h) (cap_of movement I a h) cap planned (added_taken I P movement a h A) some
    (merged_count I P A all added movement a h ∙ ap (λ (k : ℕ). k + added_taken I P movement a h A) (sym is))

pub full_plan : (planned more cap : ℕ) → cap ≤ planned → ltb (planned + more) cap ≡ false
full_plan planned more cap le = grind (arith, nat_tests)

pub left_room : (planned more cap : ℕ) → planned < cap → ltb (planned + more) cap ≡ ltb more (cap - planned)
left_room planned more cap lt = grind (arith, nat_tests)
