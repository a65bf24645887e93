use Rattle.std.proofs.Common.{◌≡◌, inl, inr, rules, sym, ap, subst, ◌∙◌}
use Rattle.desk_data.specs.PlanRows.{row_at}
use Rattle.near_untouched.specs.Hours.{IsHourTold, place_of, counted_hour}
use Rattle.near_untouched.proofs.RoomLaws.{hour-kept}
use Rattle.near_untouched.proofs.room.mark_leg.Goals as goal

pub returns-then-eq : goal.returns-then-eq
returns-then-eq g c =
    let m = c.args.movement in
    let I = c.args.plans.now.inst.now in
    let x = c.args.leg.0 in
    let was : c.counted_hour-before.result ≡ counted_hour m I x (row_at c.args.plans.now.earlier.now x) = c.counted_hour-before.ensures ∙ ap (counted_hour m I x) c.read_row-was.ensures.row in
    let now : c.counted_hour-after.result ≡ counted_hour m I x (row_at c.args.plans.now.later.now x) = c.counted_hour-after.ensures ∙ ap (counted_hour m I x) c.read_row-now.ensures.row in
    let same : c.counted_hour-before.result ≡ c.counted_hour-after.result = search rules in
    record {
      tight = c.requires.tight;
      kept = λ k on. on;
      told = inl (sym was ∙ same ∙ now);
    }

pub returns : goal.returns
returns g c =
    let m = c.args.movement in
    let I = c.args.plans.now.inst.now in
    let R = c.args.plan.now in
    let x = c.args.leg.0 in
    let was : c.counted_hour-before.result ≡ counted_hour m I x (row_at c.args.plans.now.earlier.now x) = c.counted_hour-before.ensures ∙ ap (counted_hour m I x) c.read_row-was.ensures.row in
    let now : c.counted_hour-after.result ≡ counted_hour m I x (row_at c.args.plans.now.later.now x) = c.counted_hour-after.ensures ∙ ap (counted_hour m I x) c.read_row-now.ensures.row in
    let first = c.mark_hour.new.tight.items in
    let second = c.mark_hour-2.new.tight.items in
    let kept = c.mark_hour-2.ensures.kept in
    record {
      tight = c.mark_hour-2.ensures.tight;
      kept = λ k on. kept k (c.mark_hour.ensures.kept k on);
      told = inr (
        subst (IsHourTold m I R second (place_of m I x)) was (hour-kept m I R first second (place_of m I x) c.counted_hour-before.result kept c.mark_hour.ensures.told),
        subst (IsHourTold m I R second (place_of m I x)) now c.mark_hour-2.ensures.told,
      );
    }
