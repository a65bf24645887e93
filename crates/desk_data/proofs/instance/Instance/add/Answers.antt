use Rattle.std.proofs.Common.{◌≡◌, ◌<◌, ◌++◌, List, subst, sym, ap, ◌∙◌, arith}
use Rattle.std.specs.Arc.{arc_value}
use Rattle.day_orders.specs.declared.orders.Order.{Order}
use Rattle.desk_data.specs.declared.left.Left.{Left}
use Rattle.desk_data.specs.Insides.{IsWhole}
use Rattle.desk_data.specs.Keeps.{Keeps}
use Rattle.desk_data.specs.Progress.{moment_or_now, progress_at}
use Rattle.desk_data.specs.Situation.{Situation, now_of}
use Rattle.desk_data.proofs.WholeLemmas.{moment_later, moment_none, moment_not_later, whole_taken, whole_with}
use Rattle.desk_data.proofs.instance.Instance.add.Goals as goal
use Rattle.desk_data.proofs.instance.Instance.add.Goals.{in_default-via-in-Some+else-deref-at, in_default-via-in_default}

pub invariant_of-self : goal.invariant_of-self
invariant_of-self c =
    let I = c.args.self.now in
    let P = c.args.plan.now in
    let B = c.args.batch.now in
    let whole = subst (λ (day : Situation). IsWhole day (arc_value c.self.inside.news) (arc_value c.self.inside.left) (arc_value c.self.inside.prices) (arc_value c.self.inside.bookings)) c.self.view_is c.self.invariant in
    let rows = ap (λ (day : Situation). day.parts) c.self.view_is in
    let now = ap (λ (day : Situation). now_of day) c.self.view_is in
    let kept_now = ap (λ (left : Left). left.now.0) c.deref.ensures in
    let before : now_of I < c.in-Some.at.0 = omega (arith, c.if-deref-at.true, kept_now, now) in
    let moment = moment_later (now_of I) B.at c.in-Some.at c.in-Some.is before in
    let progress = c.in_ok-left-in-Some.ensures.progress ∙ ap (progress_at I P) (sym moment) in
    let said = c.in_ok-news-in-Some.ensures in
    let orders = said.orders ∙ ap (λ (list : List Order). I.orders ++ list) c.as_slice-orders.ensures in
    let kept = subst (λ (list : List Order). Keeps (record { parts = I.parts; orders = I.orders ++ list; progress = I.progress }) c.in_ok-news-in-Some.news.kept) c.as_slice-orders.ensures said.kept in
    let out = rw (c.as_slice.ensures.value, c.as_slice-orders.ensures) at said.spans in
    rw (c.in_ok-news-in-Some-2.ensures.ok, c.in_ok-self-inside-in-Some.ensures.ok)
    (whole_with I P B (arc_value c.self.inside.parts) (arc_value c.self.inside.news) c.in_ok-news-in-Some.news (arc_value c.self.inside.left) c.in_ok-left-in-Some.left (arc_value c.self.inside.prices) (arc_value c.self.inside.bookings) whole c.requires.plan c.requires.batch rows orders progress kept said.all_planes out c.in_ok-left-in-Some.ensures.kept)

pub invariant_of-self-in_default : goal.invariant_of-self-in_default
invariant_of-self-in_default c =
    let I = c.args.self.now in
    let P = c.args.plan.now in
    let B = c.args.batch.now in
    let whole = subst (λ (day : Situation). IsWhole day (arc_value c.self.inside.news) (arc_value c.self.inside.left) (arc_value c.self.inside.prices) (arc_value c.self.inside.bookings)) c.self.view_is c.self.invariant in
    let rows = ap (λ (day : Situation). day.parts) c.self.view_is in
    let progress = ap (λ (day : Situation). day.progress) c.self.view_is in
    let now = ap (λ (day : Situation). now_of day) c.self.view_is in
    let moment : moment_or_now (now_of I) B.at ≡ now_of I =
    elim c.in_default.branch [
      | in_default-via-in-Some+else-deref-at w ↦ moment_not_later (now_of I) B.at w.in-Some.at w.in-Some.is (omega (arith, w.if-deref-at.false, ap (λ (left : Left). left.now.0) w.deref.ensures, now))
      | in_default-via-in_default w ↦ moment_none (now_of I) B.at w.in_default.is
    ] in
    let said = c.in_ok-news-in_default.ensures in
    let orders = said.orders ∙ ap (λ (list : List Order). I.orders ++ list) c.as_slice-orders.ensures in
    let kept = subst (λ (list : List Order). Keeps (record { parts = I.parts; orders = I.orders ++ list; progress = I.progress }) c.in_ok-news-in_default.news.kept) c.as_slice-orders.ensures said.kept in
    let out = rw (c.as_slice-in_default.ensures.value, c.deref-in_default.ensures, c.as_slice-orders.ensures) at said.spans in
    rw c.in_ok-self-inside-in_default.ensures.ok
    (whole_taken I P B (arc_value c.self.inside.parts) (arc_value c.self.inside.news) c.in_ok-news-in_default.news (arc_value c.self.inside.left) (arc_value c.self.inside.prices) (arc_value c.self.inside.bookings) whole c.requires.plan c.requires.batch rows progress moment orders kept said.all_planes out)
