use Rattle.std.proofs.Common.{inl, inr, sym, ◌∙◌}
use Rattle.desk_build.proofs.BeforeLemmas.{none_so_early, on_last_day, on_no_day, on_day_before}
use Rattle.desk_build.proofs.legs.last_in_time.Goals as goal
use Rattle.desk_build.proofs.legs.last_in_time.Goals.{then-is_some-via-then-is_some, then-is_some-via-else-is_some+then-day-eq0, then-is_some-via-else-is_some+else-day-eq0+then-since-ne0}

pub returns-then-at-flight-clause-exact : goal.returns-then-at-flight-clause-exact
returns-then-at-flight-clause-exact c = none_so_early c.args.flight.now c.args.at c.args.tables.now.files.now.rotations c.if-at-flight.true

pub returns-then-is_some-clause-exact : goal.returns-then-is_some-clause-exact
returns-then-is_some-clause-exact c =
    let flight = c.args.flight.now in
    let rotations = c.args.tables.now.files.now.rotations in
    let place = c.rotation_place-place.result in
    elim c.then-is_some.branch [
      | then-is_some-via-then-is_some w ↦ on_last_day flight c.args.at rotations c.if-at-flight.false place c.rotation_place-place.ensures (sym c.is_some.ensures ∙ w.if-is_some.true)
      | then-is_some-via-else-is_some+then-day-eq0 w ↦ on_no_day flight c.args.at rotations c.if-at-flight.false place c.rotation_place-place.ensures (sym c.is_some.ensures ∙ w.if-is_some.false) (inl w.if-day-eq0.true)
      | then-is_some-via-else-is_some+else-day-eq0+then-since-ne0 w ↦ on_no_day flight c.args.at rotations c.if-at-flight.false place c.rotation_place-place.ensures (sym c.is_some.ensures ∙ w.if-is_some.false) (inr w.if-since-ne0.true)
    ]

pub returns-clause-exact : goal.returns-clause-exact
returns-clause-exact c =
    c.rotation_place.ensures
    ∙ on_day_before c.args.flight.now c.args.at c.args.tables.now.files.now.rotations c.if-at-flight.false c.rotation_place-place.result c.rotation_place-place.ensures (sym c.is_some.ensures ∙ c.if-is_some.false) c.if-day-eq0.false c.if-since-ne0.false
