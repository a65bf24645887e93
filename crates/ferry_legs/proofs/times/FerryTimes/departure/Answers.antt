use Rattle.std.proofs.Common.{◌≡◌, true, false, leb, ap, sym, ◌∙◌}
use Rattle.std.proofs.lemmas.Bool.{le-leb, lt-leb}
use Rattle.desk_data.specs.Situation.{plane_at}
use Rattle.ferry_legs.specs.Departs.{way_of}
use Rattle.ferry_legs.proofs.CandidateLaws.{searched, found_is, none_is_found, found_sound}
use Rattle.ferry_legs.proofs.times.FerryTimes.departure.Goals as goal

pub returns-then-within-clause-exact : goal.returns-then-within-clause-exact
returns-then-within-clause-exact c =
    let I = c.args.inst.now in
    let P = c.args.plan.now in
    let t = c.args.self.now in
    let r = c.requires in
    let p = c.args.plane.0 in
    let d = c.args.dest.0 in
    let valid = c.parts-rows.ensures.valid in
    let short : leb (way_of I P p c.args.dest).minutes (plane_at I p).range ≡ true =
    sym (ap (λ w. leb w.minutes (plane_at I p).range) c.way_of-way.ensures.way)
    ∙ sym (ap (λ info. leb c.way_of-way.result.minutes info.range) c.plane.ensures.row)
    ∙ le-leb c.way_of-way.result.minutes c.plane.result.now.range c.if-within.true in
    let first = searched I P valid r.plan t.added r.added r.sound t.lasts t.starts t.upkeeps r.times.lasts r.times.starts r.times.upkeeps p d r.plane r.dest r.air r.alone r.way
    c.first_from.result c.asked_of-asked.result.departures.added.now c.asked_of-asked.result.way c.ready-ready.result
    (c.asked_of-asked.ensures.added ∙ c.departing.ensures.added) (c.asked_of-asked.ensures.way ∙ c.way_of-way.ensures.way) c.ready-ready.ensures.ready c.first_from.ensures in
    found_is I P valid r.plan t.added r.added r.sound t.lasts t.starts t.upkeeps r.times.lasts r.times.starts r.times.upkeeps p d r.plane r.dest r.air r.alone r.way c.first_from.result short first

pub returns-then-within-clause-sound : goal.returns-then-within-clause-sound
returns-then-within-clause-sound c =
    let I = c.args.inst.now in
    let P = c.args.plan.now in
    let t = c.args.self.now in
    let r = c.requires in
    let p = c.args.plane.0 in
    let d = c.args.dest.0 in
    let valid = c.parts-rows.ensures.valid in
    let short : leb (way_of I P p c.args.dest).minutes (plane_at I p).range ≡ true =
    sym (ap (λ w. leb w.minutes (plane_at I p).range) c.way_of-way.ensures.way)
    ∙ sym (ap (λ info. leb c.way_of-way.result.minutes info.range) c.plane.ensures.row)
    ∙ le-leb c.way_of-way.result.minutes c.plane.result.now.range c.if-within.true in
    let first = searched I P valid r.plan t.added r.added r.sound t.lasts t.starts t.upkeeps r.times.lasts r.times.starts r.times.upkeeps p d r.plane r.dest r.air r.alone r.way
    c.first_from.result c.asked_of-asked.result.departures.added.now c.asked_of-asked.result.way c.ready-ready.result
    (c.asked_of-asked.ensures.added ∙ c.departing.ensures.added) (c.asked_of-asked.ensures.way ∙ c.way_of-way.ensures.way) c.ready-ready.ensures.ready c.first_from.ensures in
    found_sound I P valid r.plan t.added r.added r.sound t.lasts t.starts t.upkeeps r.times.lasts r.times.starts r.times.upkeeps p d r.plane r.dest r.air r.alone r.way c.first_from.result short first

pub returns-else-within-clause-exact : goal.returns-else-within-clause-exact
returns-else-within-clause-exact c =
    let I = c.args.inst.now in
    let P = c.args.plan.now in
    let t = c.args.self.now in
    let r = c.requires in
    let p = c.args.plane.0 in
    let far : leb (way_of I P p c.args.dest).minutes (plane_at I p).range ≡ false =
    sym (ap (λ w. leb w.minutes (plane_at I p).range) c.way_of-way.ensures.way)
    ∙ sym (ap (λ info. leb c.way_of-way.result.minutes info.range) c.plane.ensures.row)
    ∙ lt-leb c.way_of-way.result.minutes c.plane.result.now.range c.if-within.false in
    none_is_found I P c.parts-rows.ensures.valid r.plan t.added r.added r.sound t.lasts t.starts t.upkeeps r.times.lasts r.times.starts r.times.upkeeps p c.args.dest.0 r.plane r.dest r.air r.alone r.way far
