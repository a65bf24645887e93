use Rattle.std.proofs.Common.{◌≡◌, ◌∙◌, ℕ, [], ap}
use Rattle.desk_data.specs.Situation.{planes_of}
use Rattle.board_rot.specs.Summaries.{Summary, Edited, blank}
use Rattle.board_rot.specs.Kept.{seen}
use Rattle.board_rot.specs.Meaning.{flown_in, summary_of}
use Rattle.board_rot.proofs.EditLaws.{led_planes}
use Rattle.board_rot.proofs.MakeLaws.{plan_summary, made}
use Rattle.board_rot.proofs.make.make_summary.Goals as goal

pub fly_legs-requires-clause-planes : goal.fly_legs-requires-clause-planes
fly_legs-requires-clause-planes g c = ap (λ (e : Edited). e.planes) c.in_ok-log.ensures ∙ c.planes.ensures.count

pub fly_legs-requires-clause-rotation_legs : goal.fly_legs-requires-clause-rotation_legs
fly_legs-requires-clause-rotation_legs g c = ap (λ (e : Edited). e.summary.rotation_legs) c.in_ok-log.ensures

pub judge_legs-requires-clause-summary : goal.judge_legs-requires-clause-summary
judge_legs-requires-clause-summary g c =
    let planes : (seen c.fly_legs.new.log).planes ≡ planes_of c.args.inst.now = led_planes (seen c.in_ok-log.log) (seen c.fly_legs.new.log) c.fly_legs.ensures.led ∙ ap (λ (e : Edited). e.planes) c.in_ok-log.ensures ∙ c.planes.ensures.count in
    plan_summary c.args.inst.now (g.P.ReadPlan.plan_of c.args.plan.now) (seen c.fly_legs.new.log) c.requires planes c.in_ok-fly_legs.ensures.rotation_legs

pub judge_planes-requires : goal.judge_planes-requires
judge_planes-requires g c =
    let P = g.P.ReadPlan.plan_of c.args.plan.now in
    let planes : (seen c.judge_legs.new.log).planes ≡ planes_of c.args.inst.now = led_planes (seen c.fly_legs.new.log) (seen c.judge_legs.new.log) c.judge_legs.ensures.led ∙ led_planes (seen c.in_ok-log.log) (seen c.fly_legs.new.log) c.fly_legs.ensures.led ∙ ap (λ (e : Edited). e.planes) c.in_ok-log.ensures ∙ c.planes.ensures.count in
    record { summary = plan_summary c.args.inst.now P (seen c.judge_legs.new.log) c.requires planes (c.judge_legs.ensures.rotation_legs ∙ c.in_ok-fly_legs.ensures.rotation_legs) }

pub returns : goal.returns
returns g c =
    let I = c.args.inst.now in
    let P = g.P.ReadPlan.plan_of c.args.plan.now in
    let e = seen c.judge_planes.new.log in
    let planes : e.planes ≡ planes_of I = led_planes (seen c.judge_legs.new.log) e c.judge_planes.ensures.led ∙ led_planes (seen c.fly_legs.new.log) (seen c.judge_legs.new.log) c.judge_legs.ensures.led ∙ led_planes (seen c.in_ok-log.log) (seen c.fly_legs.new.log) c.fly_legs.ensures.led ∙ ap (λ (f : Edited). f.planes) c.in_ok-log.ensures ∙ c.planes.ensures.count in
    let none : (seen c.fly_legs.new.log).summary.broken ≡ blank.broken = c.fly_legs.ensures.broken ∙ ap (λ (f : Edited). f.summary.broken) c.in_ok-log.ensures in
    let flown : (seen c.judge_legs.new.log).summary.rotation_legs ≡ flown_in P = c.judge_legs.ensures.rotation_legs ∙ c.in_ok-fly_legs.ensures.rotation_legs in
    let summary : e.summary ≡ summary_of I P = made I P (seen c.fly_legs.new.log).summary (seen c.judge_legs.new.log).summary e.summary none (c.judge_planes.ensures.rotation_legs ∙ flown) c.in_ok-judge_legs.ensures.broken (c.in_ok-judge_planes.ensures.broken P c.requires flown) in
    c.forget.ensures
    ∙ ap (λ (s : Summary). let f : Edited = record { summary = s; planes = e.planes; edits = [] } in f) summary
    ∙ ap (λ (n : ℕ). let f : Edited = record { summary = summary_of I P; planes = n; edits = [] } in f) planes
