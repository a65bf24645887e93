use Rattle.std.proofs.Common.{◌≡◌, Bool, true, sym, subst}
use Rattle.std.proofs.lemmas.Result.{IfOk-weaker}
use Rattle.desk_data.specs.Situation.{Situation}
use Rattle.plan_moves.specs.Fits.{Fits}
use Rattle.near_draft.specs.Drafts.{plan_of}
use Rattle.near_draft.specs.LegRules.{BreaksPushed}
use Rattle.near_search.specs.Out.{IsRuledOutByRows}
use Rattle.near_search.proofs.OutLaws.{breaks-out}
use Rattle.near_search.proofs.drafted.breaks_own_rule.Goals as goal

pub breaks_rule-requires : goal.breaks_rule-requires
breaks_rule-requires c = subst (λ (I : Situation). Fits I c.args.m.now) (sym c.requires.draft.day) c.requires.fits

pub returns : goal.returns
returns c =
    let I = c.args._eval.now.inst in
    let P = c.args._eval.now.rows in
    let m = c.args.m.now in
    let D = c.args.draft.now in
    IfOk-weaker c.breaks_rule.result (λ (b : Bool). b ≡ true → BreaksPushed D.inst (plan_of D) m.steps) (λ (b : Bool). b ≡ true → IsRuledOutByRows I P m) (λ b breaks known. breaks-out I P m D c.requires.draft (breaks known)) c.breaks_rule.ensures
