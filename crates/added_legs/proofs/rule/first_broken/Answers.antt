use Rattle.std.proofs.Common.{◌≡◌, ◌<◌, ◌∙◌, Some, sym, ap, not, false, arith}
use Rattle.std.specs.Option.{option_map}
use Rattle.desk_data.specs.Situation.{legs_of}
use Rattle.desk_rules.specs.Least.{breaks}
use Rattle.desk_rules.proofs.FindLaws.{first_of_numbers, numbers_none}
use Rattle.added_legs.specs.Added.{named}
use Rattle.added_legs.specs.Merged.{merged_day, merged_plan}
use Rattle.added_legs.specs.Items.{count, item_of, keeps}
use Rattle.added_legs.proofs.ItemLaws.{breaks-keeps}
use Rattle.added_legs.proofs.rule.first_broken.Goals as goal

pub returns-then-not-keeps : goal.returns-then-not-keeps
returns-then-not-keeps c =
    let I = c.args.inst.now in
    let P = c.args.plan.now in
    let M = merged_day I P c.args.known.added.now in
    let Q = merged_plan I P c.args.known.added.now in
    let rule = c.args.rule in
    let n = c.loop-n.n in
    let lt : n < count I rule = omega arith in
    let here : keeps M Q rule n ≡ false = grind arith in
    let found = first_of_numbers (breaks M Q) (item_of rule) (count I rule) n lt (breaks-keeps M Q rule n ∙ ap not here) (λ k below. breaks-keeps M Q rule k ∙ ap not (c.loop-n.invariant k below)) in
    sym (ap (option_map (named (legs_of I))) found ∙ ap Some (sym c.item.ensures))

pub returns : goal.returns
returns c =
    let I = c.args.inst.now in
    let P = c.args.plan.now in
    let M = merged_day I P c.args.known.added.now in
    let Q = merged_plan I P c.args.known.added.now in
    let rule = c.args.rule in
    let all : c.loop-n.n ≡ count I rule = omega arith in
    sym (ap (option_map (named (legs_of I))) (numbers_none (breaks M Q) (item_of rule) (count I rule) (λ k below. breaks-keeps M Q rule k ∙ ap not (c.loop-n.invariant k (omega arith)))))
