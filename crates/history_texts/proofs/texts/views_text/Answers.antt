use Rattle.std.proofs.Common.{ℕ, List, ◌++◌, sym, ap, ◌∙◌}
use Rattle.std.specs.Prelude.{IfSome}
use Rattle.std.proofs.lemmas.List.Elements.{All-weaker}
use Rattle.desk_model.specs.States.{opening}
use Rattle.desk_model.specs.declared.view.View.{View}
use Rattle.desk_model.specs.Views.{IsSightOf}
use Rattle.desk_tasks.specs.Play.{seen_lines}
use Rattle.output_texts.specs.Writable.{Names}
use Rattle.history_texts.proofs.SeenLaws.{sight-names, seen-same}
use Rattle.history_texts.proofs.texts.views_text.Goals as goal

pub push_views-requires : goal.push_views-requires
push_views-requires c =
    let O = c.args.book.now.opening in
    let I = c.instance.result.now in
    All-weaker (IsSightOf (opening O) c.args.book.now.journal) (λ (v : View). IfSome v.broken (Names I))
    (λ (v : View) (sight : IsSightOf (opening O) c.args.book.now.journal v). sight-names O I (sym c.instance.ensures.parts) c.args.book.now.journal v sight) c.args.seen.now c.requires

pub returns : goal.returns
returns c =
    let O = c.args.book.now.opening in
    let I = c.instance.result.now in
    c.in_ok-push_views.ensures ∙ ap (λ (text : List ℕ). text ++ seen_lines I c.args.seen.now) c.new-text.ensures.items ∙ seen-same I O c.instance.ensures.parts c.args.seen.now
