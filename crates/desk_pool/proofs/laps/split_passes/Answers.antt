use Rattle.std.proofs.Common.{◌≡◌, List, get_or, refl, sym, ap, ◌∙◌, subst, arith, length-set}
use mathlib.Core.List.{IsPrefix}
use Rattle.turn_book.specs.Passes.{first_book, known, seen}
use Rattle.turn_book.specs.Knowing.{tags_at}
use Rattle.turn_book.proofs.Prefixes.{prefix_self}
use Rattle.turn_book.proofs.SplitLaws.{split_more, next_child}
use Rattle.desk_model.specs.declared.answer.Entry.{Entry}
use Rattle.desk_pool.specs.declared.searcher.Searcher.{Searcher}
use Rattle.desk_pool.specs.Rounds.{IsReady}
use Rattle.desk_pool.specs.Workers.{HasPass}
use Rattle.desk_pool.proofs.Lapping.{each_below, same_given}
use Rattle.desk_pool.proofs.laps.split_passes.Goals as goal

pub loop-i-preserved : goal.loop-i-preserved
loop-i-preserved c =
    let h = c.loop-i.invariant in
    let split = c.split-one.ensures in
    let v = known c.args.pass.now in
    let i = c.loop-i.i in
    let lt = c.loop-i-test.true in
    let began : seen c.split-one.result ≡ seen c.args.pass.now = split.seen.1 ∙ h.fresh.seen in
    let was = h.same i c.index-workers-i.result (omega (arith, lt, h.len)) in
    let own = (get_or c.loop-i.workers i c.index-workers-i.result).searcher in
    let ready : IsReady (first_book c.args.turn.now).opening own (seen c.args.pass.now) = subst (λ (s : Searcher). IsReady (first_book c.args.turn.now).opening s (seen c.args.pass.now)) (sym was.searcher) (c.requires.ready i c.index-workers-i.result (omega (arith, lt, h.len))) in
    record {
      of = split.of.0;
      len = length-set c.loop-i.workers i _ ∙ h.len;
      fresh = split_more i v (known c.loop-i.pass) (known c.split-one.new.pass) h.fresh split.left;
      same = same_given c.args.workers.now c.loop-i.workers i _ c.index-workers-i.result (omega (arith, lt)) h.same (record { searcher = refl; report = refl });
      each = each_below (λ k x. HasPass c.args.turn.now v k x) c.loop-i.workers i _ (omega (arith, lt)) h.each (record {
        some = refl;
        of = split.of.1;
        from = record { began = subst (IsPrefix v.seen) (sym began) (prefix_self v.seen); tags = ap (λ u. u.tags) split.right ∙ ap tags_at (next_child i v (known c.loop-i.pass) h.fresh) };
        made = split.made.1;
        ready = subst (λ (l : List Entry). IsReady (first_book c.args.turn.now).opening own l) (sym began) ready;
      });
    }
