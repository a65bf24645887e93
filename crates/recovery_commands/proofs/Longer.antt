-- What is known once the desk's pass and the workers' pass are joined again.
use Rattle.std.proofs.Common.{◌≡◌, ◌⊎◌, ℕ, true, List, length, get_or, sym, ap, ◌∙◌, subst, arith, inl, inr}
use mathlib.Core.List.{IsPrefix}
use Rattle.turn_book.specs.Knowing.{AreNested, longer}
use Rattle.turn_book.specs.Places.{has}
use Rattle.turn_book.specs.Passes.{Looked}
use Rattle.turn_book.proofs.Prefixes.{prefix_trans, prefix_length}
use Rattle.turn_book.proofs.SplitLaws.{both_begin}
use Rattle.desk_data.specs.Situation.{Situation}
use Rattle.desk_model.specs.declared.answer.Entry.{Entry}
use Rattle.desk_pool.specs.declared.worker.Worker.{Worker}
use Rattle.desk_pool.specs.Workers.{CanAllSearch}
use Rattle.desk_pool.specs.Rounds.{Knows}
use Rattle.desk_pool.specs.Laps.{SomeNew, HasGained}
use Rattle.desk_pool.proofs.Gaining.{gained_none}
use Rattle.desk_pool.proofs.Lapping.{ready_longer}

-- of a join both histories begin what is seen then
pub begins_first : (xs ys zs : List Entry) → AreNested xs ys → zs ≡ longer xs ys → IsPrefix xs zs
begins_first xs ys zs nested is = subst (IsPrefix xs) (sym is) (both_begin xs ys nested).0

pub begins_second : (xs ys zs : List Entry) → AreNested xs ys → zs ≡ longer xs ys → IsPrefix ys zs
begins_second xs ys zs nested is = subst (IsPrefix ys) (sym is) (both_begin xs ys nested).1

pub all_longer : (I : Situation) (workers : List Worker) (h g : List Entry) → CanAllSearch I workers h → IsPrefix h g → CanAllSearch I workers g
all_longer I workers h g ready p = λ i d lt. ready_longer I (get_or workers i d).searcher h g (ready i d lt) p

-- ---- rounds after a look

-- what workers gained after a look is what they gained since before it
pub gained_later : (most : ℕ) (v u w : Knows) (workers_before workers_after : List Worker) → Looked v u → HasGained most (length u.seen) u w workers_before workers_after → HasGained most (length v.seen) v w workers_before workers_after
gained_later most v u w workers_before workers_after look h = record {
  began = prefix_trans v.seen u.seen w.seen look.began h.began;
  workers = h.workers;
  trails = λ i d lt. (let t = h.trails i d lt in record {
    same = t.same;
    trail = t.trail;
    since = λ j x at. (let low = t.since j x at in let short = prefix_length v.seen u.seen look.began in omega (arith, low, short));
    in_budget = t.in_budget;
  });
  made_only = λ k is. ap_made k (h.made_only k is);
  made_before = λ k is. h.made_before k (ap (has k) look.made ∙ is);
  made_since = λ k some. (let s = h.made_since k some in (s.0, ap (has k) (sym look.made) ∙ s.1));
  apart = h.apart;
}
  where
    ap_made : (k : ℕ) → (has k u.made ≡ true) ⊎ SomeNew workers_before workers_after k → (has k v.made ≡ true) ⊎ SomeNew workers_before workers_after k
    ap_made k (inl old) = inl (ap (has k) (sym look.made) ∙ old)
    ap_made k (inr new) = inr new

-- where nothing was done after it, nothing was gained
pub gained_looked : (most : ℕ) (v u : Knows) (workers : List Worker) → Looked v u → HasGained most (length v.seen) v u workers workers
gained_looked most v u workers look = gained_later most v u u workers workers look (gained_none most (length u.seen) u workers)
