use Rattle.std.proofs.Common.{◌≡◌, ◌<◌, ℕ, List, length, map, get_or, [], cond, eqb, subst, sym, ap, ◌∙◌}
use Rattle.std.proofs.lemmas.List.{map-set, get_or-map, length-map}
use Rattle.std.proofs.lemmas.Result.{on_ok_weaker}
use Rattle.near_notes.proofs.RowLaws.{put-row}
use Rattle.near_notes.proofs.rows.NumberRows.put.Goals as goal

pub returns : goal.returns
returns c =
    let rows = c.self.inside.rows.items in
    let old = c.args.self.now in
    let row = c.args.row in
    let view : map (λ r. r.items) rows ≡ old = c.self.view_is in
    let long : length (map (λ r. r.items) rows) ≡ length rows = length-map rows (λ r. r.items) in
    let within : row < length rows = subst (λ (n : ℕ). row < n) (sym (ap length view) ∙ long) c.requires in
    let was : get_or old row [] ≡ c.index_mut.result.now.items =
    ap (λ (all : List (List ℕ)). get_or all row []) (sym view) ∙ get_or-map (λ s. s.items) rows row c.index_mut.result.now [] within ∙ ap (λ s. s.items) (sym c.index_mut.ensures.value) in
    on_ok_weaker c.put_in.result
    (λ each. rw (← c.self.view_is) (rw (map-set) (rw c.self.view_is (put-row old row c.args.column c.args.number c.put_in.new.numbers.items c.requires
    (λ k. each k ∙ ap (λ (xs : List ℕ). cond (eqb k c.args.column) c.args.number (get_or xs k 0)) (sym was))))))
    c.put_in.ensures
