use Rattle.std.proofs.Common.{◌≡◌, ℕ, Bool, true, false, not, List, take, refl, arith, ap, ◌∙◌, subst}
use Rattle.std.specs.List.{list_any}
use Rattle.std.proofs.lemmas.List.{take_all}
use Rattle.day_checks.proofs.NameLemmas.{same_key, seen_more, apart_more, not_apart}
use Rattle.day_checks.proofs.parts.are_named_apart.Goals as goal

pub loop-row-init : goal.loop-row-init
loop-row-init g c = record {
  names = λ q. rw c.new-seen.ensures.empty refl;
  apart = λ i j d before within. absurd (omega arith);
}

-- what `insert` says of a name: it is new exactly where the set did not have it
unseen_from : (added has : Bool) → added ≡ not has → added ≡ true → has ≡ false
unseen_from added true e f = cc
unseen_from added false e f = refl

seen_from : (added has : Bool) → added ≡ not has → added ≡ false → has ≡ true
seen_from added true e f = refl
seen_from added false e f = cc

named : (k : List ℕ × ℕ) (bytes : List ℕ) (number : ℕ) → bytes ≡ k.0 → number ≡ k.1 → (bytes, number) ≡ k
named k bytes number e f = ap (λ (b : List ℕ). let p : List ℕ × ℕ = (b, number) in p) e ∙ ap (λ (n : ℕ). let p : List ℕ × ℕ = (k.0, n) in p) f

pub loop-row-preserved : goal.loop-row-preserved
loop-row-preserved g c =
    let e = c.in_ok-insert.ensures in
    let key = g.T.Named.key_of in
    let rows = c.args.rows.now in
    let i = c.loop-row.row-index in
    let same = named (key c.row-item.result) _ _ c.key.ensures.bytes c.key.ensures.number in
    let unseen : list_any (λ y. same_key (key y) (c.key.result.0.now, c.key.result.1)) (take i rows) ≡ false = rw (← c.loop-row.invariant.names c.key.result) (unseen_from _ _ e.added c.if-not-branch.false) in
    record {
      names = λ q. rw (e.updates.0 q, c.key.ensures.bytes, c.key.ensures.number, c.loop-row.invariant.names q) (seen_more key (q.0.now, q.1) rows i c.row-item.result c.loop-row-test.true c.row-item.is);
      apart = apart_more key rows i c.row-item.result c.loop-row-test.true c.row-item.is (subst (λ (k : List ℕ × ℕ). list_any (λ y. same_key (key y) k) (take i rows) ≡ false) same unseen) c.loop-row.invariant.apart;
    }

pub returns-then-not-branch : goal.returns-then-not-branch
returns-then-not-branch g c =
    let e = c.in_ok-insert.ensures in
    let key = g.T.Named.key_of in
    let rows = c.args.rows.now in
    let i = c.loop-row.row-index in
    let same = named (key c.row-item.result) _ _ c.key.ensures.bytes c.key.ensures.number in
    let seen : list_any (λ y. same_key (key y) (c.key.result.0.now, c.key.result.1)) (take i rows) ≡ true = rw (← c.loop-row.invariant.names c.key.result) (seen_from _ _ e.added c.if-not-branch.true) in
    (λ false_. cc, λ apart. absurd (not_apart key rows i c.row-item.result c.loop-row-test.true c.row-item.is (subst (λ (k : List ℕ × ℕ). list_any (λ y. same_key (key y) k) (take i rows) ≡ true) same seen) apart))

pub returns : goal.returns
returns g c = (λ true_. rw (take_all _ _ c.loop-row-test.false) at c.loop-row.invariant.apart, λ apart. refl)
