-- The rule says what its words say.
use Rattle.std.proofs.Common.{◌≡◌, ◌≢◌, ℕ, ◌<◌, List, Option, sym, ap, ◌∙◌, refl, inl, inr, arith, slice_index}
use mathlib.Core.Logic.{dite}
use native.Mathlib.Decide.{ℕ_discrete}
use Rattle.atomic_table.specs.Table.{State}
use Rattle.turn_book.specs.declared.view.View.{View}
use Rattle.turn_book.specs.Rule.{held, TurnRule}
use Rattle.turn_book.specs.InWords.{OneHasTurn, NoneHasTurn, HolderHasRead, NamesInWords, RuleInWords}
use Rattle.turn_book.proofs.Bools.{refute}
use Rattle.turn_book.proofs.Moves.{held_one}

module _ {B O I : Type 0} (opening : B → O) (journal : B → List I) (legal : O → List I → Type 0) (key : B) (s : State (Option B) (View O I)) (h : TurnRule opening journal legal key s) where
  one_has : h.phase ≢ 0 → OneHasTurn s
  one_has ne =
      let up : 0 < h.phase = omega (arith, ne) in
      let x = h.holder up in record {
        word = ap (λ (l : List ℕ). slice_index l 0) h.words ∙ held_one h.phase ne;
        seat = h.who;
        holder = x.0;
        lives = (x.1, x.2);
        has_turn = (h.each h.who x.0 x.1 x.2).has_turn refl up;
        only = λ other w live t. ((h.each other w live.0 live.1).turn t).0;
      }

  none_has : h.phase ≡ 0 → NoneHasTurn s
  none_has e = record {
    word = ap (λ (l : List ℕ). slice_index l 0) h.words ∙ ap held e;
    none_has = λ seat v live. refute v.has_turn (λ t. let p : 0 < h.phase = ((h.each seat v live.0 live.1).turn t).1 in absurd (omega (arith, p, e)));
  }

  holder_has_read : h.phase ≡ 2 → HolderHasRead s
  holder_has_read two =
      let up : 0 < h.phase = omega (arith, two) in
      let x = h.holder up in
      let f = h.each h.who x.0 x.1 x.2 in
      (h.who, x.0, (x.1, x.2), f.has_turn refl up, f.has_read refl two)

  names_in_words : NamesInWords s
  names_in_words =
      let n = h.naming in record {
        given = n.given;
        root = n.root;
        each = λ m g. let k = n.kept m g in (n.keeper m, k.0, (k.1, k.2), k.3);
        once = λ m seat other v w live alive a b. sym ((n.tagged seat v live.0 live.1).named m a).1 ∙ ((n.tagged other w alive.0 alive.1).named m b).1;
        counted = λ seat v live k. let t = n.tagged seat v live.0 live.1 in (t.few k, λ y. t.many k y.0 y.1);
        out = λ seat v live m. let t = n.tagged seat v live.0 live.1 in (t.out_only m, λ y. t.out_all m y.0 y.1 y.2);
      }

  pub in_words : RuleInWords opening journal legal key s
  in_words = record {
    turn = dite (ℕ_discrete h.phase 0) (λ (e : h.phase ≡ 0). inr (none_has e)) (λ (ne : h.phase ≢ 0). inl (one_has ne));
    log = h.log;
    front = ap (λ (l : List ℕ). slice_index l 1) h.words;
    lawful = h.lawful;
    slot = dite (ℕ_discrete h.phase 2) (λ (e : h.phase ≡ 2). inr (holder_has_read e)) (λ (ne : h.phase ≢ 2). inl (h.home ne));
    read = λ seat v live r.
        let f = h.each seat v live.0 live.1 in
        let m = f.read r in
        (f.has_turn m.0 (omega (arith, m.1)), f.whole r);
    seen = λ seat v live. let f = h.each seat v live.0 live.1 in (f.begun, f.seen);
    within = λ seat v live k m. let x = (h.each seat v live.0 live.1).made k m in (x.1, x.2);
    apart = λ seat other v w live alive ne k a. refute _ (λ b. ne (sym ((h.each seat v live.0 live.1).made k a).0 ∙ ((h.each other w alive.0 alive.1).made k b).0));
    covered = λ k low high. let c = h.covered k low high in (h.owner k, c.0, (c.1, c.2), c.3);
    naming = names_in_words;
  }
