-- Tokens with one space between any two of them are read as these tokens.
use Rattle.std.proofs.Common.{◌≡◌, ℕ, ◌≤◌, true, false, ◌&&◌, leb, ltb, List, [], ◌∷◌, ◌++◌, length, refl, sym, ap, ◌∙◌, arith, append_assoc}
use Rattle.std.specs.Prelude.{filter}
use Rattle.std.specs.List.{list_all, slice_split}
use Rattle.std.proofs.lemmas.Bool.{and_parts, and_from, le-leb, leb-true, lt-ltb, ne_eqb, or_from}
use Rattle.std.proofs.lemmas.List.Folds.{list_all-append}
use Rattle.desk_text.specs.Lines.{is_blank, is_full, fields}
use Rattle.desk_text.specs.Seen.{is_seen}
use Rattle.comma_rows.specs.Records.{is_printed}

-- a byte that can be seen is no blank
not_blank : (b : ℕ) → (leb 33 b && leb b 126) ≡ true → is_blank b ≡ false
not_blank b seen =
    let low : 33 ≤ b = leb-true 33 b (and_parts _ _ seen).0 in
    or_from _ _ (ne_eqb b 32 (λ e. omega (arith, e))) (ne_eqb b 9 (λ e. omega (arith, e)))

seen_first : (b : ℕ) (t : List ℕ) → is_seen (b ∷ t) ≡ true → ((leb 33 b && leb b 126) ≡ true) × (is_seen t ≡ true)
seen_first b t seen = and_parts _ _ seen

-- such a token is the first piece
split_space : (t rest : List ℕ) → is_seen t ≡ true → slice_split is_blank (t ++ 32 ∷ rest) ≡ t ∷ slice_split is_blank rest
split_space [] rest seen = refl
split_space (b ∷ t) rest seen =
    let h = seen_first b t seen in
    rw (not_blank b h.0, split_space t rest h.1) refl

split_end : (t : List ℕ) → is_seen t ≡ true → slice_split is_blank t ≡ t ∷ []
split_end [] seen = refl
split_end (b ∷ t) seen =
    let h = seen_first b t seen in
    rw (not_blank b h.0, split_end t h.1) refl

-- a text of these tokens, at the end and before a space
pub record Spells (text : List ℕ) (tokens : List (List ℕ)) : Type 0 where
  pub ends : fields text ≡ tokens
  pub goes : (rest : List ℕ) → fields (text ++ 32 ∷ rest) ≡ tokens ++ fields rest
  pub printed : list_all is_printed text ≡ true

pub seen_printed : (t : List ℕ) → is_seen t ≡ true → list_all is_printed t ≡ true
seen_printed [] seen = refl
seen_printed (b ∷ t) seen =
    let h = seen_first b t seen in
    let range = and_parts _ _ h.0 in
    let low : 33 ≤ b = leb-true 33 b range.0 in
    and_from _ _ (and_from _ _ (le-leb 32 b (omega arith)) range.1) (seen_printed t h.1)

full_first : (b : ℕ) (t : List ℕ) (pieces : List (List ℕ)) → filter is_full ((b ∷ t) ∷ pieces) ≡ (b ∷ t) ∷ filter is_full pieces
full_first b t pieces =
    let full : ltb 0 (length (b ∷ t)) ≡ true = lt-ltb 0 (length (b ∷ t)) (omega arith) in
    rw full refl

-- a token spells itself
pub spells_token : (t : List ℕ) → 1 ≤ length t → is_seen t ≡ true → Spells t (t ∷ [])
unfolding fields
spells_token [] some seen = absurd (omega arith)
spells_token (b ∷ t) some seen = record {
  ends = ap (filter is_full) (split_end (b ∷ t) seen) ∙ full_first b t [];
  goes = λ rest. ap (filter is_full) (split_space (b ∷ t) rest seen) ∙ full_first b t (slice_split is_blank rest);
  printed = seen_printed (b ∷ t) seen;
}

-- two texts with a space between them
pub spells_both : (a b : List ℕ) (s t : List (List ℕ)) → Spells a s → Spells b t → Spells (a ++ 32 ∷ b) (s ++ t)
spells_both a b s t first second = record {
  ends = first.goes b ∙ ap (λ ts. s ++ ts) second.ends;
  goes = λ rest. ap fields (append_assoc a (32 ∷ b) (32 ∷ rest)) ∙ first.goes (b ++ 32 ∷ rest) ∙ ap (λ ts. s ++ ts) (second.goes rest) ∙ sym (append_assoc s t (fields rest));
  printed = list_all-append is_printed a (32 ∷ b) ∙ and_from _ _ first.printed second.printed;
}
