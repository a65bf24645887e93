-- A name is kept as 32 bytes, of which those after the name's own are zero.
use Rattle.std.specs.Prelude.{◌≡◌, ℕ, ◌-◌, List, ◌++◌, length, take, drop, replicate, refl}
use Rattle.std.proofs.Common.{arith, ap, ◌∙◌}
use Rattle.std.proofs.lemmas.List.{take-append-drop, length-take, length-append, length-replicate, drop-replicate, drop_at}
use Rattle.desk_units.specs.Padded.{IsNameLength}
use Rattle.desk_units.specs.declared.name.Name.TheInside.{Inside}

-- the fields that keep a name
abbrev pub fields_of : List ℕ → Inside
fields_of name = record { bytes = name ++ replicate (32 - length name) 0; len = length name }

-- the bytes after the name are zero
pub record IsPadded (n : Inside) : Type 0 where
  pub length_of : IsNameLength n.len
  pub room : length n.bytes ≡ 32
  pub zeros : drop n.len n.bytes ≡ replicate (32 - n.len) 0

-- the fields are those of the name that they keep
pub fields_of-take : (n : Inside) → IsPadded n → fields_of (take n.len n.bytes) ≡ n
fields_of-take n h =
    let short : length (take n.len n.bytes) ≡ n.len = omega (arith, length-take n.len n.bytes, h.room, h.length_of.most) in
    let whole : take n.len n.bytes ++ replicate (32 - n.len) 0 ≡ n.bytes = rw (← h.zeros) (take-append-drop n.len n.bytes) in
    ap (λ (k : ℕ). let fields : Inside = record { bytes = take n.len n.bytes ++ replicate (32 - k) 0; len = k } in fields) short
    ∙ ap (λ (bytes : List ℕ). let fields : Inside = record { bytes = bytes; len = n.len } in fields) whole

-- a name's bytes before zeros keep that name
pub is_padded : (name bytes : List ℕ) → IsNameLength (length name) → bytes ≡ name → IsPadded (record { bytes = bytes ++ drop (length name) (replicate 32 0); len = length name })
is_padded name bytes h e = record {
  length_of = h;
  room = rw (e, length-append name (drop (length name) (replicate 32 0)), drop-replicate {X = ℕ} (length name) 32 0, length-replicate {A = ℕ} (32 - length name) 0) (omega (arith, h.most));
  zeros = rw (e, drop_at name (drop (length name) (replicate 32 0)) (length name) refl) (drop-replicate {X = ℕ} (length name) 32 0);
}
