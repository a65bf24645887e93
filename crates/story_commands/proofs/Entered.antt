-- Which records have an entry, one after another.
use Rattle.std.proofs.Common.{◌≡◌, ℕ, ◌+◌, ◌<◌, ◌≤◌, Bool, true, false, List, [], ◌∷◌, ◌++◌, length, get_or, drop, map, refl, sym, ap, subst, ◌∙◌, arith, append_assoc}
use Rattle.std.proofs.lemmas.List.{append-nil, drop_more, length-append, length-map, map-append}
use Rattle.std.proofs.Math.ListN.{drop_of_length-le}
use Rattle.std.specs.declared.alloc.Global.{Global}
use Rattle.std.specs.declared.vec.Vec.{Vec}
use Rattle.desk_disk.specs.Stored.{lists_of}
use Rattle.story_commands.specs.Held.{takes, entered_from, entered}

-- those that were looked at, and those that are left
abbrev pub Enters : List (List ℕ) → List (List ℕ) → List (List ℕ) → Type 0
Enters held left all = held ++ entered_from (length held) left ≡ entered all

pub enters_takes : (held : List (List ℕ)) (p : List ℕ) (left all : List (List ℕ)) → takes (length held) p ≡ true → Enters held (p ∷ left) all → Enters (held ++ p ∷ []) left all
unfolding entered_from
enters_takes held p left all is h =
    let size : length (held ++ p ∷ []) ≡ length held + 1 = length-append held (p ∷ []) in
    let whole : held ++ (p ∷ entered_from (length held + 1) left) ≡ entered all = rw is at h in
    rw size (append_assoc held (p ∷ []) (entered_from (length held + 1) left) ∙ whole)

pub enters_passes : (held : List (List ℕ)) (p : List ℕ) (left all : List (List ℕ)) → takes (length held) p ≡ false → Enters held (p ∷ left) all → Enters held left all
unfolding entered_from
enters_passes held p left all is h = rw is at h

pub enters_end : (held all : List (List ℕ)) → Enters held [] all → held ≡ entered all
unfolding entered_from
enters_end held all h = sym (append-nil held) ∙ h

-- of records, wherever they lie
pub left_is : (records : List (Vec ℕ Global)) (i : ℕ) (r : Vec ℕ Global) → i < length records → r ≡ get_or records i r → lists_of (drop i records) ≡ r.items ∷ lists_of (drop (i + 1) records)
left_is records i r lt is = ap lists_of (drop_more records i r lt ∙ ap (λ (q : Vec ℕ Global). q ∷ drop (i + 1) records) (sym is))

pub none_left : (records : List (Vec ℕ Global)) (i : ℕ) → length records ≤ i → lists_of (drop i records) ≡ []
none_left records i le = ap lists_of (drop_of_length-le records le)
