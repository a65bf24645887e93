-- Copies of the lists of a summary, of which no edit can be taken back.
use Rattle.std.proofs.Common.{◌≡◌, ℕ, zero, suc, ◌≤◌, Bool, List, [], ◌∷◌, length, get_or, refl, sym, ap, subst, ◌∙◌, arith}
use Rattle.std.specs.Prelude.{map}
use Rattle.std.proofs.Math.Path.{fun_ext}
use Rattle.std.proofs.lemmas.List.{length-map}
use Rattle.std.proofs.lemmas.List.Elements.{All-nil}
use Rattle.desk_data.specs.declared.broken.Broken.{Broken}
use Rattle.kept_set.specs.Kept.{OrderedItems}
use Rattle.plan_reads.specs.declared.rotation_leg.RotationLeg.{RotationLeg}
use Rattle.board_rot.specs.declared.edit.Edit.{Edit}
use Rattle.board_rot.specs.Summaries.{Edited}
use Rattle.board_rot.specs.Kept.{has_rotation_leg, has_item, RotationLegs, no_rotation_legs, rotation_legs_of, without_edits, Lists, seen, HasPlace, IsLogged}

-- an aircraft flies what it flew
copied_legs : (rotations : List RotationLegs) (p : ℕ) → rotation_legs_of (map without_edits rotations) p ≡ rotation_legs_of rotations p
copied_legs [] p = refl
copied_legs (legs ∷ rest) zero = refl
copied_legs (legs ∷ rest) (suc p) = copied_legs rest p

-- and has no edits
copied_edits : (rotations : List RotationLegs) (p : ℕ) → (get_or (map without_edits rotations) p no_rotation_legs).edits ≡ 0
copied_edits [] p = refl
copied_edits (legs ∷ rest) zero = refl
copied_edits (legs ∷ rest) (suc p) = copied_edits rest p

pub copied_logged : (rotations copies : List RotationLegs) (broken : OrderedItems Broken) (edits : List Edit) → copies ≡ map without_edits rotations → length broken.items ≤ broken.room → edits ≡ [] → IsLogged copies broken edits
copied_logged rotations copies broken edits same fits none =
    subst (IsLogged copies broken) (sym none) (record {
      each = λ p lt. ap (λ (all : List RotationLegs). (get_or all p no_rotation_legs).edits) same ∙ copied_edits rotations p;
      places = All-nil (HasPlace (length copies));
      room = omega (arith, fits);
    })

-- a summary by its two tests, for so many aircraft, with no edit to take back
abbrev by_tests : (ℕ → RotationLeg → Bool) → (Broken → Bool) → ℕ → Edited
by_tests flies broken planes = record { summary = record { rotation_legs = flies; broken = broken }; planes = planes; edits = [] }

abbrev flown_on : List RotationLegs → ℕ → RotationLeg → Bool
flown_on rotations p = has_rotation_leg (rotation_legs_of rotations p)

abbrev lists_by : List RotationLegs → List Broken → List Edit → Lists
lists_by rotations broken edits = record { rotations = rotations; broken = broken; edits = edits }

pub copied_seen : (lists : Lists) (copies : List RotationLegs) (broken : List Broken) (edits : List Edit) → copies ≡ map without_edits lists.rotations → broken ≡ lists.broken → edits ≡ [] → seen (lists_by copies broken edits) ≡ record (seen lists) { edits = [] }
copied_seen lists copies broken edits same items none =
    ap (λ (es : List Edit). seen (lists_by copies broken es)) none
    ∙ ap (λ (xs : List Broken). by_tests (flown_on copies) (has_item xs) (length copies)) items
    ∙ ap (λ (all : List RotationLegs). by_tests (flown_on all) (has_item lists.broken) (length all)) same
    ∙ ap (λ (flies : ℕ → RotationLeg → Bool). by_tests flies (has_item lists.broken) (length (map without_edits lists.rotations))) (fun_ext (λ p. ap has_rotation_leg (copied_legs lists.rotations p)))
    ∙ ap (by_tests (flown_on lists.rotations) (has_item lists.broken)) (length-map lists.rotations without_edits)
