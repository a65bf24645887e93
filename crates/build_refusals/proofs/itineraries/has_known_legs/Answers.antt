use Rattle.std.proofs.Common.{◌≡◌, List, [], ◌∷◌, ◌&&◌, Bool, map, refl, ap, ◌∙◌}
use Rattle.std.specs.Prelude.{is_some}
use Rattle.std.specs.List.{list_all}
use Rattle.build_tables.specs.Names.{leg_place}
use Rattle.build_refusals.proofs.itineraries.has_known_legs.Goals as goal

all_mapped : {A B : Type 0} (p : B → Bool) (f : A → B) (xs : List A) → list_all p (map f xs) ≡ list_all (λ x. p (f x)) xs
all_mapped p f [] = refl
all_mapped p f (x ∷ xs) = ap (λ rest. p (f x) && rest) (all_mapped p f xs)

pub returns : goal.returns
returns c = c.are_known.ensures ∙ ap (list_all is_some) c.requires ∙ all_mapped is_some (leg_place c.args.tables.now.files.now.rotations) c.args.row.now.legs
