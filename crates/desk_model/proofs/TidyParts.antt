-- Tidy, one reservation at a time.
use Rattle.std.proofs.Common.{◌≡◌, ℕ, ◌+◌, ◌<◌, ◌&&◌, not, List, [], ◌∷◌, ◌++◌, length, get_or, set, drop, refl, sym, ap, ◌∙◌, add-one, arith}
use Rattle.std.specs.Prelude.{filter, map}
use Rattle.std.proofs.lemmas.List.{append-nil, append_assoc, length-map, get_or_at, set_at, drop_all, drop_more, map-append}
use Rattle.desk_data.specs.declared.row.Group.{Group}
use Rattle.desk_data.specs.Situation.{Situation, reservations_of, bound}
use Rattle.desk_data.specs.PlanRows.{PlanRows, groups_at, with_groups}
use Rattle.desk_data.specs.Paths.{is_carried}
use Rattle.desk_rules.specs.Numbers.{numbers}
use Rattle.desk_rules.specs.Passengers.{all_flown, connects}
use Rattle.desk_rules.specs.Carriage.{is_good_path, is_in_time_path}
use Rattle.desk_rules.proofs.HourLaws.{length-numbers}
use Rattle.desk_model.specs.Rebook.{passengers_on, group_of}
use Rattle.desk_model.specs.Tidy.{is_fit_path, groups_after_tidy, after_tidy}

abbrev by_groups : PlanRows → List (List Group) → PlanRows
by_groups P groups = record P { groups = groups }

-- other groups of other reservations leave what becomes of a reservation, whose own are the same
tidy-beside : (I : Situation) (P : PlanRows) (all : List (List Group)) (r : ℕ) → get_or all r [] ≡ groups_at P r → groups_after_tidy I (by_groups P all) r ≡ groups_after_tidy I P r
unfolding groups_after_tidy is_fit_path is_good_path is_in_time_path all_flown connects
tidy-beside I P all r same =
    ap (λ (groups : List Group). group_of (passengers_on (λ path. not (is_carried path && (is_good_path I P r path && is_in_time_path I P r path && bound I r groups path))) groups) [] ++ filter (λ group. is_carried group.path && (is_good_path I P r group.path && is_in_time_path I P r group.path && bound I r groups group.path)) groups) same

-- the plan in which the first n reservations are tidy
unfoldable pub tidied_to : Situation → ℕ → PlanRows → PlanRows
tidied_to I n P = by_groups P (map (groups_after_tidy I P) (numbers n) ++ drop n P.groups)

length-front : (I : Situation) (P : PlanRows) (n : ℕ) → length (map (groups_after_tidy I P) (numbers n)) ≡ n
length-front I P n = length-map (numbers n) (groups_after_tidy I P) ∙ length-numbers n

pub tidied_to-none : (I : Situation) (P : PlanRows) → tidied_to I 0 P ≡ P
unfolding tidied_to
tidied_to-none I P = refl

tidied_to-at : (I : Situation) (P : PlanRows) (n : ℕ) → n < length P.groups → (tidied_to I n P).groups ≡ map (groups_after_tidy I P) (numbers n) ++ groups_at P n ∷ drop (n + 1) P.groups
unfolding tidied_to
tidied_to-at I P n within = ap (λ (rest : List (List Group)). map (groups_after_tidy I P) (numbers n) ++ rest) (drop_more P.groups n [] within)

pub tidied_to-next : (I : Situation) (P : PlanRows) (n : ℕ) → n < length P.groups → groups_at (tidied_to I n P) n ≡ groups_at P n
tidied_to-next I P n within =
    ap (λ (all : List (List Group)). get_or all n []) (tidied_to-at I P n within)
    ∙ get_or_at (map (groups_after_tidy I P) (numbers n)) (groups_at P n) (drop (n + 1) P.groups) [] n (length-front I P n)

-- the groups that a reservation gets are those of the plan at the start
pub tidied_to-judges : (I : Situation) (P : PlanRows) (n : ℕ) → n < length P.groups → groups_after_tidy I (tidied_to I n P) n ≡ groups_after_tidy I P n
unfolding tidied_to
tidied_to-judges I P n within = tidy-beside I P (map (groups_after_tidy I P) (numbers n) ++ drop n P.groups) n (tidied_to-next I P n within)

tidied_front : (I : Situation) (P : PlanRows) (n : ℕ) → map (groups_after_tidy I P) (numbers (n + 1)) ≡ map (groups_after_tidy I P) (numbers n) ++ groups_after_tidy I P n ∷ []
tidied_front I P n = rw add-one (map-append (groups_after_tidy I P) (numbers n) (n ∷ []))

pub tidied_to-more : (I : Situation) (P : PlanRows) (n : ℕ) → n < length P.groups → with_groups (tidied_to I n P) n (groups_after_tidy I (tidied_to I n P) n) ≡ tidied_to I (n + 1) P
unfolding tidied_to
tidied_to-more I P n within =
    let front = map (groups_after_tidy I P) (numbers n) in
    let made = groups_after_tidy I P n in
    let rest = drop (n + 1) P.groups in
    ap (λ (groups : List Group). with_groups (tidied_to I n P) n groups) (tidied_to-judges I P n within)
    ∙ ap (by_groups P)
    (ap (λ (all : List (List Group)). set all n made) (tidied_to-at I P n within)
    ∙ set_at front (groups_at P n) rest made n (length-front I P n)
    ∙ sym (append_assoc front (made ∷ []) rest)
    ∙ sym (ap (λ (all : List (List Group)). all ++ rest) (tidied_front I P n)))

pub tidied_to-all : (I : Situation) (P : PlanRows) (n : ℕ) → n ≡ reservations_of I → n ≡ length P.groups → tidied_to I n P ≡ after_tidy I P
unfolding tidied_to after_tidy
tidied_to-all I P n is all =
    ap (by_groups P)
    (rw (drop_all n P.groups (omega (arith, all))) (append-nil (map (groups_after_tidy I P) (numbers n)))
    ∙ ap (λ (k : ℕ). map (groups_after_tidy I P) (numbers k)) is)
