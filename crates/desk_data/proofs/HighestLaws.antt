-- The highest haul and the highest cabin of a path, one leg at a time.
use Rattle.std.proofs.Common.{◌≡◌, ℕ, ◌+◌, ◌<◌, ◌≤◌, List, length, get_or, drop, refl, sym, ap, ◌∙◌}
use Rattle.std.proofs.lemmas.List.{drop_more, drop_all}
use Rattle.desk_units.specs.declared.numbers.Leg.{Leg}
use Rattle.desk_units.specs.declared.numbers.Cabin.{Cabin}
use Rattle.desk_units.specs.declared.numbers.Cabin.TheVariants as cabin
use Rattle.desk_units.specs.declared.numbers.Haul.{Haul}
use Rattle.desk_units.specs.declared.numbers.Haul.TheVariants as haul
use Rattle.desk_data.specs.Situation.{Situation, leg_at}
use Rattle.desk_data.specs.Booked.{higher_haul, highest_haul, higher_cabin, highest_cabin}

-- ---- hauls

pub domestic_higher : (h : Haul) → higher_haul haul.D h ≡ h
domestic_higher haul.D = refl
domestic_higher haul.C = refl
domestic_higher haul.I = refl

higher_domestic : (h : Haul) → higher_haul h haul.D ≡ h
higher_domestic haul.D = refl
higher_domestic haul.C = refl
higher_domestic haul.I = refl

haul_assoc : (a b c : Haul) → higher_haul (higher_haul a b) c ≡ higher_haul a (higher_haul b c)
haul_assoc haul.D b c = ap (λ h. higher_haul h c) (domestic_higher b) ∙ sym (domestic_higher (higher_haul b c))
haul_assoc haul.C haul.D c = ap (higher_haul haul.C) (sym (domestic_higher c))
haul_assoc haul.C haul.C haul.D = refl
haul_assoc haul.C haul.C haul.C = refl
haul_assoc haul.C haul.C haul.I = refl
haul_assoc haul.C haul.I haul.D = refl
haul_assoc haul.C haul.I haul.C = refl
haul_assoc haul.C haul.I haul.I = refl
haul_assoc haul.I haul.D c = ap (higher_haul haul.I) (sym (domestic_higher c))
haul_assoc haul.I haul.C haul.D = refl
haul_assoc haul.I haul.C haul.C = refl
haul_assoc haul.I haul.C haul.I = refl
haul_assoc haul.I haul.I haul.D = refl
haul_assoc haul.I haul.I haul.C = refl
haul_assoc haul.I haul.I haul.I = refl

-- one more leg, and all legs
pub haul_more : (I : Situation) (path : List (Leg × Cabin)) (i : ℕ) (other : Leg × Cabin) (h : Haul) → i < length path → higher_haul (higher_haul h (leg_at I (get_or path i other).0.0).haul) (highest_haul I (drop (i + 1) path)) ≡ higher_haul h (highest_haul I (drop i path))
unfolding highest_haul
haul_more I path i other h lt =
    haul_assoc h (leg_at I (get_or path i other).0.0).haul (highest_haul I (drop (i + 1) path))
    ∙ ap (λ (rest : List (Leg × Cabin)). higher_haul h (highest_haul I rest)) (sym (drop_more path i other lt))

pub haul_all : (I : Situation) (path : List (Leg × Cabin)) (i : ℕ) (h : Haul) → length path ≤ i → higher_haul h (highest_haul I (drop i path)) ≡ h
unfolding highest_haul
haul_all I path i h all =
    ap (λ (rest : List (Leg × Cabin)). higher_haul h (highest_haul I rest)) (drop_all i path all) ∙ higher_domestic h

-- ---- cabins

pub economy_higher : (c : Cabin) → higher_cabin cabin.E c ≡ c
economy_higher cabin.F = refl
economy_higher cabin.B = refl
economy_higher cabin.E = refl

higher_economy : (c : Cabin) → higher_cabin c cabin.E ≡ c
higher_economy cabin.F = refl
higher_economy cabin.B = refl
higher_economy cabin.E = refl

cabin_assoc : (a b c : Cabin) → higher_cabin (higher_cabin a b) c ≡ higher_cabin a (higher_cabin b c)
cabin_assoc cabin.E b c = ap (λ h. higher_cabin h c) (economy_higher b) ∙ sym (economy_higher (higher_cabin b c))
cabin_assoc cabin.B cabin.E c = ap (higher_cabin cabin.B) (sym (economy_higher c))
cabin_assoc cabin.B cabin.B cabin.E = refl
cabin_assoc cabin.B cabin.B cabin.B = refl
cabin_assoc cabin.B cabin.B cabin.F = refl
cabin_assoc cabin.B cabin.F cabin.E = refl
cabin_assoc cabin.B cabin.F cabin.B = refl
cabin_assoc cabin.B cabin.F cabin.F = refl
cabin_assoc cabin.F cabin.E c = ap (higher_cabin cabin.F) (sym (economy_higher c))
cabin_assoc cabin.F cabin.B cabin.E = refl
cabin_assoc cabin.F cabin.B cabin.B = refl
cabin_assoc cabin.F cabin.B cabin.F = refl
cabin_assoc cabin.F cabin.F cabin.E = refl
cabin_assoc cabin.F cabin.F cabin.B = refl
cabin_assoc cabin.F cabin.F cabin.F = refl

-- one more leg, and all legs
pub cabin_more : (path : List (Leg × Cabin)) (i : ℕ) (other : Leg × Cabin) (c : Cabin) → i < length path → higher_cabin (higher_cabin c (get_or path i other).1) (highest_cabin (drop (i + 1) path)) ≡ higher_cabin c (highest_cabin (drop i path))
unfolding highest_cabin
cabin_more path i other c lt =
    cabin_assoc c (get_or path i other).1 (highest_cabin (drop (i + 1) path))
    ∙ ap (λ (rest : List (Leg × Cabin)). higher_cabin c (highest_cabin rest)) (sym (drop_more path i other lt))

pub cabin_all : (path : List (Leg × Cabin)) (i : ℕ) (c : Cabin) → length path ≤ i → higher_cabin c (highest_cabin (drop i path)) ≡ c
unfolding highest_cabin
cabin_all path i c all =
    ap (λ (rest : List (Leg × Cabin)). higher_cabin c (highest_cabin rest)) (drop_all i path all) ∙ higher_economy c
