-- What a table keeps of the rows of dist.csv.
use Rattle.std.specs.Prelude.{◌≡◌, ℕ, ◌+◌, ◌*◌, Bool, ◌&&◌, List, length, min, position, Option, Some, None, nat_lt, slice_index_or, slice_set, if◌then◌else◌}
use Rattle.file_rows.specs.declared.network.AirportRow.{AirportRow}
use Rattle.file_rows.specs.declared.network.DistRow.{DistRow}
use Rattle.build_tables.specs.declared.pairs.PairPlaces.{PairPlaces}
use Rattle.build_tables.specs.Keys.{between}
use Rattle.build_tables.specs.Found.{place_in}
use Rattle.build_tables.specs.Names.{airport_place, is_between}

-- the number of a pair of airports by the places of the two, and where both have places that are below 500
abbrev pub pair_place : ℕ → ℕ → ℕ
pair_place origin dest = 500 * origin + dest

abbrev pub pair_at : Option ℕ → Option ℕ → Option ℕ
pair_at None dest = None
pair_at (Some origin) None = None
pair_at (Some origin) (Some dest) = if nat_lt origin 500 && nat_lt dest 500 then Some (pair_place origin dest) else None

-- the number of a pair by the two names
abbrev pub pair_of : List AirportRow → List ℕ → List ℕ → Option ℕ
pair_of airports origin dest = pair_at (airport_place airports origin) (airport_place airports dest)

-- a place more, of a pair that has a number
abbrev pub numbered_with : List (Option ℕ) → Option ℕ → ℕ → List (Option ℕ)
numbered_with pairs None place = pairs
numbered_with pairs (Some k) place = slice_set pairs k (Some place)

-- and of one that has none, where it is the pair that is asked
abbrev pub named_with : Option ℕ → Option ℕ → Bool → ℕ → Option ℕ
named_with old None is_asked place = if is_asked then Some place else old
named_with old (Some k) is_asked place = old

-- the place that is kept for two names: under the number of their pair, and where it has none under the names
abbrev pub place_by : List (Option ℕ) → Option ℕ → Option ℕ → Option ℕ
place_by pairs None named = named
place_by pairs (Some k) named = slice_index_or pairs k None

abbrev pub place_between : List AirportRow → PairPlaces → List ℕ → List ℕ → Option ℕ
place_between airports p origin dest = place_by p.pairs.items (pair_of airports origin dest) (place_in p.others (between origin dest))

-- these are the places of these rows by their two airports
pub record ArePairPlaces (airports : List AirportRow) (dist : List DistRow) (p : PairPlaces) : Type 0 where
  pub long : length p.pairs.items ≡ 500 * min (length airports) 500
  pub places : (origin dest : List ℕ) → place_between airports p origin dest ≡ position (is_between origin dest) dist
