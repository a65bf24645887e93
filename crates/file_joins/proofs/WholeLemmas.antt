-- Whether groups are whole, as vectors and as lists.
use Rattle.std.proofs.Common.{◌≡◌, ◌&&◌, Bool, List, [], ◌∷◌, map, refl, ap}
use Rattle.std.specs.declared.alloc.Global.{Global}
use Rattle.std.specs.declared.vec.Vec.{Vec}
use Rattle.std.specs.List.{list_all, zip}
use Rattle.desk_data.specs.declared.info.ResInfo.{ResInfo}
use Rattle.desk_data.specs.declared.row.Group.{Group}
use Rattle.file_joins.specs.Groups.{is_whole}

-- a test of vectors is the test of their lists
pub whole_lists : (reservations : List ResInfo) (groups : List (Vec Group Global)) → list_all (λ (pair : ResInfo × Vec Group Global). is_whole (pair.0, pair.1.items)) (zip reservations groups) ≡ list_all is_whole (zip reservations (map (λ of. of.items) groups))
whole_lists [] groups = refl
whole_lists (r ∷ rs) [] = refl
whole_lists (r ∷ rs) (g ∷ gs) = ap (λ (rest : Bool). is_whole (r, g.items) && rest) (whole_lists rs gs)
