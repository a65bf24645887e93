use Rattle.std.proofs.Common.{arith}
use Rattle.paged_list.proofs.PageLaws.{page_within, place_within, item_read}
use Rattle.paged_list.proofs.list.PagedList.at.Goals as goal

pub index-page-requires : goal.index-page-requires
index-page-requires g c =
    let within = page_within c.self.inside.pages.items c.args.place c.self.invariant (rw c.self.view_is c.requires) in
    let len = c.self.inside.pages.ok.0 in
    omega (arith, within, len)

pub bounds-as_slice-place : goal.bounds-as_slice-place
bounds-as_slice-place g c =
    rw (c.as_slice.ensures, c.index-page.ensures)
    (place_within c.self.inside.pages.items c.args.place c.index-page.result.now c.self.invariant (rw c.self.view_is c.requires))

pub offset_bounds-as_slice-place : goal.offset_bounds-as_slice-place
offset_bounds-as_slice-place g c = (let within = bounds-as_slice-place g c in omega (arith, within))

pub returns : goal.returns
returns g c d =
    item_read c.self.inside.pages.items c.args.self.now c.args.place c.as_slice.result.now c.index-as_slice-place.result d
    c.self.invariant c.self.view_is c.requires (rw c.as_slice.ensures c.index-page.ensures) c.index-as_slice-place.is
