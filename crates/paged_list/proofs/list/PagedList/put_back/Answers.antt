use Rattle.std.proofs.Common.{arith}
use Rattle.paged_list.proofs.PageLaws.{number_within, back_pages, back_list}
use Rattle.paged_list.proofs.list.PagedList.put_back.Goals as goal

pub index_mut-requires : goal.index_mut-requires
index_mut-requires g c =
    let within = number_within c.self.inside.pages.items c.args.self.now (record { number = c.page.inside.number; items = c.page.inside.items }) c.args.page c.self.invariant c.self.view_is c.page.view_is c.requires in
    let len = c.self.inside.pages.ok.0 in
    omega (arith, within, len)

pub invariant_of-self : goal.invariant_of-self
invariant_of-self g c =
    back_pages c.self.inside.pages.items c.args.self.now (record { number = c.page.inside.number; items = c.page.inside.items }) c.args.page c.self.invariant c.self.view_is c.page.view_is c.requires

pub returns : goal.returns
returns g c =
    back_list c.self.inside.pages.items c.args.self.now (record { number = c.page.inside.number; items = c.page.inside.items }) c.args.page c.self.invariant c.self.view_is c.page.view_is c.requires
