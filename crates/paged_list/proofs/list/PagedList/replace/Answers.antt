use Rattle.std.proofs.Common.{length, ap, ◌∙◌, arith}
use Rattle.paged_list.proofs.PageLaws.{page_within, place_within, made_anew, stood, anew_list, anew_pages, anew_back, anew_place}
use Rattle.paged_list.proofs.list.PagedList.replace.Goals as goal

pub index-requires : goal.index-requires
index-requires g c =
    let within = page_within c.self.inside.pages.items c.args.place c.self.invariant (rw c.self.view_is c.requires) in
    let len = c.self.inside.pages.ok.0 in
    omega (arith, within, len)

pub index_mut-requires : goal.index_mut-requires
index_mut-requires g c =
    let within = place_within c.self.inside.pages.items c.args.place c.index.result.now c.self.invariant (rw c.self.view_is c.requires) in
    let len = c.in_ok-page.page.ok.0 in
    let same = ap length (c.in_ok-page.ensures ∙ c.as_slice.ensures ∙ c.index.ensures) in
    omega (arith, within, len, same)

pub index_mut-requires-2 : goal.index_mut-requires-2
index_mut-requires-2 g c =
    let within = page_within c.self.inside.pages.items c.args.place c.self.invariant (rw c.self.view_is c.requires) in
    let len = c.self.inside.pages.ok.0 in
    omega (arith, within, len)

pub invariant_of-self : goal.invariant_of-self
invariant_of-self g c =
    let pages = c.self.inside.pages.items in
    let anew = made_anew pages c.args.self.now c.args.place c.args.item c.index.result.now c.in_ok-page.page.items c.in_ok-page-2.page c.replace-items.new.dest
    c.self.invariant c.self.view_is c.requires c.index.ensures (c.in_ok-page.ensures ∙ c.as_slice.ensures) c.in_ok-page-2.ensures c.replace-items.ensures.after in
    anew_pages pages c.args.place c.args.item c.replace-items.new.dest c.self.invariant anew

pub returns-clause-ok : goal.returns-clause-ok
returns-clause-ok g c =
    let pages = c.self.inside.pages.items in
    let anew = made_anew pages c.args.self.now c.args.place c.args.item c.index.result.now c.in_ok-page.page.items c.in_ok-page-2.page c.replace-items.new.dest
    c.self.invariant c.self.view_is c.requires c.index.ensures (c.in_ok-page.ensures ∙ c.as_slice.ensures) c.in_ok-page-2.ensures c.replace-items.ensures.after in
    anew_list pages c.args.self.now c.args.place c.args.item c.replace-items.new.dest c.self.invariant c.self.view_is c.requires anew

pub returns-clause-back : goal.returns-clause-back
returns-clause-back g c =
    let pages = c.self.inside.pages.items in
    let anew = made_anew pages c.args.self.now c.args.place c.args.item c.index.result.now c.in_ok-page.page.items c.in_ok-page-2.page c.replace-items.new.dest
    c.self.invariant c.self.view_is c.requires c.index.ensures (c.in_ok-page.ensures ∙ c.as_slice.ensures) c.in_ok-page-2.ensures c.replace-items.ensures.after in
    let had = stood pages c.args.self.now c.args.place c.replace-items.result c.index_mut-2.result.now c.self.invariant c.self.view_is c.requires c.replace-items.ensures.value c.index_mut-2.ensures.value in
    anew_back pages c.args.self.now c.args.place c.args.item c.replace-items.new.dest c.replace-items.result c.self.invariant c.self.view_is c.requires anew had

pub returns-clause-place : goal.returns-clause-place
returns-clause-place g c =
    let pages = c.self.inside.pages.items in
    let anew = made_anew pages c.args.self.now c.args.place c.args.item c.index.result.now c.in_ok-page.page.items c.in_ok-page-2.page c.replace-items.new.dest
    c.self.invariant c.self.view_is c.requires c.index.ensures (c.in_ok-page.ensures ∙ c.as_slice.ensures) c.in_ok-page-2.ensures c.replace-items.ensures.after in
    let had = stood pages c.args.self.now c.args.place c.replace-items.result c.index_mut-2.result.now c.self.invariant c.self.view_is c.requires c.replace-items.ensures.value c.index_mut-2.ensures.value in
    anew_place pages c.args.self.now c.args.place c.args.item c.replace-items.new.dest c.replace-items.result c.self.invariant c.self.view_is c.requires anew had
