use Rattle.std.proofs.Common.{◌≡◌, not, None, ap, sym, ◌∙◌}
use Rattle.std.specs.Map.{lookup}
use Rattle.std.proofs.lemmas.Bool.{and_parts}
use Rattle.build_tables.specs.Keys.{is_key}
use Rattle.build_tables.specs.Found.{key_of_borrowed}
use Rattle.build_tables.proofs.PlaceLemmas.{lookup_borrowed, lookup_inserted, none_is}
use Rattle.build_tables.proofs.places.RowPlaces.put.Goals as goal

pub returns-clause-kept : goal.returns-clause-kept
returns-clause-kept c = λ k.
    ap (lookup (λ x. is_key k (key_of_borrowed x))) c.in_ok-later.ensures.entries
    ∙ lookup_inserted k c.args.self.now.places.entries c.args.key c.args.place

pub returns-clause-apart : goal.returns-clause-apart
returns-clause-apart c = λ holds. (and_parts c.args.self.now.apart c.is_none.result holds).0

pub returns-clause-new : goal.returns-clause-new
returns-clause-new c = λ holds.
    let fresh = (and_parts c.args.self.now.apart c.is_none.result holds).1 in
    let none : c.in_ok-later.later ≡ None = none_is c.in_ok-later.later (c.is_none.ensures ∙ ap not fresh) in
    sym (lookup_borrowed c.args.key c.args.self.now.places.entries)
    ∙ sym c.in_ok-later.ensures.old
    ∙ none
