use Rattle.std.proofs.Common.{sym, ◌∙◌, arith}
use Rattle.desk_text.proofs.FieldLemmas.{field_cut, blank_cut, no_fields, field_uncut}
use Rattle.desk_text.proofs.fields.first_field.Goals as goal

pub returns-then-not-is_empty-clause-exact : goal.returns-then-not-is_empty-clause-exact
returns-then-not-is_empty-clause-exact c = sym c.loop-field.invariant.same ∙ field_cut c.loop-field.rest.now c.in-Some.field.now c.in-Some.after.now c.in-Some.ensures.exact (sym c.is_empty.ensures ∙ c.if-not-is_empty.true)

pub loop-field-preserved : goal.loop-field-preserved
loop-field-preserved c = record {
  same = sym (blank_cut c.loop-field.rest.now c.in-Some.field.now c.in-Some.after.now c.in-Some.ensures.exact (sym c.is_empty.ensures ∙ c.if-not-is_empty.false)) ∙ c.loop-field.invariant.same;
  shorter = omega (arith, c.in-Some.ensures.shorter);
  fit = c.in-Some.ensures.fit;
}

pub returns-then-is_empty-clause-exact : goal.returns-then-is_empty-clause-exact
returns-then-is_empty-clause-exact c = sym c.loop-field.invariant.same ∙ no_fields c.loop-field.rest.now (sym c.is_empty-2.ensures ∙ c.if-is_empty.true)

pub returns-else-is_empty-clause-exact : goal.returns-else-is_empty-clause-exact
returns-else-is_empty-clause-exact c = sym c.loop-field.invariant.same ∙ field_uncut c.loop-field.rest.now c.in_default.ensures.exact (sym c.is_empty-2.ensures ∙ c.if-is_empty.false)
