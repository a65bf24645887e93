use Rattle.std.proofs.Common.{◌≡◌, All, length}
use Rattle.desk_text.specs.Lines.{fields}
use Rattle.desk_journal.specs.Steps.{steps_of}
use Rattle.desk_journal.specs.Facts.{IsNamedStep}
use Rattle.desk_journal.proofs.StepLemmas.{prepended}
use Rattle.desk_journal.proofs.steps.read_steps.Given as goal

-- the steps so far, and after them those of the tokens that are left, are the steps of all
abbrev pub invariant-loop-word : goal.invariant-loop-word
invariant-loop-word g l = record {
  read : prepended l.steps.items (steps_of (g.F.TokenForm.readers l.form) l.tokens) ≡ steps_of (g.F.TokenForm.readers l.form) (fields l.detail);
  facts : All IsNamedStep l.steps.items;
}

abbrev pub decreases-loop-word : goal.decreases-loop-word
decreases-loop-word g l = length l.tokens
