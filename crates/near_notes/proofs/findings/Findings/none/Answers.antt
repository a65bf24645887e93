use Rattle.std.proofs.Common.{ap, ◌∙◌, ℕ, List, replicate}
use Rattle.near_notes.specs.Rows.{number_at}
use Rattle.near_notes.proofs.NotesLaws.{none-at}
use Rattle.near_notes.proofs.findings.Findings.none.Goals as goal

pub returns : goal.returns
returns c = record {
  planes = c.in_ok-planes.ensures ∙ ap (λ (n : ℕ). replicate n 0) c.planes.ensures.count;
  flown = c.in_ok-flown.ensures ∙ ap (λ (n : ℕ). replicate n 0) c.planes-2.ensures.count;
  again = c.in_ok-again.ensures ∙ ap (λ (n : ℕ). replicate n 0) c.legs.ensures.count;
  found = λ row column. ap (λ (f : List (List ℕ)). number_at f row column) c.in_ok-found.ensures ∙ none-at _ row column;
}
