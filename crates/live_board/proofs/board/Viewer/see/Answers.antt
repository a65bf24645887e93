use Rattle.std.proofs.Common.{◌≡◌, ◌⊎◌, ⊎_elim, inl, inr}
use Rattle.left_right.specs.Sides.{view}
use Rattle.live_board.specs.Words.{seen_by, stands_for}
use Rattle.live_board.proofs.Tellings.{some_at}
use Rattle.live_board.proofs.board.Viewer.see.Goals as goal

-- what is kept then is what was kept, or what the reader found
pub returns-clause-one : goal.returns-clause-one
returns-clause-one g c =
    let later = c.in-Some-later.later in
    let reader = c.enter-reader.result.0 in
    let old = seen_by c.args.self.now in
    ⊎_elim
    (λ (stays : stands_for later ≡ old). inl stays)
    (λ (found : stands_for later ≡ view reader.place). inr (reader, c.replace.ensures.after, found))
    (some_at c.enter-reader.result.1 later (λ s. (stands_for s ≡ old) ⊎ (stands_for s ≡ view reader.place)) c.enter-reader.ensures.one c.in-Some-later.is)
