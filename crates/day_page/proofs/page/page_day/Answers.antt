use Rattle.std.proofs.Common.{◌≡◌, ap, ◌∙◌}
use Rattle.std.specs.Prelude.{Ok}
use Rattle.desk_tasks.specs.Facts.{as_judged, as_task}
use Rattle.desk_tasks.specs.Tasks.{Task}
use Rattle.day_page.proofs.RunLaws.{check_judges, verdict_shows}
use Rattle.day_page.proofs.page.page_day.Goals as goal

pub returns-in_default-clause-shows : goal.returns-in_default-clause-shows
returns-in_default-clause-shows g c = λ x tells.
    let found = check_judges x (as_task c.in-Ok.task) (c.in-Ok.ensures.exact x tells) in
    absurd (c.in_default.ensures.other found.0 found.1)

pub returns-clause-shows : goal.returns-clause-shows
returns-clause-shows g c = λ x tells.
    verdict_shows x (as_judged c.in-Some.judged) c.put_page.result
    (c.in-Ok.ensures.exact x tells ∙ ap (λ (t : Task). Ok t) c.in-Some.ensures.judged)
    c.put_page.ensures.verdict
