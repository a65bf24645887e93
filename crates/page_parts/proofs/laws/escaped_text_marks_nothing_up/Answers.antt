use Rattle.page_parts.proofs.TextLaws.{text_of, harmless}
use Rattle.page_parts.proofs.laws.escaped_text_marks_nothing_up.Goals as goal

pub returns-clause-pieces : goal.returns-clause-pieces
returns-clause-pieces c = text_of

pub returns-clause-harmless : goal.returns-clause-harmless
returns-clause-harmless c = harmless
