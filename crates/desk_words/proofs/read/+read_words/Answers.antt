use Rattle.std.proofs.Common.{ap, sym, ◌∙◌}
use Rattle.std.specs.Option.{option_map}
use Rattle.desk_words.specs.Read.{kept_of, kept_after, arguments_by}
use Rattle.desk_words.proofs.WordLaws.{read_stops, read_goes}
use Rattle.desk_words.proofs.read.+read_words.Goals as goal

pub returns-in-None : goal.returns-in-None
returns-in-None t c = c.at_end.ensures ∙ ap (λ l. kept_after (kept_of c.args.read) (arguments_by c.args.expected l)) (sym c.in-None.ensures)

pub returns-in-None-read_word : goal.returns-in-None-read_word
returns-in-None-read_word t c = read_stops c.args.expected (kept_of c.args.read) c.in-Some.word.now _ _ c.in-Some.ensures c.in-None-read_word.ensures

pub returns-in-Some-read_word : goal.returns-in-Some-read_word
returns-in-Some-read_word t c =
    read_goes c.args.expected (kept_of c.args.read) c.in-Some.word.now _ _ (c.in-Some-read_word.next, kept_of c.in-Some-read_word.more) (option_map kept_of c.read_words.result)
    c.in-Some.ensures c.in-Some-read_word.ensures c.read_words.ensures
