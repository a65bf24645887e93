use Rattle.std.specs.Option.{option_map}
use Rattle.desk_words.specs.Asked.{asking}
use Rattle.desk_words.specs.Read.{kept_of}
use Rattle.desk_words.proofs.WordLaws.{command_stops, command_goes, no_command}
use Rattle.desk_words.proofs.words.command.Goals as goal

pub returns-in-None : goal.returns-in-None
returns-in-None c = no_command _ c.in-None.ensures

pub returns-in-None-read_words : goal.returns-in-None-read_words
returns-in-None-read_words c = command_stops (kept_of c.nothing.result) c.in-Some.word.now _ _ c.in-Some.ensures c.nothing.ensures c.in-None-read_words.ensures

pub returns-in-Some-read_words : goal.returns-in-Some-read_words
returns-in-Some-read_words c =
    command_goes (kept_of c.nothing.result) c.in-Some.word.now _ _ (kept_of c.in-Some-read_words.read) (option_map asking c.asked.result)
    c.in-Some.ensures c.nothing.ensures c.in-Some-read_words.ensures c.asked.ensures
