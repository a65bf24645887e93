-- What the code's answer says.
use Rattle.std.specs.Prelude.{option_map}
use Rattle.desk_words.specs.declared.asked.Asked.{Asked}
use Rattle.desk_words.specs.declared.asked.Directories as asked
use Rattle.desk_folder.specs.Outside.{Directories}
use Rattle.desk_words.specs.Commands.{Asking, directories}

-- the bytes of the directories
abbrev pub named : asked.Directories → Directories
named dirs = directories dirs.input.now dirs.output.now

-- the command and the directories that are to be named
abbrev pub asking : Asked → Asking
asking asked = (asked.command, option_map named asked.directories)
