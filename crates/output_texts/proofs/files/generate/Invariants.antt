use Rattle.std.proofs.Common.{◌≡◌, map, take}
use Rattle.desk_folder.specs.Entries.{named_texts}
use Rattle.desk_folder.specs.Files.{day_files}
use Rattle.output_texts.specs.Generated.{text_of}
use Rattle.output_texts.proofs.files.generate.Given as goal

abbrev pub invariant-loop-file : goal.invariant-loop-file
invariant-loop-file l = named_texts l.texts.items ≡ map (λ name. (name, text_of l.seed l.size name)) (take l.file-index day_files)
