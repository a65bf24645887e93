-- Making the input files of a day.
use Rattle.std.specs.Prelude.{ℕ, ◌++◌, length, codes, decimal}
use Rattle.desk_folder.specs.Files.{day_files}
use Rattle.output_texts.specs.Generated.{generated}
use Rattle.desk_tasks.specs.Outcome.{line, Outcome}

-- the generated files, and how many they are: 13
unfoldable pub generation : ℕ → ℕ → Outcome
generation seed size = record {
  status = 0;
  texts = record {
    files = generated seed size;
    report = line (codes "written " ++ decimal (length day_files));
  };
}
