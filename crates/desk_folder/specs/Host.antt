-- What the host's folder and sink show of themselves: the directories, their counts of turns and faults, and no bytes.
use Rattle.std.specs.Prelude.{◌≡◌, ℕ, List, [], Some, None, slice_index}
use Rattle.desk_folder.specs.Files.{file_number}
use Rattle.desk_folder.specs.Outside.{Directories, Outside, SinkSide}
use Rattle.desk_folder.specs.declared.files.File.{File}

-- the directories last named, and of each file, by its number, how many calls of `next` there were, and how many of `next`
-- and of `put` failed
pub record HostSide : Type 0 where
  pub directories : Directories
  pub turns : List ℕ
  pub next : List ℕ
  pub put : List ℕ

-- the directories and the counts are shown, and no bytes; naming directories never fails
abbrev pub host_outside : HostSide → Outside
host_outside h = record {
  directories = Some h.directories;
  left = λ _. None;
  written = λ _. None;
  turns = λ file. slice_index h.turns (file_number file);
  place_faults = 0;
  next_faults = λ file. slice_index h.next (file_number file);
  put_faults = λ file. slice_index h.put (file_number file);
}

-- the count of a sink is shown, and nothing else
abbrev pub faults_alone : ℕ → SinkSide
faults_alone faults = record { written = None; faults = faults }

-- no directory is named, nothing is shown of bytes, no file was read from, and no call has failed
pub record TellsNoBytes (now : Outside) : Type 0 where
  pub directories : now.directories ≡ Some (record { input = []; output = [] })
  pub left : (file : File) → now.left file ≡ None
  pub written : (file : File) → now.written file ≡ None
  pub turns : (file : File) → now.turns file ≡ 0
  pub place_faults : now.place_faults ≡ 0
  pub next_faults : (file : File) → now.next_faults file ≡ 0
  pub put_faults : (file : File) → now.put_faults file ≡ 0
