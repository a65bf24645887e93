-- What a folder in memory shows of itself.
use Rattle.std.specs.Prelude.{◌≡◌, ℕ, ◌+◌, ◌-◌, ◌^◌, ◌==◌, min, Bool, List, [], Some, drop, length, slice_index}
use Rattle.std.specs.List.{list_any}
use Rattle.desk_folder.specs.Entries.{entry_of, text_at}
use Rattle.desk_folder.specs.Files.{file_number}
use Rattle.desk_folder.specs.Outside.{Directories, Outside}
use Rattle.desk_folder.specs.declared.files.File.{File}

-- whether the next call of `place` fails, how many calls of `next` and `put` were made, the numbers of those that
-- fail, and how many bytes one of them gives or takes at most
pub record CallPlan : Type 0 where
  pub place_fails : Bool
  pub next_calls : ℕ
  pub put_calls : ℕ
  pub fail_next : List ℕ
  pub fail_put : List ℕ
  pub most_bytes : ℕ

-- a folder in memory: the directories last named, its input files, and of each file, by its number, how many bytes
-- are taken, what is written, how many reads there were, and how many reads and writes failed, and how many namings did
pub record MemoryFolder : Type 0 where
  pub directories : Directories
  pub inputs : List (File × List ℕ)
  pub taken : List ℕ
  pub written : List (List ℕ)
  pub turns : List ℕ
  pub place_faults : ℕ
  pub next_faults : List ℕ
  pub put_faults : List ℕ
  pub calls : CallPlan

-- a folder in memory shows all
abbrev pub memory_outside : MemoryFolder → Outside
memory_outside m = record {
  directories = Some m.directories;
  left = λ file. Some (drop (slice_index m.taken (file_number file)) (entry_of file m.inputs));
  written = λ file. Some (text_at m.written (file_number file));
  turns = λ file. slice_index m.turns (file_number file);
  place_faults = m.place_faults;
  next_faults = λ file. slice_index m.next_faults (file_number file);
  put_faults = λ file. slice_index m.put_faults (file_number file);
}

-- the numbers of the next calls, counted from 1
abbrev pub next_call : CallPlan → ℕ
next_call p = min (p.next_calls + 1) (2 ^ 64 - 1)

abbrev pub put_call : CallPlan → ℕ
put_call p = min (p.put_calls + 1) (2 ^ 64 - 1)

-- the next call is one of those that fail
abbrev pub next_fails : CallPlan → Bool
next_fails p = list_any (λ n. n == next_call p) p.fail_next

abbrev pub put_fails : CallPlan → Bool
put_fails p = list_any (λ n. n == put_call p) p.fail_put

-- how many bytes the next call of `next` gives, if it does not fail, where so many fit: those that are left, up to the most
abbrev pub bytes_given : MemoryFolder → File → ℕ → ℕ
bytes_given m file room = min m.calls.most_bytes (min room (length (drop (slice_index m.taken (file_number file)) (entry_of file m.inputs))))

-- nothing is read, nothing is written, no directory is named, no file was read from and no call has failed
pub record IsNew (inputs : List (File × List ℕ)) (now : Outside) : Type 0 where
  pub directories : now.directories ≡ Some (record { input = []; output = [] })
  pub left : (file : File) → now.left file ≡ Some (entry_of file inputs)
  pub written : (file : File) → now.written file ≡ Some []
  pub turns : (file : File) → now.turns file ≡ 0
  pub place_faults : now.place_faults ≡ 0
  pub next_faults : (file : File) → now.next_faults file ≡ 0
  pub put_faults : (file : File) → now.put_faults file ≡ 0
