-- What a folder's content says of a file or a folder: what stands there, or the refusal.
use Rattle.std.specs.Prelude.{ℕ, List, Option, None, Result, Ok, Err, ok_or, if◌then◌else◌}
use Rattle.std.specs.Str.{is_utf8}
use Rattle.serde_json.specs.Data.{Data}
use Rattle.serde_json.specs.Read.{read}
use Rattle.json_view.specs.Paths.{root_path}
use Rattle.json_view.specs.Seen.{Seen, seen}
use Rattle.json_view.specs.Steps.{◌>>=◌}
use Rattle.emu_io.specs.declared.folder.FolderFault.{FolderFault}
use Rattle.emu_io.specs.declared.folder.FolderFault.TheVariants as folder_faults
use Rattle.store_texts.specs.declared.faults.FileFault.{FileFault}
use Rattle.store_texts.specs.declared.faults.FileFault.TheVariants as file_faults
use Rattle.store_texts.specs.declared.faults.Refused.{Refused}
use Rattle.store_texts.specs.declared.faults.Refused.TheVariants as refusals

-- what a file or a folder gives, or its fault together with its path
abbrev pub at_path : {A E : Type 0} → List ℕ → (E → FileFault) → Result A E → Result A Refused
at_path path kind (Ok x) = Ok x
at_path path kind (Err fault) = Err (refusals.File path (kind fault))

-- the fault of a file or a folder that is not there or is too large; content alone gives no other one
abbrev pub missed : FolderFault → FileFault
missed folder_faults.Absent = file_faults.Absent
missed folder_faults.TooLarge = file_faults.TooLarge
missed folder_faults.Failed = file_faults.Absent
missed folder_faults.Memory = file_faults.Absent

-- the JSON value that the bytes of a file are
unfoldable pub json_of : List ℕ → Option Data
json_of bytes = if is_utf8 bytes then read bytes else None

-- the whole of that value, or the refusal of the file of this path
abbrev pub json_in : List ℕ → List ℕ → Result Seen Refused
json_in path bytes =
    ok_or (json_of bytes) (refusals.File path file_faults.NotJson) >>= λ value. Ok (seen value root_path)
