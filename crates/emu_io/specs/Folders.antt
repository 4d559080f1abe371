-- What stands in a folder: files and folders by their paths, whose parts are joined by `/`, which is the byte 47.
use Rattle.std.specs.Prelude.{◌≡◌, ℕ, ◌≤◌, Bool, cond, ◌||◌, ◌&&◌, ◌==◌, nat_eq, nat_lt, nat_le, count_by}
use Rattle.std.specs.Prelude.{List, [], ◌∷◌, length, Option, None, Some, is_none, is_some, Result, Ok, Err, IsErrOf, ⊤}
use Rattle.std.specs.List.{before_first, position_or_len, list_any, insert}
use Rattle.std.specs.Ordering.{nat_cmp, is_lt}
use Rattle.std.specs.Cmp.Lexicographic.{pointwise, slice_cmp}
use Rattle.emu_names.specs.Count.{Rose}
use Rattle.emu_io.specs.declared.entries.FolderEntry.{FolderEntry}
use Rattle.emu_io.specs.declared.tree.Stored.{Stored}
use Rattle.emu_io.specs.declared.folder.FolderFault.{FolderFault}
use Rattle.emu_io.specs.declared.folder.FolderFault.TheVariants.{Failed, Absent, TooLarge, Memory}
use Rattle.emu_io.specs.declared.limits.TheConstants.{FILE_BYTES, FOLDER_ENTRIES}

-- the bytes of what is stored, where it is a file at that path
abbrev pub file_of : List ℕ → Stored → Option (List ℕ)
file_of path s = cond (pointwise nat_eq s.path path) s.bytes None

-- the first of two, or else the second
abbrev pub or_else : {A : Type 0} → Option A → Option A → Option A
or_else (Some x) later = Some x
or_else None later = later

-- the bytes of the file at a path, where there is one
abbrev pub file_at : List Stored → List ℕ → Option (List ℕ)
file_at [] path = None
file_at (s ∷ rest) path = or_else (file_of path s) (file_at rest path)

-- what is left of a path behind that of a folder and a `/`, where the path leads below the folder
abbrev pub behind : List ℕ → List ℕ → Option (List ℕ)
behind [] [] = None
behind [] (b ∷ path) = cond (b == 47) (Some path) None
behind (x ∷ folder) [] = None
behind (x ∷ folder) (y ∷ path) = cond (x == y) (behind folder path) None

-- whether a byte parts a path
abbrev pub is_slash : ℕ → Bool
is_slash b = b == 47

-- the first part of a path
abbrev pub first_part : List ℕ → List ℕ
first_part path = before_first is_slash path

-- whether a path has more than one part
abbrev pub has_parts : List ℕ → Bool
has_parts path = nat_lt (position_or_len is_slash path) (length path)

-- The entry of a folder that holds what is stored, by its path behind the folder's. It is a folder where the path goes
-- on below it, and where a folder is stored.
abbrev pub entry_behind : Stored → Option (List ℕ) → Option FolderEntry
entry_behind s None = None
entry_behind s (Some rest) = Some (record { name = first_part rest; folder = has_parts rest || is_none s.bytes })

abbrev pub entry_of : List ℕ → Stored → Option FolderEntry
entry_of folder s = entry_behind s (behind folder s.path)

-- whether an entry has a name
abbrev pub is_named : List ℕ → FolderEntry → Bool
is_named name entry = pointwise nat_eq entry.name name

-- whether an entry comes before a name
abbrev pub is_before : List ℕ → FolderEntry → Bool
is_before name entry = is_lt (slice_cmp nat_cmp entry.name name)

-- Entries in order of name with one more, which stands behind those that come before its name. Where its name is there,
-- none is added.
abbrev pub with_entry : FolderEntry → List FolderEntry → List FolderEntry
with_entry e entries =
    cond (list_any (is_named e.name) entries) entries (insert entries (count_by (is_before e.name) entries) e)

abbrev pub with_any : Option FolderEntry → List FolderEntry → List FolderEntry
with_any None entries = entries
with_any (Some e) entries = with_entry e entries

-- the entries directly below a path, in order of name
abbrev pub entries_below : List Stored → List ℕ → List FolderEntry
entries_below [] path = []
entries_below (s ∷ rest) path = with_any (entry_of path s) (entries_below rest path)

-- whether what is stored makes a folder of that path: it is a folder there, or lies below it
abbrev pub makes_folder : List ℕ → Stored → Bool
makes_folder path s = (pointwise nat_eq s.path path && is_none s.bytes) || is_some (behind path s.path)

-- the entries of the folder at a path, where there is one
abbrev pub folder_at : List Stored → List ℕ → Option (List FolderEntry)
folder_at content path = cond (list_any (makes_folder path) content) (Some (entries_below content path)) None

-- a list up to a limit, where there is one
abbrev pub within : {A : Type 0} → ℕ → Option (List A) → Result (List A) FolderFault
within most None = Err Absent
within most (Some xs) = cond (nat_le (length xs) most) (Ok xs) (Err TooLarge)

-- what a listing of a path answers by the content alone
abbrev pub list_answer : List ℕ → List Stored → Result (List FolderEntry) FolderFault
list_answer path content = within FOLDER_ENTRIES (folder_at content path)

-- what a reading of a path answers by the content alone
abbrev pub file_answer : List ℕ → List Stored → Result (List ℕ) FolderFault
file_answer path content = within FILE_BYTES (file_at content path)

-- a call gave the answer that was wanted, unless it failed or memory ran out
abbrev pub Gives : {A : Type 0} → Result A FolderFault → Result A FolderFault → Type 0
Gives wanted (Ok x) = wanted ≡ Ok x
Gives wanted (Err Failed) = ⊤
Gives wanted (Err Absent) = wanted ≡ Err Absent
Gives wanted (Err TooLarge) = wanted ≡ Err TooLarge
Gives wanted (Err Memory) = ⊤

-- where the content is told, a call gave what it says
abbrev pub IsAnswer : {A : Type 0} → Option (List Stored) → (List Stored → Result A FolderFault) → Result A FolderFault
    → Type 0
IsAnswer None wanted result = ⊤
IsAnswer (Some content) wanted result = Gives (wanted content) result

-- The counts never fall. `Failed` comes only where the count of faults rose, `Absent` and `TooLarge` only where the
-- count of misses rose.
pub record HasFolderCause {A : Type 0} (faults faults' misses misses' : ℕ)
    (result : Result A FolderFault) : Type 0 where
  pub later_faults : faults ≤ faults'
  pub later_misses : misses ≤ misses'
  pub failed : IsErrOf result Failed → Rose faults faults'
  pub absent : IsErrOf result Absent → Rose misses misses'
  pub too_large : IsErrOf result TooLarge → Rose misses misses'
