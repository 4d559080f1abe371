-- What a folder lists, and the order in which the folders of a database are gone through, each law said by itself.
use Rattle.std.specs.Prelude.{◌≡◌, ◌↔◌, ℕ, true, false, List, [], ◌∷◌, ◌++◌, map, Contains, Some, ⊤}
use Rattle.std.specs.List.{list_any}
use Rattle.std.specs.List.Sorted.{IsStrictlySortedBy}
use Rattle.std.specs.Cmp.Lexicographic.{slice_cmp}
use Rattle.std.specs.Ordering.{nat_cmp}
use Rattle.emu_io.specs.declared.entries.FolderEntry.{FolderEntry}
use Rattle.emu_io.specs.declared.tree.Stored.{Stored}
use Rattle.emu_io.specs.Folders.{is_slash, entry_of, entries_below}
use Rattle.emudb_files.specs.Names.{names_with}

-- each text comes before those behind it in the order of their bytes, so that none stands twice
abbrev pub Rise : List (List ℕ) → Type 0
Rise texts = IsStrictlySortedBy (slice_cmp nat_cmp) texts

-- the names of entries
abbrev pub names_of : List FolderEntry → List (List ℕ)
names_of entries = map (λ e. e.name) entries

-- ---- what a folder lists

-- a name is one part of a path: no `/`, which is the byte 47, stands in it
abbrev pub IsOnePart : List ℕ → Type 0
IsOnePart name = list_any is_slash name ≡ false

-- what may stand behind a name in a path: nothing, or a `/` and more
abbrev pub IsBehindName : List ℕ → Type 0
IsBehindName [] = ⊤
IsBehindName (b ∷ more) = b ≡ 47

-- a path leads to this name in a folder, or on below it
abbrev pub LeadsTo : List ℕ → List ℕ → List ℕ → Type 0
LeadsTo folder name path = (more : List ℕ) × (path ≡ folder ++ 47 ∷ (name ++ more)) × IsBehindName more

-- something that is stored lies in the folder, under this name or deeper below it
abbrev pub LiesThere : List Stored → List ℕ → List ℕ → Type 0
LiesThere content folder name = (s : Stored) × Contains content s × LeadsTo folder name s.path

-- the names that a folder lists rise
abbrev pub NamesRise : Type 0
NamesRise = (content : List Stored) (folder : List ℕ) → Rise (names_of (entries_below content folder))

-- a folder lists a name exactly where something that is stored lies there
abbrev pub NamesAreOfContent : Type 0
NamesAreOfContent =
    (content : List Stored) (folder name : List ℕ) →
    Contains (names_of (entries_below content folder)) name ↔ (IsOnePart name × LiesThere content folder name)

-- each entry, and whether it is a folder, is what something that is stored makes there
abbrev pub EntriesAreOfContent : Type 0
EntriesAreOfContent =
    (content : List Stored) (folder : List ℕ) (entry : FolderEntry) →
    Contains (entries_below content folder) entry →
    (s : Stored) × Contains content s × (entry_of folder s ≡ Some entry)

-- ---- the order of a load

-- an entry is a folder with this name before the ending
abbrev pub IsFolderOf : List ℕ → List ℕ → FolderEntry → Type 0
IsFolderOf ending name entry = (entry.folder ≡ true) × (entry.name ≡ name ++ ending)

-- where the names of entries rise, what stands before the ending rises too
abbrev pub StemsRise : Type 0
StemsRise =
    (ending : List ℕ) (entries : List FolderEntry) →
    Rise (names_of entries) → Rise (names_with ending entries)

-- a name is gone through exactly where an entry is a folder with it before the ending
abbrev pub StemsAreOfEntries : Type 0
StemsAreOfEntries =
    (ending : List ℕ) (entries : List FolderEntry) (name : List ℕ) →
    Contains (names_with ending entries) name
    ↔ ((entry : FolderEntry) × Contains entries entry × IsFolderOf ending name entry)
