-- The names of a folder's entries, and the paths that are made of them.
use Rattle.std.specs.Prelude.{ℕ, ◌-◌, cond, nat_eq, List, [], ◌∷◌, ◌++◌, length, take, drop, Option, Some, None, codes, filter_map}
use Rattle.std.specs.Cmp.Lexicographic.{pointwise, slice_cmp}
use Rattle.std.specs.Ordering.{nat_cmp, is_lt}
use Rattle.emu_io.specs.declared.entries.FolderEntry.{FolderEntry}

-- the path of an entry of a folder: the folder's path, `/`, a name and an ending
abbrev pub path_in : List ℕ → List ℕ → List ℕ → List ℕ
path_in folder name ending = folder ++ (codes "/" ++ (name ++ ending))

-- what stands before an ending, where a name has it
abbrev pub stem : List ℕ → List ℕ → Option (List ℕ)
stem ending name =
    cond (pointwise nat_eq ending (drop (length name - length ending) name))
    (Some (take (length name - length ending) name)) None

-- the same of an entry that is a folder
abbrev pub folder_stem : List ℕ → FolderEntry → Option (List ℕ)
folder_stem ending entry = cond entry.folder (stem ending entry.name) None

-- a name, behind those of a list that come before it in the order of their bytes
abbrev pub with_name : List ℕ → List (List ℕ) → List (List ℕ)
with_name name [] = name ∷ []
with_name name (first ∷ names) =
    cond (is_lt (slice_cmp nat_cmp first name)) (first ∷ with_name name names) (name ∷ first ∷ names)

-- names in the order of their bytes
abbrev pub in_order : List (List ℕ) → List (List ℕ)
in_order [] = []
in_order (name ∷ names) = with_name name (in_order names)

-- what the folders with an ending are called before it, in the order of the bytes of that
abbrev pub names_with : List ℕ → List FolderEntry → List (List ℕ)
names_with ending entries = in_order (filter_map (folder_stem ending) entries)
