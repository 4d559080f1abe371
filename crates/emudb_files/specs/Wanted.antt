-- What `import` and `load` are asked for, by a folder's content alone.
use Rattle.std.specs.Prelude.{ℕ, List, [], ◌∷◌, ◌++◌, map, codes, Result, Ok, Err, flat_map, if◌then◌else◌}
use Rattle.emu_io.specs.declared.entries.FolderEntry.{FolderEntry}
use Rattle.emu_io.specs.declared.tree.Stored.{Stored}
use Rattle.emu_io.specs.Folders.{list_answer, file_answer}
use Rattle.emu_names.specs.declared.names.BundleKey.{BundleKey}
use Rattle.emu_names.specs.Name.{is_name}
use Rattle.json_view.specs.Steps.{◌>>=◌}
use Rattle.json_view.specs.Seen.{Seen}
use Rattle.level_items.specs.declared.annot.Annot.{Annot}
use Rattle.db_config.specs.declared.parts.ConfigParts.{ConfigParts}
use Rattle.config_json.specs.Read.{config_of}
use Rattle.annot_json.specs.Read.{annot_of}
use Rattle.textgrid.specs.declared.fault.GridFault.{GridFault}
use Rattle.textgrid.specs.Grids.{grid_of}
use Rattle.textgrid.specs.Levels as grids
use Rattle.store_texts.specs.edit_rules.declared.acts.Act.{Act}
use Rattle.store_texts.specs.edit_rules.declared.acts.Act.TheVariants as acts
use Rattle.bundle_edits.specs.declared.edit.Edit.TheVariants as edits
use Rattle.store_texts.specs.declared.faults.FileFault.TheVariants as file_faults
use Rattle.store_texts.specs.declared.faults.Refused.{Refused}
use Rattle.store_texts.specs.declared.faults.Refused.TheVariants as refusals
use Rattle.emudb_files.specs.declared.sessions.Session.{Session}
use Rattle.emudb_files.specs.Names.{path_in, names_with}
use Rattle.emudb_files.specs.Files.{at_path, missed, json_in}

-- ---- one file

-- the bytes of the file at a path, or its refusal
abbrev pub bytes_in : List ℕ → List Stored → Result (List ℕ) Refused
bytes_in path content = at_path path missed (file_answer path content)

-- the JSON value that the file at a path is
abbrev pub value_in : List ℕ → List Stored → Result Seen Refused
value_in path content = bytes_in path content >>= json_in path

-- the entries of the folder at a path, or its refusal
abbrev pub entries_in : List ℕ → List Stored → Result (List FolderEntry) Refused
entries_in path content = at_path path missed (list_answer path content)

-- what the folders below a path with an ending are called before it, in order, or the refusal of the path's folder
abbrev pub names_in : List ℕ → List ℕ → List Stored → Result (List (List ℕ)) Refused
names_in path ending content = entries_in path content >>= λ entries. Ok (names_with ending entries)

-- a name, or another refusal where it is none
abbrev pub named : Refused → List ℕ → Result (List ℕ) Refused
named refused word = if is_name word then Ok word else Err refused

-- the key of two names
abbrev pub key_of : List ℕ → List ℕ → BundleKey
key_of session bundle = record { session = session; bundle = bundle }

-- the annotation of a TextGrid's bytes at a rate, or the TextGrid's first fault
abbrev pub grid_annot : ℕ → List ℕ → Result Annot GridFault
grid_annot rate bytes = grid_of bytes >>= grids.annot_of rate

-- the act that adds a bundle
abbrev pub bundle_added : BundleKey → Annot → Act
bundle_added key annot = acts.Edits (edits.AddBundle key annot ∷ [])

-- ---- `import`

-- the annotation of the TextGrid in the file at a path, or the refusal of the file, or that of what it holds
abbrev pub grid_in : ℕ → List ℕ → List Stored → Result Annot Refused
grid_in rate path content =
    bytes_in path content >>= λ bytes. at_path path file_faults.Grid (grid_annot rate bytes)

-- The edit that adds the TextGrid of a file under two names, or the refusal: first that of the names, then that of the
-- file
abbrev pub import_wanted : List ℕ → List ℕ → ℕ → List ℕ → List Stored → Result Act Refused
import_wanted session bundle rate path content =
    named refusals.BadName session >>= λ s.
    named refusals.BadName bundle >>= λ b.
    grid_in rate path content >>= λ annot.
    Ok (bundle_added (key_of s b) annot)

-- ---- `load`

-- the folder of a database
abbrev pub database_path : List ℕ → List ℕ
database_path name = name ++ codes "_emuDB"

-- the configuration in the file at a path, or the refusal of the file, or that of what it holds
abbrev pub config_in : List ℕ → List Stored → Result ConfigParts Refused
config_in path content = value_in path content >>= λ value. at_path path file_faults.Config (config_of value)

-- the configuration of a database
abbrev pub config_wanted : List ℕ → List Stored → Result ConfigParts Refused
config_wanted name content = config_in (path_in (database_path name) name (codes "_DBconfig.json")) content

-- the annotation in the file at a path, or the refusal of the file, or that of what it holds
abbrev pub annot_in : List ℕ → List Stored → Result Annot Refused
annot_in path content = value_in path content >>= λ value. at_path path file_faults.Shape (annot_of value)

-- the folder of a bundle in that of its session
abbrev pub bundle_path : List ℕ → List ℕ → List ℕ
bundle_path path bundle = path_in path bundle (codes "_bndl")

-- The edit that adds a bundle, or the refusal: first that of its name, with its folder, and then that of its file. The
-- path is that of the session's folder
abbrev pub bundle_wanted : List ℕ → List ℕ → List Stored → List ℕ → Result Act Refused
bundle_wanted path session content bundle =
    named (refusals.File (bundle_path path bundle) file_faults.BadName) bundle >>= λ b.
    annot_in (path_in (bundle_path path bundle) bundle (codes "_annot.json")) content >>= λ annot.
    Ok (bundle_added (key_of session b) annot)

-- what is asked for behind a reading, or its refusal alone
abbrev pub behind : {A : Type 0} → Result A Refused → (A → List (Result Act Refused)) → List (Result Act Refused)
behind (Ok x) wanted = wanted x
behind (Err refused) wanted = Err refused ∷ []

-- the folder of a session in that of its database
abbrev pub session_path : List ℕ → List ℕ → List ℕ
session_path path session = path_in path session (codes "_ses")

-- A session of a database: its folder, its name and the names of its bundles, in order. The refusal is first that of its
-- name, with its folder, and then that of the folder. The path is that of the database's folder
abbrev pub session_in : List ℕ → List ℕ → List Stored → Result Session Refused
session_in path session content =
    named (refusals.File (session_path path session) file_faults.BadName) session >>= λ name.
    names_in (session_path path session) (codes "_bndl") content >>= λ bundles.
    Ok (record { path = session_path path session; name = name; bundles = bundles })

-- what the bundles of a session ask for, in order
abbrev pub bundles_of : List Stored → Session → List (Result Act Refused)
bundles_of content session = map (bundle_wanted session.path session.name content) session.bundles

-- what a session asks for: each of its bundles, or its refusal
abbrev pub session_wanted : List ℕ → List Stored → List ℕ → List (Result Act Refused)
session_wanted path content session = behind (session_in path session content) (bundles_of content)

-- What the folder of a database asks for: the edits that add its bundles, the sessions in the order of their names, and
-- the refusals in the places where they come
abbrev pub database_wanted : List ℕ → List Stored → List (Result Act Refused)
database_wanted path content =
    behind (names_in path (codes "_ses") content) (flat_map (session_wanted path content))

-- what a database asks for behind its configuration
abbrev pub bundles_wanted : List ℕ → List Stored → List (Result Act Refused)
bundles_wanted name content = database_wanted (database_path name) content
